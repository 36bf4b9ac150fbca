-- The blocks of a probe that a line asks for have a node or more.
use Rattle.std.proofs.Common.{ℕ, List, length}
use Rattle.command_text.specs.Command.{command_of}
use Rattle.command_text.proofs.LineLaws.{OfEachKind, line_holds}
use Rattle.pma_engine.specs.Carrying.{IsSound}

each_sound : (f n : ℕ) → OfEachKind f n IsSound
each_sound f n = record {
  nothing = tt;
  puts = λ key value fits long. tt;
  removes = λ key is long. tt;
  batches = λ items some intent fit long. tt;
  gets = λ key is. tt;
  ranges = λ low high limit low_is high_is. tt;
  checks = tt;
  costs = tt;
  opens = λ name low high is low_is high_is. tt;
  nexts = λ name is. tt;
  prevs = λ name is. tt;
  closes = λ name is. tt;
  probes = λ key block is some. some;
  oversized_key = tt;
  oversized_value = tt;
  repeated_key = tt;
  bad_command = tt;
  bad_words = tt;
  bad_number = tt;
}

pub line_sound : (f : ℕ) (line : List ℕ) → IsSound (command_of f line)
line_sound f line = line_holds f IsSound line (each_sound f (length line))

-- No command of words is the refusal of a long line, and each fits the format.
use Rattle.std.proofs.Common.{◌≡◌, ℕ, List, subst, sym, ap, ◌∙◌}
use Rattle.command_text.specs.Command.{IsCommandOf, IsNotLong, FitsFormat, command_of}
use Rattle.command_text.specs.ByName.{command_by_name}
use Rattle.command_text.specs.declared.command.Command.{Command}
use Rattle.command_text.specs.declared.command.Command.TheVariants.{Nothing}
use Rattle.command_text.proofs.ByNameLaws.{by_name}
use Rattle.command_text.proofs.LineLaws.{line_holds}
use Rattle.command_text.proofs.parse.read_line.Goals as goal

line_fits : (f : ℕ) (line : List ℕ) → FitsFormat f (command_of f line)
line_fits f line = line_holds f (FitsFormat f) line (record {
  nothing = tt;
  puts = λ key value is few. is;
  removes = λ key is few. is;
  batches = λ items some intent fit few. (some, intent, fit);
  gets = λ key is. is;
  ranges = λ low high limit low_is high_is. (low_is, high_is);
  checks = tt;
  costs = tt;
  opens = λ name low high is low_is high_is. (is, low_is, high_is);
  nexts = λ name is. is;
  prevs = λ name is. is;
  closes = λ name is. is;
  probes = λ key block is some. is;
  oversized_key = tt;
  oversized_value = tt;
  repeated_key = tt;
  bad_command = tt;
  bad_words = tt;
  bad_number = tt;
})

line_not_long : (f : ℕ) (line : List ℕ) → IsNotLong (command_of f line)
line_not_long f line = line_holds f IsNotLong line (record {
  nothing = tt;
  puts = λ key value is few. tt;
  removes = λ key is few. tt;
  batches = λ items some intent fit few. tt;
  gets = λ key is. tt;
  ranges = λ low high limit low_is high_is. tt;
  checks = tt;
  costs = tt;
  opens = λ name low high is low_is high_is. tt;
  nexts = λ name is. tt;
  prevs = λ name is. tt;
  closes = λ name is. tt;
  probes = λ key block is some. tt;
  oversized_key = tt;
  oversized_value = tt;
  repeated_key = tt;
  bad_command = tt;
  bad_words = tt;
  bad_number = tt;
})

of_line : (f : ℕ) (line : List ℕ) (c : Command) → c ≡ command_of f line → IsCommandOf f line c
of_line f line c is = record { command = is; fits = subst (FitsFormat f) (sym is) (line_fits f line); never_line = subst IsNotLong (sym is) (line_not_long f line) }

pub returns-in-Some : goal.returns-in-Some
returns-in-Some c = of_line c.args.format c.args.line.now c.read_named.new.command (c.read_named.ensures ∙ ap (command_by_name c.args.format) (sym c.in-Some.ensures.0) ∙ by_name c.args.format c.args.line.now)

pub returns-in-None : goal.returns-in-None
returns-in-None c = of_line c.args.format c.args.line.now Nothing (ap (command_by_name c.args.format) (sym c.in-None.ensures) ∙ by_name c.args.format c.args.line.now)

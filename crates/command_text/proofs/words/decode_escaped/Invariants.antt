-- What was decoded and what is still to come are the whole, and behind it nothing was written.
use Rattle.std.proofs.Common.{◌≡◌, ◌≤◌, ◌++◌, take, drop, length}
use Rattle.percent_encoding.specs.Iter.{decoded_bytes}
use Rattle.percent_encoding.specs.Percent.{percent_decode}
use Rattle.command_text.proofs.words.decode_escaped.Given as goal

abbrev pub invariant-loop-byte : goal.invariant-loop-byte
invariant-loop-byte l = record {
  within : l.len ≤ length l.out;
  decoded : take l.len l.out ++ decoded_bytes l.byte-iterator ≡ percent_decode l.fn.word;
  behind : drop l.len l.out ≡ drop l.len l.fn.out;
}

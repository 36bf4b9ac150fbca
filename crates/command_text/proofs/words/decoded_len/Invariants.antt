-- What was counted and what is still to come are the whole.
use Rattle.std.proofs.Common.{◌≡◌, ◌≤◌, ◌+◌, length}
use Rattle.percent_encoding.specs.Iter.{decoded_bytes}
use Rattle.percent_encoding.specs.Percent.{percent_decode}
use Rattle.command_text.proofs.words.decoded_len.Given as goal

abbrev pub invariant-loop-byte : goal.invariant-loop-byte
invariant-loop-byte l = record {
  within : l.len ≤ l.most;
  counted : l.len + length (decoded_bytes l._byte-iterator) ≡ length (percent_decode l.fn.word);
}

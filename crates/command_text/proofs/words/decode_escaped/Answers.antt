-- One byte more is decoded.
use Rattle.std.proofs.Common.{arith}
use Rattle.std.proofs.lemmas.Grind.{common_steps}
use Rattle.command_text.proofs.Fields.{behind_more}
use Rattle.command_text.proofs.words.decode_escaped.Goals as goal

pub loop-byte-preserved : goal.loop-byte-preserved
loop-byte-preserved c = record {
  within = grind (arith, common_steps);
  decoded = grind (arith, common_steps);
  behind = behind_more c.loop-byte.out c.args.out.now c.loop-byte.len c.in-Some.byte c.loop-byte.invariant.behind;
}

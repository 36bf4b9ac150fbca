-- Sixteen items were read, and more words are left.
use Rattle.std.proofs.Common.{sym}
use Rattle.command_text.specs.Words.{words}
use Rattle.command_text.proofs.BatchReading.{too_many}
use Rattle.command_text.proofs.batch.has_form.Goals as goal

pub returns : goal.returns
returns c = sym (too_many (words c.args.rest.now) (words c.loop-i.left.now) c.loop-i._i c.loop-i.size c.loop-i.invariant c.loop-i-test.false)

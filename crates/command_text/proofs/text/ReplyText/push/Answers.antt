-- The text and what was copied behind it.
use Rattle.std.proofs.Common.{◌+◌, ◌-◌, ◌++◌, length, sym, ap, ◌∙◌, arith}
use Rattle.std.proofs.lemmas.List.{length-take-le}
use Rattle.std.proofs.lemmas.Slice.{take-put_mid}
use Rattle.command_text.proofs.text.ReplyText.push.Goals as goal

pub returns : goal.returns
returns c =
    let text = c.self.inside in
    let copied = c.copy_from_slice.ensures.after in
    let size = sym (ap length c.self.view_is) ∙ length-take-le text.len text.bytes (omega arith) in
    take-put_mid text.len (text.len + length c.args.bytes.now - text.len) text.bytes c.copy_from_slice.new.self (text.len + length c.args.bytes.now) (omega (arith, ap length copied)) (omega (arith, c.requires, size, ap length copied))
    ∙ ap (λ l. l ++ c.copy_from_slice.new.self) c.self.view_is
    ∙ ap (λ l. c.args.self.now ++ l) copied

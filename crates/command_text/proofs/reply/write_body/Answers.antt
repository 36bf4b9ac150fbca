-- How many cursors may be open is said as a number is.
use Rattle.std.proofs.Common.{◌≡◌, ◌∙◌, ◌++◌, List, ℕ, refl, sym, ap}
use Rattle.std.specs.Fmt.{digits}
use Rattle.std.specs.Prelude.{codes}
use Rattle.command_text.specs.Reply.{reply_body}
use Rattle.command_text.specs.declared.reply.Reply.TheVariants as reply
use Rattle.command_text.proofs.reply.write_body.Goals as goal

sixteen : codes "no room 16" ≡ reply_body reply.NoRoom
unfolding digits
sixteen = refl

pub returns-in-NoRoom-clause-text : goal.returns-in-NoRoom-clause-text
returns-in-NoRoom-clause-text c = c.push-in-NoRoom.ensures ∙ ap (λ (l : List ℕ). l ++ codes "no room 16") c.requires ∙ sixteen ∙ ap reply_body (sym c.in-NoRoom.is)

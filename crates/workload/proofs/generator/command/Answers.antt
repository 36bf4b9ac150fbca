use Rattle.std.proofs.Common.{◌≡◌, ℕ, ◌/◌, ◌%◌, ◌<◌, Some, None, decimal, refl, sym, ap, ◌∙◌, arith}
use Rattle.std.proofs.lemmas.Bool.{lt-ltb, le-ltb, eq-eqb}
use Rattle.key_slot.specs.Record.{Bytes}
use Rattle.command_text.specs.declared.command.Command.TheVariants.{Put, Remove, Get, Range}
use Rattle.workload.specs.Generator.{key_numbered, command_chosen}
use Rattle.workload.proofs.generator.command.Goals as goal

module _ (r i : ℕ) where
  chosen-put : r % 8 < 5 → command_chosen r i ≡ Put (key_numbered (r / 8 % 100000)) (decimal i)
  unfolding command_chosen
  chosen-put lt = rw (lt-ltb (r % 8) 5 lt) refl

  chosen-remove : r % 8 ≡ 5 → command_chosen r i ≡ Remove (key_numbered (r / 8 % 100000))
  unfolding command_chosen
  chosen-remove is = rw (le-ltb (r % 8) 5 (omega arith), eq-eqb (r % 8) 5 is) refl

  chosen-get : r % 8 ≡ 6 → command_chosen r i ≡ Get (key_numbered (r / 8 % 100000))
  unfolding command_chosen
  chosen-get is = rw is refl

  chosen-range : r % 8 ≡ 7 → command_chosen r i ≡ Range (Some (key_numbered (r / 8 % 100000))) None 10
  unfolding command_chosen
  chosen-range is = rw is refl

pub returns-in-5-clause-command : goal.returns-in-5-clause-command
returns-in-5-clause-command c = ap Remove c.numbered_key-key.ensures ∙ sym (chosen-remove c.args.r c.args.i c.in-5.is)

pub returns-in-6-clause-command : goal.returns-in-6-clause-command
returns-in-6-clause-command c = ap Get c.numbered_key-key.ensures ∙ sym (chosen-get c.args.r c.args.i c.in-6.is)

pub returns-in-0-to-4-clause-command : goal.returns-in-0-to-4-clause-command
returns-in-0-to-4-clause-command c = ap (λ (k : Bytes). Put k c.decimal_value.result) c.numbered_key-key.ensures ∙ ap (Put (key_numbered (c.args.r / 8 % 100000))) c.decimal_value.ensures ∙ sym (chosen-put c.args.r c.args.i (omega arith))

pub returns-in_default-clause-command : goal.returns-in_default-clause-command
returns-in_default-clause-command c = ap (λ (k : Bytes). Range (Some k) None 10) c.numbered_key-key.ensures ∙ sym (chosen-range c.args.r c.args.i (omega arith))

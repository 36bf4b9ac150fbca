use Rattle.std.proofs.Common.{◌≡◌, ℕ, ◌+◌, ◌*◌, ◌/◌, ◌%◌, ◌^◌, sym, ap, subst, ◌∙◌, arith}
use Rattle.std.proofs.Math.Nat.{mod-add-mod}
use Rattle.key_slot.specs.Format.{narrow}
use Rattle.command_text.specs.Command.{FitsFormat}
use Rattle.workload.specs.Generator.{next_draw, command_chosen}
use Rattle.workload.proofs.Narrow.{chosen_fits}
use Rattle.workload.proofs.generator.next_command.Goals as goal

-- the product may wrap before the sum does
stepped : (x : ℕ) → (x * 6364136223846793005 % 2 ^ 64 + 1442695040888963407) % 2 ^ 64 ≡ next_draw x
unfolding next_draw
stepped x = mod-add-mod (x * 6364136223846793005) (2 ^ 64) 1442695040888963407

pub returns-clause-drawn : goal.returns-clause-drawn
returns-clause-drawn c = stepped c.args.x.now

pub returns-clause-command : goal.returns-clause-command
returns-clause-command c = c.command.ensures.command ∙ ap (λ (x : ℕ). command_chosen (x / 2 ^ 33) c.args.i) (stepped c.args.x.now)

pub returns-clause-fits : goal.returns-clause-fits
returns-clause-fits c = subst (FitsFormat narrow) (sym c.command.ensures.command) (chosen_fits _ c.args.i (omega arith))

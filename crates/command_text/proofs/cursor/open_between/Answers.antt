-- The bounds are read in their order.
use Rattle.std.proofs.Common.{ℕ, List, Option, ◌∙◌}
use Rattle.command_text.specs.declared.command.Command.{Command}
use Rattle.command_text.specs.declared.command.Command.TheVariants.{Open}
use Rattle.command_text.specs.Command.{with_bound}
use Rattle.command_text.proofs.cursor.open_between.Goals as goal

-- what follows the lower bound
abbrev behind_low : ℕ → List ℕ → List ℕ → Option (List ℕ) → Command
behind_low f name high l = with_bound f high (λ h. Open name l h)

pub returns-in_default : goal.returns-in_default
returns-in_default c = c.in_default.ensures (behind_low c.args.format c.args.name c.args.high.now)

pub returns-in_default-read_bound : goal.returns-in_default-read_bound
returns-in_default-read_bound c =
    c.in_default-read_bound.ensures (λ h. Open c.args.name c.in-Some.low h) ∙ c.in-Some.ensures (behind_low c.args.format c.args.name c.args.high.now)

pub returns : goal.returns
returns c = c.in-Some-read_bound.ensures (λ h. Open c.args.name c.in-Some.low h) ∙ c.in-Some.ensures (behind_low c.args.format c.args.name c.args.high.now)

use Rattle.std.proofs.Common.{◌≤◌, ◌*◌, ℕ, zero, suc, arith}
use Rattle.header_gate.proofs.Shifts.{shift_size}
use Rattle.header_gate.proofs.layout.Layout.region_at.Goals as goal

-- two regions of n pages each
twice : (n region : ℕ) → region ≤ 2 → 4096 * n * region ≤ 4096 * n * 2
twice n zero few = omega arith
twice n (suc zero) few = omega arith
twice n (suc (suc zero)) few = omega arith
twice n (suc (suc (suc region))) few = absurd (omega (arith, few))

pub overflow_add-result : goal.overflow_add-result
overflow_add-result c = omega (arith, c.image_in.ensures, c.pages.ensures.count, c.pages.ensures.most, c.requires.layout.most, shift_size c.args.self.now 1, twice c.pages.result c.args.region c.requires.region)

pub returns-clause-small : goal.returns-clause-small
returns-clause-small c = omega (arith, c.image_in.ensures, c.pages.ensures.count, c.pages.ensures.most, c.requires.layout.most, shift_size c.args.self.now 1, twice c.pages.result c.args.region c.requires.region)

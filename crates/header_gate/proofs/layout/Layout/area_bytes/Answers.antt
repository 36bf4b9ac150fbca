use Rattle.std.proofs.Common.{◌≡◌, ℕ, ◌+◌, ◌*◌, ◌/◌, ◌^◌, ◌≤◌, ◌<◌, ◌∙◌, ap, sym, arith}
use Rattle.std.proofs.lemmas.Bool.Decides.{nat_tests}
use Rattle.header_gate.specs.Places.{area_size}
use Rattle.header_gate.specs.declared.layout.Layout.{Layout}
use Rattle.header_gate.proofs.layout.Layout.area_bytes.Goals as goal

indexed : (l : Layout) → 3 ≤ l.version → area_size l ≡ (68 * 2 ^ l.hmax + 4095) / 4096 * 4096
unfolding area_size
indexed l is = grind (arith, nat_tests, is)

plain : (l : Layout) → l.version < 3 → area_size l ≡ 0
unfolding area_size
plain l isnt = grind (arith, nat_tests, isnt)

pub returns-then-self-ge-INDEXED-clause-size : goal.returns-then-self-ge-INDEXED-clause-size
returns-then-self-ge-INDEXED-clause-size c = ap (λ (m : ℕ). (68 * m + 4095) / 4096 * 4096) c.pages.ensures.count ∙ sym (indexed c.args.self.now c.if-self-ge-INDEXED.true)

pub returns-else-self-ge-INDEXED-clause-size : goal.returns-else-self-ge-INDEXED-clause-size
returns-else-self-ge-INDEXED-clause-size c = sym (plain c.args.self.now c.if-self-ge-INDEXED.false)

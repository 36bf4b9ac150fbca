use Rattle.std.proofs.Common.{◌≡◌, ◌<◌, Bool, true, false, length, sym, ap, ◌∙◌, refl, arith, ne_eqb}
use Rattle.std.specs.Prelude.{is_some, ◌==◌, ◌&&◌}
use Rattle.density_rule.specs.Windows.{count_in}
use Rattle.range_scan.specs.SweepView.{SweepView}
use Rattle.range_scan.proofs.Owing.{due_first}
use Rattle.range_scan.proofs.sweep.Sweep.due_of_first.Goals as goal
use Rattle.range_scan.proofs.sweep.Sweep.due_of_first.Goals.{else-is_some-via-then-is_some+else-next-self, else-is_some-via-else-is_some}

and_false : (a : Bool) → (a && false) ≡ false
and_false true = refl
and_false false = refl

pub returns-else-is_some : goal.returns-else-is_some
returns-else-is_some c =
    let s = c.args.self.now in
    let next = c.next_number-next.ensures.next ∙ ap (λ (x : SweepView). x.reader.next) c.self.view_is in
    let inside : s.reader.next < length s.tally.counts = omega (arith, c.requires.more, c.kept_count.ensures.tally.size, ap (λ (x : SweepView). length x.tally.counts) c.self.view_is, c.self.invariant.2.within, ap (λ (x : SweepView). x.reader.end) c.self.view_is) in
    let unbounded : ((is_some s.low) && (s.reader.next == s.first)) ≡ false = elim c.else-is_some.branch [
      | else-is_some-via-then-is_some+else-next-self w ↦ ap (λ (b : Bool). (is_some s.low) && b) (ne_eqb s.reader.next s.first (λ same. w.if-next-self.false (next ∙ same ∙ sym (ap (λ (x : SweepView). x.first) c.self.view_is)))) ∙ and_false (is_some s.low)
      | else-is_some-via-else-is_some w ↦ ap (λ (b : Bool). b && (s.reader.next == s.first)) (ap (λ (x : SweepView). is_some x.low) (sym c.self.view_is) ∙ sym c.is_some.ensures ∙ w.if-is_some.false)
    ] in
    c.kept_count.ensures.count ∙ (λ i. count_in (c.self.view_is i).tally.counts 0 (next i)) ∙ sym (due_first s s.reader.next unbounded inside)

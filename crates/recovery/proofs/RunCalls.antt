-- The calls that read a region in runs.
use Rattle.std.proofs.Common.{◌≡◌, ⊎_elim, ℕ, ◌+◌, ◌-◌, ◌*◌, ◌/◌, ◌<◌, ◌≤◌, min, List, [], ◌∷◌, refl, subst, arith}
use Rattle.std.proofs.Math.Nat.{le-div_iff_mul-le}
use Rattle.std.proofs.lemmas.Bool.{cases_lt}
use Rattle.header_gate.specs.declared.layout.Layout.{Layout}
use Rattle.header_gate.specs.Places.{IsFormat, page_size, segment_size}
use Rattle.header_gate.proofs.PagedSegments.{each_format}
use Rattle.key_slot.specs.Record.{Bytes}
use Rattle.range_scan.specs.declared.segment_buffer.TheConstants.{RUN_SIZE}
use Rattle.range_scan.specs.RegionReaderView.{ReaderView}
use Rattle.range_scan.specs.Running.{IsRun, read_for}
use Rattle.segment_frames.specs.SegmentParts.{InParts}
use Rattle.segment_frames.proofs.PartLaws.{parts_more}

-- a run has room for a segment
pub run_some : (l : Layout) → IsFormat l.hmax l.format → 1 ≤ RUN_SIZE / segment_size l
run_some l is = each_format (λ f. 1 ≤ RUN_SIZE / (page_size * f)) l.hmax l.format is (omega arith) (λ some. omega arith)

-- a run that can't be longer, where more segments are left, has as many as there is room for
run_whole : (l : Layout) (from to count : ℕ) → IsFormat l.hmax l.format → (IsRun l from to (count + 1) → ⊥) → from + count < to → RUN_SIZE / segment_size l ≤ count
run_whole l from to count is most more =
    ⊎_elim
    (λ lt. absurd (most (record {
      some = omega arith;
      within = omega (arith, more);
      room = omega (arith, (le-div_iff_mul-le {k = segment_size l} {x = count + 1} {y = RUN_SIZE} (omega (arith, is.least))).0 (omega (arith, lt)));
    })))
    (λ le. le)
    (cases_lt count (RUN_SIZE / segment_size l))

-- A segment more was met: where none was read along before, by one call more, and else by none.
pub run_called : (l : Layout) (to count made before mid now after : ℕ) (r : ReaderView) (along : List Bytes) → IsFormat l.hmax l.format → r.layout ≡ l → r.end ≡ to → InParts (RUN_SIZE / segment_size l) to r.next made
    → mid ≤ before + made → now ≤ mid + min 1 (after - r.next) → after ≡ r.next + read_for along count → (along ≡ [] → r.next < to) → (IsRun r.layout r.next r.end (count + 1) → ⊥)
    → (m : ℕ) × InParts (RUN_SIZE / segment_size l) to after m × (now ≤ before + m)
run_called l to count made before mid now after r [] is same end done sum calls next left most =
    let none = subst (λ (n : ℕ). IsRun l r.next n (count + 1) → ⊥) end (subst (λ (x : Layout). IsRun x r.next r.end (count + 1) → ⊥) same most) in
    (made + 1, parts_more (RUN_SIZE / segment_size l) to r.next after made (run_some l is) done (left refl) (λ more. omega (arith, next, run_whole l r.next to count is none (omega (arith, next, more)))), omega (arith, sum, calls))
run_called l to count made before mid now after r (p ∷ along) is same end done sum calls next left most =
    let stays : r.next ≡ after = omega (arith, next) in
    (made, subst (λ (n : ℕ). InParts (RUN_SIZE / segment_size l) to n made) stays done, omega (arith, sum, calls, stays))

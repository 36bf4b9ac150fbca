-- What was read along is validated as what is read.
use Rattle.std.proofs.Common.{◌≡◌, ◌+◌, ◌-◌, ◌<◌, ℕ, true, List, [], ◌∷◌, None, T, length, drop, take, refl, sym, ap, subst, ◌∙◌, arith}
use Rattle.std.specs.List.{list_all}
use Rattle.key_slot.specs.Record.{Bytes, Record, is_record}
use Rattle.density_rule.specs.Windows.{count_in}
use Rattle.key_slot.specs.Segment.{IsSegment, segment_of}
use Rattle.range_scan.specs.ScanBounds.{are_before, are_from}
use Rattle.range_scan.specs.RegionReaderView.{ReaderView, IsReader}
use Rattle.range_scan.specs.RegionReading.{last_behind, page_fault, page_in}
use Rattle.range_scan.specs.Running.{StepsBy, first_of, pages_in, read_for}
use Rattle.range_scan.specs.SweepView.{SweepView, IsSweep, validated}
use Rattle.range_scan.specs.Sweeping.{IsSweeping}
use Rattle.range_scan.specs.Taking.{Advances}
use Rattle.range_scan.proofs.Going.{sweep_over}
use Rattle.range_scan.proofs.Onward.{next_count, next_fine, sweeping_read}
use Rattle.range_scan.proofs.Runs.{first_any, read_none, rest_any}
use Rattle.range_scan.proofs.Sweeps.{all_dropped}
use Rattle.range_scan.proofs.sweep.Sweep.advance.Goals as goal
use Rattle.range_scan.proofs.sweep.Sweep.advance.Goals.{After-start_in-self-inside}

-- A sweep that keeps no record, and goes on to the first of the segments that it read along.
module _ (s : SweepView) (is : IsSweep s) (none : s.kept ≡ []) (some : 0 < length s.along) (rows : List Record) (index : ℕ) (along : List Bytes) (reader : ReaderView) (after : reader ≡ record s.reader { last = last_behind s.reader.last rows })
    (here : IsSegment s.reader.layout.format rows (first_of s.along [])) (rest : along ≡ drop 1 s.along) (from : T (are_from s.low (drop index rows))) (before : T (are_before s.low (take index rows))) where
  fewer : length along + 1 ≡ length s.along
  fewer = ap (λ (a : List Bytes). length a + 1) rest ∙ one_less s.along some
    where
      one_less : (a : List Bytes) → 0 < length a → length (drop 1 a) + 1 ≡ length a
      one_less [] lt = absurd (omega (arith, lt))
      one_less (p ∷ a) lt = omega arith

  step : StepsBy (read_for s.along 0) s.reader reader
  step = record {
    layout_is = ap (λ (r : ReaderView). r.layout) after;
    region_is = ap (λ (r : ReaderView). r.region) after;
    end_is = ap (λ (r : ReaderView). r.end) after;
    next_is = omega (arith, ap (λ (r : ReaderView). r.next) after, read_none s.along 0 some);
  }

  reads : IsReader reader
  reads = subst IsReader (sym after) (record { layout = is.reader.layout; region = is.reader.region; within = is.reader.within; end_is = is.reader.end_is })

  fit : T (list_all (is_record s.reader.layout.format) (drop index rows))
  fit = all_dropped (is_record s.reader.layout.format) rows index here.fits.records

  advanced_is : IsSweep (record s { reader = reader; kept = drop index rows; along = along; faulted = s.faulted })
  advanced_is = sweep_over s reader (drop index rows) along s.faulted is reads step.layout_is step.end_is (omega (arith, is.first_is, fewer, ap (λ (r : ReaderView). r.next) after)) from fit (λ sound. ap (λ (r : ReaderView). r.faulted) after ∙ is.unfaulted sound)

  advanced : Advances s (record s { reader = reader; kept = drop index rows; along = along })
  advanced = record {
    same = record { layout_is = step.layout_is; region_is = step.region_is; end_is = step.end_is; tally_is = refl; first_is = refl; low_is = refl; high_is = refl; limit_is = refl; onward = omega (arith, ap (λ (r : ReaderView). r.next) after); met = omega (arith, ap (λ (r : ReaderView). r.next) after, fewer) };
    given = refl;
    read = ap (λ (r : ReaderView). r.next) after;
    faulted = refl;
    sweeping = λ image sweeping.
        sweeping_read s image is sweeping 0 reader along (λ empty. absurd (omega (arith, some, ap length empty))) (omega (arith, some, is.first_is, is.reader.within)) step (omega (arith, fewer, read_none s.along 0 some)) (λ empty. absurd (omega (arith, some, ap length empty))) rows index none
        (ap (λ (r : ReaderView). r.last) after)
        (subst (IsSegment s.reader.layout.format rows) (first_any s.along [] (page_in s.reader.layout s.reader.region image s.reader.next) some) here)
        (rest ∙ rest_any s.along (pages_in s.reader.layout s.reader.region image (s.reader.next + 1) (0 - 1)) some) before;
  }

-- the sweep before it, by its fields
abbrev before : After-start_in-self-inside → SweepView
before c = record { reader = c.self.inside.reader; tally = c.self.inside.tally.now; first = c.self.inside.first; low = c.self.inside.low; high = c.self.inside.high; limit = c.self.inside.limit; given = c.self.inside.given; kept = drop c.self.inside.index c.self.inside.page.now.rows; along = c.self.inside.page.now.along; faulted = c.self.inside.faulted }

none : (c : After-start_in-self-inside) → (before c).kept ≡ []
none c = ap (λ (s : SweepView). s.kept) c.self.view_is ∙ c.keeps_one.ensures.none c.if-keeps_one.false

some : (c : After-start_in-self-inside) → 0 < length (before c).along
some c = omega (arith, c.if-along-eq0.false, c.along.ensures)

yes : (c : After-start_in-self-inside) → c.advance.result ≡ true
yes c = c.if-not-advance.false

here : (c : After-start_in-self-inside) → IsSegment c.self.inside.reader.layout.format c.advance.new.page.rows (first_of c.self.inside.page.now.along [])
here c = subst (λ (f : ℕ). IsSegment f c.advance.new.page.rows (first_of c.self.inside.page.now.along [])) (c.self.invariant.3 (some c)) (c.advance.ensures.advanced (yes c))

from : (c : After-start_in-self-inside) → T (are_from c.self.inside.low (drop c.start_in-self-inside.result c.advance.new.page.rows))
from c = subst (λ (rows : List Record). T (are_from c.self.inside.low (drop c.start_in-self-inside.result rows))) c.rows.ensures c.start_in-self-inside.ensures.from

below : (c : After-start_in-self-inside) → T (are_before c.self.inside.low (take c.start_in-self-inside.result c.advance.new.page.rows))
below c = subst (λ (rows : List Record). T (are_before c.self.inside.low (take c.start_in-self-inside.result rows))) c.rows.ensures c.start_in-self-inside.ensures.below

is_sweep : (c : After-start_in-self-inside) → IsSweep (record (before c) { reader = c.advance.new.self; kept = drop c.start_in-self-inside.result c.advance.new.page.rows; along = c.advance.new.page.along; faulted = c.self.inside.faulted })
is_sweep c = advanced_is (before c) c.self.invariant.2 (none c) (some c) c.advance.new.page.rows c.start_in-self-inside.result c.advance.new.page.along c.advance.new.self (c.advance.ensures.after (yes c)) (here c) (c.advance.ensures.along (yes c)) (from c) (below c)

pub invariant_of-self-2 : goal.invariant_of-self-2
invariant_of-self-2 c =
    let at = (goal.at.invariant_of-self-2 c).After-start_in-self-inside in (
      omega (arith, c.start_in-self-inside.ensures.within, ap length c.rows.ensures),
      (here at).fits.most,
      is_sweep at,
      λ some. c.advance.ensures.format ∙ c.self.invariant.3 (omega (arith, c.if-along-eq0.false, c.along.ensures)) ∙ ap (λ (r : ReaderView). r.layout.format) (sym (c.advance.ensures.after (yes at))),
    )

pub returns-clause-advanced : goal.returns-clause-advanced
returns-clause-advanced c =
    let at = (goal.at.returns-clause-advanced c).After-start_in-self-inside in
    subst (λ (s : SweepView). Advances s (record (before at) { reader = c.advance.new.self; kept = drop c.start_in-self-inside.result c.advance.new.page.rows; along = c.advance.new.page.along })) c.self.view_is
    (advanced (before at) c.self.invariant.2 (none at) (some at) c.advance.new.page.rows c.start_in-self-inside.result c.advance.new.page.along c.advance.new.self (c.advance.ensures.after (yes at)) (here at) (c.advance.ensures.along (yes at)) (from at) (below at))

pub returns-clause-is_sweep : goal.returns-clause-is_sweep
returns-clause-is_sweep c = is_sweep (goal.at.returns-clause-is_sweep c).After-start_in-self-inside

-- Where it stays amid the scan of an image, it asks for no record, or has none that was read along.
pub returns-then-not-advance-clause-goes : goal.returns-then-not-advance-clause-goes
returns-then-not-advance-clause-goes c image sweeping wanting nothing some =
    let i = c.self.inside in
    let s : SweepView = record { reader = i.reader; tally = i.tally.now; first = i.first; low = i.low; high = i.high; limit = i.limit; given = i.given; kept = drop i.index i.page.now.rows; along = i.page.now.along; faulted = i.faulted } in
    let is = c.self.invariant.2 in
    let amid : IsSweeping s image = subst (λ (t : SweepView). IsSweeping t image) (sym c.self.view_is) sweeping in
    let more : 0 < length s.along = omega (arith, c.if-along-eq0.false, c.along.ensures) in
    let lt : validated s < s.reader.end = omega (arith, more, is.reader.within, is.first_is) in
    let page = page_in s.reader.layout s.reader.region image s.reader.next in
    let first : first_of s.along [] ≡ first_of s.along page = first_any s.along [] page more in
    let format : i.page.now.format ≡ s.reader.layout.format = c.self.invariant.3 more in
    let segment : c.next_number.result - c.along-2.result ≡ validated s = omega (arith, c.next_number.ensures.next, c.along-2.ensures) in
    let fine : page_fault i.page.now.format (validated s) s.reader.last (first_of s.along []) ≡ None = (λ t. page_fault (format t) (validated s) s.reader.last (first t)) ∙ next_fine s image is amid (λ empty. absurd (omega (arith, more, ap length empty))) lt in
    let count : length (segment_of i.page.now.format (first_of s.along [])) ≡ c.kept_count-kept.result =
    (λ t. length (segment_of (format t) (first t)))
    ∙ next_count s image is amid (λ empty. absurd (omega (arith, more, ap length empty))) lt
    ∙ ap (count_in s.tally.counts 0) (sym segment)
    ∙ sym c.kept_count-kept.ensures.count in
    sym c.if-not-advance.true ∙ c.advance.ensures.sound (validated s) fine count

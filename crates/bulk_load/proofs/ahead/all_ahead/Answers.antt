use Rattle.std.proofs.Common.{ℕ, ◌^◌, ◌++◌, List, drop, ap, ◌∙◌, sym, subst, arith}
use Rattle.std.proofs.Math.Nat.{pow-le-pow_right}
use Rattle.header_gate.specs.Places.{height_limit}
use Rattle.key_slot.specs.Record.{Record}
use Rattle.key_slot.specs.Segment.{FitsSegment}
use Rattle.map_model.specs.Array.{rows}
use Rattle.range_scan.specs.PageView.{PageView}
use Rattle.range_scan.specs.RegionReaderView.{ReaderView}
use Rattle.range_scan.specs.RegionReading.{last_behind}
use Rattle.resize_region.proofs.OldRowLaws.{own_start}
use Rattle.bulk_load.proofs.AheadLaws.{no_rows_fit}
use Rattle.bulk_load.proofs.ahead.all_ahead.Goals as goal

pub new-requires-clause-end : goal.new-requires-clause-end
new-requires-clause-end c = omega (arith, c.segments_at.ensures, pow-le-pow_right {n = 2} (omega arith) {i = c.height.result} {j = height_limit c.args.place.now.layout} (omega (arith, c.height.ensures.height, c.height.ensures.tally.height_is, c.requires.hmax)))

pub returns-clause-order : goal.returns-clause-order
returns-clause-order c image stands = own_start c.args.place.now c.args.tally.now image stands c.new.result (ap (λ (r : ReaderView). r.next) c.new.ensures.reader) (ap (λ (r : ReaderView). r.last) c.new.ensures.reader)

pub returns-clause-ahead : goal.returns-clause-ahead
returns-clause-ahead c =
    let r = c.new.ensures.reader in
    let none = ap (λ (p : PageView). p.rows) c.new-2.ensures in
    record {
      counts = c.height.ensures.tally.size;
      layout_is = ap (λ (x : ReaderView). x.layout) r;
      region_is = ap (λ (x : ReaderView). x.region) r;
      end_is = ap (λ (x : ReaderView). x.end) r ∙ c.segments_at.ensures ∙ ap (λ (h : ℕ). 2 ^ h) c.height.ensures.height;
      within = omega (arith, ap (λ (x : ReaderView). x.next) r);
      unfaulted = ap (λ (x : ReaderView). x.faulted) r;
      taken = omega arith;
      fits = subst (λ (l : List Record). FitsSegment c.args.place.now.layout.format l) (sym none) (no_rows_fit c.args.place.now.layout.format);
      height = omega (arith, c.height.ensures.tally.height_is, c.requires.hmax);
      number = sym (ap (λ (x : ReaderView). x.next) r);
      last_is = ap (λ (l : List Record). last_behind c.new.result.last l) (sym none);
    }

pub returns-clause-all : goal.returns-clause-all
returns-clause-all c segments =
    ap (λ (l : List Record). drop 0 l ++ rows (drop c.new.result.next segments)) (ap (λ (p : PageView). p.rows) c.new-2.ensures) ∙ ap (λ (n : ℕ). rows (drop n segments)) (ap (λ (x : ReaderView). x.next) c.new.ensures.reader)

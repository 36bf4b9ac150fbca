use Rattle.std.proofs.Common.{◌≡◌, ◌+◌, ◌-◌, ◌<◌, ℕ, List, [], ◌∷◌, length, Option, Some, sym, ap, subst, ◌∙◌, arith}
use mathlib.Core.Bool.{true≢false}
use Rattle.key_slot.specs.Record.{Bytes, Record}
use Rattle.key_slot.specs.Segment.{FitsSegment}
use Rattle.segment.specs.Rows.{key_at}
use Rattle.range_scan.specs.RegionReaderView.{ReaderView}
use Rattle.range_scan.specs.Running.{read_for}
use Rattle.range_scan.proofs.Pages.{last_some}
use Rattle.range_scan.proofs.reader.RegionReader.next_of_run.Goals as goal
use Rattle.range_scan.proofs.reader.RegionReader.next_of_run.Goals.{else-along-eq0-via-then-along-eq0+else-self, else-along-eq0-via-else-along-eq0}

-- how many segments are read
read_is : (along : List Bytes) (count r n : ℕ) → n ≡ length along → (n ≡ 0 → r ≡ count) → (0 < n → r ≡ 0) → r ≡ read_for along count
read_is [] count r n size none some = none size
read_is (p ∷ along) count r n size none some = some (omega (arith, size))

-- the reader so much further, with this last key
abbrev stepped : ReaderView → ℕ → Option Bytes → ReaderView
stepped r n last = record r { next = r.next + n; last = last }

pub returns-in-Some-clause-taking_next : goal.returns-in-Some-clause-taking_next
returns-in-Some-clause-taking_next g c =
    let along = c.args.page.now.along in
    let read = read_is along c.args.count c.count_for.result c.along-along.result c.along-along.ensures c.count_for.ensures.none c.count_for.ensures.some in
    let taking_next = c.take_above.ensures.taking_next in
    let layout = ap (λ (r : ReaderView). r.layout) c.self.view_is in
    record {
      none = (
        λ no. absurd (true≢false no),
        λ both. absurd (elim c.else-along-eq0.branch [
          | else-along-eq0-via-then-along-eq0+else-self w ↦ w.if-self.false (ap (λ (r : ReaderView). r.next) c.self.view_is ∙ both.1 ∙ sym (ap (λ (r : ReaderView). r.end) c.self.view_is))
          | else-along-eq0-via-else-along-eq0 w ↦ w.if-along-eq0.false (c.along-along.ensures ∙ ap length both.0)
        ]),
      );
      ended = λ no. absurd (true≢false no);
      kept = λ no. absurd (true≢false no);
      met = λ yes. record {
        fits = subst (λ l. FitsSegment l.format c.take_above.new.self.rows) layout taking_next.fits;
        format_is = taking_next.format_is ∙ ap (λ l. l.format) layout;
        others = taking_next.others;
      };
      reader = λ yes.
          ap (λ (r : ReaderView). stepped r c.count_for.result (Some c.in-Some.last)) c.self.view_is
          ∙ ap (λ (n : ℕ). stepped c.args.self.now n (Some c.in-Some.last)) read
          ∙ ap (stepped c.args.self.now (read_for along c.args.count)) (sym (last_some c.args.self.now.last c.take_above.new.self.rows c.in-Some.last (ap (λ (rows : List Record). key_at rows (length rows - 1)) (sym c.rows.ensures) ∙ sym c.in-Some.ensures.key)));
      cleared = tt;
      left = tt;
      stopped = tt;
    }

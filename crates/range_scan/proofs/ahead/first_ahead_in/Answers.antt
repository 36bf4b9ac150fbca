use Rattle.std.proofs.Common.{◌≡◌, ◌<◌, ◌+◌, ◌-◌, ◌^◌, ℕ, List, [], length, get_or, take, sym, ap, subst, inl, inr, ◌∙◌, arith}
use Rattle.std.specs.FinMap.{entries}
use Rattle.std.proofs.lemmas.Result.{err_from_is_err_and}
use Rattle.std.proofs.Math.Pow.{pow_mono}
use Rattle.station.specs.View.{Told}
use Rattle.station.proofs.Composition.{no_steps, same_on, told_on}
use Rattle.key_slot.specs.Segment.{IsSegment, segment_of}
use Rattle.map_model.specs.Image.{map_of}
use Rattle.map_model.specs.Array.{cut, rows}
use Rattle.header_gate.specs.Places.{height_limit}
use Rattle.header_gate.specs.declared.layout.Layout.{Layout}
use Rattle.range_scan.specs.RegionReaderView.{ReaderView}
use Rattle.range_scan.specs.RegionReading.{page_in, page_fault, next_page, behind}
use Rattle.range_scan.specs.Checking.{LieAbove}
use Rattle.range_scan.specs.Walk.{after_walk}
use Rattle.range_scan.proofs.Walks.{walk_none}
use Rattle.range_scan.proofs.Standing.{cut_size, read_is, page_fine, count_kept}
use Rattle.range_scan.proofs.Checks.{above_next, above_more, walk_from}
use Rattle.range_scan.proofs.Lookings.{lies_from, none_before, none_more, none_in_all, all, ahead_of, second_found, second_from, second_four, found_in}
use Rattle.range_scan.specs.SeekReads.{IsIndexPast, NoneAhead}
use Rattle.key_slot.specs.Record.{Bytes, Record}
use Rattle.std.specs.Prelude.{slice_get, Option}
use Rattle.std.proofs.lemmas.Bool.{cases_lt}
use Rattle.range_scan.proofs.ahead.first_ahead_in.Goals as goal
use Rattle.range_scan.proofs.ahead.first_ahead_in.Goals.{After-next_counted, Then-branch}

pub new-reader-requires-clause-end : goal.new-reader-requires-clause-end
new-reader-requires-clause-end g c = omega (arith, pow_mono {i = c.args.region.now.tally.now.height} {j = height_limit c.args.region.now.layout.now} c.requires.height, c.segment_count.ensures.count, c.end_near-end.ensures.within)

pub loop-page-init : goal.loop-page-init
loop-page-init g c =
    let a = c.args in
    let is = c.new-reader.ensures.reader in
    let next = ap (λ (r : ReaderView). r.next) is in
    let end = ap (λ (r : ReaderView). r.end) is in
    let held = (g.S.Station.view a.station.now).held in
    record {
      near = record {
        layout_is = ap (λ (r : ReaderView). r.layout) is;
        region_is = ap (λ (r : ReaderView). r.region) is;
        onward = omega (arith, next);
        upto = c.new-reader.ensures.is_reader.within;
        some = omega (arith, end, c.end_near-end.ensures.some);
        two = omega (arith, end, c.end_near-end.ensures.two);
        within = omega (arith, end, c.end_near-end.ensures.within, c.segment_count.ensures.count);
        reached = λ lt. omega (arith, end, c.end_near-end.ensures.reached (omega (arith, lt, end)), c.segment_count.ensures.count);
        unfaulted = ap (λ (r : ReaderView). r.faulted) is;
      };
      above = λ told. lies_from a.region.now.layout.now a.region.now.number a.region.now.tally.now.height a.region.now.tally.now.counts held (c.requires.stands told).stands c.new-reader.result (ap (λ (r : ReaderView). r.last) is);
      none = λ told. none_before a.region.now.layout.now a.region.now.number a.region.now.tally.now.height a.region.now.tally.now.counts held (c.requires.stands told).stands a.look.now.start.now a.look.now.past.now a.look.now.high.now a.first c.new-reader.result.next next (c.requires.begins told);
      early = λ told. omega (arith, next);
      steps = no_steps (g.S.Station.view a.station.now);
      reads = sym (walk_none a.region.now.layout.now a.region.now.number a.first c.new-reader.result.next (g.S.Station.view a.station.now).travel (sym next));
      calls = omega arith;
    }

-- the bytes that are read next are those of the file at entry
page_held : (g : _) (c : After-next_counted g) → Told (g.S.Station.view c.args.station.now)
    → next_page c.loop-page.reader (g.S.Station.view c.loop-page.station).held ≡ page_in c.args.region.now.layout.now c.args.region.now.number (g.S.Station.view c.args.station.now).held c.loop-page.reader.next
page_held g c told =
    let inv = c.loop-page.invariant in
    λ i. page_in (inv.near.layout_is i) (inv.near.region_is i) (inv.steps.held told i) c.loop-page.reader.next

pub returns-in_err-next_counted-clause-damaged : goal.returns-in_err-next_counted-clause-damaged
returns-in_err-next_counted-clause-damaged g c =
    let p = err_from_is_err_and c.from_residual.result c.from_residual.ensures.1 in
    rw (p.1, p.2) (λ told.
    let here = (goal.at.returns-in_err-next_counted-clause-damaged g c).After-next_counted in
    let a = c.args in
    let inv = c.loop-page.invariant in
    let over = c.in_err-next_counted.ensures.after_fault in
    let held = (g.S.Station.view a.station.now).held in
    let stands = (c.requires.stands told).stands in
    let segments = cut a.region.now.tally.now.counts (entries (map_of held)) in
    let small : c.loop-page.reader.next < 2 ^ a.region.now.tally.now.height = omega (arith, c.next_counted.ensures.is_reader.within, over.next_is, over.end_is, inv.near.within) in
    let inside : c.loop-page.reader.next < length segments = omega (arith, small, cut_size a.region.now.layout.now a.region.now.number a.region.now.tally.now.height a.region.now.tally.now.counts held stands) in
    let page = sym (page_held g here told) in
    let fine = page_fine a.region.now.layout.now a.region.now.number a.region.now.tally.now.height a.region.now.tally.now.counts held stands (c.requires.readable told) c.loop-page.reader.next c.loop-page.reader.last small (above_next c.loop-page.reader segments (inv.above told) inside) in
    let count = count_kept a.region.now.layout.now a.region.now.number a.region.now.tally.now.height a.region.now.tally.now.counts held stands (c.requires.readable told) c.loop-page.reader.next small in
    c.in_err-next_counted.ensures.damaged (told_on inv.steps.frame told)
    ((λ t. page_fault (inv.near.layout_is t).format c.loop-page.reader.next c.loop-page.reader.last (sym page t)) ∙ fine)
    ((λ t. length (segment_of (inv.near.layout_is t).format (sym page t))) ∙ count))

pub returns-in_err-next_counted-clause-steps : goal.returns-in_err-next_counted-clause-steps
returns-in_err-next_counted-clause-steps g c = same_on c.loop-page.invariant.steps c.next_counted.ensures.steps

pub returns-then-index-len-clause-steps : goal.returns-then-index-len-clause-steps
returns-then-index-len-clause-steps g c = same_on c.loop-page.invariant.steps c.next_counted.ensures.steps

pub returns-clause-steps : goal.returns-clause-steps
returns-clause-steps g c = same_on c.loop-page.invariant.steps c.next_counted.ensures.steps

pub returns-in_err-next_counted-clause-reads : goal.returns-in_err-next_counted-clause-reads
returns-in_err-next_counted-clause-reads g c =
    let p = err_from_is_err_and c.from_residual.result c.from_residual.ensures.1 in
    let a = c.args in
    let inv = c.loop-page.invariant in
    let over = c.in_err-next_counted.ensures.after_fault in
    record {
      from = a.first;
      to = c.loop-page.reader.next + 1;
      travel = walk_from a.region.now.layout.now c.loop-page.reader.layout a.region.now.number c.loop-page.reader.region a.first c.loop-page.reader.next c.next_counted.new.reader.next _ _ _ inv.near.layout_is inv.near.region_is inv.reads c.next_counted.ensures.reads inv.near.onward (omega (arith, over.next_is))
          ∙ ap (λ (n : ℕ). after_walk a.region.now.layout.now a.region.now.number a.first n (g.S.Station.view a.station.now).travel) over.next_is;
      calls = omega (arith, inv.calls, c.next_counted.ensures.calls, inv.near.onward, over.next_is);
      some = omega (arith, inv.near.onward);
      two = omega (arith, c.next_counted.ensures.is_reader.within, over.next_is, over.end_is, inv.near.two);
      within = omega (arith, c.next_counted.ensures.is_reader.within, over.next_is, over.end_is, inv.near.within);
      own = c.requires.begins;
      causes = let same : c.loop-page.reader.next + 1 - 1 ≡ c.loop-page.reader.next = omega arith in rw (p.1, p.2, same) c.in_err-next_counted.ensures.causes;
    }

-- there was a segment more
lt : (g : _) (c : After-next_counted g) → c.next_counted.new.reader ≡ behind c.next_counted.new.page.rows c.loop-page.reader → c.loop-page.reader.next < c.loop-page.reader.end
lt g c after = omega (arith, c.next_counted.ensures.is_reader.within, ap (λ (r : ReaderView). r.next) after, ap (λ (r : ReaderView). r.end) after)

pub returns-then-index-len-clause-reads : goal.returns-then-index-len-clause-reads
returns-then-index-len-clause-reads g c =
    let a = c.args in
    let inv = c.loop-page.invariant in
    let after = rw c.if-branch.true at c.in_ok-next_counted.ensures.after in
    let next = ap (λ (r : ReaderView). r.next) after in
    let end = ap (λ (r : ReaderView). r.end) after in
    record {
      from = a.first;
      to = c.next_counted.new.reader.next;
      travel = walk_from a.region.now.layout.now c.loop-page.reader.layout a.region.now.number c.loop-page.reader.region a.first c.loop-page.reader.next c.next_counted.new.reader.next _ _ _ inv.near.layout_is inv.near.region_is inv.reads c.next_counted.ensures.reads inv.near.onward (omega (arith, next));
      calls = omega (arith, inv.calls, c.next_counted.ensures.calls, inv.near.onward, next);
      some = omega (arith, inv.near.onward, next);
      two = omega (arith, c.next_counted.ensures.is_reader.within, end, inv.near.two);
      within = omega (arith, c.next_counted.ensures.is_reader.within, end, inv.near.within);
      own = c.requires.begins;
      causes = tt;
    }

inside : (g : _) (c : After-next_counted g) → c.loop-page.reader.next < c.loop-page.reader.end → Told (g.S.Station.view c.args.station.now)
    → c.loop-page.reader.next < length (cut c.args.region.now.tally.now.counts (entries (map_of (g.S.Station.view c.args.station.now).held)))
inside g c below told =
    let a = c.args in
    omega (arith, below, c.loop-page.invariant.near.within, cut_size a.region.now.layout.now a.region.now.number a.region.now.tally.now.height a.region.now.tally.now.counts (g.S.Station.view a.station.now).held (c.requires.stands told).stands)

-- what was read is the segment
own_rows : (g : _) (c : After-next_counted g) → c.loop-page.reader.next < c.loop-page.reader.end → Told (g.S.Station.view c.args.station.now)
    → (Told (g.S.Station.view c.loop-page.station) → IsSegment c.loop-page.reader.layout.format c.next_counted.new.page.rows (next_page c.loop-page.reader (g.S.Station.view c.loop-page.station).held))
    → c.next_counted.new.page.rows ≡ get_or (cut c.args.region.now.tally.now.counts (entries (map_of (g.S.Station.view c.args.station.now).held))) c.loop-page.reader.next []
own_rows g c below told read =
    let a = c.args in
    let inv = c.loop-page.invariant in
    let held = (g.S.Station.view a.station.now).held in
    let is = subst (IsSegment a.region.now.layout.now.format c.next_counted.new.page.rows) (page_held g c told) (subst (λ (l : Layout). IsSegment l.format c.next_counted.new.page.rows (next_page c.loop-page.reader (g.S.Station.view c.loop-page.station).held)) inv.near.layout_is (read (told_on inv.steps.frame told))) in
    read_is a.region.now.layout.now a.region.now.number a.region.now.tally.now.height a.region.now.tally.now.counts held (c.requires.stands told).stands (c.requires.readable told) c.loop-page.reader.next c.next_counted.new.page.rows (omega (arith, below, inv.near.within)) is

pub loop-page-preserved : goal.loop-page-preserved
loop-page-preserved g c =
    let here = (goal.at.loop-page-preserved g c).After-next_counted in
    let a = c.args in
    let inv = c.loop-page.invariant in
    let after = rw c.if-branch.true at c.in_ok-next_counted.ensures.after in
    let next = ap (λ (r : ReaderView). r.next) after in
    let end = ap (λ (r : ReaderView). r.end) after in
    let below = lt g here after in
    record {
      near = record {
        layout_is = ap (λ (r : ReaderView). r.layout) after ∙ inv.near.layout_is;
        region_is = ap (λ (r : ReaderView). r.region) after ∙ inv.near.region_is;
        onward = omega (arith, inv.near.onward, next);
        upto = c.next_counted.ensures.is_reader.within;
        some = omega (arith, inv.near.some, end);
        two = omega (arith, inv.near.two, end);
        within = omega (arith, inv.near.within, end);
        reached = λ short. omega (arith, end, inv.near.reached (omega (arith, short, end)));
        unfaulted = ap (λ (r : ReaderView). r.faulted) after ∙ inv.near.unfaulted;
      };
      above = λ told.
          let segments = cut a.region.now.tally.now.counts (entries (map_of (g.S.Station.view a.station.now).held)) in
          subst (λ (r : ReaderView). LieAbove r segments) (sym after)
          (above_more c.loop-page.reader segments (inv.above told) (inside g here below told) c.next_counted.new.page.rows (own_rows g here below told (c.in_ok-next_counted.ensures.segment c.if-branch.true)));
      none = λ told.
          let segments = cut a.region.now.tally.now.counts (entries (map_of (g.S.Station.view a.station.now).held)) in
          let same = c.rows-rows.ensures ∙ own_rows g here below told (c.in_ok-next_counted.ensures.segment c.if-branch.true) in
          let more = none_more a.look.now.start.now a.look.now.past.now a.look.now.high.now segments c.loop-page.reader.next c.index_past-index.result (inside g here below told) (inv.none told)
          (subst (λ (rs : List Record). IsIndexPast a.look.now.start.now a.look.now.past.now rs c.index_past-index.result) same c.index_past-index.ensures.index)
          (omega (arith, c.if-index-len.false, c.len.ensures.len, ap length same)) in
          subst (λ (n : ℕ). NoneAhead a.look.now.start.now a.look.now.past.now a.look.now.high.now (rows (take n segments))) (sym next) more;
      early = λ told. elim (cases_lt a.first c.loop-page.reader.next) [
        | inr first ↦ omega (arith, next, first)
        | inl second ↦
            let held = (g.S.Station.view a.station.now).held in
            let segments = cut a.region.now.tally.now.counts (entries (map_of held)) in
            let same = c.rows-rows.ensures ∙ own_rows g here below told (c.in_ok-next_counted.ensures.segment c.if-branch.true) in
            let one : c.loop-page.reader.next ≡ a.first + 1 = omega (arith, inv.early told, second) in
            absurd (second_found a.look.now.start.now a.look.now.past.now (get_or segments c.loop-page.reader.next []) c.index_past-index.result
            (subst (λ (rs : List Record). IsIndexPast a.look.now.start.now a.look.now.past.now rs c.index_past-index.result) same c.index_past-index.ensures.index)
            (second_from a.region.now.layout.now a.region.now.number a.region.now.tally.now.height a.region.now.tally.now.counts held (c.requires.stands told).stands a.look.now.start.now a.first c.loop-page.reader.next one (inside g here below told) (c.requires.begins told))
            (second_four a.region.now.layout.now a.region.now.number a.region.now.tally.now.height a.region.now.tally.now.counts held (c.requires.stands told) a.first c.loop-page.reader.next one (omega (arith, below, inv.near.within)))
            (omega (arith, c.if-index-len.false, c.len.ensures.len, ap length same)))
      ];
      steps = same_on inv.steps c.next_counted.ensures.steps;
      reads = walk_from a.region.now.layout.now c.loop-page.reader.layout a.region.now.number c.loop-page.reader.region a.first c.loop-page.reader.next c.next_counted.new.reader.next _ _ _ inv.near.layout_is inv.near.region_is inv.reads c.next_counted.ensures.reads inv.near.onward (omega (arith, next));
      calls = omega (arith, inv.calls, c.next_counted.ensures.calls, inv.near.onward, next);
    }

pub returns-clause-reads : goal.returns-clause-reads
returns-clause-reads g c =
    let a = c.args in
    let inv = c.loop-page.invariant in
    let after = rw c.if-branch.false at c.in_ok-next_counted.ensures.after in
    let next = ap (λ (r : ReaderView). r.next) after in
    let at_end = c.in_ok-next_counted.ensures.none.0 c.if-branch.false in
    record {
      from = a.first;
      to = c.next_counted.new.reader.next;
      travel = walk_from a.region.now.layout.now c.loop-page.reader.layout a.region.now.number c.loop-page.reader.region a.first c.loop-page.reader.next c.next_counted.new.reader.next _ _ _ inv.near.layout_is inv.near.region_is inv.reads c.next_counted.ensures.reads inv.near.onward (omega (arith, next));
      calls = omega (arith, inv.calls, c.next_counted.ensures.calls, inv.near.onward, next);
      some = omega (arith, inv.near.some, next, at_end);
      two = omega (arith, inv.near.two, next, at_end);
      within = omega (arith, inv.near.within, next, at_end);
      own = c.requires.begins;
      causes = tt;
    }

pub returns-clause-row : goal.returns-clause-row
returns-clause-row g c told low is =
    let a = c.args in
    let inv = c.loop-page.invariant in
    let held = (g.S.Station.view a.station.now).held in
    let stands = (c.requires.stands told).stands in
    let segments = cut a.region.now.tally.now.counts (entries (map_of held)) in
    let at_end = c.in_ok-next_counted.ensures.none.0 c.if-branch.false in
    let size : length segments ≡ c.loop-page.reader.next = omega (arith, at_end, inv.near.reached (omega (arith, at_end, inv.early told)), cut_size a.region.now.layout.now a.region.now.number a.region.now.tally.now.height a.region.now.tally.now.counts held stands) in
    let none = none_in_all a.look.now.start.now a.look.now.past.now a.look.now.high.now segments c.loop-page.reader.next size (inv.none told) low is in
    sym (ap (λ (rs : List Record). slice_get rs 0) (ap (ahead_of low a.look.now.past.now a.look.now.high.now) (sym (all a.region.now.layout.now a.region.now.number a.region.now.tally.now.height a.region.now.tally.now.counts held stands)) ∙ none))

pub returns-then-index-len-clause-row : goal.returns-then-index-len-clause-row
returns-then-index-len-clause-row g c told low is =
    let here = (goal.at.returns-then-index-len-clause-row g c).After-next_counted in
    let a = c.args in
    let inv = c.loop-page.invariant in
    let held = (g.S.Station.view a.station.now).held in
    let segments = cut a.region.now.tally.now.counts (entries (map_of held)) in
    let after = rw c.if-branch.true at c.in_ok-next_counted.ensures.after in
    let below = lt g here after in
    let rs = c.rows-rows.ensures in
    let same = rs ∙ own_rows g here below told (c.in_ok-next_counted.ensures.segment c.if-branch.true) in
    c.row_below.ensures
    ∙ sym (found_in low a.look.now.past.now a.look.now.high.now segments c.loop-page.reader.next c.index_past-index.result c.rows-rows.result (inside g here below told) same (inv.none told low is)
    (subst (λ (b : Option Bytes). IsIndexPast b a.look.now.past.now c.rows-rows.result c.index_past-index.result) is c.index_past-index.ensures.index)
    (omega (arith, c.if-index-len.true, c.len.ensures.len)) (inv.above told).ascending)
    ∙ ap (λ (l : List Record). slice_get (ahead_of low a.look.now.past.now a.look.now.high.now l) 0) (all a.region.now.layout.now a.region.now.number a.region.now.tally.now.height a.region.now.tally.now.counts held (c.requires.stands told).stands)

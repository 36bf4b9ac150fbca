use Rattle.std.proofs.Common.{arith, ◌≡◌, inl, refl, ℕ, suc, ◌^◌, ◌<◌, [], ◌++◌, length, drop, get_or, sum, sym, ap, subst, ◌∙◌}
use Rattle.std.proofs.lemmas.Result.{err_from_is_err_and}
use Rattle.station.specs.View.{Told}
use Rattle.density_rule.proofs.Totals.{count_in-segment}
use Rattle.header_gate.specs.declared.layout.Layout.{Layout}
use Rattle.key_slot.specs.Segment.{IsSegment, segment_of}
use Rattle.map_model.specs.Array.{rows}
use Rattle.map_model.specs.Image.{array_of}
use Rattle.range_scan.specs.Checking.{LieAbove}
use Rattle.range_scan.specs.RegionReaderView.{ReaderView}
use Rattle.range_scan.specs.RegionReading.{behind, page_in, page_fault, next_page}
use Rattle.range_scan.specs.Walk.{after_walk}
use Rattle.range_scan.proofs.Checks.{above_more}
use Rattle.range_scan.proofs.Standing.{count_kept}
use Rattle.header_gate.proofs.Journals.{bare_recovered}
use Rattle.resize_region.proofs.OldRowLaws.{own_size, own_read, own_fine, ahead_read}
use Rattle.resize_region.proofs.StreamLaws.{next_count}
use Rattle.resize_region.proofs.old_rows.read_on.Goals as goal
use Rattle.resize_region.proofs.old_rows.read_on.Goals.{Then-branch}

after : (g : _) (c : Then-branch g) → c.next_counted.new.reader ≡ behind c.next_counted.new.page.rows c.args.rows.now.reader
after g c = rw c.if-branch.true at c.in_ok-next_counted.ensures.after

-- there was a segment more
below : (g : _) (c : Then-branch g) → c.args.rows.now.reader.next < 2 ^ c.args.tally.now.height
below g c = omega (arith, c.next_counted.ensures.is_reader.within, ap (λ (r : ReaderView). r.next) (after g c), ap (λ (r : ReaderView). r.end) (after g c), c.requires.among.end_is)

-- the records that were read are those of the next segment of the array
read : (g : _) (c : Then-branch g) → Told (g.S.Station.view c.args.station.now) → c.next_counted.new.page.rows ≡ get_or (array_of (g.S.Station.view c.args.station.now).held) c.args.rows.now.reader.next []
read g c told =
    let held = (g.S.Station.view c.args.station.now).held in
    let rs = c.next_counted.new.page.rows in
    let page : next_page c.args.rows.now.reader held ≡ page_in c.args.place.now.layout c.args.place.now.region held c.args.rows.now.reader.next = λ i. page_in (c.requires.among.layout_is i) (c.requires.among.region_is i) held c.args.rows.now.reader.next in
    let is = subst (λ (l : Layout). IsSegment l.format rs (next_page c.args.rows.now.reader held)) c.requires.among.layout_is (c.in_ok-next_counted.ensures.segment c.if-branch.true told) in
    own_read c.args.place.now c.args.tally.now held (c.requires.stands held (inl (told, refl))) c.args.rows.now.reader.next rs (below g c) (subst (IsSegment c.args.place.now.layout.format rs) page is)

pub returns-then-branch-clause-order : goal.returns-then-branch-clause-order
returns-then-branch-clause-order g c told =
    let at = (goal.at.returns-then-branch-clause-order g c).Then-branch in
    let held = (g.S.Station.view c.args.station.now).held in
    let segments = array_of held in
    let lt : c.args.rows.now.reader.next < length segments = omega (arith, below g at, own_size c.args.place.now c.args.tally.now held (c.requires.stands held (inl (told, refl)))) in
    subst (λ (r : ReaderView). LieAbove r segments) (sym (after g at)) (above_more c.args.rows.now.reader segments (c.requires.order told) lt c.next_counted.new.page.rows (read g at told))

pub returns-then-branch-clause-left : goal.returns-then-branch-clause-left
returns-then-branch-clause-left g c =
    let at = (goal.at.returns-then-branch-clause-left g c).Then-branch in
    let counts = c.args.tally.now.counts in
    let s = c.args.rows.now.reader.next in
    let lt : s < length counts = omega (arith, below g at, c.requires.among.counts) in
    let next : suc s ≡ c.next_counted.new.reader.next = omega (arith, ap (λ (r : ReaderView). r.next) (after g at)) in
    let count : length c.next_counted.new.page.rows ≡ get_or counts s 0 = c.in_ok-next_counted.ensures.count c.if-branch.true ∙ count_in-segment counts s lt in
    omega (arith, count, next_count counts s lt, ap (λ (k : ℕ). sum (drop k counts)) next, c.requires.used_up)

pub returns-then-branch-clause-same : goal.returns-then-branch-clause-same
returns-then-branch-clause-same g c told =
    let at = (goal.at.returns-then-branch-clause-same g c).Then-branch in
    let held = (g.S.Station.view c.args.station.now).held in
    let old = c.args.rows.now in
    let segments = array_of held in
    let lt : old.reader.next < length segments = omega (arith, below g at, own_size c.args.place.now c.args.tally.now held (c.requires.stands held (inl (told, refl)))) in
    ap (λ (k : ℕ). drop 0 c.next_counted.new.page.rows ++ rows (drop k segments)) (ap (λ (r : ReaderView). r.next) (after g at))
    ∙ ahead_read segments old.reader.next old.page.rows c.next_counted.new.page.rows lt (read g at told)
    ∙ ap (λ (k : ℕ). drop k old.page.rows ++ rows (drop old.reader.next segments)) (sym c.requires.used_up)

pub returns-in_err-next_counted-clause-reads : goal.returns-in_err-next_counted-clause-reads
returns-in_err-next_counted-clause-reads g c =
    let old = c.args.rows.now.reader in
    let a = g.S.Station.view c.args.station.now in
    let over = c.in_err-next_counted.ensures.after_fault in
    let among = c.requires.among in
    let place = c.args.place.now in
    let t = c.args.tally.now in
    let lt : old.next < 2 ^ t.height = omega (arith, c.next_counted.ensures.is_reader.within, over.next_is, over.end_is, among.end_is) in
    let page : next_page old a.held ≡ page_in place.layout place.region a.held old.next = λ i. page_in (among.layout_is i) (among.region_is i) a.held old.next in
    let p = err_from_is_err_and c.from_residual.result c.from_residual.ensures.1 in
    rw (p.1, p.2) (record {
      steps = c.next_counted.ensures.steps;
      reads = c.next_counted.ensures.reads ∙ (λ i. after_walk (among.layout_is i) (among.region_is i) old.next c.next_counted.new.reader.next a.travel);
      calls = c.next_counted.ensures.calls;
      onward = omega (arith, over.next_is);
      upto = omega (arith, over.next_is, lt);
      damaged = λ told.
          let stands = c.requires.stands a.held (inl (told, refl)) in
          c.in_err-next_counted.ensures.damaged told
          ((λ i. page_fault (among.layout_is i).format old.next old.last (page i)) ∙ own_fine place t a.held stands old lt (c.requires.order told))
          ((λ i. length (segment_of (among.layout_is i).format (page i))) ∙ count_kept place.layout place.region t.height t.counts a.held stands.stands (bare_recovered place.layout a.held stands.bare) old.next lt);
      cause = (old.next, over.next_is, c.in_err-next_counted.ensures.causes);
      failed = c.in_err-next_counted.ensures.failed;
    })

use Rattle.range_scan.proofs.Amid.{sum_more}
use Rattle.density_rule.proofs.Totals.{count_in-segment}
use Rattle.std.proofs.Common.{arith, ◌≡◌, inl, refl, ℕ, ◌+◌, ◌^◌, ◌<◌, List, [], ◌++◌, length, drop, get_or, true, sym, ap, subst, ◌∙◌, sum, take}
use Rattle.station.specs.View.{Told, Fixed}
use Rattle.station.proofs.Composition.{each_on, told_back}
use Rattle.header_gate.specs.declared.layout.Layout.{Layout}
use Rattle.key_slot.specs.Segment.{FitsSegment, IsSegment, segment_of}
use Rattle.map_model.specs.Array.{rows}
use Rattle.map_model.specs.Image.{array_of}
use Rattle.range_scan.specs.Checking.{LieAbove}
use Rattle.range_scan.specs.RegionReaderView.{ReaderView}
use Rattle.range_scan.specs.RegionReading.{behind, page_in, page_fault, next_page}
use Rattle.range_scan.specs.Walk.{after_walk}
use Rattle.range_scan.proofs.Checks.{above_more}
use Rattle.range_scan.proofs.Standing.{count_kept}
use Rattle.header_gate.proofs.Journals.{bare_recovered}
use Rattle.resize_region.specs.Shares.{StandsBare}
use Rattle.resize_region.proofs.OldRowLaws.{own_size, own_read, own_fine, ahead_read, never_failed}
use Rattle.bulk_load.specs.Ahead.{IsAhead}
use Rattle.bulk_load.proofs.AheadLaws.{behind_last, next_above, hand_none}
use Rattle.bulk_load.proofs.ahead.read_on.Goals as goal
use Rattle.bulk_load.proofs.ahead.read_on.Goals.{In-Ok-true}

after : (g : _) (c : In-Ok-true g) → c.next_segment.new.reader ≡ behind c.next_segment.new.page.rows c.args.ahead.now.reader
after g c = rw c.in-Ok-true.field-0-test at c.in-Ok-true.ensures.after

-- there was a segment more
below : (g : _) (c : In-Ok-true g) → c.args.ahead.now.reader.next < 2 ^ c.args.ahead.now.tally.now.height
below g c = omega (arith, c.next_segment.ensures.is_reader.within, ap (λ (r : ReaderView). r.next) (after g c), ap (λ (r : ReaderView). r.end) (after g c), c.requires.live.ahead.end_is)

-- the records that were read are those of the next segment of the array
read : (g : _) (c : In-Ok-true g) → Told (g.S.Station.view c.args.station.now) → c.next_segment.new.page.rows ≡ get_or (array_of (g.S.Station.view c.args.station.now).held) c.args.ahead.now.reader.next []
read g c told =
    let held = (g.S.Station.view c.args.station.now).held in
    let rs = c.next_segment.new.page.rows in
    let among = c.requires.live.ahead in
    let old = c.args.ahead.now.reader in
    let page : next_page old held ≡ page_in c.args.place.now.layout c.args.place.now.region held old.next = λ i. page_in (among.layout_is i) (among.region_is i) held old.next in
    let is = subst (λ (l : Layout). IsSegment l.format rs (next_page old held)) among.layout_is (c.in-Ok-true.ensures.segment c.in-Ok-true.field-0-test told) in
    own_read c.args.place.now c.args.ahead.now.tally.now held (c.requires.live.stands held (inl (told, refl))) old.next rs (below g c) (subst (IsSegment c.args.place.now.layout.format rs) page is)

ahead_on : (g : _) (c : In-Ok-true g) → IsAhead c.args.place.now (record c.args.ahead.now { reader = c.next_segment.new.reader; page = c.next_segment.new.page; index = 0; segment = c.args.ahead.now.segment + 1 })
ahead_on g c =
    let live = c.requires.live in
    let among = live.ahead in
    let is = after g c in
    record {
      counts = among.counts;
      layout_is = ap (λ (r : ReaderView). r.layout) is ∙ among.layout_is;
      region_is = ap (λ (r : ReaderView). r.region) is ∙ among.region_is;
      end_is = ap (λ (r : ReaderView). r.end) is ∙ among.end_is;
      within = c.next_segment.ensures.is_reader.within;
      unfaulted = ap (λ (r : ReaderView). r.faulted) is ∙ among.unfaulted;
      taken = omega arith;
      fits = subst (λ (l : Layout). FitsSegment l.format c.next_segment.new.page.rows) among.layout_is (c.in-Ok-true.ensures.fits c.in-Ok-true.field-0-test);
      height = live.ahead.height;
      number = omega (arith, live.ahead.number, ap (λ (r : ReaderView). r.next) is);
      last_is = behind_last c.args.ahead.now.reader.last c.next_segment.new.reader.last c.next_segment.new.page.rows (ap (λ (r : ReaderView). r.last) is);
    }

lies_on : (g : _) (c : In-Ok-true g) → Told (g.S.Station.view c.args.station.now) → LieAbove c.next_segment.new.reader (array_of (g.S.Station.view c.args.station.now).held)
lies_on g c told =
    let held = (g.S.Station.view c.args.station.now).held in
    let old = c.args.ahead.now in
    let segments = array_of held in
    let lt : old.reader.next < length segments = omega (arith, below g c, own_size c.args.place.now old.tally.now held (c.requires.live.stands held (inl (told, refl)))) in
    subst (λ (r : ReaderView). LieAbove r segments) (sym (after g c)) (above_more old.reader segments (c.requires.live.order told) lt c.next_segment.new.page.rows (read g c told))

pub returns-in-Ok-true-clause-reads : goal.returns-in-Ok-true-clause-reads
returns-in-Ok-true-clause-reads g c =
    let at = (goal.at.returns-in-Ok-true-clause-reads g c).In-Ok-true in
    let old = c.args.ahead.now in
    let live = c.requires.live in
    let among = live.ahead in
    let is = after g at in
    let a = g.S.Station.view c.args.station.now in
    let Stands = StandsBare c.args.place.now old.tally.now in
    let steps = c.next_segment.ensures.steps in
    let next : c.next_segment.new.reader.next ≡ old.reader.next + 1 = ap (λ (r : ReaderView). r.next) is in
    record {
      live = record {
        ahead = ahead_on g at;
        reach = omega (arith, live.reach, ap (λ (f : Fixed). f.reach) steps.frame.fixed);
        stands = each_on Stands Stands steps live.stands (λ d i kept step. subst Stands (sym step) kept);
        order = λ told_b. let told = told_back steps.frame told_b in subst (λ (held : List ℕ). LieAbove c.next_segment.new.reader (array_of held)) (sym (steps.held told)) (lies_on g at told);
      };
      same = λ told.
          let segments = array_of a.held in
          let lt : old.reader.next < length segments = omega (arith, below g at, own_size c.args.place.now old.tally.now a.held (live.stands a.held (inl (told, refl)))) in
          ap (λ (k : ℕ). drop 0 c.next_segment.new.page.rows ++ rows (drop k segments)) next
          ∙ ahead_read segments old.reader.next old.page.rows c.next_segment.new.page.rows lt (read g at told)
          ∙ ap (λ (k : ℕ). drop k old.page.rows ++ rows (drop old.reader.next segments)) (sym c.requires.used_up);
      above = λ key above.
          let none = hand_none old.index old.page.rows c.requires.used_up in
          let more = above.onward none (λ e. omega (arith, e, below g at, among.end_is)) in
          record {
            here = more c.next_segment.new.page.rows (c.in-Ok-true.ensures.above c.in-Ok-true.field-0-test);
            onward = λ empty further rs behind. next_above key old.reader.last c.next_segment.new.reader.last c.next_segment.new.page.rows rs (ap (λ (r : ReaderView). r.last) is) more empty behind;
          };
      count = omega (
        arith,
        c.requires.used_up,
        c.in-Ok-true.ensures.count c.in-Ok-true.field-0-test,
        count_in-segment old.tally.now.counts old.reader.next (omega (arith, below g at, among.counts)),
        sum_more old.tally.now.counts old.reader.next (omega (arith, below g at, among.counts)),
        ap (λ (n : ℕ). sum (take n old.tally.now.counts)) next,
      );
      tally = refl;
      steps = steps;
      reads = c.next_segment.ensures.reads ∙ (λ i. after_walk (among.layout_is i) (among.region_is i) old.reader.next c.next_segment.new.reader.next a.travel);
      calls = c.next_segment.ensures.calls;
      onward = omega (arith, next);
      upto = omega (arith, next, below g at);
      damaged = tt;
      cause = tt;
      failed = λ e. absurd (never_failed true e);
    }

pub returns-in-Err-clause-reads : goal.returns-in-Err-clause-reads
returns-in-Err-clause-reads g c =
    let old = c.args.ahead.now.reader in
    let a = g.S.Station.view c.args.station.now in
    let over = c.in-Err.ensures.after_fault in
    let live = c.requires.live in
    let among = live.ahead in
    let place = c.args.place.now in
    let t = c.args.ahead.now.tally.now in
    let lt : old.next < 2 ^ t.height = omega (arith, c.next_segment.ensures.is_reader.within, over.next_is, over.end_is, among.end_is) in
    let page : next_page old a.held ≡ page_in place.layout place.region a.held old.next = λ i. page_in (among.layout_is i) (among.region_is i) a.held old.next in
    record {
      live = tt;
      same = tt;
      above = tt;
      count = tt;
      tally = refl;
      steps = c.next_segment.ensures.steps;
      reads = c.next_segment.ensures.reads ∙ (λ i. after_walk (among.layout_is i) (among.region_is i) old.next c.next_segment.new.reader.next a.travel);
      calls = c.next_segment.ensures.calls;
      onward = omega (arith, over.next_is);
      upto = omega (arith, over.next_is, lt);
      damaged = λ told.
          let stands = live.stands a.held (inl (told, refl)) in
          c.in-Err.ensures.damaged told
          ((λ i. page_fault (among.layout_is i).format old.next old.last (page i)) ∙ own_fine place t a.held stands old lt (live.order told))
          ((λ i. length (segment_of (among.layout_is i).format (page i))) ∙ count_kept place.layout place.region t.height t.counts a.held stands.stands (bare_recovered place.layout a.held stands.bare) old.next lt);
      cause = (old.next, lt, omega arith, over.next_is, c.in-Err.ensures.causes);
      failed = c.in-Err.ensures.failed;
    }

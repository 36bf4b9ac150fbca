-- A merge that goes on: records are packed, and segments are read.
use Rattle.std.proofs.Common.{rules, ◌≡◌, ◌⊎◌, inl, inr, ℕ, ◌+◌, ◌-◌, ◌*◌, ◌^◌, ◌<◌, ◌≤◌, Bool, true, cond, List, length, slice_get, Option, Some, refl, sym, ap, subst, ◌∙◌, arith}
use Rattle.std.specs.Prelude.{◌==◌, Result, Ok}
use Rattle.station.specs.View.{View, Told, EachHeld, Fixed, after_read}
use Rattle.station.specs.declared.travel.Travel.{Travel}
use Rattle.station.specs.Steps.{Steps}
use Rattle.station.proofs.Composition.{each_on, told_back}
use Rattle.header_gate.specs.Places.{height_limit, segment_place, segment_size}
use Rattle.key_slot.specs.Record.{Record}
use Rattle.key_slot.specs.declared.sizes.TheConstants.{SEGMENT_SLOTS}
use Rattle.map_model.specs.Array.{Array}
use Rattle.map_model.specs.Image.{array_of}
use Rattle.map_model.specs.Regions.{Spares}
use Rattle.range_scan.specs.Checking.{LieAbove}
use Rattle.range_scan.specs.Walk.{after_walk}
use Rattle.redo_journal.specs.Commit.{IsAt}
use Rattle.redo_journal.specs.declared.place.Place.{Place}
use Rattle.redo_journal.specs.Frames.{Batch}
use Rattle.resize_region.specs.Shares.{StandsBare}
use Rattle.resize_region.specs.Source.{Walks}
use Rattle.resize_region.proofs.SettledLaws.{array_kept, stands_kept}
use Rattle.resize_region.proofs.WalkLaws.{walks_on, walks_beside}
use Rattle.segment.specs.declared.fault.StoreFault.{StoreFault}
use Rattle.bulk_load.specs.declared.ahead.Ahead.{Ahead}
use Rattle.bulk_load.specs.declared.fault.LoadFault.{LoadFault}
use Rattle.bulk_load.specs.declared.packing.Taken.{Taken}
use Rattle.bulk_load.specs.declared.run.MergeRun.{MergeRun}
use Rattle.bulk_load.specs.Ahead.{ReadsLive, IsAbove, ReadsAhead, passed}
use Rattle.bulk_load.specs.Amid.{Goes, IsAmid, Tries}
use Rattle.bulk_load.specs.Loads.{most_records}
use Rattle.bulk_load.specs.Packing.{room_in}
use Rattle.bulk_load.specs.TextReading.{IsTaking}
use Rattle.bulk_load.specs.Resulting.{PacksRow}
use Rattle.bulk_load.proofs.AheadLaws.{above_passed}
use Rattle.bulk_load.proofs.Calls.{fill_on, fill_same, none_spares, same_spares, spares_on}
use Rattle.bulk_load.proofs.LoadLaws.{few_records}
use Rattle.bulk_load.proofs.PackLaws.{cost_on}

-- Walks.

eq_self : (n : ℕ) → (n == n) ≡ true
eq_self n = search rules

pub walks_still : (place : Place) (n : ℕ) (t : Travel) → Walks place n n t t
walks_still place n t = sym (ap (λ (b : Bool). cond b t (after_read (segment_place place.layout place.region n) (segment_size place.layout * (n - n)) t)) (eq_self n))

pub walks_both : (place : Place) (a b c : ℕ) (s t u : Travel) → a ≤ b → b ≤ c → Walks place a b s t → Walks place b c t u → Walks place a c s u
walks_both place a b c s t u below above first second =
    ap (λ (x : Travel). record x { written = s.written }) second ∙ walks_on place a b c s t (after_walk place.layout place.region b c t) below above first refl

-- Costs.

cost_from : (size w x y before now next : ℕ) → w ≤ x → x ≤ y → now ≤ before + size * (x - w) → next ≤ now + size * (y - x) → next ≤ before + size * (y - w)
cost_from size w x y before now next le more one two =
    let same : y - x ≡ (y - w) - (x - w) = omega (arith, le, more) in
    cost_on size (x - w) (y - w) before now next (omega (arith, le, more)) one (omega (arith, two, ap (λ (k : ℕ). size * k) same))

module _ (place : Place) where
  pub goes_none : (w n : ℕ) (f : Batch) (a : View) → EachHeld (IsAt place) a → Goes place w w n n f f a a
  goes_none w n f a live = record {
    journal = refl;
    turn = refl;
    steps = none_spares place a live;
    onward = omega arith;
    further = omega arith;
    reads = walks_still place n a.travel;
    cost = omega arith;
    calls = (0, omega arith, omega arith);
  }

  pub goes_on : (w x y n p q : ℕ) (f g h : Batch) (a b c : View) → Goes place w x n p f g a b → Goes place x y p q g h b c → Goes place w y n q f h a c
  goes_on w x y n p q f g h a b c one two =
      let many = room_in place.layout in
      let both : many * (one.calls.0 + two.calls.0) ≡ many * one.calls.0 + many * two.calls.0 = omega arith in
      record {
        journal = two.journal ∙ one.journal;
        turn = two.turn ∙ one.turn;
        steps = spares_on place one.steps two.steps;
        onward = omega (arith, one.onward, two.onward);
        further = omega (arith, one.further, two.further);
        reads = walks_both place n p q a.travel b.travel c.travel one.further two.further one.reads two.reads;
        cost = cost_from (segment_size place.layout) w x y a.travel.written b.travel.written c.travel.written one.onward two.onward one.cost two.cost;
        calls = (one.calls.0 + two.calls.0, omega (arith, both, one.onward, two.onward, one.calls.1, two.calls.1), omega (arith, one.further, two.further, one.calls.2, two.calls.2));
      }

  pub tries_on : (segments w x n p : ℕ) (f g h : Batch) (a b c : View) → x ≤ 2 ^ height_limit place.layout → Goes place w x n p f g a b → Tries place segments x p g h b c → Tries place segments w n f h a c
  tries_on segments w x n p f g h a b c inside one two =
      let many = room_in place.layout in
      let to = two.calls.0 in
      let both : many * (one.calls.0 + two.calls.1) ≡ many * one.calls.0 + many * two.calls.1 = omega arith in
      record {
        journal = two.journal ∙ one.journal;
        turn = two.turn ∙ one.turn;
        steps = spares_on place one.steps two.steps;
        reads = (two.reads.0, omega (arith, one.further, two.reads.1), two.reads.2, walks_both place n p two.reads.0 a.travel b.travel c.travel one.further two.reads.1 one.reads two.reads.3);
        cost = cost_from (segment_size place.layout) w x (2 ^ height_limit place.layout) a.travel.written b.travel.written c.travel.written one.onward inside one.cost two.cost;
        calls = (
          to,
          one.calls.0 + two.calls.1,
          omega (arith, one.onward, two.calls.2),
          two.calls.3,
          omega (arith, both, one.onward, two.calls.2, one.calls.1, two.calls.4),
          omega (arith, one.further, two.reads.1, two.reads.2, one.calls.2, two.calls.5),
        );
      }

  -- where it goes on it was tried
  pub goes_tries : (segments w x n p : ℕ) (f g : Batch) (a b : View) → x ≤ 2 ^ height_limit place.layout → SEGMENT_SLOTS * x ≤ most_records place.layout → p ≤ segments → Goes place w x n p f g a b → Tries place segments w n f g a b
  goes_tries segments w x n p f g a b inside few upto one =
      record {
        journal = one.journal;
        turn = one.turn;
        steps = one.steps;
        reads = (p, one.further, upto, one.reads);
        cost = cost_from (segment_size place.layout) w x (2 ^ height_limit place.layout) a.travel.written b.travel.written b.travel.written one.onward inside one.cost (omega arith);
        calls = (x, one.calls.0, one.onward, few, one.calls.1, omega (arith, one.calls.2, upto, one.further));
      }

  -- a reading
  pub reads_goes : {T : Type 0} (result : Result T StoreFault) (old new : Ahead) (w : ℕ) (f : Batch) (a b : View) → EachHeld (IsAt place) a → ReadsAhead place result old new a b → Goes place w w old.reader.next new.reader.next f f a b
  reads_goes result old new w f a b live rows =
      let walks = walks_on place old.reader.next old.reader.next new.reader.next a.travel a.travel b.travel (omega arith) rows.onward (walks_still place old.reader.next a.travel) rows.reads in
      let same : b.travel.written ≡ a.travel.written = ap (λ (x : Travel). x.written) (rows.reads ∙ sym walks) in
      record {
        journal = refl;
        turn = refl;
        steps = same_spares place live rows.steps;
        onward = omega arith;
        further = rows.onward;
        reads = walks;
        cost = omega (arith, same);
        calls = (0, omega arith, omega (arith, rows.calls));
      }

  -- a record that was packed
  pub packs_goes : {X : Type 0} (x : X) (r : Record) (old new : Taken) (n : ℕ) (f g : Batch) (a b : View) → PacksRow place r (Ok x) old new f g a b → Goes place old.written new.written n n f g a b
  packs_goes x r old new n f g a b packs = record {
    journal = packs.journal;
    turn = packs.turn;
    steps = packs.steps;
    onward = packs.onward;
    further = omega arith;
    reads = walks_beside place n n a.travel a.travel b.travel (walks_still place n a.travel) packs.no_reads;
    cost = packs.cost;
    calls = (packs.calls.0, packs.calls.1, omega (arith, packs.calls.2));
  }

  -- what was taken of the records that may be is in the region
  pub taking_inside : (t : Taken) (b : Batch) → IsTaking place.layout t b → t.written ≤ 2 ^ height_limit place.layout
  taking_inside t b taking = omega (arith, taking.place.behind, few_records (height_limit place.layout) t.records taking.few)

  pub packs_tries : {X : Type 0} (segments n : ℕ) (r : Record) (result : Result X LoadFault) (old new : Taken) (f g : Batch) (a b : View) → n ≤ segments → IsTaking place.layout old f → PacksRow place r result old new f g a b → Tries place segments old.written n f g a b
  packs_tries segments n r result old new f g a b upto taking packs = record {
    journal = packs.journal;
    turn = packs.turn;
    steps = packs.steps;
    reads = (n, omega arith, upto, walks_beside place n n a.travel a.travel b.travel (walks_still place n a.travel) packs.no_reads);
    cost = packs.most_cost;
    calls = by packs.tried;
  }
    where
      many : ℕ
      many = room_in place.layout

      by : (b.calls ≤ a.calls) ⊎ ((b.calls ≤ a.calls + 1) × (SEGMENT_SLOTS * (old.written + room_in place.layout) ≤ most_records place.layout))
          → (to : ℕ) × (made : ℕ) × (old.written ≤ to) × (SEGMENT_SLOTS * to ≤ most_records place.layout) × (room_in place.layout * made ≤ to - old.written) × (b.calls ≤ a.calls + (made + (segments - n)))
      by (inl none) = (old.written, 0, omega arith, omega (arith, taking.place.behind, taking.few), omega arith, omega (arith, none))
      by (inr one) = (old.written + room_in place.layout, 1, omega arith, one.1, omega arith, omega (arith, one.0))

-- The state.

module _ (place : Place) (h : Ahead) {a b : View} (live : ReadsLive place h a) (steps : Steps (Spares place.layout place.region) a b) where
  -- the array of the live region stays
  pub array_on : Told a → array_of b.held ≡ array_of a.held
  array_on told =
      let stands = live.stands a.held (inl (told, refl)) in
      array_kept place a.held b.held stands.stands.settled stands.bare (steps.held told)

  pub live_on : ReadsLive place h b
  live_on = record {
    ahead = live.ahead;
    reach = omega (arith, live.reach, ap (λ (f : Fixed). f.reach) steps.frame.fixed);
    stands = each_on (StandsBare place h.tally.now) (StandsBare place h.tally.now) steps live.stands (λ d i is step. stands_kept place h.tally.now d i is step);
    order = λ told_b. let told = told_back steps.frame told_b in subst (λ (s : Array). LieAbove h.reader s) (sym (array_on told)) (live.order told);
  }

pub live_passed : (place : Place) (h : Ahead) (v : View) → h.index < length h.page.rows → ReadsLive place h v → ReadsLive place (passed h) v
live_passed place h v lt live =
    let among = live.ahead in
    record {
      ahead = record {
        counts = among.counts;
        layout_is = among.layout_is;
        region_is = among.region_is;
        end_is = among.end_is;
        within = among.within;
        unfaulted = among.unfaulted;
        taken = omega (arith, lt);
        fits = among.fits;
        height = live.ahead.height;
        number = live.ahead.number;
        last_is = live.ahead.last_is;
      };
      reach = live.reach;
      stands = live.stands;
      order = live.order;
    }

-- after a reading
pub amid_read : {T : Type 0} (x : T) (place : Place) (s : MergeRun) (h : Ahead) (f : Batch) (a b : View) → IsAmid place s f a → ReadsAhead place (Ok x) s.ahead h a b → IsAmid place (record s { ahead = h }) f b
amid_read x place s h f a b amid reads = record {
  can = fill_same place f f amid.can refl reads.steps;
  live = reads.live;
  taking = amid.taking;
  above = reads.above s.taken.last amid.above;
}

-- after the next record was packed and passed
pub amid_packed : {X : Type 0} (x : X) (place : Place) (s : MergeRun) (t : Taken) (r : Record) (f g : Batch) (a b : View) → slice_get s.ahead.page.rows s.ahead.index ≡ Some r → s.ahead.index < length s.ahead.page.rows → IsAmid place s f a → PacksRow place r (Ok x) s.taken t f g a b → IsAmid place (record s { ahead = passed s.ahead; taken = t }) g b
amid_packed x place s t r f g a b there lt amid packs =
    let live = live_on place s.ahead amid.live packs.steps in
    record {
      can = fill_on place f g amid.can packs.journal packs.steps;
      live = live_passed place s.ahead b lt live;
      taking = packs.taking;
      above = subst (λ (k : Option (List ℕ)). IsAbove k (passed s.ahead)) (sym packs.last) (above_passed place s.ahead live.ahead r there);
    }

-- a reading that was tried
pub reads_tries : {T : Type 0} (place : Place) (result : Result T StoreFault) (s : MergeRun) (new : Ahead) (f : Batch) (a b : View) → IsAmid place s f a → ReadsAhead place result s.ahead new a b → Tries place (2 ^ s.ahead.tally.now.height) s.taken.written s.ahead.reader.next f f a b
reads_tries place result s new f a b amid reads =
    goes_tries place (2 ^ s.ahead.tally.now.height) s.taken.written s.taken.written s.ahead.reader.next new.reader.next f f a b (taking_inside place s.taken f amid.taking) (omega (arith, amid.taking.place.behind, amid.taking.few)) reads.upto
    (reads_goes place result s.ahead new s.taken.written f a b amid.can.live reads)

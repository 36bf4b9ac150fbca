use Rattle.std.proofs.lemmas.List.Sums.{sum_by-take-le}
use Rattle.std.proofs.Common.{◌≡◌, ℕ, ◌^◌, inl, true, false, List, [], ◌∷◌, ◌++◌, slice_get, append_assoc, Option, Some, None, refl, sym, ap, subst, ◌∙◌, arith, ◌+◌, sum}
use Rattle.std.specs.Prelude.{IfSome, IsNone}
use Rattle.std.proofs.lemmas.List.{append-nil, length-append}
use Rattle.std.proofs.lemmas.Result.{err_from_is_err_and}
use Rattle.station.specs.View.{Told, View}
use Rattle.station.proofs.Composition.{told_on}
use Rattle.key_slot.specs.Record.{Record, is_record, IsAscending}
use Rattle.key_slot.specs.Row.{record_of}
use Rattle.key_slot.specs.declared.row.Row.{Row}
use Rattle.map_model.specs.Array.{Array}
use Rattle.map_model.specs.Image.{array_of}
use Rattle.map_model.specs.FileReasons.{begins_above}
use Rattle.window_tally.specs.TallyView.{TallyView}
use Rattle.resize_region.proofs.OldRowLaws.{failed_as, own_size, rose_on}
use Rattle.bulk_load.specs.declared.ahead.Ahead.{Ahead}
use Rattle.bulk_load.specs.declared.packing.Taken.{Taken}
use Rattle.bulk_load.specs.declared.run.MergeRun.{MergeRun}
use Rattle.bulk_load.specs.Ahead.{ReadsNext, at_hand, begins_under, left_in, over, passed, under, hand, read_by}
use Rattle.bulk_load.specs.Amid.{Goes, IsAmid, IsCopyFault, IsLiveDamage, Tries, IsOverKept}
use Rattle.bulk_load.specs.Loads.{most_records}
use Rattle.bulk_load.specs.Packing.{IsTaken, HasPacked}
use Rattle.bulk_load.proofs.AheadLaws.{all_at, ascending_left, hand_is, head_above, left_is, left_over, over_hit, over_stop, some_lt, under_hit, under_stop, upto_of}
use Rattle.bulk_load.proofs.AmidLaws.{amid_packed, amid_read, array_on, goes_none, goes_on, goes_tries, packs_goes, packs_tries, reads_goes, taking_inside, tries_on, reads_tries}
use Rattle.bulk_load.proofs.CopyLaws.{copies_err, disk_as, disk_of, never_disk, packing_copy_fault, packing_damage, read_copy_fault, read_damage, packing_over, read_over, damage_on}
use Rattle.bulk_load.proofs.copying.copy_below.Goals as goal
use Rattle.bulk_load.proofs.copying.copy_below.Goals.{In_ok-row, In-Some}

-- The start.

pub loop-row-init : goal.loop-row-init
loop-row-init g c =
    let run = c.args.run.now in
    let a = g.S.Station.view c.args.station.now in
    record {
      copied = [];
      amid = c.requires.amid;
      taken = λ rows is. subst (IsTaken c.args.place.now.layout run.taken c.args.frames.now) (sym (append-nil rows)) is;
      packed = λ told rows is packed. subst (λ (l : List Record). HasPacked c.args.place.now l run.taken.written a.held) (sym (append-nil rows)) packed;
      split = λ told. refl;
      rest = λ told. refl;
      upto = c.requires.below;
      same = refl;
      ended = refl;
      tally = refl;
      count = omega arith;
      walked = omega arith;
      goes = goes_none c.args.place.now run.taken.written run.ahead.reader.next c.args.frames.now a c.requires.amid.can.live;
    }

-- The next record was read.

module _ (g : _) (c : In_ok-row g) where
  abbrev mid : MergeRun
  mid = c.next_of.new.run

  abbrev run : MergeRun
  run = c.loop-row.run

  abbrev start : View
  start = g.S.Station.view c.args.station.now

  abbrev here : View
  here = g.S.Station.view c.loop-row.station

  abbrev there : View
  there = g.S.Station.view c.next_of.new.station

  same_taken : mid.taken ≡ run.taken
  same_taken = ap (λ (s : MergeRun). s.taken) c.next_of.ensures.same

  reads : ReadsNext c.args.place.now None run.ahead mid.ahead here there
  reads = c.in_ok-row.ensures.reads

  mid_amid : IsAmid c.args.place.now mid c.loop-row.frames there
  mid_amid = subst (λ (s : MergeRun). IsAmid c.args.place.now s c.loop-row.frames there) (sym c.next_of.ensures.same) (amid_read tt c.args.place.now run mid.ahead c.loop-row.frames here there c.loop-row.invariant.amid reads)

  -- by the array at the start
  same_array : Told start → array_of here.held ≡ array_of start.held
  same_array told = array_on c.args.place.now c.args.run.now.ahead c.requires.amid.live c.loop-row.invariant.goes.steps told

  told_here : Told start → Told here
  told_here told = told_on c.loop-row.invariant.goes.steps.frame told

  same_left : Told start → left_in (array_of start.held) mid.ahead ≡ left_in (array_of start.held) run.ahead
  same_left told = subst (λ (segments : Array). left_in segments mid.ahead ≡ left_in segments run.ahead) (same_array told) (reads.same (told_here told))

  mid_taken : (rows : List Record) → IsTaken c.args.place.now.layout c.args.run.now.taken c.args.frames.now rows → IsTaken c.args.place.now.layout mid.taken c.loop-row.frames (rows ++ c.loop-row.invariant.copied)
  mid_taken rows is = subst (λ (t : Taken). IsTaken c.args.place.now.layout t c.loop-row.frames (rows ++ c.loop-row.invariant.copied)) (sym same_taken) (c.loop-row.invariant.taken rows is)

  mid_packed : Told start → (rows : List Record) → IsTaken c.args.place.now.layout c.args.run.now.taken c.args.frames.now rows → HasPacked c.args.place.now rows c.args.run.now.taken.written start.held → HasPacked c.args.place.now (rows ++ c.loop-row.invariant.copied) mid.taken.written there.held
  mid_packed told rows is packed =
      subst (λ (t : Taken). HasPacked c.args.place.now (rows ++ c.loop-row.invariant.copied) t.written there.held) (sym same_taken)
      (subst (λ (held : List ℕ). HasPacked c.args.place.now (rows ++ c.loop-row.invariant.copied) run.taken.written held) (sym (reads.steps.held (told_here told))) (c.loop-row.invariant.packed told rows is packed))

  mid_goes : Goes c.args.place.now c.args.run.now.taken.written mid.taken.written c.args.run.now.ahead.reader.next mid.ahead.reader.next c.args.frames.now c.loop-row.frames start there
  mid_goes = subst (λ (t : Taken). Goes c.args.place.now c.args.run.now.taken.written t.written c.args.run.now.ahead.reader.next mid.ahead.reader.next c.args.frames.now c.loop-row.frames start there) (sym same_taken)
      (goes_on c.args.place.now c.args.run.now.taken.written run.taken.written run.taken.written c.args.run.now.ahead.reader.next run.ahead.reader.next mid.ahead.reader.next c.args.frames.now c.loop-row.frames c.loop-row.frames start here there c.loop-row.invariant.goes
      (reads_goes c.args.place.now _ run.ahead mid.ahead run.taken.written c.loop-row.frames here there c.loop-row.invariant.amid.can.live reads))

  mid_tally : mid.ahead.tally.now ≡ c.args.run.now.ahead.tally.now
  mid_tally = reads.tally ∙ c.loop-row.invariant.tally

  tall : 2 ^ mid.ahead.tally.now.height ≡ 2 ^ c.args.run.now.ahead.tally.now.height
  tall = ap (λ (t : TallyView). 2 ^ t.height) mid_tally

  mid_walked : mid.taken.records + hand mid.ahead + read_by c.args.run.now.ahead ≡ c.args.run.now.taken.records + hand c.args.run.now.ahead + read_by mid.ahead
  mid_walked = omega (arith, reads.count, c.loop-row.invariant.walked, ap (λ (t : Taken). t.records) same_taken)

  mid_same : mid ≡ record c.args.run.now { ahead = mid.ahead; taken = mid.taken }
  mid_same = c.next_of.ensures.same ∙ ap (λ (s : MergeRun). record s { ahead = mid.ahead }) c.loop-row.invariant.same ∙ ap (λ (t : Taken). record c.args.run.now { ahead = mid.ahead; taken = t }) (sym same_taken)

-- A record is below the key.

module _ (g : _) (c : In-Some g) where
  abbrev before : In_ok-row g
  before = (goal.at.In-Some g c).In_ok-row

  abbrev r : Record
  r = record_of c.in-Some.row

  abbrev h : Ahead
  h = c.next_of.new.run.ahead

  is_there : slice_get h.page.rows h.index ≡ Some r
  is_there = subst (λ (o : Option Row). IfSome o (λ row. slice_get h.page.rows h.index ≡ Some (record_of row))) c.in-Some.is c.in_ok-row.ensures.row

  hit : begins_under c.args.key.now (r ∷ []) ≡ true
  hit = subst (λ (o : Option Row). IfSome o (λ row. begins_under c.args.key.now (record_of row ∷ []) ≡ true)) c.in-Some.is c.in_ok-row.ensures.under

  -- by the array at the start
  left_hit : Told (start g before) → left_in (array_of (start g before).held) c.loop-row.run.ahead ≡ r ∷ left_in (array_of (start g before).held) (passed h)
  left_hit told = sym (same_left g before told) ∙ left_is c.args.place.now h (mid_amid g before).live.ahead r is_there (array_of (start g before).held)

  split_hit : Told (start g before) → under c.args.key.now (left_in (array_of (start g before).held) c.args.run.now.ahead) ≡ c.loop-row.invariant.copied ++ under c.args.key.now (r ∷ left_in (array_of (start g before).held) (passed h))
  split_hit told = c.loop-row.invariant.split told ∙ ap (λ (l : List Record). c.loop-row.invariant.copied ++ under c.args.key.now l) (left_hit told)

pub take_result-requires-clause-can : goal.take_result-requires-clause-can
take_result-requires-clause-can g c = (mid_amid g (goal.at.take_result-requires-clause-can g c).In_ok-row).can

pub take_result-requires-clause-taking : goal.take_result-requires-clause-taking
take_result-requires-clause-taking g c = (mid_amid g (goal.at.take_result-requires-clause-taking g c).In_ok-row).taking

pub take_result-requires-clause-above : goal.take_result-requires-clause-above
take_result-requires-clause-above g c =
    let at = (goal.at.take_result-requires-clause-above g c).In-Some in
    let amid = mid_amid g (goal.at.take_result-requires-clause-above g c).In_ok-row in
    let last = c.next_of.new.run.taken.last in
    sym (head_above last (r g at) (at_hand (passed (h g at)))) ∙ ap (begins_above last) (sym (hand_is c.args.place.now (h g at) amid.live.ahead (r g at) (is_there g at))) ∙ amid.above.here

pub take_result-requires-clause-fits : goal.take_result-requires-clause-fits
take_result-requires-clause-fits g c =
    let at = (goal.at.take_result-requires-clause-fits g c).In-Some in
    let amid = mid_amid g (goal.at.take_result-requires-clause-fits g c).In_ok-row in
    all_at (is_record c.args.place.now.layout.format) (h g at).index (h g at).page.rows (r g at) amid.live.ahead.fits.records (is_there g at)

pub pass-requires : goal.pass-requires
pass-requires g c = let at = (goal.at.pass-requires g c).In-Some in some_lt (h g at).index (h g at).page.rows (r g at) (is_there g at)

-- A fault of the reading.

pub returns-in_err-row : goal.returns-in_err-row
returns-in_err-row g c =
    let p = err_from_is_err_and c.from_residual.result c.from_residual.ensures.1 in
    let place = c.args.place.now in
    let inv = c.loop-row.invariant in
    let run = c.loop-row.run in
    let first = c.args.run.now in
    let a = g.S.Station.view c.args.station.now in
    let b = g.S.Station.view c.loop-row.station in
    let z = g.S.Station.view c.next_of.new.station in
    let off = c.in_err-row.ensures.fault in
    let tall = ap (λ (t : TallyView). 2 ^ t.height) inv.tally in
    copies_err place c.args.key.now first c.next_of.new.run c.args.frames.now c.loop-row.frames a z c.from_residual.result c.in_err-row.field-0.0 (rw p.2 at p.1) (off.2.tally ∙ inv.tally)
    (tries_on place (2 ^ first.ahead.tally.now.height) first.taken.written run.taken.written first.ahead.reader.next run.ahead.reader.next c.args.frames.now c.loop-row.frames c.loop-row.frames a b z (taking_inside place run.taken c.loop-row.frames inv.amid.taking) inv.goes
    (subst (λ (n : ℕ). Tries place n run.taken.written run.ahead.reader.next c.loop-row.frames c.loop-row.frames b z) tall (reads_tries place _ run c.next_of.new.run.ahead c.loop-row.frames b z inv.amid off.2)))
    (subst (IsCopyFault place c.args.key.now first a) (sym off.1) (read_copy_fault place run.ahead c.next_of.new.run.ahead b z off.0 off.2 c.args.key.now first a (told_on inv.goes.steps.frame)))
    (subst (IsOverKept place first) (sym off.1) (read_over place run.ahead c.next_of.new.run.ahead b z off.0 off.2 first))
    (subst (λ (t : TallyView). IsLiveDamage place first.ahead.reader.next a.travel z.travel t c.in_err-row.field-0.0) inv.tally
    (damage_on place first.taken.written run.taken.written first.ahead.reader.next run.ahead.reader.next c.args.frames.now c.loop-row.frames a b z run.ahead.tally.now c.in_err-row.field-0.0 inv.goes
    (subst (IsLiveDamage place run.ahead.reader.next b.travel z.travel run.ahead.tally.now) (sym off.1) (read_damage place run.ahead c.next_of.new.run.ahead b z off.0 off.2))))
    (λ disk. rose_on a b z.disk_faults inv.goes.steps.frame.disk_faults (off.2.failed (failed_as {T = Unit {0}} off.0 (disk_of off.0 (sym off.1 ∙ disk)))))

-- A fault of the packing.

pub returns-in_err-take_result : goal.returns-in_err-take_result
returns-in_err-take_result g c =
    let p = err_from_is_err_and c.from_residual-in_err-take_result.result c.from_residual-in_err-take_result.ensures.1 in
    let at = (goal.at.returns-in_err-take_result g c).In-Some in
    let mid_at = (goal.at.returns-in_err-take_result g c).In_ok-row in
    let place = c.args.place.now in
    let inv = c.loop-row.invariant in
    let m = c.next_of.new.run in
    let first = c.args.run.now in
    let a = g.S.Station.view c.args.station.now in
    let b = g.S.Station.view c.next_of.new.station in
    let z = g.S.Station.view c.take_result.new.station in
    let amid = mid_amid g mid_at in
    let packs = c.take_result.ensures in
    let fault = c.in_err-take_result.ensures.fault in
    copies_err place c.args.key.now first (record m { taken = c.take_result.new.taken }) c.args.frames.now c.take_result.new.frames a z c.from_residual-in_err-take_result.result c.in_err-take_result.field-0.0 (rw p.2 at p.1) (mid_tally g mid_at)
    (tries_on place (2 ^ first.ahead.tally.now.height) first.taken.written m.taken.written first.ahead.reader.next m.ahead.reader.next c.args.frames.now c.loop-row.frames c.take_result.new.frames a b z (taking_inside place m.taken c.loop-row.frames amid.taking) (mid_goes g mid_at)
    (packs_tries place (2 ^ first.ahead.tally.now.height) m.ahead.reader.next (r g at) _ m.taken c.take_result.new.taken c.loop-row.frames c.take_result.new.frames b z (omega (arith, amid.live.ahead.within, amid.live.ahead.end_is, tall g mid_at)) amid.taking packs))
    (packing_copy_fault place c.args.key.now first a m.taken.records c.in_err-take_result.field-0.0 fault inv.copied (left_in (array_of a.held) (passed m.ahead)) (r g at) (omega (arith, inv.count, ap (λ (t : Taken). t.records) (same_taken g mid_at))) (hit g at) (split_hit g at))
    (packing_over place first m.taken.records c.in_err-take_result.field-0.0 fault (omega (arith, mid_walked g mid_at, some_lt m.ahead.index m.ahead.page.rows (r g at) (is_there g at), sum_by-take-le (λ x. x) m.ahead.tally.now.counts m.ahead.reader.next, ap (λ (t : TallyView). sum t.counts) (mid_tally g mid_at))))
    (packing_damage place first.ahead.reader.next a.travel z.travel first.ahead.tally.now (most_records place.layout) m.taken.records c.in_err-take_result.field-0.0 fault)
    (λ disk. rose_on a b z.disk_faults (mid_goes g mid_at).steps.frame.disk_faults (c.in_err-take_result.ensures.failed (disk_as {T = Unit {0}} c.in_err-take_result.field-0.0 disk)))

-- The record was packed.

pub loop-row-preserved : goal.loop-row-preserved
loop-row-preserved g c =
    let at = (goal.at.loop-row-preserved g c).In-Some in
    let mid_at = (goal.at.loop-row-preserved g c).In_ok-row in
    let place = c.args.place.now in
    let inv = c.loop-row.invariant in
    let m = c.next_of.new.run in
    let first = c.args.run.now in
    let t = c.take_result.new.taken in
    let f = c.loop-row.frames in
    let k = c.take_result.new.frames in
    let a = g.S.Station.view c.args.station.now in
    let b = g.S.Station.view c.next_of.new.station in
    let z = g.S.Station.view c.take_result.new.station in
    let amid = mid_amid g mid_at in
    let packs = c.take_result.ensures in
    let ok = c.in_ok-take_result.ensures in
    let e = record_of c.in-Some.row in
    let lt = some_lt m.ahead.index m.ahead.page.rows e (is_there g at) in
    let next : c.pass.new.ahead ≡ passed m.ahead = c.pass.ensures.ahead in
    let goes = goes_on place first.taken.written m.taken.written t.written first.ahead.reader.next m.ahead.reader.next m.ahead.reader.next c.args.frames.now f k a b z (mid_goes g mid_at) (packs_goes place tt e m.taken t m.ahead.reader.next f k b z ok) in
    record {
      copied = inv.copied ++ e ∷ [];
      amid = subst (λ (x : Ahead). IsAmid place (record m { ahead = x; taken = t }) k z) (sym next) (amid_packed tt place m t e f k b z (is_there g at) lt amid ok);
      taken = λ rows is. subst (IsTaken place.layout t k) (append_assoc rows inv.copied (e ∷ [])) (ok.taken (rows ++ inv.copied) (mid_taken g mid_at rows is));
      packed = λ told rows is before. subst (λ (l : List Record). HasPacked place l t.written z.held) (append_assoc rows inv.copied (e ∷ []))
          (ok.packed (told_on (mid_goes g mid_at).steps.frame told) (rows ++ inv.copied) (mid_taken g mid_at rows is) (mid_packed g mid_at told rows is before));
      split = λ told. split_hit g at told ∙ ap (λ (l : List Record). inv.copied ++ l) (under_hit c.args.key.now e (left_in (array_of a.held) (passed m.ahead)) (hit g at))
          ∙ sym (append_assoc inv.copied (e ∷ []) (under c.args.key.now (left_in (array_of a.held) (passed m.ahead)))) ∙ ap (λ (x : Ahead). (inv.copied ++ e ∷ []) ++ under c.args.key.now (left_in (array_of a.held) x)) (sym next);
      rest = λ told. inv.rest told ∙ ap (over c.args.key.now) (left_hit g at told) ∙ over_hit c.args.key.now e (left_in (array_of a.held) (passed m.ahead)) (hit g at)
          ∙ ap (λ (x : Ahead). over c.args.key.now (left_in (array_of a.held) x)) (sym next);
      upto = upto_of c.args.key.now t.last e (hit g at) ok.last;
      same = ap (λ (s : MergeRun). record s { ahead = c.pass.new.ahead; taken = t }) (mid_same g mid_at);
      ended = ok.ended ∙ ap (λ (x : Taken). x.ended) (same_taken g mid_at) ∙ inv.ended;
      tally = ap (λ (x : Ahead). x.tally.now) next ∙ mid_tally g mid_at;
      count = omega (arith, ok.count, inv.count, ap (λ (x : Taken). x.records) (same_taken g mid_at), length-append inv.copied (e ∷ []));
      walked = omega (arith, ok.count, mid_walked g mid_at, lt, ap (λ (x : Ahead). hand x) next, ap (λ (x : Ahead). read_by x) next);
      goes = subst (λ (x : Ahead). Goes place first.taken.written t.written first.ahead.reader.next x.reader.next c.args.frames.now k a z) (sym next) goes;
    }

-- No record is below the key.

pub returns : goal.returns
returns g c =
    let mid_at = (goal.at.returns g c).In_ok-row in
    let place = c.args.place.now in
    let key = c.args.key.now in
    let inv = c.loop-row.invariant in
    let m = c.next_of.new.run in
    let first = c.args.run.now in
    let f = c.loop-row.frames in
    let a = g.S.Station.view c.args.station.now in
    let b = g.S.Station.view c.next_of.new.station in
    let amid = mid_amid g mid_at in
    let stops = c.in_ok-row.ensures.stops (subst (λ (o : Option Row). IsNone o) (sym c.in_default.is) refl) in
    let none : Told a → IsAscending (left_in (array_of a.held) m.ahead) × (begins_under key (left_in (array_of a.held) m.ahead) ≡ false) = λ told.
    let segments = array_of a.held in
    let told_b = told_on (mid_goes g mid_at).steps.frame told in
    let same : array_of b.held ≡ segments = array_on place first.ahead c.requires.amid.live (mid_goes g mid_at).steps told in
    let size = own_size place first.ahead.tally.now a.held (c.requires.amid.live.stands a.held (inl (told, refl))) in
    let up = subst (λ (s : Array). IsAscending (left_in s m.ahead)) same (ascending_left place m.ahead amid.live.ahead (array_of b.held) (amid.live.order told_b)) in
    let stop = left_over segments m.ahead (omega (arith, amid.live.ahead.end_is, tall g mid_at, size)) key stops in
    (up, stop) in
    record {
      amid = amid;
      stops = stops;
      upto = subst (λ (x : Taken). IfSome key (λ k. begins_above x.last ((k, []) ∷ []) ≡ true)) (sym (same_taken g mid_at)) inv.upto;
      taken = λ told rows is. subst (λ (l : List Record). IsTaken place.layout m.taken f (rows ++ l)) (sym (all told (none told))) (mid_taken g mid_at rows is);
      packed = λ told rows is before. subst (λ (l : List Record). HasPacked place (rows ++ l) m.taken.written b.held) (sym (all told (none told))) (mid_packed g mid_at told rows is before);
      left = λ told. sym (inv.rest told ∙ ap (over key) (sym (same_left g mid_at told)) ∙ over_stop key (left_in (array_of a.held) m.ahead) (none told).0 (none told).1);
      same = mid_same g mid_at;
      ended = ap (λ (x : Taken). x.ended) (same_taken g mid_at) ∙ inv.ended;
      count = mid_walked g mid_at;
      over = tt;
      tally = mid_tally g mid_at;
      goes = mid_goes g mid_at;
      tries = goes_tries place (2 ^ first.ahead.tally.now.height) first.taken.written m.taken.written first.ahead.reader.next m.ahead.reader.next c.args.frames.now f a b (taking_inside place m.taken f amid.taking)
          (omega (arith, amid.taking.place.behind, amid.taking.few)) (omega (arith, amid.live.ahead.within, amid.live.ahead.end_is, tall g mid_at)) (mid_goes g mid_at);
      faulty = tt;
      damage = tt;
      failed = λ is. absurd (never_disk {T = Unit {0}} tt is);
    }
  where
    all : Told (g.S.Station.view c.args.station.now) → IsAscending (left_in (array_of (g.S.Station.view c.args.station.now).held) c.next_of.new.run.ahead) × (begins_under c.args.key.now (left_in (array_of (g.S.Station.view c.args.station.now).held) c.next_of.new.run.ahead) ≡ false)
        → under c.args.key.now (left_in (array_of (g.S.Station.view c.args.station.now).held) c.args.run.now.ahead) ≡ c.loop-row.invariant.copied
    all told none =
        let mid_at = (goal.at.returns g c).In_ok-row in
        c.loop-row.invariant.split told
        ∙ ap (λ (l : List Record). c.loop-row.invariant.copied ++ l)
        (ap (under c.args.key.now) (sym (same_left g mid_at told)) ∙ under_stop c.args.key.now (left_in (array_of (g.S.Station.view c.args.station.now).held) c.next_of.new.run.ahead) none.0 none.1)
        ∙ append-nil c.loop-row.invariant.copied

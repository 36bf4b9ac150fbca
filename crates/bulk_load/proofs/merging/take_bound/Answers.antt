use Rattle.std.proofs.lemmas.List.Sums.{sum_by-take-le}
use Rattle.std.proofs.Common.{◌≡◌, ℕ, ◌+◌, ◌^◌, Bool, true, false, List, [], ◌∷◌, ◌++◌, Option, Some, refl, sym, ap, subst, ◌∙◌, arith, sum}
use Rattle.std.specs.Prelude.{Result}
use Rattle.std.proofs.lemmas.List.{length-append}
use Rattle.std.proofs.lemmas.Result.{err_from_is_err_and}
use Rattle.std.specs.FinMap.{entries}
use Rattle.station.proofs.Composition.{told_on}
use Rattle.key_slot.specs.Row.{record_of}
use Rattle.map_model.specs.Image.{array_of}
use Rattle.map_model.specs.ItemWords.{effect_count}
use Rattle.map_model.specs.FileReasons.{begins_above}
use Rattle.map_model.specs.Store.{bind, effect_by}
use Rattle.window_tally.specs.TallyView.{TallyView}
use Rattle.command_text.specs.declared.merge.MergeLine.TheVariants.{Bind}
use Rattle.resize_region.proofs.OldRowLaws.{rose_on}
use Rattle.bulk_load.specs.declared.fault.LoadFault.{LoadFault}
use Rattle.bulk_load.specs.declared.run.Found.{Found}
use Rattle.bulk_load.specs.declared.run.MergeRun.{MergeRun}
use Rattle.bulk_load.specs.Ahead.{IsAbove, left_in, under}
use Rattle.bulk_load.specs.Amid.{TakesUpdate, counts_in}
use Rattle.bulk_load.specs.Loads.{most_records}
use Rattle.bulk_load.specs.MergeText.{front_rows}
use Rattle.bulk_load.specs.MergeLines.{reads}
use Rattle.bulk_load.proofs.AloneLaws.{alone_edit, copy_no_line, pack_no_line, stays_of, copy_due, bound_binds, bound_balance, pack_due}
use Rattle.bulk_load.proofs.AmidLaws.{array_on, goes_on, goes_tries, live_on, packs_goes, packs_tries, taking_inside, tries_on}
use Rattle.bulk_load.proofs.Calls.{fill_on}
use Rattle.bulk_load.proofs.CopyLaws.{disk_as, disk_is, never_disk, packing_damage}
use Rattle.bulk_load.proofs.MergedLaws.{any_value, bound_counts, bound_sum, copy_may_stop, copy_update_fault, edit_goes, front_size, goes_parts, merged_edit, pack_may_stop, pack_update_fault}
use Rattle.bulk_load.proofs.merging.take_bound.Goals as goal
use Rattle.bulk_load.proofs.merging.take_bound.Goals.{In_ok-met}

pub returns-in_err-met : goal.returns-in_err-met
returns-in_err-met g c n =
    let p = err_from_is_err_and c.from_residual.result c.from_residual.ensures.1 in
    let meets = c.in_err-met.ensures in
    let place = c.args.place.now in
    let old = c.args.run.now in
    let a = g.S.Station.view c.args.station.now in
    subst (λ (x : Result (Unit {0}) LoadFault). TakesUpdate place n (Bind c.args.row.now) x old c.meet_key.new.run c.args.frames.now c.meet_key.new.frames a (g.S.Station.view c.meet_key.new.station)) (sym (rw p.2 at p.1)) (record {
      between = tt;
      takes = tt;
      faulty = λ told m edits has. copy_update_fault place m edits old c.args.frames.now a has (bind c.args.row.now.key c.args.row.now.value) n (Bind c.args.row.now) refl c.requires.goes c.in_err-met.field-0.0 meets.faulty told;
      stops = copy_may_stop place (Some c.args.row.now.key) old a c.in_err-met.field-0.0 meets.faulty;
      alone = tt;
      due = λ edits has. copy_due edits old has.keys (bind c.args.row.now.key c.args.row.now.value) place c.requires.between.balance has.binds n (Bind c.args.row.now) refl c.requires.goes c.in_err-met.field-0.0 (copy_no_line place (Some c.args.row.now.key) old a c.in_err-met.field-0.0 meets.faulty) meets.over;
      stays = stays_of a (g.S.Station.view c.meet_key.new.station) c.in_err-met.field-0.0 (copy_no_line place (Some c.args.row.now.key) old a c.in_err-met.field-0.0 meets.faulty);
      tally = meets.tally;
      goes = tt;
      tries = meets.tries;
      damage = meets.damage;
      failed = λ is. meets.failed (disk_as {T = Bool} c.in_err-met.field-0.0 (disk_is {T = Unit {0}} c.in_err-met.field-0.0 is));
    })

pub meet_key-requires-clause-few : goal.meet_key-requires-clause-few
meet_key-requires-clause-few g c = (goes_parts c.args.run.now (c.args.row.now.key) c.requires.goes).1

pub meet_key-requires-clause-below : goal.meet_key-requires-clause-below
meet_key-requires-clause-below g c = c.requires.between.behind (c.args.row.now.key, []) (goes_parts c.args.run.now (c.args.row.now.key) c.requires.goes).2

-- what was met
module _ (g : _) (c : In_ok-met g) where
  abbrev mid : MergeRun
  mid = c.meet_key.new.run

  same_found : mid.found ≡ c.args.run.now.found
  same_found = ap (λ (s : MergeRun). s.found) c.in_ok-met.ensures.same

  edits_more : mid.edits ≡ c.args.run.now.edits + 1
  edits_more = ap (λ (s : MergeRun). s.edits) c.in_ok-met.ensures.same

  last_is : mid.last ≡ Some c.args.row.now.key
  last_is = ap (λ (s : MergeRun). s.last) c.in_ok-met.ensures.same

  not_ended : mid.taken.ended ≡ false
  not_ended = c.in_ok-met.ensures.ended ∙ (goes_parts c.args.run.now c.args.row.now.key c.requires.goes).0

pub note_bound-requires : goal.note_bound-requires
note_bound-requires g c =
    let at = (goal.at.note_bound-requires g c).In_ok-met in
    omega (arith, c.requires.between.counted, (goes_parts c.args.run.now c.args.row.now.key c.requires.goes).1, ap (λ (f : Found). f.stored) (same_found g at), ap (λ (f : Found). f.replaced) (same_found g at), ap (λ (f : Found). f.removed) (same_found g at), ap (λ (f : Found). f.absent) (same_found g at))

pub take_result-requires-clause-above : goal.take_result-requires-clause-above
take_result-requires-clause-above g c = any_value c.meet_key.new.run.taken.last c.args.row.now.key c.args.row.now.value [] ∙ c.in_ok-met.ensures.upto

pub take_result-requires-clause-can : goal.take_result-requires-clause-can
take_result-requires-clause-can g c = c.in_ok-met.ensures.amid.can

pub take_result-requires-clause-taking : goal.take_result-requires-clause-taking
take_result-requires-clause-taking g c = c.in_ok-met.ensures.amid.taking

pub returns : goal.returns
returns g c n =
    let at = (goal.at.returns g c).In_ok-met in
    let place = c.args.place.now in
    let old = c.args.run.now in
    let m = c.meet_key.new.run in
    let t = c.take_result.new.taken in
    let found = c.note_bound.new.found in
    let e = record_of c.args.row.now in
    let u = bind c.args.row.now.key c.args.row.now.value in
    let f = c.args.frames.now in
    let f1 = c.meet_key.new.frames in
    let f2 = c.take_result.new.frames in
    let a = g.S.Station.view c.args.station.now in
    let b = g.S.Station.view c.meet_key.new.station in
    let z = g.S.Station.view c.take_result.new.station in
    let meets = c.in_ok-met.ensures in
    let packs = c.in_ok-take_result.ensures in
    let new : MergeRun = record m { taken = t; found = found } in
    let same = same_found g at in
    let parts = goes_parts old c.args.row.now.key c.requires.goes in
    let more = packs_goes place tt e m.taken t m.ahead.reader.next f1 f2 b z packs in
    let goes = goes_on place old.taken.written m.taken.written t.written old.ahead.reader.next m.ahead.reader.next m.ahead.reader.next f f1 f2 a b z meets.goes more in
    let live = live_on place m.ahead meets.amid.live packs.steps in
    record {
      between = record {
        amid = record {
          can = fill_on place f1 f2 meets.amid.can packs.journal packs.steps;
          live = live;
          taking = packs.taking;
          above = subst (λ (k : Option (List ℕ)). IsAbove k m.ahead) (sym packs.last) meets.passed;
        };
        behind = λ r over. ap (λ (l : Option (List ℕ)). begins_above l (r ∷ [])) (packs.last ∙ sym (last_is g at)) ∙ over;
        counted = ap (λ (x : Found). x.stored + x.replaced + x.removed + x.absent) c.note_bound.ensures ∙ bound_sum c.in_ok-met.met m.found
            ∙ ap (λ (x : Found). x.stored + x.replaced + x.removed + x.absent + 1) same ∙ omega (arith, c.requires.between.counted, edits_more g at);
        few = omega (arith, edits_more g at, parts.1);
        balance = omega (arith, packs.count, meets.count, c.requires.between.balance, ap (λ (x : Found). x.stored) c.note_bound.ensures, ap (λ (x : Found). x.removed) c.note_bound.ensures, bound_balance c.in_ok-met.met m.found, ap (λ (x : Found). x.stored) same, ap (λ (x : Found). x.removed) same);
      };
      takes = λ told w edits has.
          let told_b = told_on meets.goes.steps.frame told in
          let segments = array_of a.held in
          let taken = packs.taken (front_rows edits (entries w) ++ under (Some c.args.row.now.key) (left_in segments old.ahead)) (meets.taken told (front_rows edits (entries w)) has.taken) in
          let packed = packs.packed told_b (front_rows edits (entries w) ++ under (Some c.args.row.now.key) (left_in segments old.ahead)) (meets.taken told (front_rows edits (entries w)) has.taken) (meets.packed told (front_rows edits (entries w)) has.taken has.packed) in
          let merged = merged_edit place w edits old f a has u new f2 z c.requires.goes c.in_ok-met.met taken packed (meets.left told) (array_on place old.ahead c.requires.between.amid.live goes.steps told)
          (ap (λ (x : Found). counts_in x) c.note_bound.ensures ∙ bound_counts c.in_ok-met.met m.found c.args.row.now.key c.args.row.now.value ∙ ap (λ (x : Found). effect_count (effect_by c.in_ok-met.met true u) (counts_in x)) same) (meets.met told) (edits_more g at) (last_is g at) in
          record {
            now = edits ++ u ∷ [];
            after = edit_goes place w edits old f a has u (most_records place.layout) n (Bind c.args.row.now) refl c.requires.goes (omega (arith, merged.taken.count, packs.few)) ∙ ap (reads (edits ++ u ∷ [])) (sym (packs.ended ∙ not_ended g at));
            merged = merged;
          };
      faulty = tt;
      stops = tt;
      alone = λ edits has. alone_edit edits old has.keys u n (Bind c.args.row.now) refl c.requires.goes new (packs.ended ∙ not_ended g at) (edits_more g at) (last_is g at) has.binds (omega (arith, ap (λ (x : Found). x.stored + x.replaced) c.note_bound.ensures, bound_binds c.in_ok-met.met m.found, ap (λ (x : Found). x.stored) same, ap (λ (x : Found). x.replaced) same));
      due = tt;
      stays = tt;
      tally = meets.tally;
      goes = goes;
      tries = goes_tries place (2 ^ old.ahead.tally.now.height) old.taken.written t.written old.ahead.reader.next m.ahead.reader.next f f2 a z (taking_inside place t f2 packs.taking) (omega (arith, packs.taking.place.behind, packs.taking.few))
          (omega (arith, meets.amid.live.ahead.within, meets.amid.live.ahead.end_is, ap (λ (x : TallyView). 2 ^ x.height) meets.tally)) goes;
      damage = tt;
      failed = λ is. absurd (never_disk {T = Unit {0}} tt is);
    }

pub returns-in_err-take_result : goal.returns-in_err-take_result
returns-in_err-take_result g c =
    let p = err_from_is_err_and c.from_residual-in_err-take_result.result c.from_residual-in_err-take_result.ensures.1 in
    rw (p.1, p.2) (λ n. let at = (goal.at.returns-in_err-take_result g c).In_ok-met in let place = c.args.place.now in let old = c.args.run.now in let m = c.meet_key.new.run in let t = c.take_result.new.taken in let e = record_of c.args.row.now in let u = bind c.args.row.now.key c.args.row.now.value in let f = c.args.frames.now in let f1 = c.meet_key.new.frames in let f2 = c.take_result.new.frames in let a = g.S.Station.view c.args.station.now in let b = g.S.Station.view c.meet_key.new.station in let z = g.S.Station.view c.take_result.new.station in let meets = c.in_ok-met.ensures in let packs = c.take_result.ensures in record {
      between = tt;
      takes = tt;
      faulty = λ told w edits has.
          let segments = array_of a.held in
          let low = under (Some c.args.row.now.key) (left_in segments old.ahead) in
          let taken = meets.taken told (front_rows edits (entries w)) has.taken in
          pack_update_fault place w edits old f a has u n m.taken.records (Bind c.args.row.now) refl c.requires.goes (omega (arith, front_size place w edits old f a has u, taken.count, has.taken.count, length-append (front_rows edits (entries w)) low)) c.in_err-take_result.field-0.0 c.in_err-take_result.ensures.fault;
      stops = pack_may_stop (most_records place.layout) m.taken.records c.in_err-take_result.field-0.0 c.in_err-take_result.ensures.fault;
      alone = tt;
      due = λ edits has. pack_due edits old has.keys u place c.requires.between.balance has.binds n (Bind c.args.row.now) refl c.requires.goes m.taken.records c.in_err-take_result.field-0.0 c.in_err-take_result.ensures.fault (omega (arith, meets.count, sum_by-take-le (λ x. x) m.ahead.tally.now.counts m.ahead.reader.next, ap (λ (x : TallyView). sum x.counts) meets.tally));
      stays = stays_of a z c.in_err-take_result.field-0.0 (pack_no_line (most_records place.layout) m.taken.records c.in_err-take_result.field-0.0 c.in_err-take_result.ensures.fault);
      tally = meets.tally;
      goes = tt;
      tries = tries_on place (2 ^ old.ahead.tally.now.height) old.taken.written m.taken.written old.ahead.reader.next m.ahead.reader.next f f1 f2 a b z (taking_inside place m.taken f1 meets.amid.taking) meets.goes
          (packs_tries place (2 ^ old.ahead.tally.now.height) m.ahead.reader.next e _ m.taken t f1 f2 b z (omega (arith, meets.amid.live.ahead.within, meets.amid.live.ahead.end_is, ap (λ (x : TallyView). 2 ^ x.height) meets.tally)) meets.amid.taking packs);
      damage = packing_damage place old.ahead.reader.next a.travel z.travel old.ahead.tally.now (most_records place.layout) m.taken.records c.in_err-take_result.field-0.0 c.in_err-take_result.ensures.fault;
      failed = λ is. rose_on a b z.disk_faults meets.goes.steps.frame.disk_faults (c.in_err-take_result.ensures.failed is);
    })

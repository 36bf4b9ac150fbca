use Rattle.std.proofs.Common.{◌≡◌, ℕ, ◌+◌, Bool, true, false, List, [], ◌∷◌, ◌++◌, Option, Some, refl, sym, ap, subst, ◌∙◌, arith}
use Rattle.std.specs.Prelude.{Result}
use Rattle.std.proofs.lemmas.List.{append-nil}
use Rattle.std.proofs.lemmas.Result.{err_from_is_err_and}
use Rattle.std.specs.FinMap.{entries}
use Rattle.key_slot.specs.Record.{Record}
use Rattle.map_model.specs.Image.{array_of}
use Rattle.map_model.specs.ItemWords.{effect_count}
use Rattle.map_model.specs.FileReasons.{begins_above}
use Rattle.map_model.specs.Store.{effect_by, unbind}
use Rattle.command_text.specs.declared.merge.MergeLine.TheVariants.{Remove}
use Rattle.bulk_load.specs.declared.fault.LoadFault.{LoadFault}
use Rattle.bulk_load.specs.declared.run.Found.{Found}
use Rattle.bulk_load.specs.declared.run.MergeRun.{MergeRun}
use Rattle.bulk_load.specs.Ahead.{left_in, under}
use Rattle.bulk_load.specs.Amid.{TakesUpdate, counts_in}
use Rattle.bulk_load.specs.Loads.{most_records}
use Rattle.bulk_load.specs.MergeText.{front_rows}
use Rattle.bulk_load.specs.MergeLines.{reads}
use Rattle.bulk_load.specs.Packing.{IsTaken, HasPacked}
use Rattle.bulk_load.proofs.AloneLaws.{alone_edit, copy_no_line, stays_of, copy_due, removed_binds, removed_balance}
use Rattle.bulk_load.proofs.AmidLaws.{array_on}
use Rattle.bulk_load.proofs.CopyLaws.{disk_as, disk_is, never_disk}
use Rattle.bulk_load.proofs.MergedLaws.{copy_may_stop, copy_update_fault, edit_goes, goes_parts, merged_edit, above_key, removed_counts, removed_sum}
use Rattle.bulk_load.proofs.merging.take_removed.Goals as goal
use Rattle.bulk_load.proofs.merging.take_removed.Goals.{In_ok-met}

pub returns-in_err-met : goal.returns-in_err-met
returns-in_err-met g c n =
    let p = err_from_is_err_and c.from_residual.result c.from_residual.ensures.1 in
    let meets = c.in_err-met.ensures in
    let place = c.args.place.now in
    let old = c.args.run.now in
    let a = g.S.Station.view c.args.station.now in
    subst (λ (x : Result (Unit {0}) LoadFault). TakesUpdate place n (Remove c.args.key.now) x old c.meet_key.new.run c.args.frames.now c.meet_key.new.frames a (g.S.Station.view c.meet_key.new.station)) (sym (rw p.2 at p.1)) (record {
      between = tt;
      takes = tt;
      faulty = λ told m edits has. copy_update_fault place m edits old c.args.frames.now a has (unbind c.args.key.now) n (Remove c.args.key.now) refl c.requires.goes c.in_err-met.field-0.0 meets.faulty told;
      stops = copy_may_stop place (Some c.args.key.now) old a c.in_err-met.field-0.0 meets.faulty;
      alone = tt;
      due = λ edits has. copy_due edits old has.keys (unbind c.args.key.now) place c.requires.between.balance has.binds n (Remove c.args.key.now) refl c.requires.goes c.in_err-met.field-0.0 (copy_no_line place (Some c.args.key.now) old a c.in_err-met.field-0.0 meets.faulty) meets.over;
      stays = stays_of a (g.S.Station.view c.meet_key.new.station) c.in_err-met.field-0.0 (copy_no_line place (Some c.args.key.now) old a c.in_err-met.field-0.0 meets.faulty);
      tally = meets.tally;
      goes = tt;
      tries = meets.tries;
      damage = meets.damage;
      failed = λ is. meets.failed (disk_as {T = Bool} c.in_err-met.field-0.0 (disk_is {T = Unit {0}} c.in_err-met.field-0.0 is));
    })

pub meet_key-requires-clause-few : goal.meet_key-requires-clause-few
meet_key-requires-clause-few g c = (goes_parts c.args.run.now (c.args.key.now) c.requires.goes).1

pub meet_key-requires-clause-below : goal.meet_key-requires-clause-below
meet_key-requires-clause-below g c = c.requires.between.behind (c.args.key.now, []) (goes_parts c.args.run.now (c.args.key.now) c.requires.goes).2

-- what was met
module _ (g : _) (c : In_ok-met g) where
  abbrev mid : MergeRun
  mid = c.meet_key.new.run

  same_found : mid.found ≡ c.args.run.now.found
  same_found = ap (λ (s : MergeRun). s.found) c.in_ok-met.ensures.same

  edits_more : mid.edits ≡ c.args.run.now.edits + 1
  edits_more = ap (λ (s : MergeRun). s.edits) c.in_ok-met.ensures.same

  last_is : mid.last ≡ Some c.args.key.now
  last_is = ap (λ (s : MergeRun). s.last) c.in_ok-met.ensures.same

  not_ended : mid.taken.ended ≡ false
  not_ended = c.in_ok-met.ensures.ended ∙ (goes_parts c.args.run.now c.args.key.now c.requires.goes).0

pub note_removed-requires : goal.note_removed-requires
note_removed-requires g c =
    let at = (goal.at.note_removed-requires g c).In_ok-met in
    omega (arith, c.requires.between.counted, (goes_parts c.args.run.now c.args.key.now c.requires.goes).1, ap (λ (f : Found). f.stored) (same_found g at), ap (λ (f : Found). f.replaced) (same_found g at), ap (λ (f : Found). f.removed) (same_found g at), ap (λ (f : Found). f.absent) (same_found g at))

pub returns : goal.returns
returns g c n =
    let at = (goal.at.returns g c).In_ok-met in
    let place = c.args.place.now in
    let old = c.args.run.now in
    let m = c.meet_key.new.run in
    let found = c.note_removed.new.found in
    let k = c.args.key.now in
    let u = unbind k in
    let f = c.args.frames.now in
    let f1 = c.meet_key.new.frames in
    let a = g.S.Station.view c.args.station.now in
    let b = g.S.Station.view c.meet_key.new.station in
    let meets = c.in_ok-met.ensures in
    let new : MergeRun = record m { found = found } in
    let same = same_found g at in
    let parts = goes_parts old k c.requires.goes in
    record {
      between = record {
        amid = record { can = meets.amid.can; live = meets.amid.live; taking = meets.amid.taking; above = meets.amid.above };
        behind = λ r over. above_key m.taken.last k r meets.upto (ap (λ (l : Option (List ℕ)). begins_above l (r ∷ [])) (sym (last_is g at)) ∙ over);
        counted = ap (λ (x : Found). x.stored + x.replaced + x.removed + x.absent) c.note_removed.ensures ∙ removed_sum c.in_ok-met.met m.found
            ∙ ap (λ (x : Found). x.stored + x.replaced + x.removed + x.absent + 1) same ∙ omega (arith, c.requires.between.counted, edits_more g at);
        few = omega (arith, edits_more g at, parts.1);
        balance = omega (arith, meets.count, c.requires.between.balance, ap (λ (x : Found). x.stored) c.note_removed.ensures, ap (λ (x : Found). x.removed) c.note_removed.ensures, removed_balance c.in_ok-met.met m.found, ap (λ (x : Found). x.stored) same, ap (λ (x : Found). x.removed) same);
      };
      takes = λ told w edits has.
          let segments = array_of a.held in
          let front = front_rows edits (entries w) in
          let low = under (Some k) (left_in segments old.ahead) in
          let taken = subst (IsTaken place.layout m.taken f1) (sym (append-nil (front ++ low))) (meets.taken told front has.taken) in
          let packed = subst (λ (l : List Record). HasPacked place l m.taken.written b.held) (sym (append-nil (front ++ low))) (meets.packed told front has.taken has.packed) in
          let merged = merged_edit place w edits old f a has u new f1 b c.requires.goes c.in_ok-met.met taken packed (meets.left told) (array_on place old.ahead c.requires.between.amid.live meets.goes.steps told)
          (ap (λ (x : Found). counts_in x) c.note_removed.ensures ∙ removed_counts c.in_ok-met.met m.found k ∙ ap (λ (x : Found). effect_count (effect_by c.in_ok-met.met true u) (counts_in x)) same) (meets.met told) (edits_more g at) (last_is g at) in
          record {
            now = edits ++ u ∷ [];
            after = edit_goes place w edits old f a has u (most_records place.layout) n (Remove k) refl c.requires.goes (omega (arith, merged.taken.count, meets.amid.taking.few)) ∙ ap (reads (edits ++ u ∷ [])) (sym (not_ended g at));
            merged = merged;
          };
      faulty = tt;
      stops = tt;
      alone = λ edits has. alone_edit edits old has.keys u n (Remove c.args.key.now) refl c.requires.goes new (not_ended g at) (edits_more g at) (last_is g at) has.binds (omega (arith, ap (λ (x : Found). x.stored + x.replaced) c.note_removed.ensures, removed_binds c.in_ok-met.met m.found, ap (λ (x : Found). x.stored) same, ap (λ (x : Found). x.replaced) same));
      due = tt;
      stays = tt;
      tally = meets.tally;
      goes = meets.goes;
      tries = meets.tries;
      damage = tt;
      failed = λ is. absurd (never_disk {T = Unit {0}} tt is);
    }

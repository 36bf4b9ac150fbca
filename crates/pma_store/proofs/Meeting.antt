-- What an update meets, from the finding of its location on.
use Rattle.std.proofs.Common.{◌≡◌, inl, inr, ℕ, zero, suc, ◌+◌, ◌^◌, ◌<◌, ◌≤◌, [], ◌∷◌, length, take, get_or, Bool, true, false, List, Result, Ok, Err, refl, sym, ap, subst, ◌∙◌, arith}
use Rattle.std.specs.Prelude.{IfErr, IsSome, sum}
use Rattle.std.proofs.lemmas.List.{get_or_default}
use Rattle.std.proofs.lemmas.Result.{IfErr-weaker, IfOk-weaker, on_err_weaker}
use Rattle.station.specs.View.{View}
use Rattle.station.specs.declared.travel.Travel.{Travel}
use Rattle.key_slot.specs.Record.{Record}
use Rattle.map_model.specs.Store.{Update, bind, unbind}
use Rattle.segment.specs.declared.fault.StoreFault.{StoreFault}
use Rattle.window_tally.specs.declared.Change.{Change}
use Rattle.window_tally.specs.TallyView.{TallyView}
use Rattle.header_gate.specs.Places.{segment_place, segment_size}
use Rattle.redo_journal.specs.declared.place.Place.{Place}
use Rattle.range_scan.specs.SegmentFaults.{IsDamageAt}
use Rattle.pma_store.specs.declared.answers.Report.{Report}
use Rattle.pma_store.specs.declared.update.Location.{Location}
use Rattle.pma_store.specs.declared.update.Need.TheVariants as need
use Rattle.pma_store.specs.declared.answers.Outcome.{Outcome}
use Rattle.pma_store.specs.declared.answers.Outcome.TheVariants.{Unchanged, Replaced, Changed}
use Rattle.pma_store.specs.Updating.{need_of}
use Rattle.pma_store.proofs.Making.{quiet_report}
use Rattle.pma_store.specs.StoreAnswers.{reported}
use Rattle.pma_store.specs.UpdateCalls.{commit_calls, update_calls}
use Rattle.pma_store.specs.SegmentCounts.{SumsIf}
use Rattle.pma_store.specs.Damaging.{AreNextTallies, IsMetBehind, IsMetLate, IsMetMid, IsNextTally, IsOrderly, MeetsItem, UpdatesAt, UpdatesIn, change_in, moved, picked, report_at}
use Rattle.pma_store.specs.Readying.{broken_in, readied, resizes}
use Rattle.pma_store.specs.Rewrites.{commit_cost}
use Rattle.pma_store.specs.Locations.{FindsLocation}
use Rattle.pma_store.specs.StoreView.{StoreView}
use Rattle.pma_store.specs.Touching.{place_after}

-- the location is looked for again, once what was asked for is done
pub found_behind : {a b : View} (change : Change) (i : ℕ) (s mid t : StoreView) (u : Update) (r : Result Location StoreFault) (rows : List Record) → FindsLocation u r mid t rows a b
    → IsSome (broken_in change i s.tally) → mid.tally ≡ readied change i s.tally → mid.place ≡ place_after (resizes (picked change i s.tally)) s.place → IfErr r (λ fault. IsMetLate change i s t fault b)
found_behind {a} {b} change i s mid t u r rows found asks tally place = IfErr-weaker r _ _ (λ fault damage. inr (inr (subst (λ (v : StoreView). IsMetBehind change i s v fault b) (sym found.store) (record {
  asks = asks;
  tally_is = tally;
  place_is = place;
  segment = found.at;
  within = found.at_in;
  damage = damage;
  last = ap (λ (t : Travel). t.next) found.read;
})))) found.damage

-- the location isn't found
pub first_met : {T : Type 0} {a b : View} (u : Update) (fault : StoreFault) (changed_in : T → Bool) (report_in : T → Report) (s t : StoreView) (rows : List Record) → FindsLocation u (Err fault) s t rows a b → IsOrderly fault → UpdatesAt u (Err fault) changed_in report_in s t a b
first_met u fault changed_in report_in s t rows found orderly = record {
  at = found.at;
  within = found.at_in;
  own = found.at_own;
  report = tt;
  counts = tt;
  sums = tt;
  met = inl (record { damage = found.damage; read = found.read }, orderly);
  asked = omega (arith, found.calls);
  calls = tt;
  spared = λ none. omega (arith, found.unwritten);
  written = omega (arith, found.unwritten);
}

-- the update is made where it was found
module _ {T : Type 0} {a b c : View} (u : Update) (location : Location) (r : Result T StoreFault) (changed_in : T → Bool) (report_in : T → Report) (s mid t : StoreView) (rows : List Record) (found : FindsLocation u (Ok location) s mid rows a b) (updates : UpdatesIn (change_in u) location.segment r changed_in report_in mid t b c) where
  updates_at : UpdatesIn (change_in u) found.at r changed_in report_in s t b c
  updates_at = subst (λ (v : StoreView). UpdatesIn (change_in u) found.at r changed_in report_in v t b c) found.store (subst (λ (i : ℕ). UpdatesIn (change_in u) i r changed_in report_in mid t b c) found.at_is updates)

  pub then_met : UpdatesAt u r changed_in report_in s t a c
  then_met = record {
    at = found.at;
    within = found.at_in;
    own = found.at_own;
    report = updates_at.report;
    counts = updates_at.counts;
    sums = updates_at.sums;
    met = IfErr-weaker r _ _ (λ fault late. inr late) updates_at.late;
    asked = omega (arith, updates_at.asked, found.calls);
    calls = IfOk-weaker r _ _ (λ done calls. omega (arith, calls, found.calls)) updates_at.calls;
    spared = λ none. on_err_weaker r (λ few. omega (arith, few, found.unwritten)) (updates_at.spared none);
    written = omega (arith, updates_at.written, found.unwritten);
  }

-- What was made is answered in other words.

pub met_as : {T U : Type 0} {a b : View} (u : Update) (x : T) (y : U) (changed_x : T → Bool) (changed_y : U → Bool) (in_x : T → Report) (in_y : U → Report) (s t : StoreView) → changed_x x ≡ changed_y y → in_x x ≡ in_y y
    → UpdatesAt u (Ok x) changed_x in_x s t a b → UpdatesAt u (Ok y) changed_y in_y s t a b
met_as {T} {U} {a} {b} u x y changed_x changed_y in_x in_y s t changed same met = record {
  at = met.at;
  within = met.within;
  own = met.own;
  report = ap (λ (r : Report). reported r) (sym same) ∙ met.report ∙ ap (λ (b : Bool). report_at b (change_in u) met.at s.tally) changed;
  counts = met.counts;
  sums = subst (λ (b : Bool). SumsIf b (change_in u) (sum s.tally.counts) (sum t.tally.counts)) changed met.sums;
  met = tt;
  asked = met.asked;
  calls = subst (λ (r : Report). b.calls ≤ a.calls + (1 + update_calls s.place.layout s.tally.height t.tally.height r)) same met.calls;
  spared = λ none. tt;
  written = met.written;
}

-- by a store with the same counts at the same place
behind_as : {b : View} (change : Change) (i : ℕ) (s t next : StoreView) (fault : StoreFault) → next.tally ≡ t.tally → next.place ≡ t.place → IsMetBehind change i s t fault b → IsMetBehind change i s next fault b
behind_as {b} change i s t next fault tally place is = record {
  asks = is.asks;
  tally_is = tally ∙ is.tally_is;
  place_is = place ∙ is.place_is;
  segment = is.segment;
  within = subst (λ (x : TallyView). is.segment < 2 ^ x.height) (sym tally) is.within;
  damage = subst (λ (x : TallyView). IsDamageAt is.segment x.counts fault) (sym tally) is.damage;
  last = subst (λ (p : Place). b.travel.next ≡ segment_place p.layout p.region is.segment + segment_size p.layout) (sym place) is.last;
}

late_as : {b : View} (change : Change) (i : ℕ) (s t next : StoreView) (fault : StoreFault) → next.tally ≡ t.tally → next.place ≡ t.place → IsMetLate change i s t fault b → IsMetLate change i s next fault b
late_as change i s t next fault tally place late = elim late [
  | inl disk ↦ inl disk
  | inr more ↦ elim more [ inl making ↦ inr (inl making) | inr behind ↦ inr (inr (behind_as change i s t next fault tally place behind)) ]
]

pub mid_as : {b : View} (items : List Update) (s t next : StoreView) (fault : StoreFault) → next.tally ≡ t.tally → next.place ≡ t.place → IsMetMid items s t fault b → IsMetMid items s next fault b
mid_as items s t next fault tally place is = record {
  made = is.made;
  some = is.some;
  before = is.before;
  layout = is.layout;
  nexts = is.nexts;
  at = is.at;
  within = is.within;
  met = elim is.met [ inl first ↦ inl first | inr late ↦ inr (late_as _ is.at is.before t next fault tally place late) ];
}

pub met_err : {T U : Type 0} {a b : View} (u : Update) (fault : StoreFault) (changed_x : T → Bool) (changed_y : U → Bool) (in_x : T → Report) (in_y : U → Report) (s t next : StoreView) → next.tally ≡ t.tally → next.place ≡ t.place
    → UpdatesAt u (Err fault) changed_x in_x s t a b → UpdatesAt u (Err fault) changed_y in_y s next a b
met_err u fault changed_x changed_y in_x in_y s t next tally place is = record {
  at = is.at;
  within = is.within;
  own = is.own;
  report = tt;
  counts = tt;
  sums = tt;
  met = elim is.met [
    | inl first ↦ inl first
    | inr late ↦ inr (late_as (change_in u) is.at s t next fault tally place late)
  ];
  asked = is.asked;
  calls = tt;
  spared = is.spared;
  written = is.written;
}

-- What an update that asks for nothing, or for no room, comes to; one that replaces a value; and one that adds or takes.

moved_none : (u : Update) → moved u Unchanged ≡ false
moved_none (bind key value) = refl
moved_none (unbind key) = refl

pub moved_one : (u : Update) → moved u Changed ≡ true
moved_one (bind key value) = refl
moved_one (unbind key) = refl

moved_replaced : (u : Update) (there : Bool) → need_of u there ≡ need.Replace → moved u Replaced ≡ false
moved_replaced (bind key value) there asks = refl
moved_replaced (unbind key) true asks = absurd cc
moved_replaced (unbind key) false asks = absurd cc

pub quiet_within : {a : View} (u : Update) (i : ℕ) (s : StoreView) → UpdatesIn {T = Outcome × Report} (change_in u) i (Ok (Unchanged, quiet_report)) (λ done. moved u done.0) (λ done. done.1) s s a a
quiet_within u i s = record { report = ap (λ (b : Bool). report_at b (change_in u) i s.tally) (sym (moved_none u)); counts = inl refl; sums = subst (λ (b : Bool). SumsIf b (change_in u) (sum s.tally.counts) (sum s.tally.counts)) (sym (moved_none u)) refl; late = tt; asked = omega arith; calls = omega arith; spared = λ none. tt; written = omega arith }

pub replaced_within : {a b : View} (u : Update) (there : Bool) (i : ℕ) (s t : StoreView) → need_of u there ≡ need.Replace → t.tally ≡ s.tally → b.calls ≤ a.calls + commit_calls s.place.layout → b.travel.written ≤ a.travel.written + commit_cost s.place.layout → UpdatesIn {T = Outcome × Report} (change_in u) i (Ok (Replaced, quiet_report)) (λ done. moved u done.0) (λ done. done.1) s t a b
replaced_within u there i s t asks same few cost = record { report = ap (λ (b : Bool). report_at b (change_in u) i s.tally) (sym (moved_replaced u there asks)); counts = inl same; sums = subst (λ (b : Bool). SumsIf b (change_in u) (sum s.tally.counts) (sum t.tally.counts)) (sym (moved_replaced u there asks)) (ap (λ (x : TallyView). sum x.counts) same); late = tt; asked = omega (arith, few); calls = omega (arith, few); spared = λ none. tt; written = omega (arith, cost) }

-- An item.

pub item_unfound : {T : Type 0} {a b : View} (u : Update) (fault : StoreFault) (s t : StoreView) (rows : List Record) → FindsLocation u (Err fault) s t rows a b → MeetsItem {T = T} u (Err fault) s t a b
item_unfound u fault s t rows found = record {
  at = found.at;
  within = found.at_in;
  own = found.at_own;
  counts = tt;
  asked = omega (arith, found.calls);
  met = inl (record { damage = found.damage; read = found.read });
  spared = λ none. omega (arith, found.unwritten);
  written = omega (arith, found.unwritten);
}

pub item_made : {T U : Type 0} {a b : View} (u : Update) (x : T) (y : U) (changed_in : T → Bool) (report_in : T → Report) (s t : StoreView) → UpdatesAt u (Ok x) changed_in report_in s t a b → MeetsItem u (Ok y) s t a b
item_made u x y changed_in report_in s t met = record { at = met.at; within = met.within; own = met.own; counts = met.counts; asked = met.asked; met = tt; spared = λ none. tt; written = met.written }

pub item_failed : {T U : Type 0} {a b : View} (u : Update) (fault : StoreFault) (changed_in : T → Bool) (report_in : T → Report) (s t : StoreView) → UpdatesAt {T = T} u (Err fault) changed_in report_in s t a b → MeetsItem {T = U} u (Err fault) s t a b
item_failed u fault changed_in report_in s t met = record {
  at = met.at;
  within = met.within;
  own = met.own;
  counts = tt;
  asked = met.asked;
  met = elim met.met [ inl first ↦ inl first.0 | inr late ↦ inr late ];
  spared = met.spared;
  written = met.written;
}

-- A batch.

pub met_mid : {T : Type 0} {a b : View} (items : List Update) (k : ℕ) (d : Update) (s before t : StoreView) (fault : StoreFault) → k < length items → before.place.layout ≡ s.place.layout → AreNextTallies (take k items) s.tally before.tally
    → MeetsItem {T = T} (get_or items k d) (Err fault) before t a b → IsMetMid items s t fault b
met_mid {T} {a} {b} items k d s before t fault lt layout nexts item = record {
  made = k;
  some = lt;
  before = before;
  layout = layout;
  nexts = nexts;
  at = item.at;
  within = item.within;
  met = elim item.met [
    | inl first ↦ inl (first.damage, ap (λ (t : Travel). t.next) first.read)
    | inr late ↦ inr (subst (λ (u : Update). IsMetLate (change_in u) item.at before t fault b) (get_or_default items k d (unbind []) lt) late)
  ];
}

pub tallies_next : (items : List Update) (k : ℕ) (d : Update) (t v w : TallyView) → k < length items → AreNextTallies (take k items) t v → IsNextTally (get_or items k d) v w → AreNextTallies (take (suc k) items) t w
tallies_next [] k d t v w lt nexts next = absurd (omega arith)
tallies_next (u ∷ us) zero d t v w lt nexts next = (w, subst (λ (x : TallyView). IsNextTally u x w) nexts next, refl)
tallies_next (u ∷ us) (suc k) d t v w lt nexts next = (nexts.0, nexts.1, tallies_next us k d nexts.0 v w (omega arith) nexts.2 next)

-- What becomes of a file that is opened, at each moment, with the items of its intent.
use Rattle.std.proofs.Common.{◌^◌, ◌≡◌, ◌≢◌, ◌⊎◌, inl, inr, ⊎_elim, ℕ, ◌+◌, ◌≤◌, true, false, List, length, take, Some, None, Result, Ok, Err, refl, sym, ap, subst, ◌∙◌, arith}
use mathlib.Core.Bool.{true≢false}
use Rattle.std.specs.Prelude.{IsOk, IsErrOf, is_ok}
use Rattle.station.specs.Bytes.{Touched}
use Rattle.station.specs.View.{View, Told, Honest, MayHold, EachHeld, Lawful, Rose, up}
use Rattle.station.specs.Steps.{Frame, Steps}
use Rattle.station.proofs.Composition.{frame_on, honest_on, told_on, weaken}
use Rattle.station.proofs.Sayings.{leaves_in}
use Rattle.batch_intent.specs.Means.{InBatch, KeepsIntent, Means, has_waiting, map_after_all, meant_map, opening_reason, waiting}
use Rattle.batch_intent.proofs.Meanings.{batch_begun, in_layout, items_are, meant_one, waiting_kept, map_made}
use Rattle.batch_intent.proofs.OpeningReasons.{means_of_none}
use Rattle.header_gate.specs.declared.layout.Layout.{Layout}
use Rattle.header_gate.specs.declared.reason.Reason.{Reason}
use Rattle.header_gate.specs.Header.{layout_in, IsGatePlace}
use Rattle.header_gate.specs.Places.{height_limit}
use Rattle.header_gate.specs.Reasons.{header_reason}
use Rattle.header_gate.proofs.Soundness.{none_of_sound}
use Rattle.map_model.specs.ArrayState.{ArrayState, opened_state, next_states}
use Rattle.map_model.specs.After.{map_after_items}
use Rattle.map_model.specs.ItemWords.{AreAdmitted}
use Rattle.map_model.specs.Store.{Map, Update}
use Rattle.map_model.proofs.ItemEffects.{admitted_where_none}
use Rattle.recovery.specs.OpeningCosts.{opening_cost, opening_reads}
use Rattle.recovery.specs.OpeningFaults.{IsNoDamage, IsRereadFault, repair_fault}
use Rattle.recovery.specs.Opening.{OpensFile, GoesOn, SyncsFirst}
use Rattle.recovery.specs.Restores.{Opens, IsAtRest}
use Rattle.recovery.specs.declared.fault.OpenFault.{OpenFault}
use Rattle.recovery.specs.declared.fault.OpenFault.TheVariants.{Memory, Failed, NotStore, Damaged}
use Rattle.recovery.proofs.Keeping.{items_same, opens_keeps, opens_means}
use Rattle.recovery.proofs.Syncing.{LeavesSettled}
use Rattle.redo_journal.specs.Commit.{IsJournalPlace, IsRegionPlace}
use Rattle.segment.specs.declared.fault.Damage.TheVariants.{NotSegment, OtherCount, OutOfOrder}
use Rattle.segment.specs.declared.fault.StoreFault.{StoreFault}
use Rattle.segment.specs.declared.fault.StoreFault.TheVariants as store
use Rattle.pma_store.specs.StoreAnswers.{state_in}
use Rattle.pma_store.specs.Costing.{updates_cost}
use Rattle.pma_store.specs.ItemsMade.{IsItemPlace, MakesItems}
use Rattle.pma_store.specs.Looking.{TellsOther}
use Rattle.pma_store.specs.Meaning.{MeansNow}
use Rattle.pma_store.specs.Opens.{OpensMeant, IsAllAtRest, WritesOpening, TellsOtherCount}
use Rattle.pma_store.specs.StoreView.{StoreView, StandsOn, limit_of}
use Rattle.pma_store.specs.Touching.{IsUpdatePlace}
use Rattle.pma_store.proofs.Making.{stands_there}
use Rattle.pma_store.proofs.Moments.{batch_held, if_told}
use Rattle.pma_store.proofs.Resting.{covered_held}
use Rattle.pma_store.proofs.Touching.{moves_touch}

-- touched twice at the same places
touched_on_top : {X : ℕ → Type 0} (old mid new : List ℕ) → Touched X old mid → Touched X mid new → Touched X old new
touched_on_top old mid new one two = record { size = two.size ∙ one.size; rest = λ k out. two.rest k out ∙ one.rest k out }

-- What brings a file back keeps what it means.

wider : (l : Layout) (k : ℕ) → IsGatePlace k ⊎ (IsJournalPlace l k ⊎ IsRegionPlace l k) → IsItemPlace l k
wider l k is = inl (inr (inr (inr is)))

pub opens_meant : (old new : List ℕ) → Opens old new → OpensMeant old new
opens_meant old new opens = record {
  means = λ l m is. opens_means old new opens m is;
  recovers = opens.recovers;
  touched = record { size = opens.touched.size; rest = λ k out. opens.touched.rest k (λ x. out (wider (layout_in old) k x)) };
  idle = λ none. opens;
}

pub steps_meant : {a b : View} → Steps Opens a b → Steps OpensMeant a b
steps_meant ab = weaken ab (λ d i left step. opens_meant d i step)

-- none waits behind it
pub none_behind : (old new : List ℕ) → Opens old new → has_waiting old ≡ false → has_waiting new ≡ false
none_behind old new opens idle = waiting_kept old new (opens_keeps old new opens) ∙ idle

-- nothing is wrong with the header of a file that means a map
pub header_right : (image : List ℕ) → opening_reason image ≡ None → header_reason image ≡ None
header_right image sound = none_of_sound image (means_of_none image sound).represents.header

-- An opening without items.

module _ {T U : Type 0} {a b : View} where
  -- a fault is the same in another type
  pub fault_opens : (fault : OpenFault) → OpensFile {T = T} Opens IsAtRest opening_reads (Err fault) a b → OpensFile {T = U} OpensMeant IsAllAtRest opening_reads (Err fault) a b
  fault_opens fault opens = record {
    sound = tt;
    refused = opens.refused;
    complete = λ told l m is calm. inr (ap Err (memory_is (opens.complete told l m is calm)));
    steps = steps_meant opens.steps;
    late = opens.late;
    early = opens.early;
    bare = opens.bare;
    refused_settled = opens.refused_settled;
    memory = λ is. opens.memory (other is);
    memory_last = λ is. opens.memory_last (other is);
    kept = λ told rest. opens.kept told rest.rest;
    one_pass = λ told rest. opens.one_pass told rest.rest;
    unsound = opens.unsound;
    damaged = opens.damaged;
  }
    where
      memory_is : IsOk {T = T} (Err fault) ⊎ IsErrOf {T = T} (Err fault) Memory → fault ≡ Memory
      memory_is (inl is) = absurd cc
      memory_is (inr is) = cc

      same_one : IsErrOf {T = U} (Err fault) Memory → fault ≡ Memory
      same_one is = cc

      other : IsErrOf {T = U} (Err fault) Memory → IsErrOf {T = T} (Err fault) Memory
      other is = ap Err (same_one is)

  -- so is a store, where no items are to be applied
  pub idle_opens : (x : T) (y : U) → OpensFile Opens IsAtRest opening_reads (Ok x) a b → OpensFile OpensMeant IsAllAtRest opening_reads (Ok y) a b
  idle_opens x y opens = record {
    sound = opens.sound;
    refused = tt;
    complete = λ told m height is calm. inl refl;
    steps = steps_meant opens.steps;
    late = tt;
    early = tt;
    bare = tt;
    refused_settled = tt;
    memory = λ is. absurd (true≢false (ap is_ok is));
    memory_last = λ is. absurd (true≢false (ap is_ok is));
    kept = λ told rest. opens.kept told rest.rest;
    one_pass = λ told rest. opens.one_pass told rest.rest;
    unsound = opens.unsound;
    damaged = tt;
  }

-- the sync comes first there too
settled_meant : (a : View) (image said : List ℕ) → LeavesSettled Opens a image said → LeavesSettled OpensMeant a image said
settled_meant a image said left = ⊎_elim (λ may. inl may) (λ opens. inr (opens_meant a.held image opens)) left

pub synced_meant : {T U : Type 0} {a b : View} (r : Result T OpenFault) (q : Result U OpenFault) → (GoesOn q a b → GoesOn r a b) → SyncsFirst Opens r a b → SyncsFirst OpensMeant q a b
synced_meant {a = a} r q goes first = record {
  called = first.called;
  first = leaves_in (LeavesSettled OpensMeant a) first.first (λ honest image said now. settled_meant a image said now);
  synced = λ on honest image said left. opens_meant a.held image (first.synced (goes on) honest image said left);
}

pub goes_fault : {T U : Type 0} (a b : View) (fault : OpenFault) → GoesOn {T = U} (Err fault) a b → GoesOn {T = T} (Err fault) a b
goes_fault {T = T} {U = U} a b fault (inl other) = inl (λ is. other (back is))
  where
    back : IsErrOf {T = T} (Err fault) Failed → IsErrOf {T = U} (Err fault) Failed
    back is = let own : fault ≡ Failed = cc in ap Err own
goes_fault a b fault (inr more) = inr more

-- what it writes, whatever is answered
pub idle_writes : (image : List ℕ) (before after : ℕ) → after ≤ before + opening_cost (layout_in image) → WritesOpening image before after
idle_writes image before after within = record {
  back = λ idle. within;
  items = record { made = 0; some = omega arith; bytes = omega (arith, within) };
}

-- A fault of an item.

pub no_store : {P : Type 0} (fault : StoreFault) (r : Reason) → repair_fault fault ≡ NotStore r → P
no_store store.Failed r is = absurd cc
no_store (store.Damaged segment why) r is = absurd cc

no_memory : {U : Type 0} (fault : StoreFault) {P : Type 0} → IsErrOf {T = U} (Err (repair_fault fault)) Memory → P
no_memory store.Failed is = absurd cc
no_memory (store.Damaged segment why) is = absurd cc

pub failed_is : {U : Type 0} (fault : StoreFault) → IsErrOf {T = U} (Err (repair_fault fault)) Failed → fault ≡ store.Failed
failed_is store.Failed is = refl
failed_is (store.Damaged segment why) is = absurd cc

pub item_counted : (most : ℕ) → most ≤ 2 ^ 16 → (fault : StoreFault) → TellsOther most fault → TellsOtherCount (repair_fault fault)
item_counted most le store.Failed is = tt
item_counted most le (store.Damaged segment (NotSegment slot)) is = (omega (arith, is.0, le), is.1)
item_counted most le (store.Damaged segment (OtherCount found kept)) is = (omega (arith, is.0, le), is.1)
item_counted most le (store.Damaged segment OutOfOrder) is = omega (arith, is, le)

pub reread_counted : (fault : OpenFault) → IsRereadFault fault → TellsOtherCount fault
reread_counted (Damaged segment (NotSegment slot)) is = is
reread_counted (Damaged segment (OtherCount found kept)) is = is
reread_counted (Damaged segment OutOfOrder) is = absurd is.1
reread_counted Memory is = tt
reread_counted Failed is = tt
reread_counted (NotStore reason) is = tt

-- An opening with items.

module _ {X : Type 0} {a b c : View} (x : X) (items : List Update) (s t : StoreView) (r : Result ℕ StoreFault) (law_a : Lawful a) (law_b : Lawful b)
    (opens : OpensFile Opens IsAtRest opening_reads (Ok x) a b) (on_b : StandsOn s b) (layout_is : Told b → layout_in b.held ≡ s.place.layout)
    (waits : Told a → (has_waiting a.held ≡ true) × (waiting a.held ≡ items)) (made : MakesItems items r s t b c) where
  on : Told a → Told b
  on told = told_on opens.steps.frame told

  frame : Frame a c
  frame = frame_on opens.steps.frame made.touched.frame

  module _ (told : Told a) where
    means : Means (layout_in a.held) a.held (meant_map a.held)
    means = means_of_none a.held (opens.sound told)

    opened : Opens a.held b.held
    opened = opens.steps.held told

    keeps : KeepsIntent a.held b.held
    keeps = opens_keeps a.held b.held opened

    behind : Means (layout_in a.held) b.held (meant_map a.held)
    behind = opens_means a.held b.held opened (meant_map a.held) means

    pub own_layout : s.place.layout ≡ layout_in a.held
    own_layout = sym (layout_is (on told)) ∙ keeps.layout_is

    own_items : waiting b.held ≡ items
    own_items = items_same a.held b.held keeps ∙ (waits told).1

    behind_items : behind.items ≡ items
    behind_items = items_are b.held (meant_map a.held) behind ∙ own_items

    batch : EachHeld (InBatch s.place.layout behind.base items 0) b
    batch = batch_held s s.place.layout behind.base items 0 law_b on_b (λ told_b.
        let begun = batch_begun b.held (meant_map a.held) behind (waiting_kept a.held b.held keeps ∙ (waits told).0) in
        subst (λ (l : Layout). InBatch l behind.base items 0 b.held) (sym own_layout) (subst (λ (us : List Update). InBatch (layout_in a.held) behind.base us 0 b.held) own_items begun))

    admitted : AreAdmitted (limit_of s) behind.base items
    admitted =
        subst (λ (l : Layout). AreAdmitted (height_limit l) behind.base items) (sym own_layout)
        (subst (AreAdmitted (height_limit (layout_in a.held)) behind.base) behind_items (admitted_where_none (height_limit (layout_in a.held)) behind.base behind.items behind.admitted))

    after : map_after_all s.place.layout behind.base items ≡ meant_map a.held
    after = (λ τ. map_after_items (height_limit (own_layout τ)) behind.base (sym behind_items τ)) ∙ map_made b.held (meant_map a.held) behind

    now : Steps (MeansNow s.place.layout (meant_map a.held)) b c
    now = subst (λ (m : Map). Steps (MeansNow s.place.layout m) b c) after (made.steps behind.base admitted batch)

    meant_at : (image : List ℕ) → Touched (IsItemPlace s.place.layout) b.held image → Means s.place.layout image (meant_map a.held) → OpensMeant a.held image
    meant_at image touched is = record {
      means = λ l m own. in_layout image m (own_layout ∙ own.layout_is) (subst (Means s.place.layout image) (sym (meant_one a.held m own).0) is);
      recovers = λ reason wrong. let both : None ≡ Some reason = sym (opens.sound told) ∙ wrong in absurd cc;
      touched = record {
        size = touched.size ∙ opened.touched.size;
        rest = λ k out. touched.rest k (λ there. out (subst (λ (l : Layout). IsItemPlace l k) own_layout there)) ∙ opened.touched.rest k (λ there. out (wider (layout_in a.held) k there));
      };
      idle = λ none. absurd (true≢false (sym (waits told).0 ∙ none));
    }

    -- what the station may hold before the items differs in places of an update alone
    item_held : (start : List ℕ) → MayHold b start → Touched (IsItemPlace s.place.layout) b.held start
    item_held start left =
        let touched = subst (λ (l : Layout). Touched (IsUpdatePlace l) b.held start) (layout_is (on told)) (moves_touch s b.held start (stands_there s on_b (on told)) (covered_held s law_b on_b start left)) in
        record { size = touched.size; rest = λ k out. touched.rest k (λ there. out (inl there)) }

    module _ (honest : Honest a) (image said : List ℕ) where
      at_start : (start : List ℕ) → b.may_leave start → Touched (IsItemPlace s.place.layout) start image → Means s.place.layout image (meant_map a.held) → OpensMeant a.held image
      at_start start left touched is = meant_at image (touched_on_top b.held start image (item_held start (inr (honest_on opens.steps.frame honest, left))) touched) is

      -- a moment before the items, or one at which they are made
      either : {P : Type 0} (n : ℕ) → (b.may_have_left n image said → P) → (said ≡ b.said → OpensMeant a.held image → P)
          → b.may_have_left n image said ⊎ ((said ≡ b.said) × ((start : List ℕ) × b.may_leave start × Touched (IsItemPlace s.place.layout) start image))
          → b.may_have_left n image said ⊎ ((said ≡ b.said) × ((start : List ℕ) × b.may_leave start × MeansNow s.place.layout (meant_map a.held) start image))
          → P
      either n before then (inl early) other = before early
      either n before then (inr one) (inl early) = before early
      either n before then (inr one) (inr two) = then one.0 (at_start one.1.0 one.1.1 one.1.2 two.1.2)

      at_moment : {P : Type 0} (n : ℕ) → n ≤ b.calls → c.may_have_left n image said → (b.may_have_left n image said → P) → (said ≡ b.said → OpensMeant a.held image → P) → P
      at_moment n low left before then =
          let there = honest_on opens.steps.frame honest in
          either n before then (made.touched.moments.each there n image said low left) (now.moments.each there n image said low left)

    steps_told : Steps OpensMeant a c
    steps_told = record {
      frame = frame;
      held = λ _. meant_at c.held (made.touched.held (on told)) (now.held (on told));
      images = λ honest image left.
          let one = made.touched.images (honest_on opens.steps.frame honest) image left in
          let two = now.images (honest_on opens.steps.frame honest) image left in
          (a.held, law_a.held honest, at_start honest image c.said one.0 one.1 one.2 two.2);
      moments = record {
        each = λ honest n image said le left.
            at_moment honest image said n (omega (arith, le, opens.steps.frame.calls)) left (λ early. (steps_meant opens.steps).moments.each honest n image said le early)
            (λ same meant. inr (same ∙ opens.steps.frame.said, (a.held, law_a.held honest, meant)));
      };
    }

    -- the state that the opening ends in, from the one before the items
    pub state_made : state_in s b.held ≡ opened_state a.held → next_states (limit_of s) (state_in s b.held) items ≡ next_states (height_limit (layout_in a.held)) (opened_state a.held) (waiting a.held)
    state_made first = (λ τ. next_states (height_limit (own_layout τ)) (first τ) (sym (waits told).1 τ))

    -- and what it writes
    pub items_writes : state_in s b.held ≡ opened_state a.held → b.travel.written ≤ a.travel.written + opening_cost (layout_in a.held) → WritesOpening a.held a.travel.written c.travel.written
    items_writes first within =
        let some = made.most (on told) in
        let bytes : c.travel.written ≤ b.travel.written + 1 + updates_cost (layout_in a.held) (opened_state a.held) (take some.made (waiting a.held)) =
        subst (λ (us : List Update). c.travel.written ≤ b.travel.written + 1 + updates_cost (layout_in a.held) (opened_state a.held) (take some.made us)) (sym (waits told).1)
        (subst (λ (y : ArrayState). c.travel.written ≤ b.travel.written + 1 + updates_cost (layout_in a.held) y (take some.made items)) first
        (subst (λ (l : Layout). c.travel.written ≤ b.travel.written + 1 + updates_cost l (state_in s b.held) (take some.made items)) own_layout some.bytes)) in
        record {
          back = λ idle. absurd (true≢false (sym (waits told).0 ∙ idle));
          items = record {
            made = some.made;
            some = subst (λ (us : List Update). some.made ≤ length us) (sym (waits told).1) some.some;
            bytes = omega (arith, bytes, within);
          };
        }

  steps : Steps OpensMeant a c
  steps = if_told law_a frame steps_told

  -- whatever a crash leaves behind the sync comes from what was held at entry
  pub items_synced : {U : Type 0} (result : Result U OpenFault) → SyncsFirst Opens (Ok x) a b → SyncsFirst OpensMeant result a c
  items_synced result first = record {
    called = omega (arith, first.called, made.touched.frame.calls);
    first = record {
      each = λ honest n image said le left.
          at_moment (law_a.tells honest).0 honest image said n (omega (arith, le, opens.steps.frame.calls)) left
          (λ early. ⊎_elim (λ past. inl past) (λ now. inr (settled_meant a image said now)) (first.first.each honest n image said le early)) (λ same meant. inr (inr meant));
    };
    synced = λ goes honest image said left.
        at_moment (law_a.tells honest).0 honest image said (up a.calls 1) first.called left
        (λ early. opens_meant a.held image (first.synced (inl (λ is. true≢false (ap is_ok is))) honest image said early)) (λ same meant. meant);
  }

  busy : {P : Type 0} → Told a → IsAllAtRest a.held → P
  busy told rest = absurd (true≢false (sym (waits told).0 ∙ rest.no_intent))

  unsound : {P : Type 0} → Told a → header_reason a.held ≢ None → P
  unsound told wrong = absurd (wrong (header_right a.held (opens.sound told)))

  module _ {U : Type 0} where
    -- they were made
    pub items_open : (y : U) → OpensFile OpensMeant IsAllAtRest opening_reads (Ok y) a c
    items_open y = record {
      sound = opens.sound;
      refused = tt;
      complete = λ told m height is calm. inl refl;
      steps = steps;
      late = tt;
      early = tt;
      bare = tt;
      refused_settled = tt;
      memory = λ is. absurd (true≢false (ap is_ok is));
      memory_last = λ is. absurd (true≢false (ap is_ok is));
      kept = λ told rest. busy told rest;
      one_pass = λ told rest. busy told rest;
      unsound = λ told wrong. unsound told wrong;
      damaged = tt;
    }

    -- or stopped at a fault
    pub items_stop : (fault : StoreFault) → (Told b → fault ≡ store.Failed) → (fault ≡ store.Failed → Rose b.disk_faults c.disk_faults) → OpensFile {T = U} OpensMeant IsAllAtRest opening_reads (Err (repair_fault fault)) a c
    items_stop fault damaged failed = record {
      sound = tt;
      refused = λ reason is. no_store fault reason is;
      complete = λ told m height is calm. absurd (calm (omega (arith, failed (damaged (on told)), opens.steps.frame.disk_faults)));
      steps = steps;
      late = λ reason is. no_store fault reason is;
      early = λ reason is. no_store fault reason is;
      bare = λ reason is. no_store fault reason is;
      refused_settled = λ reason is. no_store fault reason is;
      memory = λ is. no_memory {U = U} fault is;
      memory_last = λ is. no_memory {U = U} fault is;
      kept = λ told rest. busy told rest;
      one_pass = λ told rest. busy told rest;
      unsound = λ told wrong. unsound told wrong;
      damaged = λ told. subst (λ (f : StoreFault). IsNoDamage (repair_fault f)) (sym (damaged (on told))) tt;
    }

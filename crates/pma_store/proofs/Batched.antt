-- The outcome of a batch, at each way out of the calls that make it.
use Rattle.std.proofs.Common.{◌^◌, ◌⊎◌, ◌≡◌, inl, inr, ℕ, ◌+◌, ◌-◌, ◌*◌, ◌<◌, ◌≤◌, ◌&&◌, nat_le, cond, Bool, true, false, T, List, [], length, Option, Some, None, is_some, is_none, Result, Ok, Err, refl, sym, ap, subst, ◌∙◌, arith}
use Rattle.std.specs.Prelude.{IfOk, IsErrOf, IsOk, sum}
use Rattle.std.proofs.lemmas.Result.{IfOk-weaker, IfErr-weaker, on_ok_weaker}
use Rattle.std.specs.List.{list_all}
use Rattle.std.proofs.lemmas.Bool.Decides.{nat_tests}
use Rattle.station.specs.Bytes.{byte, Touched, Same}
use Rattle.station.specs.View.{View, Told, EachHeld, NothingPending, Lawful, Rose}
use Rattle.station.specs.Steps.{Steps}
use Rattle.station.proofs.Composition.{told_on, weaken, touched_on, touched_in, each_on, on_same, andthen, frame_on}
use Rattle.batch_intent.specs.Gate.{IsIntentPlace, Intends}
use Rattle.batch_intent.specs.Means.{has_waiting, map_after_all}
use Rattle.batch_intent.specs.Spelling.{IsIntent, fits_item}
use Rattle.density_rule.specs.Bounds.{upper_of}
use Rattle.header_gate.specs.declared.layout.Layout.{Layout}
use Rattle.header_gate.specs.declared.layout.TheConstants.{INTENT_VERSION}
use Rattle.map_model.specs.ArrayState.{ArrayState, next_states}
use Rattle.map_model.specs.Image.{RepresentsMap, array_of, map_of}
use Rattle.map_model.specs.Items.{first_full, accepts}
use Rattle.map_model.specs.ItemWords.{ItemCounts, no_items, count_items, array_state_after_batch, charge_after_items}
use Rattle.map_model.specs.After.{map_after_items}
use Rattle.map_model.specs.Store.{Map, Update}
use Rattle.map_model.proofs.ItemEffects.{accepts_by}
use Rattle.redo_journal.specs.Rest.{RestsAt}
use Rattle.recovery.specs.Intents.{puts_in}
use Rattle.segment.specs.declared.fault.StoreFault.{StoreFault}
use Rattle.segment.specs.declared.fault.StoreFault.TheVariants.{Failed}
use Rattle.pma_store.specs.declared.answers.Batch.{Batch}
use Rattle.pma_store.specs.declared.answers.Batch.TheVariants.{Done, Full, NoBatch}
use Rattle.pma_store.specs.StoreAnswers.{state_in}
use Rattle.pma_store.specs.Batching.{AppliesBatch, CountsBatch, CountsEach, CountsEachOf, MakesAtOnce, IsBatchPlace, IsRefusal, batch_answer, charge_in, done_by, intent_cost_in, items_made, map_after_batch, version_of}
use Rattle.pma_store.specs.BatchCalls.{CallsBatch, CallsIntent, LooksOnce}
use Rattle.pma_store.specs.Costing.{most_of, updates_cost, WritesSome}
use Rattle.pma_store.specs.ItemsMade.{IsItemPlace, MakesItems}
use Rattle.pma_store.specs.ItemEffects.{ValidatesItems, validated_of}
use Rattle.pma_store.specs.Damaging.{IsMetLooking, IsMetMid}
use Rattle.pma_store.specs.Looking.{TellsOther}
use Rattle.pma_store.specs.Meaning.{BecomesMeant}
use Rattle.pma_store.specs.Once.{AreOneCommit, edited_segments}
use Rattle.pma_store.specs.Rewrites.{spared_bytes}
use Rattle.pma_store.specs.StoreView.{StoreView, Stands, StandsOn, IsOpenOn, limit_of}
use Rattle.pma_store.proofs.BatchCalls.{are_from, intent_alone, look_alone, no_looks}
use Rattle.pma_store.proofs.FoundItems.{each_before}
use Rattle.pma_store.proofs.Making.{no_fault, same_fault, stands_again, stands_on, stands_there}
use Rattle.pma_store.proofs.Moments.{IsReadyFor, begin_held, begin_steps, begun_then, idle_even, if_told, meant_idle}
use Rattle.pma_store.proofs.Resting.{map_held}
use Rattle.pma_store.proofs.Spared.{spared_stands, spared_state}
use Rattle.pma_store.proofs.Steps.{own_of, leaves_on}
use Rattle.pma_store.proofs.Touching.{untouched}

-- Faults.

-- where bytes are told it fails by the disk alone
fails_by : {T : Type 0} (a b : View) (fault : StoreFault) → (Told a → fault ≡ Failed) → (IsErrOf {T = T} (Err fault) Failed → Rose a.disk_faults b.disk_faults) → Told a → ¬ Rose a.disk_faults b.disk_faults → IsOk {T = T} (Err fault)
fails_by a b fault damaged failed told calm = absurd (calm (failed (ap Err (damaged told))))

pub fault_batch : {a c : View} (items : List Update) (fault : StoreFault) (s t : StoreView)
    → Steps (BecomesMeant s.place.layout (map_of a.held) (map_after_batch (version_of s) (limit_of s) (map_of a.held) items)) a c → Steps (Touched (IsBatchPlace s.place.layout)) a c → t.place.layout ≡ s.place.layout → t.closed ≡ s.closed
    → (Told a → WritesSome s.place.layout (state_in s a.held) (items_made (version_of s) (limit_of s) (map_of a.held) items) (a.travel.written + 514) c.travel.written)
    → c.travel.written ≤ a.travel.written + (most_of s.place.layout (length items) + 514) → CallsBatch items s a c → (Told a → AreOneCommit s.place.layout (state_in s a.held) items → MakesAtOnce items s a c)
    → (Told a → fault ≡ Failed) → TellsOther (2 ^ limit_of s) fault → (fault ≡ Failed) ⊎ ((IsMetLooking s.place s.tally fault c × (c.travel.written ≡ a.travel.written)) ⊎ IsMetMid items s t fault c) → (IsErrOf {T = Batch} (Err fault) Failed → Rose a.disk_faults c.disk_faults) → AppliesBatch items (Err fault) s t a c
fault_batch {a} {c} items fault s t meant touched layout closed most spent calls at_once damaged counted met failed = record {
  batch = record {
    answer = tt;
    state = tt;
    refused = tt;
    unread = tt;
    meant = meant;
    touched = touched;
    layout = layout;
    images = tt;
    cost = tt;
    most = most;
    spent = spent;
    looks = tt;
    calls = calls;
    at_once = at_once;
    paid = tt;
    counted = tt;
    found = tt;
    met = met;
    complete = fails_by a c fault damaged failed;
  };
  store = tt;
  no_intent = tt;
  closed = closed;
  damaged = damaged;
  counted = counted;
  failed = failed;
}

-- Calls that change no byte.

module _ {a c : View} (items : List Update) (s : StoreView) (law : Lawful a) (is : IsOpenOn s a) (steps : Steps Same a c) (unwritten : c.travel.written ≡ a.travel.written) (looks : LooksOnce items s.tally.height a c) where
  still_meant : (next : Map) → Steps (BecomesMeant s.place.layout (map_of a.held) next) a c
  still_meant next = weaken steps (λ d i left same.
      let idle = is.no_intent d left in
      let own = meant_idle s.place.layout d (map_of d) (is.on.stands d left).balanced.stands.settled.layout_is (own_of s d (is.on.stands d left)) idle in
      subst (λ (m : Map). BecomesMeant s.place.layout m next d i) (map_held s law is.on d left) (subst (λ (x : List ℕ). BecomesMeant s.place.layout (map_of d) next d x) (sym same) (inl own)))

  still_touched : Steps (Touched (IsBatchPlace s.place.layout)) a c
  still_touched = weaken steps (λ d i left same. untouched d i same)

  still_written : (us : List Update) (x : ArrayState) → WritesSome s.place.layout x us (a.travel.written + 514) c.travel.written
  still_written us x = record { made = 0; some = omega arith; bytes = omega (arith, unwritten) }

  pub still_once : Told a → AreOneCommit s.place.layout (state_in s a.held) items → MakesAtOnce items s a c
  still_once told are = record {
    touched = weaken steps (λ d i left same. untouched d i same);
    written = omega (arith, unwritten);
    unwritten = λ none. unwritten;
  }

  -- the items were validated, and are refused
  pub refused_batch : (done : Batch) → IsRefusal done → (done ≡ NoBatch → (c.travel ≡ a.travel) × (c.calls ≡ a.calls)) → (Told a → accepts (version_of s) (limit_of s) (map_of a.held) items ≡ false)
      → (Told a → done ≡ batch_answer (version_of s) (limit_of s) (state_in s a.held) items) → ((most : ℕ) → done ≡ Full most → most < sum s.tally.counts + puts_in items) → AppliesBatch items (Ok done) s s a c
  refused_batch done refusal unread refused answer full = record {
    batch = record {
      answer = answer;
      state = λ told. (λ τ. state_in s (steps.held told τ)) ∙ sym (ap (λ (b : Bool). cond b (next_states (limit_of s) (state_in s a.held) items) (state_in s a.held)) (refused told));
      refused = λ _. record { steps = steps; unwritten = unwritten; store = refl };
      unread = unread;
      meant = still_meant (map_after_batch (version_of s) (limit_of s) (map_of a.held) items);
      touched = still_touched;
      layout = refl;
      images = omega (arith, unwritten);
      cost = λ told. omega (arith, unwritten);
      most = λ told. still_written (items_made (version_of s) (limit_of s) (map_of a.held) items) (state_in s a.held);
      spent = omega (arith, unwritten);
      looks = λ _. looks;
      calls = look_alone items s looks;
      at_once = still_once;
      paid = omega (arith, nothing done refusal);
      counted = as_many done refusal (sum s.tally.counts) full;
      found = none_made done refusal;
      met = tt;
      complete = λ told calm. refl;
    };
    store = stands_on s law is.on steps;
    no_intent = each_on (λ image. has_waiting image ≡ false) (λ image. has_waiting image ≡ false) steps is.no_intent (λ d i idle same. ap has_waiting same ∙ idle);
    closed = refl;
    damaged = tt;
    counted = tt;
    failed = no_fault done;
  }
    where
      nothing : (done : Batch) → IsRefusal done → charge_in done ≡ 0
      nothing (Done stored replaced removed absent charge) refusal = absurd refusal
      nothing (Full most) refusal = refl
      nothing NoBatch refusal = refl

      as_many : (done : Batch) → IsRefusal done → (records : ℕ) → ((most : ℕ) → done ≡ Full most → most < records + puts_in items) → CountsBatch items done records records
      as_many (Done stored replaced removed absent charge) refusal records full = absurd refusal
      as_many (Full most) refusal records full = (refl, full most refl)
      as_many NoBatch refusal records full = refl

      none_made : (done : Batch) → IsRefusal done → CountsEachOf items done s s a
      none_made (Done stored replaced removed absent charge) refusal = absurd refusal
      none_made (Full most) refusal = tt
      none_made NoBatch refusal = tt

-- a file of a version without batches
pub no_batch : {a : View} (items : List Update) (s : StoreView) → IsOpenOn s a → Lawful a → Steps Same a a → version_of s < INTENT_VERSION → AppliesBatch items (Ok NoBatch) s s a a
no_batch {a} items s is law steps early =
    let below : nat_le INTENT_VERSION (version_of s) ≡ false = le_false INTENT_VERSION (version_of s) early in
    refused_batch items s law is steps refl (no_looks items s.tally.height a) NoBatch tt (λ _. (refl, refl))
    (λ told. accepts_by (version_of s) (limit_of s) (map_of a.held) items ∙ ap (λ (b : Bool). b && is_none (first_full (limit_of s) (map_of a.held) items)) below)
    (λ told. sym (ap (λ (b : Bool). cond b (cond (is_some (first_full (limit_of s) (map_of a.held) items)) (Full (upper_of (limit_of s))) (done_by (count_items (limit_of s) (map_of a.held) items no_items) (charge_after_items (limit_of s) (state_in s a.held) items))) NoBatch) below))
    (λ most is. absurd cc)
  where
    le_false : (m n : ℕ) → n < m → nat_le m n ≡ false
    le_false m n lt = grind (arith, nat_tests)

-- What the validation tells.

le_true : (m n : ℕ) → m ≤ n → nat_le m n ≡ true
le_true m n le = grind (arith, nat_tests)

none_by : (o : Option ℕ) (c : ItemCounts) → None ≡ cond (is_some o) None (Some c) → is_some o ≡ true
none_by None c is = absurd cc
none_by (Some i) c is = refl

some_by : (o : Option ℕ) (c x : ItemCounts) → Some x ≡ cond (is_some o) None (Some c) → (o ≡ None) × (x ≡ c)
some_by None c x is = (refl, some_is x c is)
  where
    some_is : (x c : ItemCounts) → Some x ≡ Some c → x ≡ c
    some_is x c is = cc
some_by (Some i) c x is = absurd cc

not_none : (o : Option ℕ) → is_some o ≡ true → is_none o ≡ false
not_none None e = absurd cc
not_none (Some i) e = refl

-- one of the items meets a full store
pub full_batch : {a c : View} (items : List Update) (s t : StoreView) (most : ℕ) → IsOpenOn s a → Lawful a → INTENT_VERSION ≤ version_of s → most ≡ upper_of (limit_of s) → ValidatesItems items (Ok None) s t a c → AppliesBatch items (Ok (Full most)) s t a c
full_batch {a} {c} items s t most is law version most_is validates =
    let at_version = le_true INTENT_VERSION (version_of s) version in
    let full = λ (told : Told a). none_by (first_full (limit_of s) (map_of a.held) items) (count_items (limit_of s) (map_of a.held) items no_items) (validates.validated told) in
    subst (λ (t : StoreView). AppliesBatch items (Ok (Full most)) s t a c) (sym validates.store)
    (refused_batch items s law is validates.steps validates.unwritten validates.looks (Full most) tt (λ e. absurd cc)
    (λ told. accepts_by (version_of s) (limit_of s) (map_of a.held) items ∙ (λ τ. at_version τ && is_none (first_full (limit_of s) (map_of a.held) items)) ∙ not_none (first_full (limit_of s) (map_of a.held) items) (full told))
    (λ told. ap Full most_is ∙ sym (λ τ. cond (at_version τ) (cond (full told τ) (Full (upper_of (limit_of s))) (done_by (count_items (limit_of s) (map_of a.held) items no_items) (charge_after_items (limit_of s) (state_in s a.held) items))) NoBatch))
    (λ top is. let same : most ≡ top = cc in omega (arith, validates.full refl, most_is, same)))

-- the disk failed while the keys were looked for
pub validating_fails : {a c : View} (items : List Update) (fault : StoreFault) (s t : StoreView) → Lawful a → IsOpenOn s a → ValidatesItems items (Err fault) s t a c → AppliesBatch items (Err fault) s t a c
validating_fails {a} {c} items fault s t law is validates =
    fault_batch items fault s t
    (still_meant items s law is validates.steps validates.unwritten validates.looks (map_after_batch (version_of s) (limit_of s) (map_of a.held) items))
    (still_touched items s law is validates.steps validates.unwritten validates.looks)
    (ap (λ (s : StoreView). s.place.layout) validates.store) (ap (λ (s : StoreView). s.closed) validates.store)
    (λ told. still_written items s law is validates.steps validates.unwritten validates.looks (items_made (version_of s) (limit_of s) (map_of a.held) items) (state_in s a.held))
    (omega (arith, validates.unwritten)) (look_alone items s validates.looks) (still_once items s law is validates.steps validates.unwritten validates.looks)
    validates.damaged validates.counted (inr (inl (validates.met, validates.unwritten))) (λ failed. validates.failed (same_fault fault (λ e. e) failed))

-- it was validated, and then run
pub validated_then : {a b c : View} (items : List Update) (r : Result Batch StoreFault) (s t : StoreView) → IsOpenOn s a → Lawful a → Steps Same a b → b.travel.written ≡ a.travel.written → LooksOnce items s.tally.height a b → CallsBatch items s a c
    → IfOk r (λ done. ¬ IsRefusal done) → AppliesBatch items r s t b c → AppliesBatch items r s t a c
validated_then {a} {b} {c} items r s t is law first unwritten looks calls some applies =
    let made = applies.batch in
    let told_on_b = λ (told : Told a). told_on first.frame told in
    record {
      batch = record {
        answer = IfOk-weaker r _ _ (λ done answer told. subst (λ (x : List ℕ). done ≡ batch_answer (version_of s) (limit_of s) (state_in s x) items) (first.held told) (answer (told_on_b told))) made.answer;
        state = on_ok_weaker r (λ state told. subst (λ (x : List ℕ). state_in t c.held ≡ array_state_after_batch (version_of s) (limit_of s) (state_in s x) items) (first.held told) (state (told_on_b told))) made.state;
        refused = IfOk-weaker r _ _ (λ done leaves refusal. leaves_on first unwritten (leaves refusal)) made.refused;
        unread = IfOk-weaker r _ _ (λ done not is. absurd (not (subst IsRefusal (sym is) tt))) some;
        meant = if_told law (frame_on first.frame made.meant.frame) (λ told.
            let own = subst (λ (x : List ℕ). Steps (BecomesMeant s.place.layout (map_of x) (map_after_batch (version_of s) (limit_of s) (map_of x) items)) b c) (first.held told) made.meant in
            andthen (still_meant items s law is first unwritten looks (map_after_batch (version_of s) (limit_of s) (map_of a.held) items)) own (λ d i left one. one) (λ d e i left one mid two. two));
        touched = on_same first made.touched (λ d. untouched d d refl);
        layout = made.layout;
        images = IfOk-weaker r _ _ (λ done images. omega (arith, images, unwritten)) made.images;
        cost = IfOk-weaker r _ _ (λ done cost told. subst (λ (x : List ℕ). c.travel.written ≤ a.travel.written + updates_cost s.place.layout (state_in s x) (items_made (version_of s) (limit_of s) (map_of x) items) + intent_cost_in done) (first.held told) (omega (arith, cost (told_on_b told), unwritten))) made.cost;
        most = λ told.
            let own = subst (λ (x : List ℕ). WritesSome s.place.layout (state_in s x) (items_made (version_of s) (limit_of s) (map_of x) items) (b.travel.written + 514) c.travel.written) (first.held told) (made.most (told_on_b told)) in
            subst (λ (n : ℕ). WritesSome s.place.layout (state_in s a.held) (items_made (version_of s) (limit_of s) (map_of a.held) items) (n + 514) c.travel.written) unwritten own;
        spent = omega (arith, made.spent, unwritten);
        looks = IfOk-weaker r _ _ (λ done not refusal. absurd (not refusal)) some;
        calls = calls;
        at_once = λ told are.
            let same = first.held told in
            let own = made.at_once (told_on_b told) (subst (λ (x : List ℕ). AreOneCommit s.place.layout (state_in s x) items) (sym same) are) in
            record {
              touched = on_same first own.touched (λ d. untouched d d refl);
              written = subst (λ (x : List ℕ). c.travel.written ≤ a.travel.written + (8196 * s.place.layout.format * length (edited_segments (array_of x) items) + 6 - spared_bytes s.place.layout)) same (omega (arith, own.written, unwritten));
              unwritten = λ none. own.unwritten (subst (λ (x : List ℕ). edited_segments (array_of x) items ≡ []) (sym same) none) ∙ unwritten;
            };
        paid = made.paid;
        counted = made.counted;
        found = IfOk-weaker r _ _ (λ done each. each_before items done s t first each) made.found;
        met = IfErr-weaker r _ _ (λ fault met. elim met [ inl disk ↦ inl disk | inr more ↦ elim more [ inl looked ↦ inr (inl (looked.0, looked.1 ∙ unwritten)) | inr mid ↦ inr (inr mid) ] ]) made.met;
        complete = λ told calm. made.complete (told_on_b told) (λ rose. calm (omega (arith, rose, first.frame.disk_faults)));
      };
      store = applies.store;
      no_intent = applies.no_intent;
      closed = applies.closed;
      damaged = IfErr-weaker r _ _ (λ fault only told. only (told_on_b told)) applies.damaged;
      counted = applies.counted;
      failed = λ is. omega (arith, applies.failed is, first.frame.disk_faults);
    }

-- A batch that was validated.

module _ {a b : View} (items : List Update) (s : StoreView) (is : IsOpenOn s a) (law : Lawful a) (some : 1 ≤ length items) (intent : IsIntent items) (fit : T (list_all (fits_item s.place.layout.format) items)) (version : INTENT_VERSION ≤ version_of s) (counts : ItemCounts) (validated : Told a → Some counts ≡ validated_of (limit_of s) (map_of a.held) items) (unfit : Told a → ¬ AreOneCommit s.place.layout (state_in s a.held) items) (writes : Steps (Intends items) a b) where
  facts : Told a → (first_full (limit_of s) (map_of a.held) items ≡ None) × (counts ≡ count_items (limit_of s) (map_of a.held) items no_items)
  facts told = some_by (first_full (limit_of s) (map_of a.held) items) (count_items (limit_of s) (map_of a.held) items no_items) counts (validated told)

  at_version : nat_le INTENT_VERSION (version_of s) ≡ true
  at_version = le_true INTENT_VERSION (version_of s) version

  accepted : Told a → accepts (version_of s) (limit_of s) (map_of a.held) items ≡ true
  accepted told = accepts_by (version_of s) (limit_of s) (map_of a.held) items ∙ (λ τ. at_version τ && is_none ((facts told).0 τ))

  all_items : Told a → items_made (version_of s) (limit_of s) (map_of a.held) items ≡ items
  all_items told = ap (λ (b : Bool). cond b items []) (accepted told)

  all_mapped : Told a → map_after_all s.place.layout (map_of a.held) items ≡ map_after_batch (version_of s) (limit_of s) (map_of a.held) items
  all_mapped told = ap (map_after_items (limit_of s) (map_of a.held)) (sym (all_items told))

  ready : EachHeld (IsReadyFor s.place.layout (map_of a.held) items) a
  ready d left =
      let own = (is.on.stands d left).balanced.stands.settled in
      record {
        represents = subst (RepresentsMap d) (map_held s law is.on d left) (own_of s d (is.on.stands d left));
        gate_even = idle_even d (subst (λ (l : Layout). INTENT_VERSION ≤ l.version) (sym own.layout_is) version) (is.no_intent d left);
        layout_is = own.layout_is;
        fit = subst (λ (l : Layout). T (list_all (fits_item l.format) items)) (sym own.layout_is) fit;
      }

  touches_intent : Steps (Touched IsIntentPlace) a b
  touches_intent = weaken writes (λ d i left step. step.touched)

  -- the store stands for the file with the intent
  pub stands_intent : RestsAt s.place.layout s.turn b → StandsOn s b
  stands_intent rests = stands_again s s is.on refl writes.frame (each_on (Stands s) (Stands s) writes is.on.stands (λ d i stands step. spared_stands s d i stands step.touched)) rests

  pub state_intent : Told a → state_in s b.held ≡ state_in s a.held
  state_intent told = spared_state s a.held b.held (stands_there s is.on told) (writes.held told).touched

  -- the intent wasn't written
  pub not_called : b.calls ≤ a.calls + 4 → CallsIntent items s a b
  not_called four = record {
    calls = 6;
    is_for = record { of_items = 0; are_for = record { begun = 0; some = omega arith; last = s.tally; are_for = (refl, refl) }; is = refl };
    most = omega (arith, four);
  }

  pub not_written : b.travel.written ≤ a.travel.written + 513 → b.calls ≤ a.calls + 4 → Rose a.disk_faults b.disk_faults → AppliesBatch items (Err Failed) s s a b
  not_written cost four rose =
      fault_batch items Failed s s
      (if_told law writes.frame (λ told. subst (λ (m : Map). Steps (BecomesMeant s.place.layout (map_of a.held) m) a b) (all_mapped told) (begin_steps s.place.layout (map_of a.held) items version some intent a b (facts told).0 ready writes)))
      (touched_in (IsBatchPlace s.place.layout) (λ p there. inr there) touches_intent)
      refl refl
      (λ told. record { made = 0; some = omega arith; bytes = omega (arith, cost) })
      (omega (arith, cost)) (intent_alone items s (not_called four) unfit) (λ told are. absurd (unfit told are))
      (λ told. refl) tt (inl refl) (λ failed. rose)

  -- and then the items were made
  pub intent_called : {c : View} (t : StoreView) (r : Result ℕ StoreFault) → b.calls ≤ a.calls + 4 → MakesItems items r s t b c → CallsIntent items s a c
  intent_called t r four makes = record {
    calls = 6 + makes.of_items;
    is_for = record { of_items = makes.of_items; are_for = are_from items s makes.of_items (λ told. told_on writes.frame told) state_intent makes.are_for; is = refl };
    most = omega (arith, four, makes.calls);
  }

  module _ {c : View} (t : StoreView) (r : Result ℕ StoreFault) (law_b : Lawful b) (settled : NothingPending b) (opened : Told a → byte b.held 640 ≡ 1) (cost : b.travel.written ≤ a.travel.written + 513) (makes : MakesItems items r s t b c) where
    item_places : (p : ℕ) → IsItemPlace s.place.layout p → IsBatchPlace s.place.layout p
    item_places p (inl update) = inl update
    item_places p (inr gate) = inr (inr gate)

    run_touched : Steps (Touched (IsBatchPlace s.place.layout)) a c
    run_touched = touched_on (IsBatchPlace s.place.layout) (λ p there. inr there) item_places touches_intent makes.touched

    run_meant : Steps (BecomesMeant s.place.layout (map_of a.held) (map_after_batch (version_of s) (limit_of s) (map_of a.held) items)) a c
    run_meant =
        if_told law run_touched.frame (λ told.
        let begun = begin_steps s.place.layout (map_of a.held) items version some intent a b (facts told).0 ready writes in
        let held = begin_held s.place.layout (map_of a.held) items version some intent a b law_b ready writes settled opened in
        subst (λ (m : Map). Steps (BecomesMeant s.place.layout (map_of a.held) m) a c) (all_mapped told) (begun_then s.place.layout (map_of a.held) (map_after_all s.place.layout (map_of a.held) items) begun (makes.steps (map_of a.held) (facts told).0 held)))

    run_most : Told a → WritesSome s.place.layout (state_in s a.held) (items_made (version_of s) (limit_of s) (map_of a.held) items) (a.travel.written + 514) c.travel.written
    run_most told =
        let own = subst (λ (x : ArrayState). WritesSome s.place.layout x items (b.travel.written + 1) c.travel.written) (state_intent told) (makes.most (told_on writes.frame told)) in
        subst (λ (us : List Update). WritesSome s.place.layout (state_in s a.held) us (a.travel.written + 514) c.travel.written) (sym (all_items told)) (record { made = own.made; some = own.some; bytes = omega (arith, own.bytes, cost) })

  module _ {c : View} (t : StoreView) (law_b : Lawful b) (settled : NothingPending b) (opened : Told a → byte b.held 640 ≡ 1) (cost : b.travel.written ≤ a.travel.written + 513) (four : b.calls ≤ a.calls + 4) where
    pub items_fail : (fault : StoreFault) → MakesItems items (Err fault) s t b c → AppliesBatch items (Err fault) s t a c
    items_fail fault makes =
        fault_batch items fault s t (run_meant t (Err fault) law_b settled opened cost makes) (run_touched t (Err fault) law_b settled opened cost makes) makes.layout makes.closed
        (run_most t (Err fault) law_b settled opened cost makes) (omega (arith, makes.spent, cost)) (intent_alone items s (intent_called t (Err fault) four makes) unfit) (λ told are. absurd (unfit told are)) (λ told. makes.damaged (told_on writes.frame told)) makes.counted (elim makes.met [ inl disk ↦ inl disk | inr mid ↦ inr (inr mid) ])
        (λ failed. omega (arith, makes.failed (same_fault fault (λ e. e) failed), writes.frame.disk_faults))

    pub whole_batch : (charge : ℕ) → CountsBatch items (done_by counts charge) (sum s.tally.counts) (sum t.tally.counts) → CountsEach items counts s t a → MakesItems items (Ok charge) s t b c → AppliesBatch items (Ok (done_by counts charge)) s t a c
    whole_batch charge counted each makes = record {
      batch = record {
        answer = λ told.
            let facts_here = facts told in
            let own : charge ≡ charge_after_items (limit_of s) (state_in s a.held) items = makes.charge (told_on writes.frame told) ∙ ap (λ (x : ArrayState). charge_after_items (limit_of s) x items) (state_intent told) in
            (λ τ. done_by (facts_here.1 τ) (own τ))
            ∙ sym (λ τ. cond (at_version τ) (cond (is_some (facts_here.0 τ)) (Full (upper_of (limit_of s))) (done_by (count_items (limit_of s) (map_of a.held) items no_items) (charge_after_items (limit_of s) (state_in s a.held) items))) NoBatch);
        state = λ told.
            makes.state (told_on writes.frame told) ∙ ap (λ (x : ArrayState). next_states (limit_of s) x items) (state_intent told)
            ∙ sym (ap (λ (b : Bool). cond b (next_states (limit_of s) (state_in s a.held) items) (state_in s a.held)) (accepted told));
        refused = λ refusal. absurd refusal;
        unread = λ e. absurd cc;
        meant = run_meant t (Ok charge) law_b settled opened cost makes;
        touched = run_touched t (Ok charge) law_b settled opened cost makes;
        layout = makes.layout;
        images = omega (arith, makes.images, cost);
        cost = λ told.
            let own = makes.cost (told_on writes.frame told) in
            omega (arith, own, cost, ap (λ (x : ArrayState). updates_cost s.place.layout x items) (state_intent told), ap (updates_cost s.place.layout (state_in s a.held)) (all_items told));
        most = run_most t (Ok charge) law_b settled opened cost makes;
        spent = omega (arith, makes.spent, cost);
        looks = λ refusal. absurd refusal;
        calls = intent_alone items s (intent_called t (Ok charge) four makes) unfit;
        at_once = λ told are. absurd (unfit told are);
        paid = makes.paid;
        counted = counted;
        found = each;
        met = tt;
        complete = λ told calm. refl;
      };
      store = makes.store;
      no_intent = makes.no_intent;
      closed = makes.closed;
      damaged = tt;
      counted = tt;
      failed = no_fault (done_by counts charge);
    }

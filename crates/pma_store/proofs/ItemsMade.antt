-- The items of a batch, one more at a time.
use Rattle.std.proofs.Common.{◌^◌, ◌≡◌, inl, inr, ℕ, zero, suc, ◌+◌, ◌*◌, ◌<◌, ◌≤◌, Bool, true, false, List, [], ◌∷◌, length, take, get_or, Option, Some, None, is_some, Result, Ok, Err, refl, sym, ap, subst, ◌∙◌, arith}
use Rattle.std.specs.FinMap.{contains_key}
use Rattle.std.proofs.lemmas.List.{take_all}
use Rattle.station.specs.Bytes.{Touched}
use Rattle.station.specs.View.{View, Told, EachHeld, NothingPending, Lawful, Rose}
use Rattle.station.specs.Steps.{Steps}
use Rattle.station.proofs.Composition.{told_on, told_back, weaken, touched_on, touched_in, no_steps, each_held, each_on}
use Rattle.batch_intent.specs.Gate.{IsIntentGatePlace}
use Rattle.batch_intent.specs.Means.{InBatch, map_after_all, has_waiting}
use Rattle.cost_ledger.specs.Potential.{potential_of}
use Rattle.header_gate.specs.declared.layout.Layout.{Layout}
use Rattle.header_gate.specs.Header.{intent_gate}
use Rattle.header_gate.specs.Places.{height_limit}
use Rattle.map_model.specs.ArrayState.{ArrayState, next_state, next_states}
use Rattle.map_model.specs.Array.{segment_at, segment_for}
use Rattle.segment.specs.Rows.{value_of}
use Rattle.map_model.specs.Charges.{charge_after}
use Rattle.map_model.specs.Image.{RepresentsMap, array_of, map_of}
use Rattle.map_model.specs.Items.{are_distinct}
use Rattle.map_model.specs.ItemWords.{AreAdmitted, charge_after_items}
use Rattle.map_model.specs.After.{map_after_items, map_after}
use Rattle.map_model.specs.Store.{Map, Update, key_of}
use Rattle.key_slot.proofs.SegmentLaws.{times_up}
use Rattle.map_model.proofs.Recovering.{determined}
use Rattle.map_model.proofs.Resuming.{get_before}
use Rattle.redo_journal.specs.Rest.{RestsAt}
use Rattle.segment.specs.declared.fault.StoreFault.{StoreFault}
use Rattle.segment.specs.declared.fault.StoreFault.TheVariants.{Failed}
use Rattle.pma_store.specs.StoreAnswers.{state_in}
use Rattle.pma_store.specs.BatchCalls.{AreForItems, IsForItem, IsForItems}
use Rattle.pma_store.specs.UpdateCalls.{asked_calls}
use Rattle.pma_store.specs.Changing.{most_written}
use Rattle.pma_store.specs.Costing.{most_of, update_cost_in, updates_cost, WritesSome}
use Rattle.pma_store.specs.ItemsMade.{IsAsFound, IsItemPlace, MakesItem, MakesItems}
use Rattle.pma_store.specs.ItemEffects.{AreAllFound, found_at}
use Rattle.pma_store.specs.Looking.{TellsOther}
use Rattle.pma_store.specs.Meaning.{MeansNow}
use Rattle.pma_store.specs.StoreView.{StoreView, Stands, StandsOn, limit_of}
use Rattle.pma_store.specs.Touching.{Updates, IsUpdatePlace}
use Rattle.pma_store.proofs.Making.{no_fault, same_fault, stands_again, stands_there}
use Rattle.pma_store.specs.Damaging.{AreNextTallies, IsNextTally, change_in, picked}
use Rattle.window_tally.specs.TallyView.{TallyView}
use Rattle.pma_store.proofs.BatchCalls.{more_items}
use Rattle.pma_store.proofs.Meeting.{met_mid, tallies_next}
use Rattle.pma_store.proofs.Moments.{even_idle_at, none_yet, then_now, item_steps, item_made, closing_steps, gate_touched}
use Rattle.pma_store.proofs.Picks.{most_more}
use Rattle.pma_store.proofs.Standing.{value_there}
use Rattle.pma_store.proofs.Spared.{spared_stands, spared_state}
use Rattle.pma_store.proofs.Steps.{own_of}
use Rattle.pma_store.proofs.Touching.{untouched}

-- Sums over items, with one more.

pub states_next : (hmax : ℕ) (s : ArrayState) (items : List Update) (k : ℕ) (d : Update) → k < length items → next_states hmax s (take (suc k) items) ≡ next_state hmax (next_states hmax s (take k items)) (get_or items k d)
states_next hmax s [] k d lt = absurd (omega arith)
states_next hmax s (u ∷ us) zero d lt = refl
states_next hmax s (u ∷ us) (suc k) d lt = states_next hmax (next_state hmax s u) us k d (omega arith)

pub charges_next : (hmax : ℕ) (s : ArrayState) (items : List Update) (k : ℕ) (d : Update) → k < length items
    → charge_after_items hmax s (take (suc k) items) ≡ charge_after_items hmax s (take k items) + charge_after hmax (next_states hmax s (take k items)).height (next_states hmax s (take k items)).array (get_or items k d)
charges_next hmax s [] k d lt = absurd (omega arith)
charges_next hmax s (u ∷ us) zero d lt = omega arith
charges_next hmax s (u ∷ us) (suc k) d lt = omega (arith, charges_next hmax (next_state hmax s u) us k d (omega arith))

pub costs_next : (l : Layout) (s : ArrayState) (items : List Update) (k : ℕ) (d : Update) → k < length items
    → updates_cost l s (take (suc k) items) ≡ updates_cost l s (take k items) + update_cost_in l (next_states (height_limit l) s (take k items)) (get_or items k d)
costs_next l s [] k d lt = absurd (omega arith)
costs_next l s (u ∷ us) zero d lt = omega arith
costs_next l s (u ∷ us) (suc k) d lt = omega (arith, costs_next l (next_state (height_limit l) s u) us k d (omega arith))

pub states_map : (hmax : ℕ) (s : ArrayState) (items : List Update) → (next_states hmax s items).map ≡ map_after_items hmax s.map items
states_map hmax s [] = refl
states_map hmax s (u ∷ us) = states_map hmax (next_state hmax s u) us

-- k of the items were made, with this charge in all
pub record HasMade (items : List Update) (k charge : ℕ) (s t : StoreView) (a b : View) : Type 0 where
  pub state : Told a → state_in t b.held ≡ next_states (limit_of s) (state_in s a.held) (take k items)
  pub charged : Told a → charge ≡ charge_after_items (limit_of s) (state_in s a.held) (take k items)
  pub small : charge ≤ 1048576 * k
  pub on : StandsOn t b
  pub meant : (base : Map) → AreAdmitted (limit_of s) base items → EachHeld (InBatch s.place.layout base items 0) a → Steps (MeansNow s.place.layout (map_after_all s.place.layout base items)) a b × EachHeld (InBatch s.place.layout base items k) b
  pub touched : Steps (Touched (IsUpdatePlace s.place.layout)) a b
  pub layout : t.place.layout ≡ s.place.layout
  pub closed : t.closed ≡ s.closed
  pub cost : Told a → b.travel.written ≤ a.travel.written + updates_cost s.place.layout (state_in s a.held) (take k items)
  pub images : b.travel.written ≤ a.travel.written + 4101 * s.place.layout.format * charge
  pub paid : charge + potential_of t.tally ≤ potential_of s.tally + 514 * k
  pub nexts : AreNextTallies (take k items) s.tally t.tally
  pub spent : b.travel.written ≤ a.travel.written + most_of s.place.layout k
  pub of_items : ℕ
  pub are_for : IsForItems s.place.layout a (state_in s a.held) s.tally (take k items) t.tally of_items
  pub calls : b.calls ≤ a.calls + of_items

pub none_made : {a : View} (items : List Update) (s : StoreView) → StandsOn s a → HasMade items 0 0 s s a a
none_made {a} items s on = record {
  state = λ told. refl;
  charged = λ told. refl;
  small = omega arith;
  on = on;
  meant = λ base admitted each. (none_yet s.place.layout base items admitted a 0 each, each);
  touched = weaken (no_steps a) (λ d i left same. untouched d i same);
  layout = refl;
  closed = refl;
  cost = λ told. omega arith;
  images = omega arith;
  paid = omega arith;
  nexts = refl;
  spent = omega arith;
  of_items = 0;
  are_for = (refl, refl);
  calls = omega arith;
}

-- One item more.

with_one : (m k : ℕ) → m * suc k ≡ m * k + m
with_one m k = grind arith

distributes : (n x y : ℕ) → n * (x + y) ≡ n * x + n * y
distributes n x y = grind arith

module _ (items : List Update) (k charge : ℕ) (s t next : StoreView) (a b c : View) (is : HasMade items k charge s t a b) (d : Update) (lt : k < length items) where
  u : Update
  u = get_or items k d

  limit_same : limit_of t ≡ limit_of s
  limit_same = ap height_limit is.layout

  -- the state before it, of which the file is
  at_state : Told a → state_in t b.held ≡ next_states (limit_of s) (state_in s a.held) (take k items)
  at_state = is.state

  module _ (r : Result ℕ StoreFault) (made : MakesItem (get_or items k d) r t next b c) where
    step : Steps (Updates (limit_of s) (get_or items k d)) b c
    step = subst (λ (h : ℕ). Steps (Updates h (get_or items k d)) b c) limit_same made.steps

    pub goes_on : (base : Map) → AreAdmitted (limit_of s) base items → EachHeld (InBatch s.place.layout base items 0) a → Steps (MeansNow s.place.layout (map_after_all s.place.layout base items)) a c
    goes_on base admitted each =
        let before = is.meant base admitted each in
        then_now s.place.layout (map_after_all s.place.layout base items) before.0 (item_steps s.place.layout base items admitted k d lt b c before.1 step)

    -- whatever is told
    pub spends : c.travel.written ≤ a.travel.written + most_of s.place.layout (suc k)
    spends =
        let l = s.place.layout in
        let own : most_written t.place.layout (limit_of t) ≡ most_written l (limit_of s) = ap (λ (l : Layout). most_written l (height_limit l)) is.layout in
        omega (arith, is.spent, made.most, most_more t.place.layout t.tally.height (limit_of t) made.tall, own, with_one (most_written l (limit_of s)) k)

    -- its calls, by the tally before it
    abbrev own_calls : ℕ
    own_calls = 1 + asked_calls s.place.layout t.tally.height (picked (change_in (get_or items k d)) made.met.at t.tally)

    pub item_for : (next : TallyView) → IsNextTally (get_or items k d) t.tally next → IsForItem s.place.layout a (next_states (limit_of s) (state_in s a.held) (take k items)) t.tally (get_or items k d) next own_calls
    item_for next after = record {
      at = made.met.at;
      within = made.met.within;
      own = λ told. made.met.own (told_on is.touched.frame told) ∙ ap (λ (x : ArrayState). segment_for x.array (key_of (get_or items k d))) (is.state told);
      nexts = after;
      is = refl;
    }

    pub calls_more : c.calls ≤ a.calls + (is.of_items + own_calls)
    calls_more =
        let same : asked_calls t.place.layout t.tally.height (picked (change_in (get_or items k d)) made.met.at t.tally) ≡ asked_calls s.place.layout t.tally.height (picked (change_in (get_or items k d)) made.met.at t.tally) =
        ap (λ (l : Layout). asked_calls l t.tally.height (picked (change_in (get_or items k d)) made.met.at t.tally)) is.layout in
        omega (arith, is.calls, made.met.asked, same)

    pub touches : Steps (Touched (IsUpdatePlace s.place.layout)) a c
    touches =
        let own = weaken step (λ x i left one. subst (λ (l : Layout). Touched (IsUpdatePlace l) x i) ((is.on.stands x left).balanced.stands.settled.layout_is ∙ is.layout) one.touched) in
        touched_on (IsUpdatePlace s.place.layout) (λ p there. there) (λ p there. there) is.touched own

  pub one_more : (charge_next : ℕ) → Lawful c → MakesItem (get_or items k d) (Ok charge_next) t next b c → HasMade items (suc k) (charge + charge_next) s next a c
  one_more charge_next law made =
      let frame = is.touched.frame in
      let was = λ (told : Told a). is.state told in
      let after = λ (told : Told a). made.state (told_on frame told) in
      record {
        state = λ told.
            after told
            ∙ (λ τ. next_state (limit_same τ) (was told τ) (get_or items k d))
            ∙ sym (states_next (limit_of s) (state_in s a.held) items k d lt);
        charged = λ told.
            let own = made.charge (told_on frame told) ∙ (λ τ. charge_after (limit_same τ) (was told τ).height (was told τ).array (get_or items k d)) in
            omega (arith, is.charged told, own, charges_next (limit_of s) (state_in s a.held) items k d lt);
        small = omega (arith, is.small, made.small);
        on = made.store;
        meant = λ base admitted each.
            let before = is.meant base admitted each in (
              goes_on (Ok charge_next) made base admitted each,
              item_made s.place.layout base items admitted k d lt b c next law before.1 (step (Ok charge_next) made) made.store (λ told_b m represents.
                  let own : m ≡ map_of b.held = (determined b.held m represents.0 represents.1).0 in
                  let mapped : map_of c.held ≡ map_after (limit_of s) (map_of b.held) (get_or items k d) = ap (λ (x : ArrayState). x.map) (made.state told_b) ∙ ap (λ (h : ℕ). map_after h (map_of b.held) (get_or items k d)) limit_same in
                  subst (RepresentsMap c.held) (mapped ∙ ap (λ (x : Map). map_after (limit_of s) x (get_or items k d)) (sym own)) (own_of next c.held (stands_there next made.store (told_on made.steps.frame told_b)))),
            );
        touched = touches (Ok charge_next) made;
        layout = made.layout ∙ is.layout;
        closed = made.closed ∙ is.closed;
        cost = λ told.
            let own = made.cost (told_on frame told) in
            let same : update_cost_in t.place.layout (state_in t b.held) (get_or items k d) ≡ update_cost_in s.place.layout (next_states (limit_of s) (state_in s a.held) (take k items)) (get_or items k d) = (λ τ. update_cost_in (is.layout τ) (was told τ) (get_or items k d)) in
            omega (arith, is.cost told, own, same, costs_next s.place.layout (state_in s a.held) items k d lt);
        images = images_sum s.place.layout.format charge charge_next is.images (subst (λ (l : Layout). c.travel.written ≤ b.travel.written + 4101 * l.format * charge_next) is.layout made.images);
        paid = omega (arith, is.paid, made.paid);
        nexts = tallies_next items k d s.tally t.tally next.tally lt is.nexts made.met.counts;
        spent = spends (Ok charge_next) made;
        of_items = is.of_items + own_calls (Ok charge_next) made;
        are_for = more_items s.place.layout a (state_in s a.held) items k d s.tally t.tally next.tally is.of_items (own_calls (Ok charge_next) made) lt is.are_for (item_for (Ok charge_next) made next.tally made.met.counts);
        calls = calls_more (Ok charge_next) made;
      }
    where
      images_sum : (f x y : ℕ) → b.travel.written ≤ a.travel.written + 4101 * f * x → c.travel.written ≤ b.travel.written + 4101 * f * y → c.travel.written ≤ a.travel.written + 4101 * f * (x + y)
      images_sum f x y one two = let sum : 4101 * f * (x + y) ≡ 4101 * f * x + 4101 * f * y = distributes (4101 * f) x y in omega (arith, one, two, sum)

  -- the item isn't made
  pub one_fails : (fault : StoreFault) → length items ≤ 16 → MakesItem (get_or items k d) (Err fault) t next b c → MakesItems items (Err fault) s next a c
  one_fails fault few made = record {
    state = tt;
    charge = tt;
    store = tt;
    no_intent = tt;
    steps = goes_on (Err fault) made;
    touched = touched_in (IsItemPlace s.place.layout) (λ p there. inl there) (touches (Err fault) made);
    layout = made.layout ∙ is.layout;
    closed = made.closed ∙ is.closed;
    cost = tt;
    images = tt;
    most = λ told.
        let own = made.cost (told_on is.touched.frame told) in
        let same : update_cost_in t.place.layout (state_in t b.held) (get_or items k d) ≡ update_cost_in s.place.layout (next_states (limit_of s) (state_in s a.held) (take k items)) (get_or items k d) = (λ τ. update_cost_in (is.layout τ) (is.state told τ) (get_or items k d)) in
        record { made = suc k; some = omega (arith, lt); bytes = omega (arith, is.cost told, own, same, costs_next s.place.layout (state_in s a.held) items k d lt) };
    spent = omega (arith, spends (Err fault) made, times_up (most_written s.place.layout (limit_of s)) (suc k) (length items) (omega (arith, lt)));
    of_items = is.of_items + own_calls (Err fault) made;
    are_for = record {
      begun = suc k;
      some = omega (arith, lt);
      last = t.tally;
      are_for = more_items s.place.layout a (state_in s a.held) items k d s.tally t.tally t.tally is.of_items (own_calls (Err fault) made) lt is.are_for (item_for (Err fault) made t.tally (inl refl));
    };
    calls = omega (arith, calls_more (Err fault) made);
    few = few;
    paid = tt;
    met = inr (met_mid items k d s t next fault lt is.layout is.nexts made.met);
    damaged = λ told. made.damaged (told_on is.touched.frame told);
    counted = subst (λ (l : Layout). TellsOther (2 ^ height_limit l) fault) is.layout made.counted;
    failed = λ failed. omega (arith, made.failed (same_fault fault (λ e. e) failed), is.touched.frame.disk_faults);
  }

-- What an item asks for.

-- it finds its key as it was found before all of them
pub as_found : {a b : View} (items : List Update) (k charge : ℕ) (s t : StoreView) (found : Option (List Bool)) (d : Update) → HasMade items k charge s t a b → k < length items → are_distinct items ≡ true
    → (Told a → AreAllFound found items (map_of a.held)) → Told b → IsAsFound (found_at found k) (is_some (value_of (key_of (get_or items k d)) (segment_at (array_of b.held) (segment_for (array_of b.held) (key_of (get_or items k d))))))
as_found {a} {b} items k charge s t None d is lt distinct found told = tt
as_found {a} {b} items k charge s t (Some list) d is lt distinct found told =
    let told_a : Told a = told_back is.touched.frame told in
    ap is_some (value_there t b.held (stands_there t is.on told) (key_of (get_or items k d)))
    ∙ ap (λ (m : Map). contains_key m (key_of (get_or items k d))) (ap (λ (x : ArrayState). x.map) (is.state told_a) ∙ states_map (limit_of s) (state_in s a.held) (take k items))
    ∙ ap is_some (get_before (limit_of s) (map_of a.held) items k d lt distinct)
    ∙ sym (found told_a k lt d)

-- The gate is closed.

module _ (items : List Update) (charge : ℕ) (s t : StoreView) (a b c : View) (is : HasMade items (length items) charge s t a b) (closing : Steps (Touched IsIntentGatePlace) b c) (one : c.travel.written ≤ b.travel.written + 1) (two : c.calls ≤ b.calls + 2) where
  whole : take (length items) items ≡ items
  whole = take_all (length items) items (omega arith)

  closes : (base : Map) → AreAdmitted (limit_of s) base items → EachHeld (InBatch s.place.layout base items 0) a → Steps (MeansNow s.place.layout (map_after_all s.place.layout base items)) a c
  closes base admitted each =
      let before = is.meant base admitted each in
      then_now s.place.layout (map_after_all s.place.layout base items) before.0 (closing_steps s.place.layout base items admitted b c before.1 closing)

  touches_gate : Steps (Touched (IsItemPlace s.place.layout)) a c
  touches_gate = touched_on (IsItemPlace s.place.layout) (λ p there. inl there) (λ p there. inr there) is.touched closing

  wrote : Told a → WritesSome s.place.layout (state_in s a.held) items (a.travel.written + 1) c.travel.written
  wrote told = record { made = length items; some = omega arith; bytes = omega (arith, is.cost told, one) }

  begun_all : AreForItems items s a is.of_items
  begun_all = record { begun = length items; some = omega arith; last = t.tally; are_for = is.are_for }

  pub all_made : length items ≤ 16 → Lawful c → NothingPending c → RestsAt t.place.layout t.turn c → (Told b → intent_gate c.held ≡ 0) → MakesItems items (Ok charge) s t a c
  all_made few law settled rests even =
      let stands : EachHeld (Stands t) c = each_on (Stands t) (Stands t) closing is.on.stands (λ d i stands step. spared_stands t d i stands (gate_touched d i step)) in
      record {
        state = λ told.
            let told_b = told_on is.touched.frame told in
            spared_state t b.held c.held (stands_there t is.on told_b) (gate_touched b.held c.held (closing.held told_b)) ∙ is.state told ∙ ap (next_states (limit_of s) (state_in s a.held)) whole;
        charge = λ told. is.charged told ∙ ap (charge_after_items (limit_of s) (state_in s a.held)) whole;
        store = stands_again t t is.on refl closing.frame stands rests;
        no_intent = each_held c (λ image. has_waiting image ≡ false) law settled (λ told. even_idle_at c.held (even (told_back closing.frame told)));
        steps = closes;
        touched = touches_gate;
        layout = is.layout;
        closed = is.closed;
        cost = λ told. omega (arith, is.cost told, one, ap (updates_cost s.place.layout (state_in s a.held)) whole);
        images = omega (arith, is.images, one);
        most = wrote;
        spent = omega (arith, is.spent, one);
        of_items = is.of_items;
        are_for = begun_all;
        calls = omega (arith, is.calls, two);
        few = few;
        paid = is.paid;
        met = tt;
        damaged = tt;
        counted = tt;
        failed = no_fault charge;
      }

  pub not_closed : length items ≤ 16 → Rose b.disk_faults c.disk_faults → MakesItems items (Err Failed) s t a c
  not_closed few rose = record {
    state = tt;
    charge = tt;
    store = tt;
    no_intent = tt;
    steps = closes;
    touched = touches_gate;
    layout = is.layout;
    closed = is.closed;
    cost = tt;
    images = tt;
    most = wrote;
    spent = omega (arith, is.spent, one);
    of_items = is.of_items;
    are_for = begun_all;
    calls = omega (arith, is.calls, two);
    few = few;
    paid = tt;
    met = inl refl;
    damaged = λ told. refl;
    counted = tt;
    failed = λ failed. omega (arith, rose, is.touched.frame.disk_faults);
  }

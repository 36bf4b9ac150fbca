-- The moments of an update and of a batch, by what the file means.
use Rattle.std.proofs.Common.{◌≡◌, ◌⊎◌, inl, inr, ℕ, zero, suc, ◌+◌, ◌%◌, ◌<◌, ◌≤◌, ◌==◌, ◌&&◌, nat_le, Bool, true, false, T, List, length, take, get_or, refl, sym, ap, subst, ◌∙◌, arith}
use Rattle.std.specs.List.{list_all}
use Rattle.std.proofs.lemmas.List.{take_all}
use Rattle.std.proofs.lemmas.Bool.Decides.{nat_tests}
use Rattle.station.specs.Bytes.{byte, Touched}
use Rattle.station.specs.View.{View, Told, MayHold, EachHeld, NothingPending, Lawful}
use Rattle.station.specs.Steps.{Frame, Steps}
use Rattle.station.proofs.Composition.{no_steps, weaken, andthen, each_held, each_on, told_back, told_of}
use Rattle.header_gate.specs.declared.layout.Layout.{Layout}
use Rattle.header_gate.specs.declared.layout.TheConstants.{INTENT_VERSION}
use Rattle.header_gate.specs.Header.{layout_in, intent_gate}
use Rattle.header_gate.specs.Places.{height_limit}
use Rattle.map_model.specs.Store.{Map, Update}
use Rattle.map_model.specs.After.{map_after, map_after_items}
use Rattle.map_model.specs.ItemWords.{AreAdmitted}
use Rattle.map_model.specs.Image.{RepresentsMap, map_of}
use Rattle.map_model.proofs.Resuming.{next_item}
use Rattle.batch_intent.specs.Spelling.{IsIntent, fits_item}
use Rattle.batch_intent.specs.Gate.{IsIntentGatePlace, IsIntentPlace, Intends}
use Rattle.batch_intent.specs.Means.{Means, KeepsIntent, IsApart, InBatch, map_after_all, has_waiting}
use Rattle.batch_intent.proofs.Meanings.{update_keeps, in_layout, means_idle, batch_means, batch_next_at, batch_closed, intent_open, intent_whole}
use Rattle.pma_store.specs.Meaning.{MeansNow, BecomesMeant}
use Rattle.pma_store.specs.StoreView.{StoreView, StandsOn, IsOpenOn, limit_of}
use Rattle.pma_store.specs.Touching.{Updates, IsUpdatePlace}
use Rattle.pma_store.specs.Readying.{KeepsMap}
use Rattle.pma_store.proofs.Resting.{covered_held, held_layout, alike_held, map_held, map_of_held}
use Rattle.pma_store.proofs.Steps.{own_of}
use Rattle.pma_store.proofs.Touching.{moves_touch, wider}

-- what holds where bytes are told, holds of a run of calls
pub if_told : {a b : View} {R : List ℕ → List ℕ → Type 0} → Lawful a → Frame a b → (Told a → Steps R a b) → Steps R a b
if_told {a} {b} law frame steps = record {
  frame = frame;
  held = λ told. (steps told).held told;
  images = λ honest. (steps (law.tells honest).0).images honest;
  moments = record { each = λ honest. (steps (law.tells honest).0).moments.each honest };
}

-- An update leaves the intent as it is.

pub update_apart : (l : Layout) (k : ℕ) → IsUpdatePlace l k → IsApart k
update_apart l k is = record { identity = λ there. identity_not there.0 there.1 is; intent = λ there. intent_not there is }
  where
    identity_not : 3072 ≤ k → k < 3072 + 20 → IsUpdatePlace l k → ⊥
    identity_not low high (inl is) = omega (arith, is, low)
    identity_not low high (inr (inl is)) = omega (arith, is.1, low)
    identity_not low high (inr (inr (inl is))) = omega (arith, is.1, low)
    identity_not low high (inr (inr (inr (inl is)))) = let e : k ≡ 512 = is in omega (arith, e, low)
    identity_not low high (inr (inr (inr (inr (inl is))))) = omega (arith, is.0, high)
    identity_not low high (inr (inr (inr (inr (inr is))))) = omega (arith, is.0, high)

    on_page : k < 4096 → (k ≡ 640) ⊎ (3584 ≤ k) → IsUpdatePlace l k → ⊥
    on_page low (inl at) (inl is) = omega (arith, is, at)
    on_page low (inl at) (inr (inl is)) = omega (arith, is.0, at)
    on_page low (inl at) (inr (inr (inl is))) = omega (arith, is.0, at)
    on_page low (inl at) (inr (inr (inr (inl is)))) = let e : k ≡ 512 = is in omega (arith, e, at)
    on_page low (inr high) (inl is) = omega (arith, is, high)
    on_page low (inr high) (inr (inl is)) = omega (arith, is.1, high)
    on_page low (inr high) (inr (inr (inl is))) = omega (arith, is.1, high)
    on_page low (inr high) (inr (inr (inr (inl is)))) = let e : k ≡ 512 = is in omega (arith, e, high)
    on_page low at (inr (inr (inr (inr (inl is))))) = omega (arith, is.0, low)
    on_page low at (inr (inr (inr (inr (inr is))))) = omega (arith, is.0, low)

    intent_not : IsIntentPlace k → IsUpdatePlace l k → ⊥
    intent_not (inl range) is = on_page (omega (arith, range.1)) (inr range.0) is
    intent_not (inr gate) is = let e : k ≡ 640 = gate in on_page (omega (arith, e)) (inl e) is

pub update_keeps_intent : (hmax : ℕ) (u : Update) (start image : List ℕ) → Updates hmax u start image → KeepsIntent start image
update_keeps_intent hmax u start image step = update_keeps start image (ap (λ (l : Layout). l.format) step.layout_is) (wider start image (update_apart (layout_in start)) step.touched)

-- so none waits behind it, where none did
pub keeps_idle : (start image : List ℕ) → KeepsIntent start image → has_waiting image ≡ has_waiting start
keeps_idle start image keeps = λ t. nat_le INTENT_VERSION (keeps.layout_is t).version && (keeps.gate_is t == 1)

pub update_idle : (hmax : ℕ) (u : Update) (start image : List ℕ) → Updates hmax u start image → has_waiting start ≡ false → has_waiting image ≡ false
update_idle hmax u start image step idle = keeps_idle start image (update_keeps_intent hmax u start image step) ∙ idle

pub still_idle : {a b : View} (hmax : ℕ) (u : Update) → Steps (Updates hmax u) a b → EachHeld (λ image. has_waiting image ≡ false) a → EachHeld (λ image. has_waiting image ≡ false) b
still_idle hmax u ab idle = each_on (λ image. has_waiting image ≡ false) (λ image. has_waiting image ≡ false) ab idle (λ d i is step. update_idle hmax u d i step is)

-- an image without an intent means what it represents
pub meant_idle : (layout : Layout) (image : List ℕ) (m : Map) → layout_in image ≡ layout → RepresentsMap image m → has_waiting image ≡ false → Means layout image m
meant_idle layout image m laid is idle = in_layout image m laid (means_idle image m is.0 is.1 idle)

-- what keeps the map of a file without an intent keeps what it means
pub keeps_meant : {a b : View} (s : StoreView) → Lawful a → IsOpenOn s a → Steps KeepsMap a b → Steps (MeansNow s.place.layout (map_of a.held)) a b
keeps_meant {a} {b} s law is ab = weaken ab (λ d i left step.
    let keeps = update_keeps d i (ap (λ (l : Layout). l.format) step.layout_is) (wider d i (update_apart (layout_in d)) step.touched) in
    meant_idle s.place.layout i (map_of a.held) (step.layout_is ∙ (is.on.stands d left).balanced.stands.settled.layout_is) (subst (RepresentsMap i) (map_held s law is.on d left) (step.map_is (map_of d) (own_of s d (is.on.stands d left)))) (keeps_idle d i keeps ∙ is.no_intent d left))

-- so it has no intent behind it
pub keeps_none : {a b : View} → Steps KeepsMap a b → EachHeld (λ image. has_waiting image ≡ false) a → EachHeld (λ image. has_waiting image ≡ false) b
keeps_none ab idle = each_on (λ image. has_waiting image ≡ false) (λ image. has_waiting image ≡ false) ab idle (λ d i is step.
    keeps_idle d i (update_keeps d i (ap (λ (l : Layout). l.format) step.layout_is) (wider d i (update_apart (layout_in d)) step.touched)) ∙ is)

-- what a store's station may hold has one intent
pub intent_held : {a : View} (s : StoreView) → Lawful a → StandsOn s a → (d : List ℕ) → MayHold a d → KeepsIntent a.held d
intent_held {a} s law on d left =
    let stands = on.stands a.held (inl (told_of law d left, refl)) in
    let layout = (alike_held s law on d left).settled.layout_is ∙ sym (held_layout s law on d left) in
    update_keeps a.held d (ap (λ (l : Layout). l.format) layout) (wider a.held d (update_apart (layout_in a.held)) (moves_touch s a.held d stands (covered_held s law on d left)))

-- none waits, where none does in the held bytes
pub idle_held : {a : View} (s : StoreView) → Lawful a → StandsOn s a → (Told a → has_waiting a.held ≡ false) → EachHeld (λ image. has_waiting image ≡ false) a
idle_held {a} s law on idle d left = keeps_idle a.held d (intent_held s law on d left) ∙ idle (told_of law d left)

-- and each is as far in a batch as they are
pub batch_held : {a : View} (s : StoreView) (layout : Layout) (base : Map) (items : List Update) (k : ℕ) → Lawful a → StandsOn s a → (Told a → InBatch layout base items k a.held) → EachHeld (InBatch layout base items k) a
batch_held {a} s layout base items k law on is d left =
    let own = is (told_of law d left) in
    batch_next_at layout base items a.held d k k own (intent_held s law on d left) (map_of_held s law on d left (map_after_items (height_limit layout) base (take k items)) own.represents)

-- at every moment of an update that begins without an intent the file means the store's map or the map after it
pub update_meant : {a b : View} (u : Update) (s : StoreView) → Lawful a → IsOpenOn s a → Steps (Updates (limit_of s) u) a b → Steps (BecomesMeant s.place.layout (map_of a.held) (map_after (limit_of s) (map_of a.held) u)) a b
update_meant {a} {b} u s law is ab = weaken ab (λ d i left step.
    let idle = update_idle (limit_of s) u d i step (is.no_intent d left) in
    let laid = step.layout_is ∙ (is.on.stands d left).balanced.stands.settled.layout_is in
    subst (λ (m : Map). BecomesMeant s.place.layout m (map_after (limit_of s) m u) d i) (map_held s law is.on d left) (elim (step.map_is (map_of d) (own_of s d (is.on.stands d left))) [
      | inl same ↦ inl (meant_idle s.place.layout i (map_of d) laid same idle)
      | inr next ↦ inr (meant_idle s.place.layout i (map_after (limit_of s) (map_of d) u) laid next idle)
    ]))

-- Runs one after another, each of which leaves what means the map.
pub then_now : {a b c : View} (layout : Layout) (all : Map) → Steps (MeansNow layout all) a b → Steps (MeansNow layout all) b c → Steps (MeansNow layout all) a c
then_now layout all ab bc = andthen ab bc (λ d i left step. step) (λ d e i left first mid second. second)

module _ (layout : Layout) (base : Map) (items : List Update) (admitted : AreAdmitted (height_limit layout) base items) where
  abbrev all : Map
  all = map_after_all layout base items

  -- no call yet
  pub none_yet : (a : View) (k : ℕ) → EachHeld (InBatch layout base items k) a → Steps (MeansNow layout all) a a
  none_yet a k each = weaken (no_steps a) (λ d i left same. subst (λ (x : List ℕ). Means layout x all) (sym same) (batch_means layout base items admitted k d (each d left)))

  module _ (k : ℕ) (d : Update) (lt : k < length items) where
    -- after an item
    moved : (start image : List ℕ) → InBatch layout base items k start → Updates (height_limit layout) (get_or items k d) start image → InBatch layout base items k image ⊎ InBatch layout base items (suc k) image
    moved start image is step =
        let keeps = update_keeps_intent (height_limit layout) (get_or items k d) start image step in
        elim (step.map_is (map_after_items (height_limit layout) base (take k items)) is.represents) [
          | inl same ↦ inl (batch_next_at layout base items start image k k is keeps same)
          | inr next ↦ inr (batch_next_at layout base items start image k (suc k) is keeps (subst (RepresentsMap image) (sym (next_item (height_limit layout) base items k d lt)) next))
        ]

    pub item_steps : (a b : View) → EachHeld (InBatch layout base items k) a → Steps (Updates (height_limit layout) (get_or items k d)) a b → Steps (MeansNow layout all) a b
    item_steps a b each ab = weaken ab (λ s i left step. elim (moved s i (each s left) step) [
      | inl same ↦ batch_means layout base items admitted k i same
      | inr next ↦ batch_means layout base items admitted (suc k) i next
    ])

    -- once it is made
    pub item_made : (a b : View) (t : StoreView) → Lawful b → EachHeld (InBatch layout base items k) a → Steps (Updates (height_limit layout) (get_or items k d)) a b → StandsOn t b
        → (Told a → (m : Map) → RepresentsMap a.held m → RepresentsMap b.held (map_after (height_limit layout) m (get_or items k d))) → EachHeld (InBatch layout base items (suc k)) b
    item_made a b t law each ab on made = batch_held t layout base items (suc k) law on (λ told.
        let told_a : Told a = told_back ab.frame told in
        let is = each a.held (inl (told_a, refl)) in
        let next = made told_a (map_after_items (height_limit layout) base (take k items)) is.represents in
        batch_next_at layout base items a.held b.held k (suc k) is (update_keeps_intent (height_limit layout) (get_or items k d) a.held b.held (ab.held told_a))
        (subst (RepresentsMap b.held) (sym (next_item (height_limit layout) base items k d lt)) next))

  -- the gate is closed
  pub closing_steps : (a b : View) → EachHeld (InBatch layout base items (length items)) a → Steps (Touched IsIntentGatePlace) a b → Steps (MeansNow layout all) a b
  closing_steps a b each ab = weaken ab (λ s i left step. batch_closed layout base items admitted s i (length items) (each s left) (ap (map_after_items (height_limit layout) base) (take_all (length items) items (omega arith))) step)

-- The store's own part of it.

pub gate_touched : (old new : List ℕ) → Touched IsIntentGatePlace old new → Touched IsIntentPlace old new
gate_touched old new touched = wider old new (λ k is. inr is) touched

-- no intent waits where the gate is even
pub even_idle_at : (image : List ℕ) → intent_gate image ≡ 0 → has_waiting image ≡ false
even_idle_at image even = idle_by (nat_le INTENT_VERSION (layout_in image).version) (intent_gate image) even
  where
    idle_by : (b : Bool) (n : ℕ) → n ≡ 0 → (b && (n == 1)) ≡ false
    idle_by true n e = ap (λ (n : ℕ). n == 1) e
    idle_by false n e = refl

-- and where none waits in a file of a version with intents, it is even
pub idle_even : (image : List ℕ) → INTENT_VERSION ≤ (layout_in image).version → has_waiting image ≡ false → intent_gate image ≡ 0
idle_even image version idle = even_by (intent_gate image) (omega arith) (sym (ap (λ (b : Bool). b && (intent_gate image == 1)) (le_true INTENT_VERSION (layout_in image).version version)) ∙ idle)
  where
    le_true : (m n : ℕ) → m ≤ n → nat_le m n ≡ true
    le_true m n le = grind (arith, nat_tests)

    even_by : (n : ℕ) → n < 2 → (n == 1) ≡ false → n ≡ 0
    even_by zero lt e = refl
    even_by (suc zero) lt e = absurd cc
    even_by (suc (suc n)) lt e = absurd (omega (arith, lt))

-- The beginning.

-- a file without an intent that is to be applied, which represents the map and has room for the items' sizes
pub record IsReadyFor (layout : Layout) (base : Map) (items : List Update) (image : List ℕ) : Type 0 where
  pub represents : RepresentsMap image base
  pub gate_even : intent_gate image ≡ 0
  pub layout_is : layout_in image ≡ layout
  pub fit : T (list_all (fits_item (layout_in image).format) items)

module _ (layout : Layout) (base : Map) (items : List Update) (version : INTENT_VERSION ≤ layout.version) (some : 1 ≤ length items) (intent : IsIntent items) where
  at_layout : (image : List ℕ) → IsReadyFor layout base items image → INTENT_VERSION ≤ (layout_in image).version
  at_layout image ready = subst (λ (l : Layout). INTENT_VERSION ≤ l.version) (sym ready.layout_is) version

  pub begin_steps : (a b : View) → AreAdmitted (height_limit layout) base items → EachHeld (IsReadyFor layout base items) a → Steps (Intends items) a b → Steps (BecomesMeant layout base (map_after_all layout base items)) a b
  begin_steps a b admitted each ab = weaken ab (λ s i left step.
      let ready = each s left in
      elim (intent_whole s i base ready.represents.0 items ready.represents.1 ready.gate_even (at_layout s ready) some intent ready.fit step) [
        | inl old ↦ inl (in_layout i base ready.layout_is old.0)
        | inr begun ↦ inr (batch_means layout base items admitted 0 i (subst (λ (l : Layout). InBatch l base items 0 i) ready.layout_is begun))
      ])

  pub begin_held : (a b : View) → Lawful b → EachHeld (IsReadyFor layout base items) a → Steps (Intends items) a b → NothingPending b → (Told a → byte b.held 640 ≡ 1) → EachHeld (InBatch layout base items 0) b
  begin_held a b law each ab nothing opened = each_held b (InBatch layout base items 0) law nothing (λ told.
      let told_a : Told a = told_back ab.frame told in
      let ready = each a.held (inl (told_a, refl)) in
      let odd : intent_gate b.held ≡ 1 = ap (λ (n : ℕ). n % 2) (opened told_a) in
      subst (λ (l : Layout). InBatch l base items 0 b.held) ready.layout_is
      (intent_open a.held b.held base ready.represents.0 items ready.represents.1 ready.gate_even (ab.held told_a) (at_layout a.held ready) some intent ready.fit odd))

-- and all that follows
pub begun_then : {a b c : View} (layout : Layout) (old after : Map) → Steps (BecomesMeant layout old after) a b → Steps (MeansNow layout after) b c → Steps (BecomesMeant layout old after) a c
begun_then layout old after ab bc = andthen ab bc (λ d i left step. step) (λ d e i left first mid second. inr second)

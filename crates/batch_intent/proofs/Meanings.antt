-- Files with an intent: what they mean, and what keeps it.
use Rattle.std.proofs.Common.{◌≡◌, ◌⊎◌, inl, inr, T, ℕ, zero, suc, ◌+◌, ◌%◌, ◌<◌, ◌≤◌, ◌==◌, ◌&&◌, nat_le, Bool, true, false, cond, List, [], length, take, refl, sym, ap, subst, ◌∙◌, arith}
use mathlib.Core.Bool.{true≢false}
use Rattle.std.specs.List.{list_all, list_any}
use Rattle.std.proofs.lemmas.Bool.{eqb-true}
use Rattle.std.proofs.lemmas.Bool.Decides.{nat_tests}
use Rattle.station.specs.Bytes.{byte, Touched}
use Rattle.header_gate.specs.declared.layout.TheConstants.{INTENT_VERSION}
use Rattle.batch_intent.specs.declared.places.TheConstants.{INTENT, INTENT_SIZE}
use Rattle.header_gate.specs.declared.layout.Layout.{Layout}
use Rattle.header_gate.specs.Header.{number, layout_in, intent_gate}
use Rattle.header_gate.proofs.NumberLaws.{number_same}
use Rattle.header_gate.specs.Places.{height_limit}
use Rattle.map_model.specs.Store.{Map, State, Update}
use Rattle.map_model.specs.Items.{state_after_items, effects_of, is_full}
use Rattle.map_model.specs.After.{map_after_items}
use Rattle.map_model.specs.ItemWords.{AreAdmitted}
use Rattle.map_model.specs.Image.{Represents, RepresentsMap, height_of, slot_format}
use Rattle.map_model.specs.Batches.{IsUnnamed}
use Rattle.map_model.proofs.Unnamed.{unnamed_represents, layout_same, format_same}
use Rattle.map_model.proofs.Recovering.{determined}
use Rattle.map_model.proofs.ItemEffects.{none_finds_full}
use Rattle.map_model.proofs.Resuming.{resumed_same, resumed_admitted, map_of_items}
use Rattle.batch_intent.specs.Spelling.{IsIntent, Spells, items_in, fits_item}
use Rattle.batch_intent.specs.Gate.{IsIntentPlace, IsIntentGatePlace, has_intent, intent_area, Intends}
use Rattle.batch_intent.specs.Means.{has_waiting, waiting, Means, meant_map, KeepsIntent, IsApart, InBatch, map_after_all}
use Rattle.batch_intent.proofs.ItemsRead.{reads_intent}
use Rattle.batch_intent.proofs.Gates.{length-intent_area, byte-intent_area, area_same}

-- Intent and gate are unnamed bytes of the header page.

pub intent_unnamed : (k : ℕ) → IsIntentPlace k → IsUnnamed k
intent_unnamed k (inl there) = record {
  on_page = omega (arith, there.1);
  selector = λ e. omega (arith, e, there.0);
  gate = λ e. omega (arith, e, there.0);
  copy = λ copy small r. omega (arith, r.1, there.0, small);
  identity = λ r. omega (arith, r.1, there.0);
}
intent_unnamed k (inr is) = record {
  on_page = omega (arith, is);
  selector = λ e. omega (arith, e, is);
  gate = λ e. omega (arith, e, is);
  copy = λ copy small r. omega (arith, r.0, is);
  identity = λ r. omega (arith, r.0, is);
}

pub unnamed_touched : (old new : List ℕ) → Touched IsIntentPlace old new → Touched IsUnnamed old new
unnamed_touched old new touched = record { size = touched.size; rest = λ k out. touched.rest k (λ p. out (intent_unnamed k p)) }

-- Files with and without an intent that is to be applied.

cases_two : (n : ℕ) → n < 2 → (n ≡ 0) ⊎ (n ≡ 1)
cases_two n lt = two n lt
  where
    two : (n : ℕ) → n < 2 → (n ≡ 0) ⊎ (n ≡ 1)
    two zero lt = inl refl
    two (suc zero) lt = inr refl
    two (suc (suc n)) lt = absurd (omega arith)

gate_idle : (image : List ℕ) → intent_gate image ≡ 0 → has_waiting image ≡ false
gate_idle image even = ap (λ (n : ℕ). nat_le INTENT_VERSION (layout_in image).version && (n == 1)) even ∙ and_false (nat_le INTENT_VERSION (layout_in image).version)
  where
    and_false : (b : Bool) → (b && false) ≡ false
    and_false true = refl
    and_false false = refl

-- items that are spelled are read
pub spelled_items : (format : ℕ) (items : List Update) (area : List ℕ) → length area ≡ INTENT_SIZE → Spells format items area → items_in area ≡ items
unfolding items_in
spelled_items format items area size spells = (reads_intent items area (omega (arith, size, spells.intent.size)) spells.spelled).items

pub none_waiting : (image : List ℕ) → has_waiting image ≡ false → waiting image ≡ []
unfolding waiting
none_waiting image none = ap (λ (b : Bool). cond b (items_in (intent_area image)) []) none

pub some_waiting : (image : List ℕ) → has_waiting image ≡ true → waiting image ≡ items_in (intent_area image)
unfolding waiting
some_waiting image is = ap (λ (b : Bool). cond b (items_in (intent_area image)) []) is

abbrev pub means_idle : (image : List ℕ) (m : Map) (height : ℕ) → Represents image m height → has_waiting image ≡ false → Means (layout_in image) image m
means_idle image m height is none =
    record {
      layout_is = refl;
      height = height;
      base = m;
      items = [];
      represents = is;
      idle = λ _. refl;
      form = λ some. absurd (true≢false (sym some ∙ none));
      admitted = refl;
      begins = record { map = m; height = height };
      begins_is = refl;
      map_is = refl;
    }

abbrev pub means_waiting : (image : List ℕ) (base : Map) (height : ℕ) (items : List Update) → Represents image base height → has_waiting image ≡ true → Spells (slot_format image) items (intent_area image)
    → AreAdmitted (height_limit (layout_in image)) base items → Means (layout_in image) image (map_after_items (height_limit (layout_in image)) base items)
means_waiting image base height items is some spells admitted =
    record {
      layout_is = refl;
      height = height;
      base = base;
      items = items;
      represents = is;
      idle = λ none. absurd (true≢false (sym some ∙ none));
      form = λ _. spells;
      admitted = none_finds_full (height_limit (layout_in image)) base items admitted;
      begins = state_after_items (height_limit (layout_in image)) (record { map = base; height = height }) items;
      begins_is = refl;
      map_is = map_of_items (height_limit (layout_in image)) (record { map = base; height = height }) items;
    }

-- the layout under another name
abbrev pub in_layout : {k l : Layout} (image : List ℕ) (m : Map) → k ≡ l → Means k image m → Means l image m
in_layout {k} {l} image m same means =
    record {
      layout_is = means.layout_is ∙ same;
      height = means.height;
      base = means.base;
      items = means.items;
      represents = means.represents;
      idle = λ none. means.idle (ap (λ (j : Layout). has_intent j image) same ∙ none);
      form = λ some. subst (λ (j : Layout). Spells j.format means.items (intent_area image)) same (means.form (ap (λ (j : Layout). has_intent j image) same ∙ some));
      admitted = subst (λ (j : Layout). list_any is_full (effects_of (height_limit j) means.base means.items) ≡ false) same means.admitted;
      begins = means.begins;
      begins_is = sym (ap (λ (j : Layout). state_after_items (height_limit j) (record { map = means.base; height = means.height }) means.items) same) ∙ means.begins_is;
      map_is = means.map_is;
    }

-- under the image's own
abbrev pub in_own : {l : Layout} (image : List ℕ) (m : Map) → Means l image m → Means (layout_in image) image m
in_own image m means = in_layout image m (sym means.layout_is) means

-- the items of the intent are those that are read from it
pub items_are : {l : Layout} (image : List ℕ) (m : Map) (means : Means l image m) → means.items ≡ waiting image
items_are image m means = by_gate (has_waiting image) refl
  where
    by_gate : (b : Bool) → has_waiting image ≡ b → means.items ≡ waiting image
    by_gate true some = sym (some_waiting image some ∙ spelled_items (slot_format image) means.items (intent_area image) (length-intent_area image) ((in_own image m means).form some))
    by_gate false none = (in_own image m means).idle none ∙ sym (none_waiting image none)

-- the map is the one after the items
pub map_made : {l : Layout} (image : List ℕ) (m : Map) (means : Means l image m) → map_after_items (height_limit l) means.base means.items ≡ m
map_made {l} image m means = sym (map_of_items (height_limit l) (record { map = means.base; height = means.height }) means.items) ∙ ap (λ (s : State). s.map) means.begins_is ∙ means.map_is

-- a file means one map
pub meant_one : {l : Layout} (image : List ℕ) (m : Map) (means : Means l image m) → (m ≡ meant_map image) × (means.height ≡ height_of image)
meant_one image m means =
    let own = determined image means.base means.height means.represents in
    (sym (map_made image m (in_own image m means)) ∙ (λ t. map_after_items (height_limit (layout_in image)) (own.0 t) (items_are image m means t)), own.1)

-- The same intent.

module _ (old new : List ℕ) (keeps : KeepsIntent old new) where
  pub waiting_kept : has_waiting new ≡ has_waiting old
  waiting_kept t = nat_le INTENT_VERSION (keeps.layout_is t).version && (keeps.gate_is t == 1)

  pub area_kept : intent_area new ≡ intent_area old
  area_kept = area_same old new (λ k lt. keeps.same (INTENT + k) (omega arith, omega (arith, lt)))

  pub spells_kept : (items : List Update) → Spells (slot_format old) items (intent_area old) → Spells (slot_format new) items (intent_area new)
  spells_kept items spells = subst (λ (l : Layout). Spells l.format items (intent_area new)) (sym keeps.layout_is) (subst (Spells (slot_format old) items) (sym area_kept) spells)

-- what leaves identity, intent and gate keeps it
pub update_keeps : (old new : List ℕ) → slot_format new ≡ slot_format old → Touched IsApart old new → KeepsIntent old new
update_keeps old new format touched = record {
  layout_is = λ t. record { hmax = numbers 3084 (omega arith) (omega arith) t; journal = numbers 3088 (omega arith) (omega arith) t; version = numbers 3080 (omega arith) (omega arith) t; format = format t };
  gate_is = ap (λ (b : ℕ). b % 2) (touched.rest 640 (λ apart. apart.intent (inr refl)));
  same = λ k there. touched.rest k (λ apart. apart.intent (inl there));
}
  where
    numbers : (k : ℕ) → 3072 ≤ k → k + 4 ≤ 3092 → number new k ≡ number old k
    numbers k low high = number_same new old k k (λ n x y lt ex ey. let e : x ≡ y = omega arith in touched.rest x (λ apart. apart.identity (omega arith, omega arith)) ∙ ap (byte old) e)

-- In the middle of a batch.

-- an image with the intent, which represents the map after other items, is in the middle of it too
pub batch_next_at : (layout : Layout) (base : Map) (items : List Update) (start image : List ℕ) (k j : ℕ) → InBatch layout base items k start → KeepsIntent start image
    → RepresentsMap image (map_after_items (height_limit layout) base (take j items)) → InBatch layout base items j image
batch_next_at layout base items start image k j is keeps represents = record {
  some = waiting_kept start image keeps ∙ is.some;
  layout_is = keeps.layout_is ∙ is.layout_is;
  spells = spells_kept start image keeps items is.spells;
  represents = represents;
}

module _ (layout : Layout) (base : Map) (items : List Update) (admitted : AreAdmitted (height_limit layout) base items) where
  -- however many of the items were made, the image means the map after all of them
  pub batch_means : (k : ℕ) (image : List ℕ) → InBatch layout base items k image → Means layout image (map_after_all layout base items)
  batch_means k image is =
      let limit = height_limit layout in
      let part = map_after_items limit base (take k items) in
      let same : height_limit (layout_in image) ≡ limit = ap height_limit is.layout_is in
      let again : AreAdmitted (height_limit (layout_in image)) part items = subst (λ (n : ℕ). AreAdmitted n part items) (sym same) (resumed_admitted limit base items k is.spells.intent.distinct admitted) in
      let all : map_after_items (height_limit (layout_in image)) part items ≡ map_after_items limit base items = ap (λ (n : ℕ). map_after_items n part items) same ∙ resumed_same limit base items k is.spells.intent.distinct admitted in
      in_layout image (map_after_all layout base items) is.layout_is (subst (Means (layout_in image) image) all (means_waiting image part is.represents.0 items is.represents.1 is.some is.spells again))

  -- the gate is closed behind all of them
  pub batch_closed : (start image : List ℕ) (k : ℕ) → InBatch layout base items k start → map_after_items (height_limit layout) base (take k items) ≡ map_after_all layout base items → Touched IsIntentGatePlace start image → Means layout image (map_after_all layout base items)
  batch_closed start image k is all touched =
      let wider : Touched IsUnnamed start image = record { size = touched.size; rest = λ n out. touched.rest n (λ e. out (intent_unnamed n (inr e))) } in
      let represents = unnamed_represents start image (map_after_items (height_limit layout) base (take k items)) is.represents.0 is.represents.1 wider in
      elim (cases_two (intent_gate image) (omega arith)) [
        | inl idle ↦
            let part = map_after_items (height_limit layout) base (take k items) in
            let same = layout_same start image is.represents.1.header wider ∙ is.layout_is in
            in_layout image (map_after_all layout base items) same (subst (Means (layout_in image) image) all (means_idle image part is.represents.0 represents (gate_idle image idle)))
        | inr odd ↦
            let keeps : KeepsIntent start image = record {
              layout_is = layout_same start image is.represents.1.header wider;
              gate_is = odd ∙ sym (odd_waiting start is.some);
              same = λ n there. touched.rest n (λ e. omega (arith, e, there.0));
            } in
            batch_means k image (batch_next_at layout base items start image k k is keeps (is.represents.0, represents))
      ]
    where
      odd_waiting : (image : List ℕ) → has_waiting image ≡ true → intent_gate image ≡ 1
      odd_waiting image some = odd_of (nat_le INTENT_VERSION (layout_in image).version) (intent_gate image) some
        where
          odd_of : (b : Bool) (n : ℕ) → (b && (n == 1)) ≡ true → n ≡ 1
          odd_of true n e = eqb-true n 1 e
          odd_of false n e = absurd (cc)

-- The writing of an intent.

module _ (old new : List ℕ) (base : Map) (height : ℕ) (items : List Update) (is : Represents old base height) (even : intent_gate old ≡ 0) (intends : Intends items old new) where
  spared : Touched IsUnnamed old new
  spared = unnamed_touched old new intends.touched

  still : Represents new base height
  still = unnamed_represents old new base height is spared

  layout : layout_in new ≡ layout_in old
  layout = layout_same old new is.header spared

  -- with an odd gate it is at the beginning of the batch
  pub intent_open : INTENT_VERSION ≤ (layout_in old).version → 1 ≤ length items → IsIntent items → T (list_all (fits_item (slot_format old)) items) → intent_gate new ≡ 1 → InBatch (layout_in old) base items 0 new
  intent_open version some intent fit odd = record {
    some = ap (λ (n : ℕ). nat_le INTENT_VERSION (layout_in new).version && (n == 1)) odd ∙ ap (λ (l : Layout). nat_le INTENT_VERSION l.version && true) layout ∙ ap (λ (b : Bool). b && true) (le_true INTENT_VERSION (layout_in old).version version);
    layout_is = layout;
    spells = record {
      some = some;
      intent = intent;
      fit = subst (λ (f : ℕ). T (list_all (fits_item f) items)) (sym (format_same old new is.header spared)) fit;
      spelled = λ k lt. byte-intent_area new k (omega (arith, lt, intent.size)) ∙ (intends.holds even odd).spelled k lt;
    };
    represents = (height, still);
  }
    where
      le_true : (m n : ℕ) → m ≤ n → nat_le m n ≡ true
      le_true m n le = grind (arith, nat_tests)

  -- it means the map of before, or is at the beginning of the batch
  intent_begun : INTENT_VERSION ≤ (layout_in old).version → 1 ≤ length items → IsIntent items → T (list_all (fits_item (slot_format old)) items)
      → ((means : Means (layout_in old) new base) × (means.height ≡ height)) ⊎ InBatch (layout_in old) base items 0 new
  intent_begun version some intent fit = elim (cases_two (intent_gate new) (omega arith)) [
    | inl idle ↦ inl (in_layout new base layout (means_idle new base height still (gate_idle new idle)), refl)
    | inr odd ↦ inr (intent_open version some intent fit odd)
  ]

pub intent_whole : (old new : List ℕ) (base : Map) (height : ℕ) (items : List Update) → Represents old base height → intent_gate old ≡ 0 → INTENT_VERSION ≤ (layout_in old).version
    → 1 ≤ length items → IsIntent items → T (list_all (fits_item (slot_format old)) items) → Intends items old new
    → ((means : Means (layout_in old) new base) × (means.height ≡ height)) ⊎ InBatch (layout_in old) base items 0 new
intent_whole old new base height items is even version some intent fit intends = intent_begun old new base height items is even intends version some intent fit

-- an image with an intent that is to be applied is at the beginning of its batch
pub batch_begun : {l : Layout} (image : List ℕ) (m : Map) (means : Means l image m) → has_waiting image ≡ true → InBatch l means.base (waiting image) 0 image
batch_begun image m means some = record {
  some = some;
  layout_is = means.layout_is;
  spells = subst (λ (us : List Update). Spells (slot_format image) us (intent_area image)) (items_are image m means) ((in_own image m means).form some);
  represents = (means.height, means.represents);
}

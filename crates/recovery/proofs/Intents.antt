-- What is found of the intent of a file that stands, and of one that is brought back.
use Rattle.std.proofs.Common.{◌≡◌, ℕ, zero, suc, ◌+◌, ◌*◌, ◌^◌, ◌<◌, ◌≤◌, nat_lt, Bool, true, false, cond, List, [], ◌∷◌, length, take, refl, sym, ap, subst, ◌∙◌, Option, Some, None, sum, arith, length-append}
use Rattle.std.specs.FinMap.{from_sorted, len}
use Rattle.std.proofs.lemmas.Bool.{ltb-true}
use Rattle.std.specs.List.{flat_map}
use Rattle.std.proofs.lemmas.List.{get_or_append_left, get_or-append-add}
use Rattle.station.specs.Bytes.{byte}
use Rattle.header_gate.specs.declared.layout.Layout.{Layout}
use Rattle.header_gate.specs.declared.layout.TheConstants.{INTENT_VERSION}
use Rattle.header_gate.specs.declared.reason.Reason.{Reason}
use Rattle.header_gate.specs.Header.{layout_in, gate}
use Rattle.header_gate.specs.Places.{height_limit, segment_size}
use Rattle.header_gate.specs.Reasons.{or_else}
use Rattle.map_model.specs.Array.{rows}
use Rattle.map_model.specs.Items.{first_full}
use Rattle.map_model.specs.Image.{array_of, height_of, map_of}
use Rattle.map_model.proofs.Reasonings.{length-array_in}
use Rattle.map_model.specs.FileReasons.{reason_of}
use Rattle.map_model.specs.Standing.{StandsWith}
use Rattle.map_model.specs.Store.{Update}
use Rattle.batch_intent.specs.declared.places.TheConstants.{INTENT_SIZE}
use Rattle.batch_intent.specs.Spelling.{Spells, item_bytes, intent_bytes, items_in, place_from}
use Rattle.batch_intent.specs.IntentReasons.{wrong_place}
use Rattle.batch_intent.specs.Gate.{has_intent, intent_area, reason_at, form_reason}
use Rattle.batch_intent.specs.Means.{has_waiting, waiting, full_reason, fullness_reason, opening_reason, KeepsIntent}
use Rattle.batch_intent.proofs.Gates.{length-intent_area}
use Rattle.batch_intent.proofs.ItemsRead.{reads_item}
use Rattle.batch_intent.proofs.Meanings.{none_waiting, some_waiting, waiting_kept, area_kept}
use Rattle.batch_intent.proofs.Sound.{spells_of_none}
use Rattle.recovery.specs.Intents.{intent_of, intent_reason, intent_calls, intent_reads, look_calls, look_reads, may_meet, place_among}
use Rattle.recovery.specs.Restores.{Restores}
use Rattle.recovery.proofs.Keeping.{items_same, restores_keeps}
use Rattle.recovery.proofs.Rooms.{full_below}
use Rattle.recovery.proofs.Lookups.{records_are}

-- Places of items.

places : (items : List Update) (bytes : List ℕ) (p i : ℕ) → i < length items → p + length (flat_map item_bytes items) ≤ length bytes → ((k : ℕ) → k < length (flat_map item_bytes items) → byte bytes (p + k) ≡ byte (flat_map item_bytes items) k)
    → place_from bytes i p ≡ p + length (flat_map item_bytes (take i items))
places [] bytes p i lt within is = absurd (omega (arith, lt))
places (u ∷ us) bytes p zero lt within is = omega arith
places (u ∷ us) bytes p (suc i) lt within is =
    let size = length-append (item_bytes u) (flat_map item_bytes us) in
    let first = reads_item u bytes p (omega (arith, within, size)) (λ k less. is k (omega (arith, less, size)) ∙ get_or_append_left (item_bytes u) (flat_map item_bytes us) 0 k less) in
    let rest = places us bytes (p + length (item_bytes u)) i (omega (arith, lt)) (omega (arith, within, size)) (λ k less.
    let e : p + length (item_bytes u) + k ≡ p + (length (item_bytes u) + k) = omega arith in
    ap (byte bytes) e ∙ is (length (item_bytes u) + k) (omega (arith, less, size)) ∙ get_or-append-add (item_bytes u) (flat_map item_bytes us) k 0) in
    ap (place_from bytes i) first.1 ∙ rest ∙ omega (arith, length-append (item_bytes u) (flat_map item_bytes (take i us)))

-- an item of an intent stands behind the spelling of those before it
item_place : (format : ℕ) (items : List Update) (area : List ℕ) (i : ℕ) → length area ≡ INTENT_SIZE → Spells format items area → i < length items → place_from area i 1 ≡ length (intent_bytes (take i items))
item_place format items area i long spells lt =
    places items area 1 i lt (omega (arith, spells.intent.size, long)) (λ k less. let e : 1 + k ≡ suc k = omega arith in ap (byte area) e ∙ spells.spelled (suc k) (omega (arith, less)))
    ∙ omega arith

-- so the reason of an item that meets a full store names it
full_same : (format : ℕ) (items : List Update) (area : List ℕ) (o : Option ℕ) → length area ≡ INTENT_SIZE → Spells format items area → ((i : ℕ) → o ≡ Some i → i < length items) → full_reason area o ≡ reason_at (place_among items o)
full_same format items area None long spells below = refl
full_same format items area (Some i) long spells below = ap (λ (p : ℕ). reason_at (Some p)) (item_place format items area i long spells (below i refl))

-- The intent of a file.

module _ (layout : Layout) (image : List ℕ) (layout_is : layout_in image ≡ layout) where
  waiting_is : (b : Bool) → has_intent layout image ≡ b → has_waiting image ≡ b
  waiting_is b is = ap (λ (l : Layout). has_intent l image) layout_is ∙ is

  form_is : form_reason (layout_in image) image ≡ form_reason layout image
  form_is = ap (λ (l : Layout). form_reason l image) layout_is

  -- none is to be applied
  module _ (idle : has_intent layout image ≡ false) where
    pub none_waits : None ≡ intent_of image
    none_waits = sym (ap (λ (b : Bool). cond b (Some (waiting image)) None) (waiting_is false idle))

    pub none_wrong : intent_reason image ≡ None
    none_wrong =
        (λ t. or_else (cond (waiting_is false idle t) (reason_at (wrong_place (layout_in image).format (intent_area image))) None) (full_reason (intent_area image) (first_full (height_limit (layout_in image)) (map_of image) (none_waiting image (waiting_is false idle) t))))

  -- one is
  module _ (some : has_intent layout image ≡ true) (right : form_reason layout image ≡ None) where
    spells : Spells layout.format (items_in (intent_area image)) (intent_area image)
    spells = spells_of_none layout.format (intent_area image) (length-intent_area image) (no_place (wrong_place layout.format (intent_area image)) (sym (ap (λ (b : Bool). cond b (reason_at (wrong_place layout.format (intent_area image))) None) some) ∙ right))
      where
        no_place : (o : Option ℕ) → reason_at o ≡ None → o ≡ None
        no_place None e = refl
        no_place (Some p) e = absurd (cc)

    abbrev items : List Update
    items = items_in (intent_area image)

    pub some_waits : Some items ≡ intent_of image
    some_waits =
        ap Some (sym (some_waiting image (waiting_is true some)))
        ∙ sym (ap (λ (b : Bool). cond b (Some (waiting image)) None) (waiting_is true some))

    full_is : fullness_reason image ≡ reason_at (place_among items (first_full (height_limit layout) (map_of image) items))
    full_is =
        (λ t. full_reason (intent_area image) (first_full (height_limit (layout_is t)) (map_of image) (some_waiting image (waiting_is true some) t)))
        ∙ full_same layout.format items (intent_area image) (first_full (height_limit layout) (map_of image) items) (length-intent_area image) spells (λ i is. omega (arith, full_below (height_limit layout) (map_of image) items i is))

    pub some_wrong : (answer : Option Reason) → reason_at (place_among items (first_full (height_limit layout) (map_of image) items)) ≡ answer → intent_reason image ≡ answer
    some_wrong answer is = (λ t. or_else ((form_is ∙ right) t) (fullness_reason image)) ∙ full_is ∙ is

  -- its form is wrong
  pub form_wrong : (r : Reason) → form_reason layout image ≡ Some r → intent_reason image ≡ Some r
  form_wrong r wrong = ap (λ (o : Option Reason). or_else o (fullness_reason image)) (form_is ∙ wrong)

-- What is read for it.

by_version : (v : Bool) (p : Bool) (n most : ℕ) → (v ≡ true → n ≡ 0) → (p ≡ false → n ≤ 1) → n ≤ most → n ≤ cond v 0 (cond p most 1)
by_version true p n most none gate all = omega (arith, none refl)
by_version false true n most none gate all = all
by_version false false n most none gate all = gate refl

pub reads_within : (layout : Layout) (image : List ℕ) (n : ℕ) → layout_in image ≡ layout → (layout.version < INTENT_VERSION → n ≡ 0) → (has_intent layout image ≡ false → n ≤ 1) → n ≤ 1 + INTENT_SIZE + look_reads image → n ≤ intent_reads image
reads_within layout image n is none gate all =
    by_version (nat_lt (layout_in image).version INTENT_VERSION) (has_waiting image) n (1 + INTENT_SIZE + look_reads image)
    (λ early. none (omega (arith, ltb-true (layout_in image).version INTENT_VERSION early, ap (λ (l : Layout). l.version) is)))
    (λ idle. gate (ap (λ (l : Layout). has_intent l image) (sym is) ∙ idle)) all

-- the look, by the counts of a file that stands
pub look_within : (layout : Layout) (region height : ℕ) (counts image : List ℕ) (items : List Update) (n : ℕ) → StandsWith layout region height counts image → waiting image ≡ items
    → (may_meet (height_limit layout) (sum counts) items ≡ false → n ≡ 0) → n ≤ segment_size layout * 2 ^ height → n ≤ look_reads image
look_within layout region height counts image items n stands are none all =
    subst (λ (most : ℕ). n ≤ most) (sym (λ t. cond (test t) (segment_size (stands.settled.layout_is t) * 2 ^ stands.height_is t) 0)) (by_test (may_meet (height_limit layout) (sum counts) items) none)
  where
    test : may_meet (height_limit (layout_in image)) (len (map_of image)) (waiting image) ≡ may_meet (height_limit layout) (sum counts) items
    test = λ t. may_meet (height_limit (stands.settled.layout_is t)) (records_are layout region height counts image stands t) (are t)

    by_test : (b : Bool) → (b ≡ false → n ≡ 0) → n ≤ cond b (segment_size layout * 2 ^ height) 0
    by_test true none = all
    by_test false none = omega (arith, none refl)

-- The calls for it.

by_gate : (p : Bool) (n most : ℕ) → (p ≡ false → n ≤ 1) → n ≤ most → n ≤ cond p most 1
by_gate true n most gate all = all
by_gate false n most gate all = gate refl

pub calls_within : (layout : Layout) (image : List ℕ) (n : ℕ) → layout_in image ≡ layout → (has_intent layout image ≡ false → n ≤ 1) → n ≤ 2 + look_calls image → n ≤ intent_calls image
calls_within layout image n is gate all =
    by_gate (has_waiting image) n (2 + look_calls image) (λ idle. gate (ap (λ (l : Layout). has_intent l image) (sym is) ∙ idle)) all

-- those of the look, by the counts of a file that stands
pub look_called : (layout : Layout) (region height : ℕ) (counts image : List ℕ) (items : List Update) (n : ℕ) → StandsWith layout region height counts image → waiting image ≡ items
    → (may_meet (height_limit layout) (sum counts) items ≡ false → n ≡ 0) → n ≤ 2 ^ height → n ≤ look_calls image
look_called layout region height counts image items n stands are none all =
    subst (λ (most : ℕ). n ≤ most) (sym (λ t. cond (test t) (2 ^ stands.height_is t) 0)) (by_test (may_meet (height_limit layout) (sum counts) items) none)
  where
    test : may_meet (height_limit (layout_in image)) (len (map_of image)) (waiting image) ≡ may_meet (height_limit layout) (sum counts) items
    test = λ t. may_meet (height_limit (stands.settled.layout_is t)) (records_are layout region height counts image stands t) (are t)

    by_test : (b : Bool) → (b ≡ false → n ≡ 0) → n ≤ cond b (2 ^ height) 0
    by_test true none = all
    by_test false none = omega (arith, none refl)

-- A file that is brought back.

module _ (old new : List ℕ) (restores : Restores old new) where
  intent_kept : KeepsIntent old new
  intent_kept = restores_keeps old new restores

  items_kept : waiting new ≡ waiting old
  items_kept = items_same old new intent_kept

  pub waits_kept : intent_of new ≡ intent_of old
  waits_kept t = cond (waiting_kept old new intent_kept t) (Some (items_kept t)) None

  module _ (arrays : array_of new ≡ array_of old) where
    maps : map_of new ≡ map_of old
    unfolding map_of
    maps t = from_sorted (rows (arrays t))

    reason_kept : intent_reason new ≡ intent_reason old
    reason_kept t =
        or_else (cond (waiting_kept old new intent_kept t) (reason_at (wrong_place (intent_kept.layout_is t).format (area_kept old new intent_kept t))) None)
        (full_reason (area_kept old new intent_kept t) (first_full (height_limit (intent_kept.layout_is t)) (maps t) (items_kept t)))

    -- so are the calls for it
    pub calls_kept : intent_calls new ≡ intent_calls old
    calls_kept t =
        cond (waiting_kept old new intent_kept t) (2 + cond (may_meet (height_limit (intent_kept.layout_is t)) (len (maps t)) (items_kept t)) (size t) 0) 1
      where
        size : 2 ^ height_of new ≡ 2 ^ height_of old
        size = sym (length-array_in new (height_of new)) ∙ ap length arrays ∙ length-array_in old (height_of old)

    -- what is wrong with the intent is what is wrong with the file at entry
    pub by_intent : (answer : Option Reason) → reason_of old ≡ None → intent_reason new ≡ answer → opening_reason old ≡ answer
    unfolding opening_reason
    by_intent answer none is = (λ t. or_else (none t) (intent_reason old)) ∙ sym reason_kept ∙ is

-- what is wrong with the file itself comes first
pub by_file : (image : List ℕ) (r : Reason) → reason_of image ≡ Some r → opening_reason image ≡ Some r
unfolding opening_reason
by_file image r is = ap (λ (o : Option Reason). or_else o (intent_reason image)) is

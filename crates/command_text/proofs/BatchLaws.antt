-- The words of a batch: what its form says of its items.
use Rattle.std.proofs.Common.{◌≡◌, ℕ, ◌<◌, ◌≤◌, Bool, true, false, cond, ◌&&◌, List, [], ◌∷◌, T, length, map, nat_lt, nat_le, Some, None, refl, arith}
use Rattle.std.specs.Prelude.{codes}
use Rattle.std.specs.List.{list_all, onto_first}
use Rattle.std.specs.Str.{bytes_eq}
use Rattle.std.proofs.lemmas.Bool.{leb-true, le-leb, ltb-false}
use Rattle.std.proofs.lemmas.List.{length-map}
use Rattle.std.proofs.lemmas.List.Splits.{length-slice_split}
use Rattle.percent_encoding.specs.Percent.{percent_decode}
use Rattle.percent_encoding.proofs.PercentLemmas.{length-percent_decode}
use Rattle.key_slot.specs.Format.{key_room, value_room}
use Rattle.map_model.specs.Store.{Update, bind, unbind, key_of}
use Rattle.batch_intent.specs.declared.intent.TheConstants.{MOST_ITEMS}
use Rattle.batch_intent.specs.declared.places.TheConstants.{INTENT_SIZE}
use Rattle.batch_intent.specs.Spelling.{intent_bytes, bound_value, fits_item}
use Rattle.command_text.specs.declared.command.Command.TheVariants.{OversizedKey, OversizedValue}
use Rattle.command_text.specs.BatchForm.{is_separator, parts, is_item_form, item_of, items_of, is_batch_form, first_oversized}
use Rattle.command_text.proofs.WordLaws.{AreWords}

-- two tests that hold

first_of : (a b : Bool) → (a && b) ≡ true → a ≡ true
first_of true b e = refl
first_of false b e = absurd cc

second_of : (a b : Bool) → (a && b) ≡ true → b ≡ true
second_of true b e = e
second_of false b e = absurd cc

-- the form of a batch
pub record HasForm (ws : List (List ℕ)) : Type 0 where
  pub items : list_all is_item_form (parts ws) ≡ true
  pub most : length (items_of ws) ≤ MOST_ITEMS
  pub size : length (intent_bytes (items_of ws)) ≤ INTENT_SIZE

pub forms_of : (ws : List (List ℕ)) → is_batch_form ws ≡ true → HasForm ws
forms_of ws e =
    let few = nat_le (length (parts ws)) MOST_ITEMS in
    let short = nat_le (length (intent_bytes (items_of ws))) INTENT_SIZE in
    let rest = second_of (list_all is_item_form (parts ws)) (few && short) e in
    record {
      items = first_of (list_all is_item_form (parts ws)) (few && short) e;
      most = omega (arith, length-map (parts ws) item_of, leb-true (length (parts ws)) MOST_ITEMS (first_of few short rest));
      size = leb-true (length (intent_bytes (items_of ws))) INTENT_SIZE (second_of few short rest);
    }

-- a batch has one item or more
pub some_items : (ws : List (List ℕ)) → 1 ≤ length (items_of ws)
some_items ws = omega (arith, length-map (parts ws) item_of, length-slice_split is_separator ws)

-- the words of an item are words
abbrev pub AreParts : List (List (List ℕ)) → Type 0
AreParts [] = Unit {0}
AreParts (part ∷ ps) = AreWords part × AreParts ps

onto : (w : List ℕ) (ps : List (List (List ℕ))) → 0 < length w → AreParts ps → AreParts (onto_first w ps)
onto w [] some are = ((some, tt), tt)
onto w (part ∷ ps) some are = ((some, are.0), are.1)

split_by : (b : Bool) (w : List ℕ) (ps : List (List (List ℕ))) → 0 < length w → AreParts ps → AreParts (cond b ([] ∷ ps) (onto_first w ps))
split_by true w ps some are = (tt, are)
split_by false w ps some are = onto w ps some are

pub all_words : (ws : List (List ℕ)) → AreWords ws → AreParts (parts ws)
all_words [] are = (tt, tt)
all_words (w ∷ ws) are = split_by (is_separator w) w (parts ws) are.0 (all_words ws are.1)

-- each item has a key
abbrev pub HaveKeys : List Update → Type 0
HaveKeys [] = Unit {0}
HaveKeys (u ∷ us) = (1 ≤ length (key_of u)) × HaveKeys us

decodes : (word : List ℕ) → 0 < length word → 1 ≤ length (percent_decode word)
decodes word some = omega (arith, (length-percent_decode word).1, some)

key_is : (part : List (List ℕ)) → AreWords part → is_item_form part ≡ true → 1 ≤ length (key_of (item_of part))
key_is [] are form = absurd cc
key_is (name ∷ []) are form = absurd cc
key_is (name ∷ key ∷ []) are form = pick (bytes_eq name (codes "put"))
  where
    pick : (b : Bool) → 1 ≤ length (key_of (cond b (bind (percent_decode key) []) (unbind (percent_decode key))))
    pick true = decodes key are.1.0
    pick false = decodes key are.1.0
key_is (name ∷ key ∷ value ∷ []) are form = decodes key are.1.0
key_is (name ∷ key ∷ value ∷ more ∷ rest) are form = absurd cc

pub keys_are : (ps : List (List (List ℕ))) → AreParts ps → list_all is_item_form ps ≡ true → HaveKeys (map item_of ps)
keys_are [] are form = tt
keys_are (part ∷ ps) are form = (key_is part are.0 (first_of (is_item_form part) (list_all is_item_form ps) form), keys_are ps are.1 (second_of (is_item_form part) (list_all is_item_form ps) form))

-- no size that the format hasn't
module _ (f : ℕ) where
  fit_one : (u : Update) → 1 ≤ length (key_of u) → length (key_of u) ≤ key_room f → length (bound_value u) ≤ value_room f → fits_item f u ≡ true
  fit_one u some key value = λ i. (le-leb 1 (length (key_of u)) some i && (le-leb (length (key_of u)) (key_room f) key i && le-leb (length (bound_value u)) (value_room f) value i))

  -- the first item's sizes, and those of the others
  sizes_are : (u : Update) (us : List Update) → first_oversized f (u ∷ us) ≡ None → (length (key_of u) ≤ key_room f) × (length (bound_value u) ≤ value_room f) × (first_oversized f us ≡ None)
  sizes_are u us sized = by_tests (nat_lt (key_room f) (length (key_of u))) (nat_lt (value_room f) (length (bound_value u))) refl refl sized
    where
      by_tests : (a b : Bool) → nat_lt (key_room f) (length (key_of u)) ≡ a → nat_lt (value_room f) (length (bound_value u)) ≡ b
          → cond a (Some OversizedKey) (cond b (Some OversizedValue) (first_oversized f us)) ≡ None
          → (length (key_of u) ≤ key_room f) × (length (bound_value u) ≤ value_room f) × (first_oversized f us ≡ None)
      by_tests true b p q e = absurd cc
      by_tests false true p q e = absurd cc
      by_tests false false p q e = (ltb-false (key_room f) (length (key_of u)) p, ltb-false (value_room f) (length (bound_value u)) q, e)

  pub all_fit : (us : List Update) → HaveKeys us → first_oversized f us ≡ None → T (list_all (fits_item f) us)
  all_fit [] keys sized = tt
  all_fit (u ∷ us) keys sized =
      let is = sizes_are u us sized in
      joined (fits_item f u) (list_all (fits_item f) us) (fit_one u keys.0 is.0 is.1) (all_fit us keys.1 is.2)
    where
      joined : (a b : Bool) → a ≡ true → T b → T (a && b)
      joined true b e h = h
      joined false b e h = absurd cc

-- The words of a batch read item by item.
use Rattle.std.proofs.Common.{◌≡◌, inl, inr, ℕ, ◌+◌, ◌<◌, ◌≤◌, Bool, true, false, cond, ◌&&◌, ◌||◌, List, [], ◌∷◌, length, map, nat_le, Option, Some, None, refl, sym, ap, subst, ◌∙◌, arith, length-append}
use Rattle.std.specs.Prelude.{codes}
use Rattle.std.specs.List.{list_all, flat_map, onto_first}
use Rattle.std.specs.Str.{bytes_eq}
use Rattle.std.proofs.lemmas.Bool.{le-leb, lt-leb}
use Rattle.std.proofs.lemmas.List.Splits.{slice_split-cons_no, length-slice_split}
use Rattle.percent_encoding.specs.Percent.{percent_decode}
use Rattle.percent_encoding.proofs.PercentLemmas.{percent_decode-nil}
use Rattle.map_model.specs.Store.{Update, bind, unbind}
use Rattle.batch_intent.specs.declared.intent.TheConstants.{MOST_ITEMS}
use Rattle.batch_intent.specs.declared.places.TheConstants.{INTENT_SIZE}
use Rattle.batch_intent.specs.Spelling.{item_bytes, intent_bytes}
use Rattle.command_text.specs.Words.{words}
use Rattle.command_text.specs.BatchForm.{is_separator, parts, is_item_form, item_of, items_of, is_batch_form}
use Rattle.command_text.specs.BatchWords.{item_read, parts_behind, BeginsWith, BeginsWithValue, IsItemWord, IsItemEnd, EndsItem}

-- The first part of words.

-- there is one
pub some_part : (ws : List (List ℕ)) → (p : List (List ℕ)) × (ps : List (List (List ℕ))) × (parts ws ≡ p ∷ ps)
some_part [] = ([], [], refl)
some_part (w ∷ ws) = let r = some_part ws in pick (is_separator w) r.0 r.1 r.2
  where
    pick : (b : Bool) (p : List (List ℕ)) (ps : List (List (List ℕ))) → parts ws ≡ p ∷ ps → (q : List (List ℕ)) × (qs : List (List (List ℕ))) × (cond b ([] ∷ parts ws) (onto_first w (parts ws)) ≡ q ∷ qs)
    pick true p ps is = ([], parts ws, refl)
    pick false p ps is = (w ∷ p, ps, ap (onto_first w) is)

-- a word goes into it
word_parts : (ws : List (List ℕ)) (w : List ℕ) (rest : List (List ℕ)) (p : List (List ℕ)) (ps : List (List (List ℕ))) → IsItemWord ws w rest → parts rest ≡ p ∷ ps → parts ws ≡ (w ∷ p) ∷ ps
word_parts ws w rest p ps is behind = ap parts is.first ∙ slice_split-cons_no is_separator w rest is.other ∙ ap (onto_first w) behind

-- at the end of an item it has no word
end_parts : (ws : List (List ℕ)) (behind : Option (List ℕ)) → IsItemEnd ws behind → parts ws ≡ [] ∷ parts_behind behind
end_parts ws None is = ap parts is
end_parts ws (Some rest) is = ap parts is

ended : (ws : List (List ℕ)) → EndsItem ws → (ps : List (List (List ℕ))) × (parts ws ≡ [] ∷ ps)
ended ws (inl none) = ([], ap parts none)
ended ws (inr more) = (parts more.0, ap parts more.1)

no_word : (ws : List (List ℕ)) (w : List ℕ) (rest : List (List ℕ)) → EndsItem ws → IsItemWord ws w rest → ⊥
no_word ws w rest (inl none) is = let e : [] ≡ w ∷ rest = sym none ∙ is.first in absurd cc
no_word ws w rest (inr more) is = let e : true ≡ false = ap first_separates (sym more.1 ∙ is.first) ∙ is.other in absurd cc
  where
    first_separates : List (List ℕ) → Bool
    first_separates [] = true
    first_separates (v ∷ vs) = is_separator v

-- Words that are no item's.

not_first : (ws p : List (List ℕ)) (ps : List (List (List ℕ))) → parts ws ≡ p ∷ ps → is_item_form p ≡ false → list_all is_item_form (parts ws) ≡ false
not_first ws p ps is bad = ap (list_all is_item_form) is ∙ ap (λ b. b && list_all is_item_form ps) bad

pub no_name : (ws : List (List ℕ)) → EndsItem ws → list_all is_item_form (parts ws) ≡ false
no_name ws ends = let e = ended ws ends in not_first ws [] e.0 e.1 refl

pub no_key : (ws : List (List ℕ)) (name : List ℕ) (rest : List (List ℕ)) → IsItemWord ws name rest → EndsItem rest → list_all is_item_form (parts ws) ≡ false
no_key ws name rest is ends = let e = ended rest ends in not_first ws (name ∷ []) e.0 (word_parts ws name rest [] e.0 is e.1) refl

module _ (ws : List (List ℕ)) (name : List ℕ) (behind_name : List (List ℕ)) (key : List ℕ) (behind_key : List (List ℕ)) (first : IsItemWord ws name behind_name) (second : IsItemWord behind_name key behind_key) where
  two : (p : List (List ℕ)) (ps : List (List (List ℕ))) → parts behind_key ≡ p ∷ ps → parts ws ≡ (name ∷ key ∷ p) ∷ ps
  two p ps is = word_parts ws name behind_name (key ∷ p) ps first (word_parts behind_name key behind_key p ps second is)

  pub other_name : bytes_eq name (codes "put") ≡ false → bytes_eq name (codes "remove") ≡ false → list_all is_item_form (parts ws) ≡ false
  other_name no_put no_remove = let r = some_part behind_key in not_first ws (name ∷ key ∷ r.0) r.1 (two r.0 r.1 r.2) (bad r.0)
    where
      bad : (p : List (List ℕ)) → is_item_form (name ∷ key ∷ p) ≡ false
      bad [] = (λ i. no_put i || no_remove i)
      bad (v ∷ []) = no_put
      bad (v ∷ w ∷ p) = refl

  -- a word behind a remove's key, or behind a put's value
  pub word_more : (puts : Bool) (value : List ℕ) (behind_value : List (List ℕ)) (w : List ℕ) (rest : List (List ℕ)) → puts ≡ bytes_eq name (codes "put")
      → BeginsWithValue puts behind_key value behind_value → IsItemWord behind_value w rest → list_all is_item_form (parts ws) ≡ false
  word_more puts value behind_value w rest named (inl has) more =
      let r = some_part rest in
      not_first ws (name ∷ key ∷ value ∷ w ∷ r.0) r.1 (two (value ∷ w ∷ r.0) r.1 (word_parts behind_key value behind_value (w ∷ r.0) r.1 has.1 (word_parts behind_value w rest r.0 r.1 more r.2))) refl
  word_more true value behind_value w rest named (inr none) more =
      absurd (no_word behind_key w rest (none.0 refl) (subst (λ (vs : List (List ℕ)). IsItemWord vs w rest) none.2 more))
  word_more false value behind_value w rest named (inr none) more =
      let r = some_part rest in
      not_first ws (name ∷ key ∷ w ∷ r.0) r.1 (two (w ∷ r.0) r.1 (ap parts (sym none.2) ∙ word_parts behind_value w rest r.0 r.1 more r.2)) (bad r.0)
    where
      bad : (p : List (List ℕ)) → is_item_form (name ∷ key ∷ w ∷ p) ≡ false
      bad [] = sym named
      bad (v ∷ p) = refl

  -- An item's words.

  pub item_begins : (puts : Bool) (value : List ℕ) (behind_value : List (List ℕ)) (behind : Option (List ℕ)) → puts ≡ bytes_eq name (codes "put") → (puts ≡ false → bytes_eq name (codes "remove") ≡ true)
      → BeginsWithValue puts behind_key value behind_value → IsItemEnd behind_value behind → BeginsWith ws puts key value behind
  item_begins puts value behind_value behind named removes (inl has) ends = record {
    part = name ∷ key ∷ value ∷ [];
    splits = two (value ∷ []) (parts_behind behind) (word_parts behind_key value behind_value [] (parts_behind behind) has.1 (end_parts behind_value behind ends));
    form = sym named ∙ has.0;
    item_is = sym (ap (λ b. item_read b key value) has.0);
    some = second.some;
  }
  item_begins puts value behind_value behind named removes (inr none) ends = record {
    part = name ∷ key ∷ [];
    splits = two [] (parts_behind behind) (ap parts (sym none.2) ∙ end_parts behind_value behind ends);
    form = ap (λ b. b || bytes_eq name (codes "remove")) (sym named) ∙ either puts removes;
    item_is =
        ap (λ b. cond b (bind (percent_decode key) []) (unbind (percent_decode key))) (sym named)
        ∙ ap (λ (v : List ℕ). cond puts (bind (percent_decode key) v) (unbind (percent_decode key))) (sym percent_decode-nil ∙ ap percent_decode (sym none.1));
    some = second.some;
  }
    where
      either : (b : Bool) → (b ≡ false → bytes_eq name (codes "remove") ≡ true) → (b || bytes_eq name (codes "remove")) ≡ true
      either true is = refl
      either false is = is refl

-- The form of a batch, validated item by item.

-- some items of the words were looked at, and these words are left
pub record Counted (whole left : List (List ℕ)) (i size : ℕ) : Type 0 where
  pub form : list_all is_item_form (parts whole) ≡ list_all is_item_form (parts left)
  pub count : length (parts whole) ≡ i + length (parts left)
  pub spelled : length (intent_bytes (items_of whole)) ≡ size + length (flat_map item_bytes (items_of left))
  pub within : size ≤ INTENT_SIZE

pub counted_none : (ws : List (List ℕ)) → Counted ws ws 0 1
counted_none ws = record { form = refl; count = omega arith; spelled = omega arith; within = omega arith }

third_fails : (a b c : Bool) → c ≡ false → (a && (b && c)) ≡ false
third_fails true true c e = e
third_fails true false c e = refl
third_fails false b c e = refl

second_fails : (a b c : Bool) → b ≡ false → (a && (b && c)) ≡ false
second_fails true b c e = ap (λ x. x && c) e
second_fails false b c e = refl

module _ (whole left : List (List ℕ)) (i size : ℕ) (so_far : Counted whole left i size) where
  pub form_fails : list_all is_item_form (parts left) ≡ false → is_batch_form whole ≡ false
  form_fails bad = ap (λ b. b && (nat_le (length (parts whole)) MOST_ITEMS && nat_le (length (intent_bytes (items_of whole))) INTENT_SIZE)) (so_far.form ∙ bad)

  pub too_many : MOST_ITEMS ≤ i → is_batch_form whole ≡ false
  too_many all = second_fails (list_all is_item_form (parts whole)) _ (nat_le (length (intent_bytes (items_of whole))) INTENT_SIZE) (lt-leb (length (parts whole)) MOST_ITEMS (omega (arith, so_far.count, length-slice_split is_separator left, all)))

  module _ (puts : Bool) (key value : List ℕ) (behind : Option (List ℕ)) (begins : BeginsWith left puts key value behind) where
    pub items_split : items_of left ≡ item_read puts key value ∷ map item_of (parts_behind behind)
    items_split = ap (map item_of) begins.splits ∙ ap (λ (u : Update). u ∷ map item_of (parts_behind behind)) begins.item_is

    spelled_split : length (flat_map item_bytes (items_of left)) ≡ length (item_bytes (item_read puts key value)) + length (flat_map item_bytes (map item_of (parts_behind behind)))
    spelled_split = ap (λ (us : List Update). length (flat_map item_bytes us)) items_split ∙ length-append (item_bytes (item_read puts key value)) (flat_map item_bytes (map item_of (parts_behind behind)))

    form_split : list_all is_item_form (parts whole) ≡ list_all is_item_form (parts_behind behind)
    form_split = so_far.form ∙ ap (list_all is_item_form) begins.splits ∙ ap (λ b. b && list_all is_item_form (parts_behind behind)) begins.form

    pub too_long : INTENT_SIZE < size + length (item_bytes (item_read puts key value)) → is_batch_form whole ≡ false
    too_long long = third_fails (list_all is_item_form (parts whole)) (nat_le (length (parts whole)) MOST_ITEMS) _ (lt-leb (length (intent_bytes (items_of whole))) INTENT_SIZE (omega (arith, long, so_far.spelled, spelled_split)))

  pub counted_next : (puts : Bool) (key value rest : List ℕ) → BeginsWith left puts key value (Some rest) → size + length (item_bytes (item_read puts key value)) ≤ INTENT_SIZE
      → Counted whole (words rest) (i + 1) (size + length (item_bytes (item_read puts key value)))
  counted_next puts key value rest begins fits = record {
    form = form_split puts key value (Some rest) begins;
    count = omega (arith, so_far.count, ap length begins.splits);
    spelled = omega (arith, so_far.spelled, spelled_split puts key value (Some rest) begins);
    within = fits;
  }

  pub counted_last : (puts : Bool) (key value : List ℕ) → BeginsWith left puts key value None → size + length (item_bytes (item_read puts key value)) ≤ INTENT_SIZE → i < MOST_ITEMS → is_batch_form whole ≡ true
  counted_last puts key value begins fits few =
      λ t. (form_split puts key value None begins t
      && (le-leb (length (parts whole)) MOST_ITEMS (omega (arith, so_far.count, few, ap length begins.splits)) t
      && le-leb (length (intent_bytes (items_of whole))) INTENT_SIZE (omega (arith, fits, so_far.spelled, spelled_split puts key value None begins)) t))

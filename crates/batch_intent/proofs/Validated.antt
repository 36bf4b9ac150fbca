-- The first item that is wrong.
use Rattle.std.proofs.Common.{◌≡◌, ℕ, zero, suc, ◌+◌, ◌-◌, ◌<◌, ◌≤◌, ◌==◌, Bool, true, false, cond, not, ◌&&◌, ◌||◌, nat_lt, List, refl, sym, ap, ◌∙◌, arith, Option, Some, None, is_some}
use Rattle.std.proofs.lemmas.Bool.Decides.{nat_tests}
use Rattle.station.specs.Bytes.{byte}
use Rattle.map_model.specs.Store.{Update}
use Rattle.map_model.specs.ItemWords.{has_item}
use Rattle.batch_intent.specs.declared.intent.TheConstants.{MOST_ITEMS}
use Rattle.batch_intent.specs.Spelling.{key_field, items_from, place_from}
use Rattle.batch_intent.specs.IntentReasons.{is_item, is_wrong_item, first_wrong, wrong_place}

-- an item by what it was found to be
pub wrong_by : (a b r : Bool) → r ≡ (a && not b) → r ≡ false → (not a || b) ≡ true
wrong_by true true r is f = refl
wrong_by true false r is f = absurd (cc)
wrong_by false b r is f = refl

pub right_by : (a b r : Bool) → r ≡ (a && not b) → r ≡ true → (not a || b) ≡ false
right_by true true r is f = absurd (cc)
right_by true false r is f = refl
right_by false b r is f = absurd (cc)

-- whether item i is wrong, told by its place and the items before it
pub wrong_at : (format : ℕ) (bytes : List ℕ) (i p : ℕ) (items : List Update) (b : Bool) → p ≡ place_from bytes i 1 → items ≡ items_from bytes i 1 → (not (is_item format bytes p) || has_item (key_field bytes p) items) ≡ b → is_wrong_item format bytes i ≡ b
wrong_at format bytes i p items b place are is =
    (λ t. not (is_item format bytes (sym place t)) || has_item (key_field bytes (sym place t)) (sym are t)) ∙ is

next_by : (before : Option ℕ) (w : Bool) (place : ℕ) → before ≡ None → cond (is_some before) before (cond w (Some place) None) ≡ cond w (Some place) None
next_by before w place none = ap (λ (o : Option ℕ). cond (is_some o) o (cond w (Some place) None)) none

pub none_next : (format : ℕ) (bytes : List ℕ) (n : ℕ) → first_wrong format bytes n ≡ None → is_wrong_item format bytes n ≡ false → first_wrong format bytes (suc n) ≡ None
unfolding first_wrong
none_next format bytes n none right =
    next_by (first_wrong format bytes n) (is_wrong_item format bytes n) (place_from bytes n 1) none
    ∙ ap (λ (w : Bool). cond w (Some (place_from bytes n 1)) None) right

pub found_next : (format : ℕ) (bytes : List ℕ) (n : ℕ) → first_wrong format bytes n ≡ None → is_wrong_item format bytes n ≡ true → first_wrong format bytes (suc n) ≡ Some (place_from bytes n 1)
unfolding first_wrong
found_next format bytes n none wrong =
    next_by (first_wrong format bytes n) (is_wrong_item format bytes n) (place_from bytes n 1) none
    ∙ ap (λ (w : Bool). cond w (Some (place_from bytes n 1)) None) wrong

found_stays : (format : ℕ) (bytes : List ℕ) (n p : ℕ) → first_wrong format bytes n ≡ Some p → first_wrong format bytes (suc n) ≡ Some p
unfolding first_wrong
found_stays format bytes n p is = ap (λ (o : Option ℕ). cond (is_some o) o (cond (is_wrong_item format bytes n) (Some (place_from bytes n 1)) None)) is

found_later : (format : ℕ) (bytes : List ℕ) (n k p : ℕ) → first_wrong format bytes n ≡ Some p → first_wrong format bytes (k + n) ≡ Some p
found_later format bytes n zero p is = let e : n ≡ zero + n = omega arith in ap (first_wrong format bytes) (sym e) ∙ is
found_later format bytes n (suc k) p is = let e : suc k + n ≡ suc (k + n) = omega arith in ap (first_wrong format bytes) e ∙ found_stays format bytes (k + n) p (found_later format bytes n k p is)

-- the first of more items, too
pub found_of : (format : ℕ) (bytes : List ℕ) (i n : ℕ) → i < n → first_wrong format bytes i ≡ None → is_wrong_item format bytes i ≡ true → first_wrong format bytes n ≡ Some (place_from bytes i 1)
found_of format bytes i n lt none wrong =
    let e : n ≡ (n - suc i) + suc i = omega arith in
    ap (first_wrong format bytes) e ∙ found_later format bytes (suc i) (n - suc i) (place_from bytes i 1) (found_next format bytes i none wrong)

-- with a number of items that may be
pub counted : (format : ℕ) (bytes : List ℕ) → (byte bytes 0 ≡ 0 → ⊥) → byte bytes 0 ≤ MOST_ITEMS → wrong_place format bytes ≡ first_wrong format bytes (byte bytes 0)
counted format bytes some few =
    ap (λ (b : Bool). cond b (Some 0) (first_wrong format bytes (byte bytes 0))) (fine (byte bytes 0) some few)
  where
    fine : (n : ℕ) → (n ≡ 0 → ⊥) → n ≤ MOST_ITEMS → ((n == 0) || nat_lt MOST_ITEMS n) ≡ false
    fine n some few = grind (arith, nat_tests, some, few)

-- The changes of items, one item more at a time.
use Rattle.std.proofs.Common.{◌≡◌, ℕ, zero, suc, ◌+◌, ◌<◌, Bool, true, false, List, [], ◌∷◌, ◌++◌, All, length, take, get_or, Option, Some, Result, Err, refl, sym, ap, subst, ◌∙◌, arith, inl, inr, is_some}
use Rattle.std.specs.Prelude.{is_ok, IfOk}
use Rattle.std.specs.FinMap.{find}
use Rattle.std.proofs.lemmas.Bool.{cases_lt}
use Rattle.key_slot.specs.Record.{key_cmp, IsAscending}
use Rattle.map_model.specs.Array.{Array, rows, segment_at, segment_for}
use Rattle.map_model.specs.ArrayUpdates.{has_key}
use Rattle.map_model.specs.Store.{Update, bind, unbind, key_of}
use Rattle.map_model.proofs.Belonging.{segment_for_is, rows-find, segment_ascends}
use Rattle.one_commit.specs.declared.changes.ItemChange.{ItemChange}
use Rattle.one_commit.specs.Fitting.{change_before, changes_in, is_put, with_change}
use Rattle.segment.specs.Rows.{key_at}
use Rattle.pma_store.specs.Looked.{BelongThere, HasFound}
use Rattle.pma_store.specs.Own.{FindsIn}
use Rattle.pma_store.proofs.BatchScanLaws.{before_last, last_there, one_longer}

before_more : (b : Bool) (segments : Array) (u : Update) (more rest : List ItemChange) → change_before b segments u (more ++ rest) ≡ change_before b segments u more ++ rest
before_more true segments (bind key value) more rest = refl
before_more false segments (bind key value) more rest = refl
before_more true segments (unbind key) more rest = refl
before_more false segments (unbind key) more rest = refl

changes_suc : (segments : Array) (items : List Update) (k : ℕ) (d : Update) → k < length items
    → changes_in segments (take (suc k) items) ≡ changes_in segments (take k items) ++ change_before (has_key segments (key_of (get_or items k d))) segments (get_or items k d) []
changes_suc segments [] k d lt = absurd (omega arith)
changes_suc segments (u ∷ us) zero d lt = refl
changes_suc segments (u ∷ us) (suc k) d lt =
    ap (change_before (has_key segments (key_of u)) segments u) (changes_suc segments us k d (omega arith))
    ∙ before_more (has_key segments (key_of u)) segments u (changes_in segments (take k us)) (change_before (has_key segments (key_of (get_or us k d))) segments (get_or us k d) [])

pub changes_next : (segments : Array) (items : List Update) (k : ℕ) (d : Update) → k < length items
    → changes_in segments (take (k + 1) items) ≡ changes_in segments (take k items) ++ change_before (has_key segments (key_of (get_or items k d))) segments (get_or items k d) []
changes_next segments items k d lt = ap (λ (n : ℕ). changes_in segments (take n items)) {x = k + 1} {y = suc k} (omega arith) ∙ changes_suc segments items k d lt

-- what holds of all holds of all with one more
pub all_more : {A : Type 0} (P : A → Type 0) (xs : List A) (x : A) → All P xs → P x → All P (xs ++ x ∷ [])
all_more P xs x all own k d lt = elim (cases_lt k (length xs)) [
  | inl low ↦ subst P (sym (before_last xs x d k low)) (all k d low)
  | inr high ↦ subst P (sym (last_there xs x d k (omega (arith, high, lt, one_longer xs x d)))) own
]

-- what an item changes, by where its key was found in its segment
pub change_is : (array : Array) (numbers : List ℕ) (items : List Update) (found : List (Result ℕ ℕ)) (n : ℕ) → 0 < length array → IsAscending (rows array) → BelongThere array numbers items → HasFound array numbers items found n
    → (i : ℕ) (d : Update) → i < length items → get_or numbers i 0 < n → (puts : Bool) → is_put (get_or items i d) ≡ puts → (here : Result ℕ ℕ) → here ≡ get_or found i (Err 0) → (change : Option ItemChange)
    → (segment_for array (key_of (get_or items i d)) ≡ get_or numbers i 0 → IsAscending (segment_at array (get_or numbers i 0)) → IfOk here (λ place. key_at (segment_at array (get_or numbers i 0)) place ≡ Some (key_of (get_or items i d))) → change_before (is_ok here) array (get_or items i d) [] ≡ with_change change [])
    → change_before (has_key array (key_of (get_or items i d))) array (get_or items i d) [] ≡ with_change change []
change_is array numbers items found n some ascends belong finds i d lt small puts is_puts here at change made =
    let u = get_or items i d in
    let own = belong i d lt in
    let finding = subst (FindsIn (key_of u) (segment_at array (get_or numbers i 0))) (sym at) (finds i d lt small) in
    let present : is_ok here ≡ has_key array (key_of u) = finding.present ∙ ap (λ (j : ℕ). is_some (find key_cmp (key_of u) (segment_at array j))) own ∙ sym (ap is_some (rows-find array (key_of u) (segment_for array (key_of u)) (segment_for_is array (key_of u) some) ascends)) in
    let ascending = subst (λ (j : ℕ). IsAscending (segment_at array j)) (sym own) (segment_ascends array (key_of u) (segment_for array (key_of u)) (segment_for_is array (key_of u) some) ascends) in
    sym (ap (λ (b : Bool). change_before b array u []) present) ∙ made (sym own) ascending finding.place

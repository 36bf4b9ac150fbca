-- The items of one segment, one after another.
use Rattle.std.proofs.Common.{◌≡◌, ◌↔◌, ℕ, zero, suc, ◌+◌, ◌<◌, ◌==◌, Bool, true, false, cond, ◌||◌, List, [], ◌∷◌, length, take, set, get_or, refl, sym, ap, ◌∙◌, arith, inl, inr, Some, is_some}
use mathlib.Core.Bool.{true≢false}
use Rattle.std.proofs.lemmas.Bool.{cases_eq, eq-eqb, ne_eqb}
use Rattle.std.proofs.lemmas.List.{get_or-set_same, get_or-set_other}
use Rattle.std.specs.Str.{bytes_eq}
use Rattle.std.specs.Cmp.Lexicographic.{nat_list_cmp_total, nat_list_eq_equiv, texts_ties}
use Rattle.std.specs.FinMap.{find}
use Rattle.std.specs.FinMap.Entries.{find-put}
use Rattle.key_slot.specs.Record.{Bytes, Record, key_cmp}
use Rattle.map_model.specs.Store.{Update, bind, unbind, key_of}
use Rattle.map_model.specs.Items.{are_distinct}
use Rattle.map_model.specs.ItemWords.{has_item}
use Rattle.map_model.proofs.Resuming.{none_before}
use Rattle.map_model.specs.ArrayUpdates.{edited}
use Rattle.one_commit.specs.Editing.{edited_by}
use Rattle.one_commit.proofs.Heads.{find-other}
use Rattle.one_commit.proofs.Alike.{neither_true}
use Rattle.pma_store.specs.Own.{own_items}

-- an edit leaves other keys
pub find-edited : (q : Bytes) (u : Update) (rows : List Record) → bytes_eq q (key_of u) ≡ false → find key_cmp q (edited u rows) ≡ find key_cmp q rows
find-edited q (bind key value) rows other = find-put key_cmp nat_list_cmp_total q key value rows ∙ ap (λ (b : Bool). cond b (Some value) (find key_cmp q rows)) (sym (texts_ties q key) ∙ other)
find-edited q (unbind key) rows other = find-other key q rows (nat_list_eq_equiv.symm key q ∙ other)

pub find-edited_by : (q : Bytes) (us : List Update) (rows : List Record) → has_item q us ≡ false → find key_cmp q (edited_by us rows) ≡ find key_cmp q rows
find-edited_by q [] rows none = refl
find-edited_by q (u ∷ us) rows none =
    let parts = neither_true (bytes_eq q (key_of u)) (has_item q us) none in
    find-edited_by q us (edited u rows) parts.1 ∙ find-edited q u rows parts.0

own_none : (q : Bytes) (n : ℕ) (is : List ℕ) (us : List Update) → has_item q us ≡ false → has_item q (own_items n is us) ≡ false
own_none q n [] us none = refl
own_none q n (i ∷ is) [] none = refl
own_none q n (i ∷ is) (u ∷ us) none =
    let parts = neither_true (bytes_eq q (key_of u)) (has_item q us) none in
    by (i == n) parts.0 (own_none q n is us parts.1)
  where
    by : (b : Bool) → bytes_eq q (key_of u) ≡ false → has_item q (own_items n is us) ≡ false → has_item q (cond b (u ∷ own_items n is us) (own_items n is us)) ≡ false
    by true one rest = ap (λ (c : Bool). c || has_item q (own_items n is us)) one ∙ rest
    by false one rest = rest

-- item k finds its key as it was before all
pub found_before : (n : ℕ) (is : List ℕ) (us : List Update) (rows : List Record) (k : ℕ) (d : Update) → k < length us → are_distinct us ≡ true
    → find key_cmp (key_of (get_or us k d)) (edited_by (own_items n (take k is) (take k us)) rows) ≡ find key_cmp (key_of (get_or us k d)) rows
found_before n is us rows k d lt distinct =
    find-edited_by (key_of (get_or us k d)) (own_items n (take k is) (take k us)) rows (own_none (key_of (get_or us k d)) n (take k is) (take k us) (none_before us k d lt distinct))

-- one item more

edited_suc : (n : ℕ) (is : List ℕ) (us : List Update) (rows : List Record) (k : ℕ) (d : Update) → k < length us → k < length is
    → edited_by (own_items n (take (suc k) is) (take (suc k) us)) rows ≡ cond (get_or is k 0 == n) (edited (get_or us k d) (edited_by (own_items n (take k is) (take k us)) rows)) (edited_by (own_items n (take k is) (take k us)) rows)
edited_suc n [] us rows k d lt le = absurd (omega arith)
edited_suc n (i ∷ is) [] rows k d lt le = absurd (omega arith)
edited_suc n (i ∷ is) (u ∷ us) rows zero d lt le = by (i == n)
  where
    by : (b : Bool) → edited_by (cond b (u ∷ []) []) rows ≡ cond b (edited u rows) rows
    by true = refl
    by false = refl
edited_suc n (i ∷ is) (u ∷ us) rows (suc k) d lt le = by (i == n) (λ r. edited_suc n is us r k d (omega arith) (omega arith))
  where
    by : (b : Bool)
        → ((r : List Record) → edited_by (own_items n (take (suc k) is) (take (suc k) us)) r ≡ cond (get_or is k 0 == n) (edited (get_or us k d) (edited_by (own_items n (take k is) (take k us)) r)) (edited_by (own_items n (take k is) (take k us)) r))
        → edited_by (cond b (u ∷ own_items n (take (suc k) is) (take (suc k) us)) (own_items n (take (suc k) is) (take (suc k) us))) rows
        ≡ cond (get_or is k 0 == n) (edited (get_or us k d) (edited_by (cond b (u ∷ own_items n (take k is) (take k us)) (own_items n (take k is) (take k us))) rows)) (edited_by (cond b (u ∷ own_items n (take k is) (take k us)) (own_items n (take k is) (take k us))) rows)
    by true rest = rest (edited u rows)
    by false rest = rest rows

pub edited_more : (n : ℕ) (is : List ℕ) (us : List Update) (rows : List Record) (k : ℕ) (d : Update) → k < length us → k < length is
    → edited_by (own_items n (take (k + 1) is) (take (k + 1) us)) rows ≡ cond (get_or is k 0 == n) (edited (get_or us k d) (edited_by (own_items n (take k is) (take k us)) rows)) (edited_by (own_items n (take k is) (take k us)) rows)
edited_more n is us rows k d lt le = ap (λ (j : ℕ). edited_by (own_items n (take j is) (take j us)) rows) {x = k + 1} {y = suc k} (omega arith) ∙ edited_suc n is us rows k d lt le

module _ (n : ℕ) (is : List ℕ) (us : List Update) (start : List Record) (k : ℕ) (lt : k < length us) (le : k < length is) (now next : List Record) (so_far : now ≡ edited_by (own_items n (take k is) (take k us)) start) where
  pub own_more : (d : Update) → get_or is k 0 ≡ n → next ≡ edited (get_or us k d) now → next ≡ edited_by (own_items n (take (k + 1) is) (take (k + 1) us)) start
  own_more d own e =
      e ∙ ap (edited (get_or us k d)) so_far
      ∙ sym (edited_more n is us start k d lt le ∙ ap (λ (b : Bool). cond b (edited (get_or us k d) (edited_by (own_items n (take k is) (take k us)) start)) (edited_by (own_items n (take k is) (take k us)) start)) (eq-eqb (get_or is k 0) n own))

  pub other_more : (d : Update) → (get_or is k 0 ≡ n → ⊥) → next ≡ now → next ≡ edited_by (own_items n (take (k + 1) is) (take (k + 1) us)) start
  other_more d other e =
      e ∙ so_far
      ∙ sym (edited_more n is us start k d lt le ∙ ap (λ (b : Bool). cond b (edited (get_or us k d) (edited_by (own_items n (take k is) (take k us)) start)) (edited_by (own_items n (take k is) (take k us)) start)) (ne_eqb (get_or is k 0) n other))

  -- what is noted of item k
  pub noted_more : (old after : List Bool) (was : Bool) → are_distinct us ≡ true → k < length old → after ≡ set old k was
      → ((d : Update) → was ≡ is_some (find key_cmp (key_of (get_or us k d)) now))
      → ((j : ℕ) (d : Update) → j < k → get_or is j 0 ≡ n → get_or old j false ≡ is_some (find key_cmp (key_of (get_or us j d)) start))
      → (j : ℕ) (d : Update) → j < k + 1 → get_or is j 0 ≡ n → get_or after j false ≡ is_some (find key_cmp (key_of (get_or us j d)) start)
  noted_more old after was distinct room e found before = λ j d below own. elim (cases_eq j k) [
    | inl same ↦
        ap (λ (l : List Bool). get_or l j false) e ∙ ap (λ (m : ℕ). get_or (set old k was) m false) same ∙ get_or-set_same old k was false room
        ∙ found d ∙ ap (λ (r : List Record). is_some (find key_cmp (key_of (get_or us k d)) r)) so_far
        ∙ ap is_some (found_before n is us start k d lt distinct)
        ∙ ap (λ (m : ℕ). is_some (find key_cmp (key_of (get_or us m d)) start)) (sym same)
    | inr other ↦ ap (λ (l : List Bool). get_or l j false) e ∙ get_or-set_other old k j was false other ∙ before j d (omega (arith, below, other)) own
  ]

pub not_there : (b : Bool) → ((false ≡ true) ↔ (b ≡ true)) → b ≡ false
not_there true w = absurd (true≢false (sym (w.1 refl)))
not_there false w = refl

-- The items that a list gives to a segment, and those that edit it.
use Rattle.std.proofs.Common.{◌≡◌, ℕ, suc, ◌<◌, ◌==◌, Bool, true, false, cond, not, ◌||◌, List, [], ◌∷◌, length, get_or, refl, sym, ap, ◌∙◌, arith, inl, inr, is_some}
use mathlib.Core.Bool.{true≢false}
use Rattle.std.specs.Str.{bytes_eq}
use Rattle.std.proofs.lemmas.Slice.Eq.{bytes_eq-Decides}
use Rattle.std.specs.Cmp.Lexicographic.{nat_list_eq_equiv}
use Rattle.std.specs.FinMap.{find}
use Rattle.std.proofs.lemmas.Bool.{cases_eq, eq-eqb, ne_eqb}
use Rattle.key_slot.specs.Record.{Bytes, Record, key_cmp, IsAscending}
use Rattle.map_model.specs.Store.{Update, bind, unbind, key_of}
use Rattle.map_model.specs.Array.{Array, rows, segment_at, segment_for}
use Rattle.map_model.specs.ArrayUpdates.{has_key, edited}
use Rattle.map_model.specs.Items.{are_distinct}
use Rattle.map_model.specs.ItemWords.{has_item}
use Rattle.map_model.proofs.Belonging.{segment_for_is, rows-find}
use Rattle.one_commit.specs.Editing.{edited_by, edits, items_for}
use Rattle.one_commit.proofs.Heads.{without_absent}
use Rattle.one_commit.proofs.Alike.{both_true, not_true}
use Rattle.pma_store.specs.Own.{own_items}
use Rattle.pma_store.proofs.Owning.{find-edited}

module _ (segments : Array) (n : ℕ) (some : 0 < length segments) (ascends : IsAscending (rows segments)) where
  -- the keys of items are found in these records as in the segment
  abbrev Alike : List Record → List Update → Type 0
  Alike own us = (q : Bytes) → has_item q us ≡ true → find key_cmp q own ≡ find key_cmp q (segment_at segments n)

  later : (u : Update) (us : List Update) (q : Bytes) → has_item q us ≡ true → has_item q (u ∷ us) ≡ true
  later u us q e = ap (λ (b : Bool). bytes_eq q (key_of u) || b) e ∙ by (bytes_eq q (key_of u))
    where
      by : (b : Bool) → (b || true) ≡ true
      by true = refl
      by false = refl

  own_key : (u : Update) (us : List Update) → has_item (key_of u) (u ∷ us) ≡ true
  own_key u us = ap (λ (b : Bool). b || has_item (key_of u) us) (nat_list_eq_equiv.refl (key_of u))

  other_key : (u : Update) (us : List Update) → has_item (key_of u) us ≡ false → (q : Bytes) → has_item q us ≡ true → bytes_eq q (key_of u) ≡ false
  other_key u us none q e = by (bytes_eq q (key_of u)) refl
    where
      by : (b : Bool) → bytes_eq q (key_of u) ≡ b → bytes_eq q (key_of u) ≡ false
      by false f = f
      by true f = absurd (true≢false (sym e ∙ ap (λ (k : Bytes). has_item k us) ((bytes_eq-Decides q (key_of u)).0 f) ∙ none))

  edited_alike : (u : Update) (us : List Update) (own : List Record) → has_item (key_of u) us ≡ false → Alike own (u ∷ us) → Alike (edited u own) us
  edited_alike u us own none alike = λ q e. find-edited q u own (other_key u us none q e) ∙ alike q (later u us q e)

  rest_alike : (u : Update) (us : List Update) (own : List Record) → Alike own (u ∷ us) → Alike own us
  rest_alike u us own alike = λ q e. alike q (later u us q e)

  -- the removal of an absent key of this segment
  nothing_taken : (key : Bytes) (us : List Update) (own : List Record) → Alike own (unbind key ∷ us) → segment_for segments key ≡ n → has_key segments key ≡ false → edited (unbind key) own ≡ own
  nothing_taken key us own alike here absent =
      without_absent key own
      (ap is_some (alike key (own_key (unbind key) us) ∙ ap (λ (m : ℕ). find key_cmp key (segment_at segments m)) (sym here) ∙ sym (rows-find segments key (segment_for segments key) (segment_for_is segments key some) ascends)) ∙ absent)

  one_item : (u : Update) (i : ℕ) (b : Bool) → has_key segments (key_of u) ≡ b → i ≡ segment_for segments (key_of u) → (left right us : List Update) (own : List Record) → Alike own (u ∷ us)
      → edited_by left (edited u own) ≡ edited_by right (edited u own) → edited_by left own ≡ edited_by right own
      → edited_by (cond (i == n) (u ∷ left) left) own ≡ edited_by (cond (edits segments n b u) (u ∷ right) right) own
  one_item (bind key value) i b e at left right us own alike made passed = ap (λ (m : ℕ). edited_by (cond (m == n) (bind key value ∷ left) left) own) at ∙ by (segment_for segments key == n)
    where
      by : (t : Bool) → edited_by (cond t (bind key value ∷ left) left) own ≡ edited_by (cond t (bind key value ∷ right) right) own
      by true = made
      by false = passed
  one_item (unbind key) i true e at left right us own alike made passed = ap (λ (m : ℕ). edited_by (cond (m == n) (unbind key ∷ left) left) own) at ∙ by (segment_for segments key == n)
    where
      by : (t : Bool) → edited_by (cond t (unbind key ∷ left) left) own ≡ edited_by (cond t (unbind key ∷ right) right) own
      by true = made
      by false = passed
  one_item (unbind key) i false e at left right us own alike made passed = elim (cases_eq i n) [
    | inl same ↦
        ap (λ (t : Bool). edited_by (cond t (unbind key ∷ left) left) own) (eq-eqb i n same)
        ∙ ap (edited_by left) (nothing_taken key us own alike (sym at ∙ same) e) ∙ passed
    | inr other ↦ ap (λ (t : Bool). edited_by (cond t (unbind key ∷ left) left) own) (ne_eqb i n other) ∙ passed
  ]

  own_by : (numbers : List ℕ) (items : List Update) (own : List Record) → are_distinct items ≡ true → length numbers ≡ length items → ((k : ℕ) (d : Update) → k < length items → get_or numbers k 0 ≡ segment_for segments (key_of (get_or items k d))) → Alike own items
      → edited_by (own_items n numbers items) own ≡ edited_by (items_for segments n items) own
  own_by [] [] own distinct size told alike = refl
  own_by [] (u ∷ us) own distinct size told alike = absurd (omega (arith, size))
  own_by (i ∷ is) [] own distinct size told alike = absurd (omega (arith, size))
  own_by (i ∷ is) (u ∷ us) own distinct size told alike =
      let parts = both_true (not (has_item (key_of u) us)) (are_distinct us) distinct in
      let more : (k : ℕ) (d : Update) → k < length us → get_or is k 0 ≡ segment_for segments (key_of (get_or us k d)) = λ k d lt. told (suc k) d (omega (arith, lt)) in
      let sizes : length is ≡ length us = omega (arith, size) in
      one_item u i (has_key segments (key_of u)) refl (told 0 u (omega arith)) (own_items n is us) (items_for segments n us) us own alike
      (own_by is us (edited u own) parts.1 sizes more (edited_alike u us own (not_true _ parts.0) alike))
      (own_by is us own parts.1 sizes more (rest_alike u us own alike))

pub own_edits : (segments : Array) (n : ℕ) (numbers : List ℕ) (items : List Update) → 0 < length segments → IsAscending (rows segments) → are_distinct items ≡ true → length numbers ≡ length items
    → ((k : ℕ) (d : Update) → k < length items → get_or numbers k 0 ≡ segment_for segments (key_of (get_or items k d)))
    → edited_by (own_items n numbers items) (segment_at segments n) ≡ edited_by (items_for segments n items) (segment_at segments n)
own_edits segments n numbers items some ascends distinct size told = own_by segments n some ascends numbers items (segment_at segments n) distinct size told (λ q e. refl)

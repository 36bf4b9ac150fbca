-- One update more: whether its key is there, and what is counted.
use Rattle.std.proofs.Common.{◌≡◌, Bool, true, false, cond, not, List, [], ◌∷◌, ◌++◌, map, T, Some, None, refl, sym, ap, ◌∙◌}
use Rattle.std.specs.Prelude.{is_some}
use Rattle.std.specs.declared.cmp.Ordering.{Ordering}
use Rattle.std.specs.declared.cmp.Ordering.TheVariants.{Less, Equal, Greater}
use Rattle.std.specs.Ordering.{is_lt, is_eq}
use Rattle.std.specs.FinMap.{contains_key, entries, find, is_sorted}
use Rattle.std.specs.FinMap.Entries.{below_all, find-where_key}
use Rattle.key_slot.specs.Record.{Bytes, Record, key_cmp, IsAscending}
use Rattle.key_slot.proofs.Truth.{first, second, less}
use Rattle.key_slot.proofs.Ordered.{greater_back, less_back, below_all_less}
use Rattle.map_model.specs.ItemWords.{ItemCounts, effect_count}
use Rattle.map_model.specs.Store.{Map, Update, key_of, effect_by}
use Rattle.map_model.proofs.Entries.{find-rows}
use Rattle.bulk_load.specs.Ahead.{begins_under, begins_with, over}
use Rattle.bulk_load.specs.MergeText.{above, count_from, mark_of, rest_rows}
use Rattle.bulk_load.proofs.MergeLaws.{order, same_key, tied_back}

-- Counts.

pub count_more : (m : Map) (edits : List Update) (u : Update) (c : ItemCounts) → count_from m (edits ++ u ∷ []) c ≡ effect_count (effect_by (contains_key m (key_of u)) true u) (count_from m edits c)
count_more m [] u c = refl
count_more m (e ∷ edits) u c = count_more m edits u (effect_count (effect_by (contains_key m (key_of e)) true e) c)

-- Keys.

true_false : true ≡ false → ⊥
true_false e = cc

-- a key isn't among records above it
find_none : (k : Bytes) (rows : List Record) → T (below_all key_cmp k rows) → find key_cmp k rows ≡ None
find_none k [] all = refl
find_none k (r ∷ rows) all =
    ap (λ (o : Ordering). cond (is_eq o) (Some r.1) (find key_cmp k rows)) (less _ (first (is_lt (key_cmp k r.0)) (below_all key_cmp k rows) all))
    ∙ find_none k rows (second (is_lt (key_cmp k r.0)) (below_all key_cmp k rows) all)

-- in ascending records of which none is below it, it is that of the first, or there is none
pub find_first : (k : Bytes) (rows : List Record) → IsAscending rows → begins_under (Some k) rows ≡ false → is_some (find key_cmp k rows) ≡ begins_with k rows
find_first k [] up stop = refl
find_first k (r ∷ rows) up stop =
    elim (key_cmp k r.0) as (λ o. key_cmp k r.0 ≡ o → is_some (cond (is_eq o) (Some r.1) (find key_cmp k rows)) ≡ is_eq (key_cmp r.0 k)) [
      | Less ↦ λ p. ap is_some (find_none k rows (below_all_less {X = Bytes} key_cmp order k r.0 rows p (first (below_all key_cmp r.0 rows) (is_sorted key_cmp rows) up))) ∙ sym (ap is_eq (greater_back order k r.0 p))
      | Equal ↦ λ p. sym (ap is_eq (tied_back k r.0 p))
      | Greater ↦ λ p. absurd (true_false (ap is_lt (sym (less_back order k r.0 p)) ∙ stop))
    ] refl

-- records that are left out below a key don't have it
same_at : (p : Bytes → Bool) (k x : Bytes) → key_cmp k x ≡ Equal → p x ≡ p k
same_at p k x e = ap p (sym (same_key k x e))

tied_self : (k : Bytes) → is_lt (key_cmp k k) ≡ false
tied_self k =
    elim (key_cmp k k) as (λ o. key_cmp k k ≡ o → is_lt o ≡ false) [
      | Less ↦ λ p. absurd (less_more (sym p ∙ greater_back order k k p))
      | Equal ↦ λ p. refl
      | Greater ↦ λ p. refl
    ] refl
  where
    less_more : Less ≡ Greater → ⊥
    less_more e = cc

pub find_over : (k : Bytes) (rows : List Record) → find key_cmp k (over (Some k) rows) ≡ find key_cmp k rows
find_over k rows =
    find-where_key key_cmp (λ (other : Bytes). not (is_lt (key_cmp other k))) k (λ x e. same_at (λ (other : Bytes). not (is_lt (key_cmp other k))) k x e) rows
    ∙ ap (λ (b : Bool). cond (not b) (find key_cmp k rows) None) (tied_self k)

find_above : (k x : Bytes) (rows : List Record) → key_cmp x k ≡ Less → find key_cmp k (above x rows) ≡ find key_cmp k rows
find_above k x rows lt =
    find-where_key key_cmp (λ (other : Bytes). is_lt (key_cmp x other)) k (λ y e. same_at (λ (other : Bytes). is_lt (key_cmp x other)) k y e) rows
    ∙ ap (λ (o : Ordering). cond (is_lt o) (find key_cmp k rows) None) lt

-- a key above those of updates is behind them as it was before
pub find_rest : (edits : List Update) (k x : Bytes) (rows : List Record) → IsAscending (map mark_of edits ++ (k, x) ∷ []) → find key_cmp k (rest_rows edits rows) ≡ find key_cmp k rows
find_rest [] k x rows up = refl
find_rest (u ∷ edits) k x rows up =
    let marks = map mark_of edits ++ (k, x) ∷ [] in
    find_rest edits k x (above (key_of u) rows) (second (below_all key_cmp (key_of u) marks) (is_sorted key_cmp marks) up)
    ∙ find_above k (key_of u) rows (reaches edits (first (below_all key_cmp (key_of u) marks) (is_sorted key_cmp marks) up))
  where
    reaches : (us : List Update) → T (below_all {X = Bytes} key_cmp (key_of u) (map mark_of us ++ (k, x) ∷ [])) → key_cmp (key_of u) k ≡ Less
    reaches [] all = less _ (first (is_lt (key_cmp (key_of u) k)) (below_all {X = Bytes} key_cmp (key_of u) []) all)
    reaches (e ∷ us) all = reaches us (second (is_lt (key_cmp (key_of u) (key_of e))) (below_all {X = Bytes} key_cmp (key_of u) (map mark_of us ++ (k, x) ∷ [])) all)

-- whether the map has it
pub has_key : (m : Map) (edits : List Update) (k x : Bytes) → IsAscending (map mark_of edits ++ (k, x) ∷ []) → IsAscending (over (Some k) (rest_rows edits (entries m))) → begins_under (Some k) (over (Some k) (rest_rows edits (entries m))) ≡ false
    → contains_key m k ≡ begins_with k (over (Some k) (rest_rows edits (entries m)))
has_key m edits k x up rest_up stop =
    sym (find-rows (entries m) m refl k) ∙ ap is_some (sym (find_over k (rest_rows edits (entries m)) ∙ find_rest edits k x (entries m) up)) ∙ find_first k (over (Some k) (rest_rows edits (entries m))) rest_up stop

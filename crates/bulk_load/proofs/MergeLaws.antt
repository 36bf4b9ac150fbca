-- What results of ascending updates beside ascending records is what the map is after them.
use Rattle.std.proofs.Common.{◌≡◌, ◌≤◌, true, false, cond, not, List, [], ◌∷◌, ◌++◌, map, length, T, refl, sym, ap, subst, ◌∙◌, arith, append_assoc}
use Rattle.std.specs.declared.cmp.Ordering.{Ordering}
use Rattle.std.specs.declared.cmp.Ordering.TheVariants.{Less, Equal, Greater}
use Rattle.std.specs.Ordering.{is_lt, is_eq}
use Rattle.std.specs.FinMap.{entries, entries_sorted, from_sorted, same_entries_map, entries-from_sorted, is_sorted, put, slice_cmp-IsAntisymmetric, nat_cmp-IsAntisymmetric}
use Rattle.std.specs.FinMap.Entries.{below_all, by_order, is_sorted-where_key}
use Rattle.std.specs.Cmp.{IsTotalOrder}
use Rattle.std.specs.Cmp.Lexicographic.{nat_list_cmp_total}
use Rattle.std.proofs.lemmas.List.{append-nil, length-append}
use Rattle.key_slot.specs.Ordered.{without}
use Rattle.key_slot.specs.Record.{Bytes, Record, key_cmp, IsAscending}
use Rattle.key_slot.proofs.Truth.{both, first, second, less, is_less}
use Rattle.key_slot.proofs.Ordered.{greater_back, less_back, is_sorted-append, below_all_less, without_none}
use Rattle.map_model.specs.ArrayUpdates.{edited}
use Rattle.map_model.specs.FileReasons.{last_key, begins_above}
use Rattle.map_model.specs.Store.{Map, Update, bind, unbind, key_of}
use Rattle.map_model.proofs.Ends.{joined}
use Rattle.map_model.proofs.Entries.{put-rows, without-rows}
use Rattle.bulk_load.specs.MergeText.{mark_of, AreAscending, below, above, bound_by, front_rows, rest_rows, merged_rows, map_after_edit, map_after_edits}

pub order : IsTotalOrder key_cmp
order = nat_list_cmp_total

pub same_key : (x y : Bytes) → key_cmp x y ≡ Equal → x ≡ y
same_key = slice_cmp-IsAntisymmetric nat_cmp-IsAntisymmetric

pub tied_back : (x y : Bytes) → key_cmp x y ≡ Equal → key_cmp y x ≡ Equal
tied_back x y e = ap (λ (z : Bytes). key_cmp y z) (same_key x y e) ∙ sym (ap (λ (z : Bytes). key_cmp z y) (same_key x y e)) ∙ e

-- Records above a key, and records below it.

none_below : (k : Bytes) (rows : List Record) → T (below_all key_cmp k rows) → below k rows ≡ []
none_below k [] h = refl
none_below k (e ∷ rows) h =
    ap (λ (o : Ordering). cond (is_lt o) (e ∷ below k rows) (below k rows)) (greater_back order k e.0 (less _ (first (is_lt (key_cmp k e.0)) (below_all key_cmp k rows) h)))
    ∙ none_below k rows (second (is_lt (key_cmp k e.0)) (below_all key_cmp k rows) h)

all_above : (k : Bytes) (rows : List Record) → T (below_all key_cmp k rows) → above k rows ≡ rows
all_above k [] h = refl
all_above k (e ∷ rows) h =
    ap (λ (o : Ordering). cond (is_lt o) (e ∷ above k rows) (above k rows)) (less _ (first (is_lt (key_cmp k e.0)) (below_all key_cmp k rows) h))
    ∙ ap (λ (l : List Record). e ∷ l) (all_above k rows (second (is_lt (key_cmp k e.0)) (below_all key_cmp k rows) h))

module _ (k : Bytes) (e : Record) (rows : List Record) (up : IsAscending (e ∷ rows)) where
  ahead : T (below_all key_cmp e.0 rows)
  ahead = first (below_all key_cmp e.0 rows) (is_sorted key_cmp rows) up

  -- the key is below the first record
  module _ (lt : key_cmp k e.0 ≡ Less) where
    all_ahead : T (below_all key_cmp k (e ∷ rows))
    all_ahead = both (is_lt (key_cmp k e.0)) (below_all key_cmp k rows) (is_less _ lt) (below_all_less {X = Bytes} key_cmp order k e.0 rows lt ahead)

    pub below_lower : below k (e ∷ rows) ≡ []
    below_lower = none_below k (e ∷ rows) all_ahead

    pub above_lower : above k (e ∷ rows) ≡ e ∷ rows
    above_lower = all_above k (e ∷ rows) all_ahead

  -- it is the first record's
  module _ (eq : key_cmp k e.0 ≡ Equal) where
    ahead_k : T (below_all key_cmp k rows)
    ahead_k = subst (λ (x : Bytes). T (below_all key_cmp x rows)) (sym (same_key k e.0 eq)) ahead

    pub below_same : below k (e ∷ rows) ≡ []
    below_same = ap (λ (o : Ordering). cond (is_lt o) (e ∷ below k rows) (below k rows)) (tied_back k e.0 eq) ∙ none_below k rows ahead_k

    pub above_same : above k (e ∷ rows) ≡ rows
    above_same = ap (λ (o : Ordering). cond (is_lt o) (e ∷ above k rows) (above k rows)) eq ∙ all_above k rows ahead_k

  -- it is above it
  module _ (gt : key_cmp k e.0 ≡ Greater) where
    pub below_upper : below k (e ∷ rows) ≡ e ∷ below k rows
    below_upper = ap (λ (o : Ordering). cond (is_lt o) (e ∷ below k rows) (below k rows)) (less_back order k e.0 gt)

    pub above_upper : above k (e ∷ rows) ≡ above k rows
    above_upper = ap (λ (o : Ordering). cond (is_lt o) (e ∷ above k rows) (above k rows)) gt

-- One update is a split of the records at its key.

put_splits : (k v : Bytes) (rows : List Record) → IsAscending rows → put key_cmp k v rows ≡ below k rows ++ (k, v) ∷ above k rows
put_splits k v [] up = refl
put_splits k v (e ∷ rows) up =
    elim (key_cmp k e.0) as (λ o. key_cmp k e.0 ≡ o → by_order o ((k, v) ∷ e ∷ rows) ((e.0, v) ∷ rows) (e ∷ put key_cmp k v rows) ≡ below k (e ∷ rows) ++ (k, v) ∷ above k (e ∷ rows)) [
      | Less ↦ λ p. sym (ap (λ (l : List Record). l ++ (k, v) ∷ above k (e ∷ rows)) (below_lower k e rows up p) ∙ ap (λ (l : List Record). (k, v) ∷ l) (above_lower k e rows up p))
      | Equal ↦ λ p. ap (λ (x : Bytes). (x, v) ∷ rows) (sym (same_key k e.0 p)) ∙ sym (ap (λ (l : List Record). l ++ (k, v) ∷ above k (e ∷ rows)) (below_same k e rows up p) ∙ ap (λ (l : List Record). (k, v) ∷ l) (above_same k e rows up p))
      | Greater ↦ λ p. ap (λ (l : List Record). e ∷ l) (put_splits k v rows (second (below_all key_cmp e.0 rows) (is_sorted key_cmp rows) up))
          ∙ sym (ap (λ (l : List Record). l ++ (k, v) ∷ above k (e ∷ rows)) (below_upper k e rows up p) ∙ ap (λ (l : List Record). (e ∷ below k rows) ++ (k, v) ∷ l) (above_upper k e rows up p))
    ] refl

without_splits : (k : Bytes) (rows : List Record) → IsAscending rows → without key_cmp k rows ≡ below k rows ++ above k rows
without_splits k [] up = refl
without_splits k (e ∷ rows) up =
    let left = without key_cmp k rows in
    elim (key_cmp k e.0) as (λ o. key_cmp k e.0 ≡ o → cond (not (is_eq o)) (e ∷ left) left ≡ below k (e ∷ rows) ++ above k (e ∷ rows)) [
      | Less ↦ λ p. ap (λ (l : List Record). e ∷ l) (without_none {X = Bytes} key_cmp order k rows (below_all_less {X = Bytes} key_cmp order k e.0 rows p (ahead k e rows up)))
          ∙ sym (ap (λ (l : List Record). l ++ above k (e ∷ rows)) (below_lower k e rows up p) ∙ above_lower k e rows up p)
      | Equal ↦ λ p. without_none {X = Bytes} key_cmp order k rows (ahead_k k e rows up p)
          ∙ sym (ap (λ (l : List Record). l ++ above k (e ∷ rows)) (below_same k e rows up p) ∙ above_same k e rows up p)
      | Greater ↦ λ p. ap (λ (l : List Record). e ∷ l) (without_splits k rows (second (below_all key_cmp e.0 rows) (is_sorted key_cmp rows) up))
          ∙ sym (ap (λ (l : List Record). l ++ above k (e ∷ rows)) (below_upper k e rows up p) ∙ ap (λ (l : List Record). (e ∷ below k rows) ++ l) (above_upper k e rows up p))
    ] refl

pub edit_splits : (u : Update) (rows : List Record) → IsAscending rows → edited u rows ≡ below (key_of u) rows ++ bound_by u ++ above (key_of u) rows
edit_splits (bind k v) rows up = put_splits k v rows up ∙ sym (append_assoc (below k rows) ((k, v) ∷ []) (above k rows))
edit_splits (unbind k) rows up = without_splits k rows up ∙ ap (λ (l : List Record). l ++ above k rows) (sym (append-nil (below k rows)))

pub entries-edit : (m : Map) (u : Update) → entries (map_after_edit m u) ≡ edited u (entries m)
entries-edit m (bind k v) = sym (put-rows (entries m) m refl k v)
entries-edit m (unbind k) = sym (without-rows (entries m) m refl k)

-- Records that end below a key.

-- the records before it are all below it
before_below : (k x : Bytes) (front : List Record) (behind : List Record) → IsAscending (front ++ (k, x) ∷ behind) → (rows : List Record) → below k (front ++ rows) ≡ front ++ below k rows
before_below k x [] behind up rows = refl
before_below k x (e ∷ front) behind up rows =
    let all = first (below_all key_cmp e.0 (front ++ (k, x) ∷ behind)) (is_sorted key_cmp (front ++ (k, x) ∷ behind)) up in
    ap (λ (o : Ordering). cond (is_lt o) (e ∷ below k (front ++ rows)) (below k (front ++ rows))) (reaches e.0 k x front behind all)
    ∙ ap (λ (l : List Record). e ∷ l) (before_below k x front behind (second (below_all key_cmp e.0 (front ++ (k, x) ∷ behind)) (is_sorted key_cmp (front ++ (k, x) ∷ behind)) up) rows)
  where
    reaches : (e k x : Bytes) (front behind : List Record) → T (below_all key_cmp e (front ++ (k, x) ∷ behind)) → key_cmp e k ≡ Less
    reaches e k x [] behind all = less _ (first (is_lt (key_cmp e k)) (below_all key_cmp e behind) all)
    reaches e k x (f ∷ front) behind all = reaches e k x front behind (second (is_lt (key_cmp e f.0)) (below_all key_cmp e (front ++ (k, x) ∷ behind)) all)

before_above : (k x : Bytes) (front : List Record) (behind : List Record) → IsAscending (front ++ (k, x) ∷ behind) → (rows : List Record) → above k (front ++ rows) ≡ above k rows
before_above k x [] behind up rows = refl
before_above k x (e ∷ front) behind up rows =
    let all = first (below_all key_cmp e.0 (front ++ (k, x) ∷ behind)) (is_sorted key_cmp (front ++ (k, x) ∷ behind)) up in
    ap (λ (o : Ordering). cond (is_lt o) (e ∷ above k (front ++ rows)) (above k (front ++ rows))) (greater_back order e.0 k (reaches e.0 k x front behind all))
    ∙ before_above k x front behind (second (below_all key_cmp e.0 (front ++ (k, x) ∷ behind)) (is_sorted key_cmp (front ++ (k, x) ∷ behind)) up) rows
  where
    reaches : (e k x : Bytes) (front behind : List Record) → T (below_all key_cmp e (front ++ (k, x) ∷ behind)) → key_cmp e k ≡ Less
    reaches e k x [] behind all = less _ (first (is_lt (key_cmp e k)) (below_all key_cmp e behind) all)
    reaches e k x (f ∷ front) behind all = reaches e k x front behind (second (is_lt (key_cmp e f.0)) (below_all key_cmp e (front ++ (k, x) ∷ behind)) all)

-- the last record below a key is below it
last_below : (k x : Bytes) (rows behind : List Record) → begins_above (last_key (below k rows)) ((k, x) ∷ behind) ≡ true
last_below k x [] behind = refl
last_below k x (e ∷ rows) behind =
    elim (is_lt (key_cmp e.0 k)) as (λ b. is_lt (key_cmp e.0 k) ≡ b → begins_above (last_key (cond b (e ∷ below k rows) (below k rows))) ((k, x) ∷ behind) ≡ true) [
      | true ↦ λ p. on_top (below k rows) p (last_below k x rows behind)
      | false ↦ λ p. last_below k x rows behind
    ] refl
  where
    on_top : (l : List Record) → is_lt (key_cmp e.0 k) ≡ true → begins_above (last_key l) ((k, x) ∷ behind) ≡ true → begins_above (last_key (e ∷ l)) ((k, x) ∷ behind) ≡ true
    on_top [] p q = p
    on_top (f ∷ l) p q = q

below_ascends : (k x : Bytes) (rows behind : List Record) → IsAscending rows → IsAscending ((k, x) ∷ behind) → IsAscending (below k rows ++ (k, x) ∷ behind)
below_ascends k x rows behind up ahead_up = joined (below k rows) ((k, x) ∷ behind) (is_sorted-where_key key_cmp (λ (other : Bytes). is_lt (key_cmp other k)) rows up) ahead_up (last_below k x rows behind)

-- one left out
leaves_out : (a : List Record) (x : Record) (b : List Record) → IsAscending (a ++ x ∷ b) → IsAscending (a ++ b)
leaves_out [] x b up = second (below_all key_cmp x.0 b) (is_sorted key_cmp b) up
leaves_out (e ∷ a) x b up =
    both (below_all key_cmp e.0 (a ++ b)) (is_sorted key_cmp (a ++ b)) (all a (first (below_all key_cmp e.0 (a ++ x ∷ b)) (is_sorted key_cmp (a ++ x ∷ b)) up))
    (leaves_out a x b (second (below_all key_cmp e.0 (a ++ x ∷ b)) (is_sorted key_cmp (a ++ x ∷ b)) up))
  where
    all : (c : List Record) → T (below_all key_cmp e.0 (c ++ x ∷ b)) → T (below_all key_cmp e.0 (c ++ b))
    all [] h = second (is_lt (key_cmp e.0 x.0)) (below_all key_cmp e.0 b) h
    all (f ∷ c) h = both (is_lt (key_cmp e.0 f.0)) (below_all key_cmp e.0 (c ++ b)) (first (is_lt (key_cmp e.0 f.0)) (below_all key_cmp e.0 (c ++ x ∷ b)) h) (all c (second (is_lt (key_cmp e.0 f.0)) (below_all key_cmp e.0 (c ++ x ∷ b)) h))

-- what results up to a key stands below the marks behind it
bound_ascends : (u : Update) (rows marks : List Record) → IsAscending rows → IsAscending (mark_of u ∷ marks) → IsAscending ((below (key_of u) rows ++ bound_by u) ++ marks)
bound_ascends (bind k v) rows marks up ahead_up = subst IsAscending (sym (append_assoc (below k rows) ((k, v) ∷ []) marks)) (below_ascends k v rows marks up ahead_up)
bound_ascends (unbind k) rows marks up ahead_up =
    subst (λ (l : List Record). IsAscending (l ++ marks)) (sym (append-nil (below k rows))) (leaves_out (below k rows) (k, []) marks (below_ascends k [] rows marks up ahead_up))

-- All updates.

pub entries_after : (edits : List Update) (m : Map) (front rows : List Record) → entries m ≡ front ++ rows → IsAscending (front ++ map mark_of edits) → entries (map_after_edits m edits) ≡ front ++ merged_rows edits rows
entries_after [] m front rows are up = are
entries_after (u ∷ edits) m front rows are up =
    let k = key_of u in
    let marks = map mark_of edits in
    let ascend = subst IsAscending are (entries_sorted m) in
    let done = (front ++ below k rows) ++ bound_by u in
    let split : entries (map_after_edit m u) ≡ done ++ above k rows =
    entries-edit m u ∙ ap (edited u) are ∙ edit_splits u (front ++ rows) ascend
    ∙ ap (λ (l : List Record). l ++ bound_by u ++ above k (front ++ rows)) (before_below k [] front marks up rows)
    ∙ ap (λ (l : List Record). (front ++ below k rows) ++ bound_by u ++ l) (before_above k [] front marks up rows) in
    let up_next : IsAscending (done ++ marks) =
    subst (λ (l : List Record). IsAscending ((l ++ bound_by u) ++ marks)) (before_below k [] front marks up rows)
    (bound_ascends u (front ++ rows) marks ascend (is_sorted-append {X = Bytes} key_cmp front (mark_of u ∷ marks) up).1) in
    entries_after edits (map_after_edit m u) done (above k rows) split up_next
    ∙ ap (λ (l : List Record). l ++ merged_rows edits (above k rows)) (append_assoc front (below k rows) (bound_by u))
    ∙ append_assoc front (below k rows ++ bound_by u) (merged_rows edits (above k rows))
    ∙ ap (λ (l : List Record). front ++ l) (sym (append_assoc (below k rows ++ bound_by u) (front_rows edits (above k rows)) (rest_rows edits (above k rows))))

-- of all records of a map
pub merged_are : (m : Map) (edits : List Update) → AreAscending edits → entries (map_after_edits m edits) ≡ merged_rows edits (entries m)
merged_are m edits up = entries_after edits m [] (entries m) refl up

pub merged_ascend : (m : Map) (edits : List Update) → AreAscending edits → IsAscending (merged_rows edits (entries m))
merged_ascend m edits up = subst IsAscending (merged_are m edits up) (entries_sorted (map_after_edits m edits))

pub merged_map : (m : Map) (edits : List Update) → AreAscending edits → from_sorted (merged_rows edits (entries m)) ≡ map_after_edits m edits
merged_map m edits up =
    same_entries_map (from_sorted (merged_rows edits (entries m))) (map_after_edits m edits)
    (entries-from_sorted key_cmp (merged_rows edits (entries m)) (merged_ascend m edits up) ∙ sym (merged_are m edits up))

-- One update more.

pub front_more : (edits : List Update) (u : Update) (rows : List Record) → front_rows (edits ++ u ∷ []) rows ≡ front_rows edits rows ++ below (key_of u) (rest_rows edits rows) ++ bound_by u
front_more [] u rows = append-nil (below (key_of u) rows ++ bound_by u)
front_more (e ∷ edits) u rows =
    let next = above (key_of e) rows in
    let head = below (key_of e) rows ++ bound_by e in
    let more = below (key_of u) (rest_rows edits next) in
    ap (λ (l : List Record). head ++ l) (front_more edits u next) ∙ sym (append_assoc head (front_rows edits next ++ more) (bound_by u))
    ∙ ap (λ (l : List Record). l ++ bound_by u) (sym (append_assoc head (front_rows edits next) more))

pub rest_more : (edits : List Update) (u : Update) (rows : List Record) → rest_rows (edits ++ u ∷ []) rows ≡ above (key_of u) (rest_rows edits rows)
rest_more [] u rows = refl
rest_more (e ∷ edits) u rows = rest_more edits u (above (key_of e) rows)

-- what results up to a key stays with more updates
pub front_longer : (edits more : List Update) (rows : List Record) → length (front_rows edits rows) ≤ length (front_rows (edits ++ more) rows)
front_longer [] more rows = omega arith
front_longer (e ∷ edits) more rows =
    let next = above (key_of e) rows in
    let head = below (key_of e) rows ++ bound_by e in
    omega (arith, front_longer edits more next, length-append head (front_rows edits next), length-append head (front_rows (edits ++ more) next))

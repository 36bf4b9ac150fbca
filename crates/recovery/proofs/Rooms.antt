-- Whether items have room, one more at a time.
use Rattle.std.proofs.Common.{◌≡◌, ℕ, zero, suc, ◌+◌, ◌-◌, ◌<◌, ◌≤◌, Bool, true, false, cond, not, ◌||◌, nat_lt, List, [], ◌∷◌, length, take, get_or, refl, sym, ap, ◌∙◌, arith, Option, Some, None, is_some, length-append}
use Rattle.std.specs.Cmp.Lexicographic.{nat_list_cmp_total}
use Rattle.std.specs.FinMap.{contains_key, len, len-insert, len-remove}
use Rattle.std.specs.List.{flat_map}
use Rattle.std.specs.Option.{option_map}
use Rattle.std.proofs.lemmas.Bool.{lt-ltb}
use Rattle.density_rule.specs.Bounds.{upper_of}
use Rattle.map_model.specs.Store.{Map, Update, bind, unbind, key_of, effect_by, effect_map}
use Rattle.map_model.specs.After.{map_after, map_after_items}
use Rattle.map_model.specs.Items.{first_full, are_distinct, is_full}
use Rattle.map_model.specs.ItemWords.{AreAdmitted}
use Rattle.map_model.proofs.Resuming.{admitted_cons, get_before, meets_full, next_item, removal_fits, room_cons}
use Rattle.batch_intent.specs.Spelling.{item_bytes, intent_bytes}
use Rattle.batch_intent.specs.ItemView.{is_put}
use Rattle.recovery.specs.Intents.{puts_in, meets_by, records_by, place_among, IsCounted}

-- By whether the key is there.

pub meets_is : (limit : ℕ) (m : Map) (u : Update) → meets_full limit m u ≡ meets_by u (contains_key m (key_of u)) (len m) (upper_of limit)
meets_is limit m (bind key value) = put_meets (contains_key m key) (nat_lt (len m) (upper_of limit))
  where
    put_meets : (b r : Bool) → is_full (effect_by b r (bind key value)) ≡ not (b || r)
    put_meets true r = refl
    put_meets false true = refl
    put_meets false false = refl
meets_is limit m (unbind key) = removal_fits key (contains_key m key) (nat_lt (len m) (upper_of limit))

put_records : (m : Map) (key value : List ℕ) (b r : Bool) → contains_key m key ≡ b → is_full (effect_by b r (bind key value)) ≡ false → len (effect_map (effect_by b r (bind key value)) m (bind key value)) ≡ cond b (len m) (len m + 1)
put_records m key value true r e room = len-insert nat_list_cmp_total m key value ∙ ap (λ (c : Bool). cond c (len m) (len m + 1)) e
put_records m key value false true e room = len-insert nat_list_cmp_total m key value ∙ ap (λ (c : Bool). cond c (len m) (len m + 1)) e
put_records m key value false false e room = absurd (cc)

remove_records : (m : Map) (key : List ℕ) (b r : Bool) → contains_key m key ≡ b → len (effect_map (effect_by b r (unbind key)) m (unbind key)) ≡ cond b (len m - 1) (len m)
remove_records m key true r e = len-remove nat_list_cmp_total m key ∙ ap (λ (c : Bool). cond c (len m - 1) (len m)) e
remove_records m key false r e = refl

pub records_is : (limit : ℕ) (m : Map) (u : Update) → meets_full limit m u ≡ false → len (map_after limit m u) ≡ records_by u (contains_key m (key_of u)) (len m)
records_is limit m (bind key value) room = put_records m key value (contains_key m key) (nat_lt (len m) (upper_of limit)) refl room
records_is limit m (unbind key) room = remove_records m key (contains_key m key) (nat_lt (len m) (upper_of limit)) refl

-- Few records and puts.

records_rise : (u : Update) (b : Bool) (n : ℕ) → records_by u b n ≤ n + cond (is_put u) 1 0
records_rise (bind key value) true n = omega arith
records_rise (bind key value) false n = omega arith
records_rise (unbind key) true n = omega arith
records_rise (unbind key) false n = omega arith

pub records_most : (u : Update) (b : Bool) (n : ℕ) → records_by u b n ≤ n + 1
records_most (bind key value) true n = omega arith
records_most (bind key value) false n = omega arith
records_most (unbind key) true n = omega arith
records_most (unbind key) false n = omega arith

room_by : (u : Update) (b : Bool) (n most : ℕ) → n + cond (is_put u) 1 0 ≤ most → meets_by u b n most ≡ false
room_by (bind key value) true n most le = refl
room_by (bind key value) false n most le = ap not (lt-ltb n most (omega (arith, le)))
room_by (unbind key) b n most le = refl

more_puts : (u : Update) (us : List Update) → puts_in (u ∷ us) ≡ cond (is_put u) 1 0 + puts_in us
more_puts (bind key value) us = omega arith
more_puts (unbind key) us = omega arith

-- none meets a full store
pub few_admitted : (limit : ℕ) (m : Map) (items : List Update) → len m + puts_in items ≤ upper_of limit → AreAdmitted limit m items
few_admitted limit m [] le = refl
few_admitted limit m (u ∷ us) le =
    let puts = more_puts u us in
    let room : meets_full limit m u ≡ false = meets_is limit m u ∙ room_by u (contains_key m (key_of u)) (len m) (upper_of limit) (omega (arith, le, puts)) in
    admitted_cons limit m u us room (few_admitted limit (map_after limit m u) us (omega (arith, le, puts, records_is limit m u room, records_rise u (contains_key m (key_of u)) (len m))))

pub puts_next : (items : List Update) (k : ℕ) (d : Update) → k < length items → puts_in (take (suc k) items) ≡ cond (is_put (get_or items k d)) (suc (puts_in (take k items))) (puts_in (take k items))
puts_next [] k d lt = absurd (omega arith)
puts_next (u ∷ us) zero d lt = refl
puts_next (bind key value ∷ us) (suc k) d lt = ap suc (puts_next us k d (omega (arith, lt))) ∙ suc_cond (is_put (get_or us k d)) (puts_in (take k us))
  where
    suc_cond : (b : Bool) (n : ℕ) → suc (cond b (suc n) n) ≡ cond b (suc (suc n)) (suc n)
    suc_cond true n = refl
    suc_cond false n = refl
puts_next (unbind key ∷ us) (suc k) d lt = puts_next us k d (omega (arith, lt))

-- One item more.

pub full_next : (limit : ℕ) (m : Map) (items : List Update) (k : ℕ) (d : Update) → k < length items → AreAdmitted limit m (take k items) → meets_full limit (map_after_items limit m (take k items)) (get_or items k d) ≡ false → AreAdmitted limit m (take (suc k) items)
full_next limit m [] k d lt none room = absurd (omega arith)
full_next limit m (u ∷ us) zero d lt none room = ap (λ (b : Bool). cond b (Some 0) None) room
full_next limit m (u ∷ us) (suc k) d lt none room =
    let parts = room_cons (meets_full limit m u) (first_full limit (map_after limit m u) (take k us)) none in
    admitted_cons limit m u (take (suc k) us) parts.0 (full_next limit (map_after limit m u) us k d (omega arith) parts.1 room)

pub full_here : (limit : ℕ) (m : Map) (items : List Update) (k : ℕ) (d : Update) → k < length items → AreAdmitted limit m (take k items) → meets_full limit (map_after_items limit m (take k items)) (get_or items k d) ≡ true → first_full limit m items ≡ Some k
full_here limit m [] k d lt none full = absurd (omega arith)
full_here limit m (u ∷ us) zero d lt none full = ap (λ (b : Bool). cond b (Some 0) (option_map (λ i. suc i) (first_full limit (map_after limit m u) us))) full
full_here limit m (u ∷ us) (suc k) d lt none full =
    let parts = room_cons (meets_full limit m u) (first_full limit (map_after limit m u) (take k us)) none in
    ap (λ (b : Bool). cond b (Some 0) (option_map (λ i. suc i) (first_full limit (map_after limit m u) us))) parts.0
    ∙ ap (option_map (λ i. suc i)) (full_here limit (map_after limit m u) us k d (omega arith) parts.1 full)

below_by : (b : Bool) (o : Option ℕ) (j most : ℕ) → ((i : ℕ) → o ≡ Some i → i < most) → cond b (Some 0) (option_map (λ i. suc i) o) ≡ Some j → j < suc most
below_by true o j most rest is = let same : 0 ≡ j = cc in omega (arith, same)
below_by false None j most rest is = absurd (cc)
below_by false (Some i) j most rest is = let same : suc i ≡ j = cc in omega (arith, same, rest i refl)

-- which is one of the items
pub full_below : (limit : ℕ) (m : Map) (items : List Update) (j : ℕ) → first_full limit m items ≡ Some j → j < length items
full_below limit m [] j is = absurd (cc)
full_below limit m (u ∷ us) j is = below_by (meets_full limit m u) (first_full limit (map_after limit m u) us) j (length us) (full_below limit (map_after limit m u) us) is

-- the bytes before an item
pub place_next : (items : List Update) (k : ℕ) (d : Update) → k < length items → length (flat_map item_bytes (take (suc k) items)) ≡ length (flat_map item_bytes (take k items)) + length (item_bytes (get_or items k d))
place_next [] k d lt = absurd (omega arith)
place_next (u ∷ us) zero d lt = omega (arith, length-append (item_bytes u) [])
place_next (u ∷ us) (suc k) d lt = omega (arith, length-append (item_bytes u) (flat_map item_bytes (take (suc k) us)), length-append (item_bytes u) (flat_map item_bytes (take k us)), place_next us k d (omega (arith, lt)))

-- k of the items have room
pub record HaveRoom (limit : ℕ) (m : Map) (items : List Update) (k records : ℕ) : Type 0 where
  pub records_are : records ≡ len (map_after_items limit m (take k items))
  pub room : AreAdmitted limit m (take k items)

pub none_yet : (limit : ℕ) (m : Map) (items : List Update) (records : ℕ) → records ≡ len m → HaveRoom limit m items 0 records
none_yet limit m items records is = record { records_are = is; room = refl }

module _ (limit : ℕ) (m : Map) (items : List Update) (there : List Bool) (most first k records : ℕ) (d : Update) (lt : k < length items) (distinct : are_distinct items ≡ true)
    (counted : IsCounted limit m items there first most) (have : HaveRoom limit m items k records) where
  abbrev here : Map
  here = map_after_items limit m (take k items)

  -- the item finds its key as the map of before has it
  finds : contains_key here (key_of (get_or items k d)) ≡ get_or there k false
  finds = ap is_some (get_before limit m items k d lt distinct) ∙ sym (counted.found.each k d lt)

  meets : meets_full limit here (get_or items k d) ≡ meets_by (get_or items k d) (get_or there k false) records most
  meets = meets_is limit here (get_or items k d) ∙ (λ t. meets_by (get_or items k d) (finds t) (sym have.records_are t) (sym counted.most_is t))

  pub full_now : meets_by (get_or items k d) (get_or there k false) records most ≡ true → Some (length (intent_bytes (take k items))) ≡ place_among items (first_full limit m items)
  full_now full = sym (ap (place_among items) (full_here limit m items k d lt have.room (meets ∙ full)))

  pub room_now : meets_by (get_or items k d) (get_or there k false) records most ≡ false → (more : ℕ) → more ≡ records_by (get_or items k d) (get_or there k false) records → HaveRoom limit m items (suc k) more
  room_now room more more_is = record {
    records_are =
        more_is
        ∙ (λ t. records_by (get_or items k d) (sym finds t) (have.records_are t))
        ∙ sym (records_is limit here (get_or items k d) (meets ∙ room))
        ∙ ap len (sym (next_item limit m items k d lt));
    room = full_next limit m items k d lt have.room (meets ∙ room);
  }

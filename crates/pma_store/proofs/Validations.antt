-- What items would do, one more at a time.
use Rattle.std.proofs.Common.{◌≡◌, ℕ, zero, suc, ◌+◌, ◌<◌, Bool, true, false, cond, not, nat_lt, List, [], ◌∷◌, length, take, get_or, refl, sym, ap, subst, ◌∙◌, arith, Option, Some, None, is_some}
use Rattle.std.specs.FinMap.{contains_key, len}
use Rattle.density_rule.specs.Bounds.{upper_of}
use Rattle.map_model.specs.Store.{Map, Update, bind, unbind, key_of, effect_by, effect_of}
use Rattle.map_model.specs.After.{map_after, map_after_items}
use Rattle.map_model.specs.Items.{first_full, are_distinct}
use Rattle.map_model.specs.ItemWords.{ItemCounts, no_items, count_items, effect_count, AreAdmitted}
use Rattle.map_model.proofs.Resuming.{get_before, meets_full, next_item}
use Rattle.std.proofs.lemmas.List.{take_all}
use Rattle.std.proofs.Common.{set, inl, inr}
use Rattle.std.proofs.lemmas.Bool.{cases_eq}
use Rattle.std.proofs.lemmas.List.{get_or-set_other}
use Rattle.std.proofs.lemmas.Grind.{get_or-set_at}
use Rattle.recovery.specs.Intents.{meets_by, records_by}
use Rattle.recovery.proofs.Rooms.{full_here, full_next, meets_is, records_is}
use Rattle.pma_store.specs.ItemEffects.{AreFound, validated_of, counted_by}

-- by whether the key is there
pub counted_is : (hmax : ℕ) (m : Map) (u : Update) (c : ItemCounts) → effect_count (effect_of hmax m u) c ≡ counted_by u (contains_key m (key_of u)) c
counted_is hmax m (bind key value) c = put_counts (contains_key m key) (nat_lt (len m) (upper_of hmax))
  where
    put_counts : (b r : Bool) → effect_count (effect_by b r (bind key value)) c ≡ counted_by (bind key value) b c
    put_counts true r = refl
    put_counts false true = refl
    put_counts false false = refl
counted_is hmax m (unbind key) c = removal_counts (contains_key m key) (nat_lt (len m) (upper_of hmax))
  where
    removal_counts : (b r : Bool) → effect_count (effect_by b r (unbind key)) c ≡ counted_by (unbind key) b c
    removal_counts true r = refl
    removal_counts false r = refl

-- One item more.

pub count_next : (hmax : ℕ) (m : Map) (items : List Update) (k : ℕ) (d : Update) (c : ItemCounts) → k < length items → count_items hmax m (take (suc k) items) c ≡ effect_count (effect_of hmax (map_after_items hmax m (take k items)) (get_or items k d)) (count_items hmax m (take k items) c)
count_next hmax m [] k d c lt = absurd (omega arith)
count_next hmax m (u ∷ us) zero d c lt = refl
count_next hmax m (u ∷ us) (suc k) d c lt = count_next hmax (map_after hmax m u) us k d (effect_count (effect_of hmax m u) c) (omega arith)

-- k of the items were validated
pub record IsValidated (hmax : ℕ) (m : Map) (items : List Update) (k records : ℕ) (counts : ItemCounts) : Type 0 where
  pub records_are : records ≡ len (map_after_items hmax m (take k items))
  pub counts_are : counts ≡ count_items hmax m (take k items) no_items
  pub room : AreAdmitted hmax m (take k items)

pub none_validated : (hmax : ℕ) (m : Map) (items : List Update) (records : ℕ) → records ≡ len m → IsValidated hmax m items 0 records no_items
none_validated hmax m items records is = record { records_are = is; counts_are = refl; room = refl }

pub all_validated : (hmax : ℕ) (m : Map) (items : List Update) (k records : ℕ) (counts : ItemCounts) → k ≡ length items → IsValidated hmax m items k records counts → Some counts ≡ validated_of hmax m items
all_validated hmax m items k records counts end is =
    let whole : take k items ≡ items = take_all k items (omega arith) in
    let room : first_full hmax m items ≡ None = ap (first_full hmax m) (sym whole) ∙ is.room in
    ap Some (is.counts_are ∙ ap (λ (us : List Update). count_items hmax m us no_items) whole)
    ∙ sym (ap (λ (o : Option ℕ). cond (is_some o) None (Some (count_items hmax m items no_items))) room)

module _ (hmax : ℕ) (m : Map) (items : List Update) (k records : ℕ) (counts : ItemCounts) (d : Update) (lt : k < length items) (distinct : are_distinct items ≡ true) (is : IsValidated hmax m items k records counts) (present : Bool) (there : present ≡ contains_key m (key_of (get_or items k d))) where
  abbrev here : Map
  here = map_after_items hmax m (take k items)

  -- the item finds its key as the map of before has it
  finds : contains_key here (key_of (get_or items k d)) ≡ present
  finds = ap is_some (get_before hmax m items k d lt distinct) ∙ sym there

  meets : meets_full hmax here (get_or items k d) ≡ meets_by (get_or items k d) present records (upper_of hmax)
  meets = meets_is hmax here (get_or items k d) ∙ (λ t. meets_by (get_or items k d) (finds t) (sym is.records_are t) (upper_of hmax))

  pub full_validated : meets_by (get_or items k d) present records (upper_of hmax) ≡ true → None ≡ validated_of hmax m items
  full_validated full = sym (ap (λ (b : Bool). cond b None (Some (count_items hmax m items no_items))) (ap is_some (full_here hmax m items k d lt is.room (meets ∙ full))))

  pub next_validated : meets_by (get_or items k d) present records (upper_of hmax) ≡ false → (more : ℕ) (counted : ItemCounts) → more ≡ records_by (get_or items k d) present records → counted ≡ counted_by (get_or items k d) present counts → IsValidated hmax m items (suc k) more counted
  next_validated room more counted more_is counted_as = record {
    records_are =
        more_is
        ∙ (λ t. records_by (get_or items k d) (sym finds t) (is.records_are t))
        ∙ sym (records_is hmax here (get_or items k d) (meets ∙ room))
        ∙ ap len (sym (next_item hmax m items k d lt));
    counts_are =
        counted_as
        ∙ (λ t. counted_by (get_or items k d) (sym finds t) (is.counts_are t))
        ∙ sym (counted_is hmax here (get_or items k d) (count_items hmax m (take k items) no_items))
        ∙ sym (count_next hmax m items k d no_items lt);
    room = full_next hmax m items k d lt is.room (meets ∙ room);
  }

-- What a count's answer tells.

pub full_of : (a b : Bool) → a ≡ not b → a ≡ false → b ≡ true
full_of a true is e = refl
full_of a false is e = absurd (cc)

pub room_of : (a b : Bool) → a ≡ not b → a ≡ true → b ≡ false
room_of a true is e = absurd (cc)
room_of a false is e = refl

-- Which keys were found.

pub found_more : (old mid : List Bool) (items : List Update) (m : Map) (i : ℕ) (present : Bool) → mid ≡ old → i < length old → AreFound old items m i → ((d : Update) → present ≡ contains_key m (key_of (get_or items i d))) → AreFound (set mid i present) items m (i + 1)
found_more old mid items m i present same lt found there = subst (λ (bs : List Bool). AreFound (set bs i present) items m (i + 1)) (sym same) by_place
  where
    by_place : AreFound (set old i present) items m (i + 1)
    by_place j low d = elim (cases_eq j i) [
      | inl is ↦ get_or-set_at old i j present false is lt ∙ there d ∙ ap (λ (k : ℕ). contains_key m (key_of (get_or items k d))) (sym is)
      | inr other ↦ get_or-set_other old i j present false other ∙ found j (omega (arith, low, other)) d
    ]

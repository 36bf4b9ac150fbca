-- The outcome of an update is the same by an array and by the map that it holds; when a put finds the store full.
use Rattle.std.proofs.Common.{◌≡◌, ◌↔◌, ℕ, suc, ◌+◌, ◌-◌, ◌<◌, ◌≤◌, Bool, true, false, nat_lt, refl, ap, subst, arith, inl, inr}
use Rattle.std.specs.FinMap.{contains_key, len}
use Rattle.std.proofs.lemmas.Bool.{cases_lt, le-ltb, ltb-false}
use Rattle.key_slot.specs.Record.{Bytes}
use Rattle.density_rule.specs.Bounds.{upper_of}
use Rattle.density_rule.proofs.Bounding.{upper_of-lt}
use Rattle.map_model.specs.Store.{Map, Update, bind, key_of, FindsFull, effect_by, effect_of, IsWithin}
use Rattle.map_model.specs.Array.{Array, rows}
use Rattle.map_model.specs.ArrayUpdates.{effect_in}
use Rattle.map_model.specs.Holding.{HoldsMap}
use Rattle.map_model.proofs.Entries.{length-rows, find-rows}

pub same_effect : (hmax : ℕ) (m : Map) (height : ℕ) (segments : Array) → HoldsMap hmax m height segments → (u : Update) → effect_in hmax segments u ≡ effect_of hmax m u
same_effect hmax m height segments holds u = λ t. effect_by (find-rows (rows segments) m holds.rows_are (key_of u) t) (nat_lt (length-rows (rows segments) m holds.rows_are t) (upper_of hmax)) u

-- a lower store holds no more than a higher one may
pub upper_of-le : (h hmax : ℕ) → h ≤ hmax → hmax ≤ 16 → upper_of h ≤ upper_of hmax
upper_of-le h hmax low top = elim (cases_lt h hmax) [
  | inr ge ↦ let same : h ≡ hmax = omega (arith, ge, low) in omega (arith, ap (λ (h : ℕ). upper_of h) same)
  | inl lt ↦
      let whole : h + suc (hmax - h - 1) ≡ hmax = omega (arith, lt) in
      let more : upper_of h < upper_of hmax = subst (λ (k : ℕ). upper_of h < upper_of k) whole (upper_of-lt h (hmax - h - 1) (omega (arith, whole, top))) in
      omega (arith, more)
]

-- a map within the bounds of the root has no more records than the store may hold
pub most_held : (hmax height count : ℕ) → IsWithin hmax height count → count ≤ upper_of hmax
most_held hmax height count within = omega (arith, within.most_is, upper_of-le height hmax within.height_is within.hmax_is)

-- so it is full where it has as many
pub full_exactly : (hmax height : ℕ) (m : Map) (key value : Bytes) → IsWithin hmax height (len m) → (effect_of hmax m (bind key value) ≡ FindsFull) ↔ ((contains_key m key ≡ false) × (len m ≡ upper_of hmax))
full_exactly hmax height m key value within = (
  λ is. by (contains_key m key) (nat_lt (len m) (upper_of hmax)) refl refl is,
  λ both. λ t. effect_by (both.0 t) (le-ltb (len m) (upper_of hmax) (omega (arith, both.1)) t) (bind key value),
)
  where
    by : (b c : Bool) → contains_key m key ≡ b → nat_lt (len m) (upper_of hmax) ≡ c → effect_by b c (bind key value) ≡ FindsFull → (contains_key m key ≡ false) × (len m ≡ upper_of hmax)
    by true c p q is = absurd cc
    by false true p q is = absurd cc
    by false false p q is = (p, omega (arith, ltb-false _ _ q, most_held hmax height (len m) within))

-- What a failed call that changes bytes leaves.
use Rattle.std.proofs.Common.{◌≡◌, ⊎_elim, List, ℕ, length, refl, false}
use Rattle.station.specs.Bytes.{AreBytes}
use Rattle.station.specs.View.{View}
use Rattle.station.specs.FromBelow.{Torn, Tears}

-- where it changed a held byte or the length, all that it may tear may be left: not only old or new, and nothing that
-- was pending is forgotten
pub torn_where_changed : {R : List ℕ → List ℕ → Type 0} {a b : View} → Tears R false a b → (b.held ≡ a.held → ⊥) → Torn R a b
torn_where_changed tears changed = ⊎_elim (λ same. absurd (changed same.held)) (λ torn. torn) (tears.err refl)

-- and whatever it did, each image of bytes of the entry that has the length of the file may still be left
pub no_image_lost : {R : List ℕ → List ℕ → Type 0} {a b : View} → Tears R false a b → (image : List ℕ) → a.may_leave image → R image image → length image ≡ length b.held → AreBytes image → b.may_leave image
no_image_lost tears image left kept size bytes = ⊎_elim (λ same. (same.images image).0 left) (λ torn. torn.now image image left kept size bytes) (tears.err refl)

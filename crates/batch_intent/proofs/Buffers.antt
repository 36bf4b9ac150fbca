-- Parts written to a buffer.
use Rattle.std.proofs.Common.{◌≡◌, inl, inr, ℕ, zero, suc, ◌+◌, ◌-◌, ◌<◌, ◌≤◌, List, [], ◌∷◌, ◌++◌, length, take, drop, sym, refl, ◌∙◌, ap, arith}
use borrow.Rule.Slice.PartMut.{put_mid}
use Rattle.std.proofs.lemmas.Bool.{cases_lt}
use Rattle.std.proofs.lemmas.List.{get_or_append_left, get_or-append_right, get_or-take, get_or-drop, length-take-le, ext_get_or}
use Rattle.std.specs.Prelude.{slice_range}
use Rattle.station.specs.Bytes.{byte, InRange, SameBut}
use Rattle.station.proofs.Ranges.{byte-slice_range, length-slice_range}

-- a byte of the part that was written to a buffer
pub put_byte : (old part : List ℕ) (start m k : ℕ) → start ≤ length old → k < length part → byte (put_mid start m old part) (start + k) ≡ byte part k
put_byte old part start m k within lt =
    let rest = drop m (drop start old) in
    let e : start + k - start ≡ k = omega arith in
    get_or-append_right (take start old) (part ++ rest) start (start + k) 0 (length-take-le start old within) (omega arith)
    ∙ ap (byte (part ++ rest)) e
    ∙ get_or_append_left part rest 0 k lt

-- a byte outside that part stays
pub put_apart : (old part : List ℕ) (start m k : ℕ) → start + m ≤ length old → length part ≡ m → (InRange start m k → ⊥) → byte (put_mid start m old part) k ≡ byte old k
put_apart old part start m k inside size out =
    let rest = drop m (drop start old) in
    let front : length (take start old) ≡ start = length-take-le start old (omega (arith, inside)) in
    elim (cases_lt k start) [
      | inl before ↦ get_or_append_left (take start old) (part ++ rest) 0 k (omega (arith, front, before)) ∙ get_or-take start old k 0 before
      | inr from ↦ elim (cases_lt k (start + m)) [
        | inl within ↦ absurd (out (from, within))
        | inr behind ↦
            let e : start + (m + (k - start - m)) ≡ k = omega (arith, behind) in
            get_or-append_right (take start old) (part ++ rest) start k 0 front from
            ∙ get_or-append_right part rest m (k - start) 0 size (omega (arith, behind))
            ∙ get_or-drop m (drop start old) (k - start - m) 0
            ∙ get_or-drop start old (m + (k - start - m)) 0
            ∙ ap (byte old) e
      ]
    ]

-- a range with the bytes of a part is the part
pub range_is : (bytes part : List ℕ) (at : ℕ) → at + length part ≤ length bytes → ((k : ℕ) → k < length part → byte bytes (at + k) ≡ byte part k) → slice_range bytes at (at + length part) ≡ part
range_is bytes part at within same =
    let size = length-slice_range bytes at (at + length part) (omega arith) within in
    ext_get_or 0 (slice_range bytes at (at + length part)) part (omega (arith, size)) (λ k lt.
    let inner : k < length part = omega (arith, lt, size) in
    byte-slice_range bytes at (at + length part) k (omega (arith, inner)) ∙ same k inner)

-- Three bytes, and what follows them.

pub head_byte : (x y z : ℕ) (rest : List ℕ) (k : ℕ) → k < 3 → byte (x ∷ y ∷ z ∷ []) k ≡ byte (x ∷ y ∷ z ∷ rest) k
head_byte x y z rest zero lt = refl
head_byte x y z rest (suc zero) lt = refl
head_byte x y z rest (suc (suc zero)) lt = refl
head_byte x y z rest (suc (suc (suc k))) lt = absurd (omega arith)

pub behind_head : (x y z : ℕ) (rest : List ℕ) (k : ℕ) → 3 ≤ k → byte (x ∷ y ∷ z ∷ rest) k ≡ byte rest (k - 3)
behind_head x y z rest zero le = absurd (omega arith)
behind_head x y z rest (suc zero) le = absurd (omega arith)
behind_head x y z rest (suc (suc zero)) le = absurd (omega arith)
behind_head x y z rest (suc (suc (suc k))) le = let e : k ≡ suc (suc (suc k)) - 3 = omega arith in ap (byte rest) e

module _ (x y z : ℕ) (key value : List ℕ) (at : ℕ) (a b c d : List ℕ)
    (head : (k : ℕ) → k < 3 → byte b (at + k) ≡ byte (x ∷ y ∷ z ∷ []) k)
    (head_rest : SameBut (InRange at 3) a b)
    (keyed : (k : ℕ) → k < length key → byte c (at + 3 + k) ≡ byte key k)
    (key_rest : SameBut (InRange (at + 3) (length key)) b c)
    (valued : (k : ℕ) → k < length value → byte d (at + 3 + length key + k) ≡ byte value k)
    (value_rest : SameBut (InRange (at + 3 + length key) (length value)) c d) where
  pub fields_written : (k : ℕ) → k < 3 + (length key + length value) → byte d (at + k) ≡ byte (x ∷ y ∷ z ∷ (key ++ value)) k
  fields_written k lt = elim (cases_lt k 3) [
    | inl low ↦
        value_rest (at + k) (λ r. omega (arith, r.0, low)) ∙ key_rest (at + k) (λ r. omega (arith, r.0, low)) ∙ head k low ∙ head_byte x y z (key ++ value) k low
    | inr high ↦ elim (cases_lt (k - 3) (length key)) [
      | inl inner ↦
          let e : at + k ≡ at + 3 + (k - 3) = omega arith in
          value_rest (at + k) (λ r. omega (arith, r.0, inner, high)) ∙ ap (byte c) e ∙ keyed (k - 3) inner
          ∙ sym (behind_head x y z (key ++ value) k high ∙ get_or_append_left key value 0 (k - 3) inner)
      | inr outer ↦
          let e : at + k ≡ at + 3 + length key + (k - 3 - length key) = omega arith in
          ap (byte d) e ∙ valued (k - 3 - length key) (omega arith)
          ∙ sym (behind_head x y z (key ++ value) k high ∙ get_or-append_right key value (length key) (k - 3) 0 refl outer)
    ]
  ]

  pub fields_rest : SameBut (InRange at (3 + (length key + length value))) a d
  fields_rest k out =
      value_rest k (λ r. out (omega (arith, r.0), omega (arith, r.1)))
      ∙ key_rest k (λ r. out (omega (arith, r.0), omega (arith, r.1)))
      ∙ head_rest k (λ r. out (r.0, omega (arith, r.1)))

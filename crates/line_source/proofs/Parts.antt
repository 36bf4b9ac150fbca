-- Parts of a buffer.
use Rattle.std.proofs.Common.{◌≡◌, ℕ, ◌+◌, ◌-◌, ◌≤◌, List, ◌++◌, length, take, drop, slice_range, sym, ap, ◌∙◌, arith, length-drop}
use Rattle.std.proofs.Math.Seq.{take-add}
use Rattle.std.proofs.lemmas.List.{drop-drop, drop-append-le, length-take-le, take-append-drop, take_at}
use Rattle.std.proofs.lemmas.Slice.{between_is}

-- a part without its front
pub slice_range-from : (buffer : List ℕ) (start end k : ℕ) → slice_range buffer (start + k) end ≡ drop k (slice_range buffer start end)
slice_range-from buffer start end k =
    between_is buffer (start + k) end ∙ sym (drop-drop k start (take end buffer)) ∙ ap (drop k) (sym (between_is buffer start end))

-- a part of a front that stayed
pub slice_range-kept : (old new : List ℕ) (start end : ℕ) → take end new ≡ take end old → slice_range new start end ≡ slice_range old start end
slice_range-kept old new start end kept = between_is new start end ∙ ap (drop start) kept ∙ sym (between_is old start end)

-- what was held, and a piece that was put behind it
pub slice_range-behind : (old new : List ℕ) (start end n : ℕ) → start ≤ end → end ≤ length new → take end new ≡ take end old → slice_range new start (end + n) ≡ slice_range old start end ++ take n (drop end new)
slice_range-behind old new start end n le fits kept =
    between_is new start (end + n)
    ∙ ap (drop start) (take-add end n new)
    ∙ drop-append-le start (take end new) (take n (drop end new)) (omega (arith, length-take-le end new fits))
    ∙ ap (λ (front : List ℕ). drop start front ++ take n (drop end new)) kept
    ∙ ap (λ (front : List ℕ). front ++ take n (drop end new)) (sym (between_is old start end))

-- a piece that was copied from the front of what was left
pub piece_taken : (bytes front other : List ℕ) (at len : ℕ) → front ≡ slice_range bytes at (at + len) → at + len ≤ length bytes → drop at bytes ≡ take len (front ++ other) ++ drop (at + len) bytes
piece_taken bytes front other at len is fits =
    let size : length front ≡ len = ap length is ∙ length-take-le (at + len - at) (drop at bytes) (omega (arith, length-drop at bytes)) ∙ omega arith in
    let front_is : front ≡ take len (drop at bytes) = is ∙ ap (λ (k : ℕ). take k (drop at bytes)) {x = at + len - at} {y = len} (omega arith) in
    sym (take-append-drop len (drop at bytes)) ∙ ap (λ (l : List ℕ). l ++ drop len (drop at bytes)) (sym front_is ∙ sym (take_at front other len size)) ∙ ap (λ (l : List ℕ). take len (front ++ other) ++ l) (drop-drop len at bytes)

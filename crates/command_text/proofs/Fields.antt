-- A field of zeros, of which that many bytes were lent and written up to a place.
use Rattle.std.proofs.Common.{◌≡◌, ℕ, ◌+◌, ◌≤◌, List, ◌++◌, length, take, drop, replicate, set, sym, ap, ◌∙◌, arith, length-append, length-drop}
use Rattle.std.proofs.lemmas.List.{length-replicate, drop-drop, drop-set-lt, drop-replicate, drop-append-le, take-append-le, take-append-drop, length-take-le}
use Rattle.key_slot.specs.Padded.{IsPadded}

-- one byte more was written
pub behind_more : (held before : List ℕ) (n b : ℕ) → drop n held ≡ drop n before → drop (n + 1) (set held n b) ≡ drop (n + 1) before
behind_more held before n b same = drop-set-lt (n + 1) held n b (omega arith) ∙ sym (drop-drop 1 n held) ∙ ap (drop 1) same ∙ drop-drop 1 n before

module _ (n room len : ℕ) (front : List ℕ) (within : room ≤ n) (few : len ≤ room) (size : length front ≡ room) where
  pub is_padded : drop len front ≡ drop len (take room (replicate n 0)) → IsPadded n len (front ++ drop room (replicate n 0))
  is_padded same = record {
    within = omega (arith, within, few);
    size = omega (arith, length-append front (drop room (replicate n 0)), length-drop room (replicate {A = ℕ} n 0), length-replicate {A = ℕ} n 0, size, within);
    zeros =
        drop-append-le len front (drop room (replicate n 0)) (omega (arith, size, few))
        ∙ ap (λ (l : List ℕ). l ++ drop room (replicate n 0)) same
        ∙ sym (drop-append-le len (take room (replicate n 0)) (drop room (replicate n 0)) (omega (arith, length-take-le room (replicate {A = ℕ} n 0) (omega (arith, length-replicate {A = ℕ} n 0, within)), few)))
        ∙ ap (drop len) (take-append-drop room (replicate n 0))
        ∙ drop-replicate len n 0;
  }

  pub front_taken : take len (front ++ drop room (replicate n 0)) ≡ take len front
  front_taken = take-append-le len front (drop room (replicate n 0)) (omega (arith, size, few))

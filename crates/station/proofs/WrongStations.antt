-- Stations that forget what a failed call may leave, of files of a byte or two. Their calls break the crash model's
-- bounds from below.
use Rattle.std.proofs.Common.{◌≡◌, ◌⊎◌, inl, inr, ⊎_elim, ℕ, zero, suc, ◌+◌, ◌<◌, ◌≤◌, List, [], ◌∷◌, length, None, Some, true, false, refl, ap, arith}
use Rattle.std.proofs.lemmas.Bool.{false≢true}
use Rattle.station.specs.Bytes.{byte, AreBytes, Blurred, Resizing}
use Rattle.station.specs.View.{View}
use Rattle.station.specs.FromBelow.{Tears}
use Rattle.station.proofs.Failures.{torn_where_changed, no_image_lost}

-- an honest station that holds these bytes and may leave these images
abbrev holding : List ℕ → (List ℕ → Type 0) → View
holding held leaves = record {
  fixed = record { tells_held = true; tells_said = true; honest = true; name = Some []; reach = 2 };
  held = held;
  said = [];
  may_leave = leaves;
  may_have_left = λ t image said. leaves image;
  calls = 0;
  attached = None;
  disk_faults = 0;
  say_faults = 0;
  travel = record { read = 0; written = 0; breaks = 0; next = 0 };
}

one : AreBytes (1 ∷ [])
one zero = omega arith
one (suc k) = omega arith

one_seven : AreBytes (1 ∷ 7 ∷ [])
one_seven zero = omega arith
one_seven (suc zero) = omega arith
one_seven (suc (suc k)) = omega arith

differ : {l m : List ℕ} → byte l 0 ≡ 1 → byte m 0 ≡ 0 → l ≡ m → ⊥
differ a b e = omega (arith, a, b, ap (λ l. byte l 0) e)

-- the one byte was pending; a change of length fails, and the byte is pending no more
pub failed_set_len_forgets : Tears (Resizing 1) false (holding (0 ∷ []) (λ i. length i ≡ 1)) (holding (0 ∷ []) (λ i. i ≡ 0 ∷ [])) → ⊥
failed_set_len_forgets tears = differ refl refl (no_image_lost tears (1 ∷ []) refl (record { size = inl refl; kept = λ k old new. refl }) refl one)

-- the same, where the file has got longer all the same
pub failed_growth_forgets : Tears (Resizing 2) false (holding (0 ∷ []) (λ i. length i ≡ 1)) (holding (0 ∷ 0 ∷ []) (λ i. (length i ≡ 2) × (byte i 0 ≡ 0))) → ⊥
failed_growth_forgets tears =
    let torn = torn_where_changed tears (λ e. omega (arith, ap length e)) in
    omega (arith, (torn.now (1 ∷ []) (1 ∷ 7 ∷ []) refl (record { size = inr refl; kept = longer }) refl one_seven).1)
  where
    longer : (k : ℕ) → k < 1 → k < 2 → byte (1 ∷ 7 ∷ []) k ≡ byte (1 ∷ []) k
    longer zero old new = refl
    longer (suc k) old new = absurd (omega (arith, old))

-- a write past the end fails and has made the file longer, and the byte before it is pending no more
pub failed_write_past_the_end_forgets : Tears (Blurred 1 1) false (holding (0 ∷ []) (λ i. length i ≡ 1)) (holding (0 ∷ 7 ∷ []) (λ i. (length i ≡ 2) × (byte i 0 ≡ 0))) → ⊥
failed_write_past_the_end_forgets tears =
    let torn = torn_where_changed tears (λ e. omega (arith, ap length e)) in
    omega (arith, (torn.now (1 ∷ []) (1 ∷ 7 ∷ []) refl (record { size = inr refl; rest = outside }) refl one_seven).1)
  where
    outside : (k : ℕ) → ((1 ≤ k) × (k < 1 + 1) → ⊥) → byte (1 ∷ 7 ∷ []) k ≡ byte (1 ∷ []) k
    outside zero out = refl
    outside (suc zero) out = absurd (out (omega arith, omega arith))
    outside (suc (suc k)) out = refl

-- a write fails and has put its byte, and a crash leaves the old byte or the new one and no other
pub failed_write_leaves_old_or_new : Tears (Blurred 0 1) false (holding (0 ∷ []) (λ i. i ≡ 0 ∷ [])) (holding (7 ∷ []) (λ i. (i ≡ 0 ∷ []) ⊎ (i ≡ 7 ∷ []))) → ⊥
failed_write_leaves_old_or_new tears =
    let torn = torn_where_changed tears (λ e. omega (arith, ap (λ l. byte l 0) e)) in
    ⊎_elim (λ e. differ refl refl e) (λ e. omega (arith, ap (λ l. byte l 0) e)) (torn.now (0 ∷ []) (1 ∷ []) refl (record { size = inl refl; rest = outside }) refl one)
  where
    outside : (k : ℕ) → ((0 ≤ k) × (k < 0 + 1) → ⊥) → byte (1 ∷ []) k ≡ byte (0 ∷ []) k
    outside zero out = absurd (out (omega arith, omega arith))
    outside (suc k) out = refl

-- but it may leave any byte there, and lists of bytes alone
pub failed_write_leaves_any_byte : Tears (Blurred 0 1) false (holding (0 ∷ []) (λ i. i ≡ 0 ∷ [])) (holding (7 ∷ []) (λ i. (length i ≡ 1) × AreBytes i))
failed_write_leaves_any_byte = record {
  ok = λ e. absurd (false≢true e);
  err = λ e. inr (record {
    now = λ start image left step size bytes. (size, bytes);
    within = λ t start image le left step bytes. (⊎_elim (λ e. omega (arith, e, ap length left)) (λ e. omega (arith, e, ap length left)) step.size, bytes);
  });
  idle = λ at. absurd (omega (arith, at));
}

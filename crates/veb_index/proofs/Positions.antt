-- The fences of an index after one of them was set, by its position or by its segment.
use Rattle.std.proofs.Common.{◌≡◌, ℕ, ◌^◌, ◌<◌, ◌≤◌, List, [], length, set, take, get_or, Some, None, refl, sym, ap, ◌∙◌, arith, inl, inr}
use Rattle.std.proofs.lemmas.Bool.{cases_lt, lt-ltb, le-leb, le-ltb}
use Rattle.std.proofs.lemmas.List.{get_or-take, get_or-set_same, get_or-set_other, get_or_past, length-take}
use Rattle.key_slot.specs.Record.{Bytes}
use Rattle.veb_index.specs.Nodes.{fence_place}
use Rattle.veb_index.specs.IndexView.{IndexView, fence_at, fence_of}
use Rattle.veb_index.proofs.Middles.{fence_place-apart}

module _ (n : ℕ) (keys : List Bytes) (fits : n ≤ length keys) (x : ℕ) (key : Bytes) (lt : x < n) where
  pub node_here : get_or (take n (set keys x key)) x [] ≡ key
  node_here = get_or-take n (set keys x key) x [] lt ∙ get_or-set_same keys x key [] (omega (arith, fits, lt))

  pub node_there : (y : ℕ) → (y ≡ x → ⊥) → get_or (take n (set keys x key)) y [] ≡ get_or (take n keys) y []
  node_there y apart = elim (cases_lt y n) [
    | inl below ↦ get_or-take n (set keys x key) y [] below ∙ get_or-set_other keys x y key [] apart ∙ sym (get_or-take n keys y [] below)
    | inr past ↦ get_or_past (take n (set keys x key)) y [] (omega (arith, past, length-take n (set keys x key))) ∙ sym (get_or_past (take n keys) y [] (omega (arith, past, length-take n keys)))
  ]

inside : (v : IndexView) (i : ℕ) → 1 ≤ i → i < 2 ^ v.height → fence_of v i ≡ Some (fence_at v.fences (fence_place v.height i))
inside v i some lt = rw (le-leb 1 i some, lt-ltb i (2 ^ v.height) lt) refl

first : (v : IndexView) → fence_of v 0 ≡ None
first v = refl

past : (v : IndexView) (i : ℕ) → 1 ≤ i → 2 ^ v.height ≤ i → fence_of v i ≡ None
past v i some le = rw (le-leb 1 i some, le-ltb i (2 ^ v.height) le) refl

module _ (old new : IndexView) (segment : ℕ) (key : Bytes) (some : 1 ≤ segment) (below : segment < 2 ^ old.height) (same : new.height ≡ old.height)
    (here : fence_at new.fences (fence_place old.height segment) ≡ key) (there : (x : ℕ) → (x ≡ fence_place old.height segment → ⊥) → fence_at new.fences x ≡ fence_at old.fences x) where
  pub fence_here : fence_of new segment ≡ Some key
  fence_here = inside new segment some (omega (arith, below, ap (λ (h : ℕ). 2 ^ h) same)) ∙ ap Some (ap (λ (h : ℕ). fence_at new.fences (fence_place h segment)) same ∙ here)

  pub fence_there : (other : ℕ) → (other ≡ segment → ⊥) → fence_of new other ≡ fence_of old other
  fence_there other apart = elim (cases_lt 0 other) [
    | inr none ↦
        let zero_is : other ≡ 0 = omega arith in
        ap (fence_of new) zero_is ∙ first new ∙ sym (ap (fence_of old) zero_is ∙ first old)
    | inl more ↦ elim (cases_lt other (2 ^ old.height)) [
      | inr behind ↦ past new other more (omega (arith, behind, ap (λ (h : ℕ). 2 ^ h) same)) ∙ sym (past old other more behind)
      | inl within ↦
          inside new other more (omega (arith, within, ap (λ (h : ℕ). 2 ^ h) same))
          ∙ ap Some (ap (λ (h : ℕ). fence_at new.fences (fence_place h other)) same ∙ there (fence_place old.height other) (λ e. apart (fence_place-apart old.height other segment more within some below e)))
          ∙ sym (inside old other more within)
    ]
  ]

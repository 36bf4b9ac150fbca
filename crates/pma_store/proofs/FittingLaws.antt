-- What commits a batch at once: the tests of the decision, a commit of nothing, and the fences of the segments committed.
use Rattle.std.proofs.Common.{◌≡◌, ℕ, ◌+◌, ◌<◌, Bool, true, List, [], length, sym, ap, ◌∙◌, arith, inl, inr}
use Rattle.std.proofs.lemmas.Bool.{cases_lt}
use Rattle.std.proofs.lemmas.List.{ext_get_or}
use Rattle.header_gate.specs.declared.layout.Layout.{Layout}
use Rattle.header_gate.specs.Recovered.{Ascends, replayed_over}
use Rattle.header_gate.proofs.RecoveredBytes.{length-replayed_over, byte-replayed_over}
use Rattle.map_model.specs.Array.{segment_at}
use Rattle.redo_journal.specs.Frames.{Batch}
use Rattle.segment.specs.Rows.{key_at}
use Rattle.segment_frames.specs.Lists.{held_lists, segments_in}
use Rattle.veb_index.specs.IndexView.{IndexView, fence_of}
use Rattle.pma_store.specs.AtOnce.{RenewsFences, number_of}

pub not_false : (b : Bool) → b ≡ true → b ≡ true
not_false b e = e

pub fits_is : (a b : Bool) → a ≡ b → a ≡ true → b ≡ true
fits_is a b same is = sym same ∙ is

-- no image is replayed over a file
pub laid_nothing : (l : Layout) (region : ℕ) (image : ℕ → ℕ → ℕ) (file : List ℕ) → replayed_over l region [] image file ≡ file
laid_nothing l region image file =
    let size = length-replayed_over l region [] image file in
    ext_get_or 0 (replayed_over l region [] image file) file size (λ p lt. byte-replayed_over l region [] image file p (omega (arith, lt, size)))

-- One fence more.

module _ (format : ℕ) (b : Batch) (n : ℕ) (start now next : IndexView) (ascends : Ascends (segments_in format b.numbers)) (lt : n < length (segments_in format b.numbers)) (is : RenewsFences format b n start now) where
  pub renews_more : next.hmax ≡ now.hmax → next.height ≡ now.height → (0 < number_of format b n → fence_of next (number_of format b n) ≡ key_at (segment_at (held_lists format b) n) 0) → ((i : ℕ) → (i ≡ number_of format b n → ⊥) → fence_of next i ≡ fence_of now i)
      → RenewsFences format b (n + 1) start next
  renews_more hmax height set others = record {
    hmax = hmax ∙ is.hmax;
    height = height ∙ is.height;
    set = λ k low pos. elim (cases_lt k n) [
      | inl before ↦ others (number_of format b k) (λ same. omega (arith, same, ascends k n before lt)) ∙ is.set k before pos
      | inr after ↦ let at : k ≡ n = omega (arith, low, after) in ap (λ (j : ℕ). fence_of next (number_of format b j)) at ∙ set (omega (arith, pos, ap (number_of format b) at)) ∙ sym (ap (λ (j : ℕ). key_at (segment_at (held_lists format b) j) 0) at)
    ];
    others = λ i none. others i (λ same. none n (omega arith) (sym same)) ∙ is.others i (λ k low. none k (omega (arith, low)));
  }

  pub renews_none : next ≡ now → number_of format b n ≡ 0 → RenewsFences format b (n + 1) start next
  renews_none same zero_is = renews_more (ap (λ (x : IndexView). x.hmax) same) (ap (λ (x : IndexView). x.height) same) (λ pos. absurd (omega (arith, pos, zero_is))) (λ i apart. ap (λ (x : IndexView). fence_of x i) same)

-- whatever the frames note of the gate
pub renews_turned : (format : ℕ) (b : Batch) (turn n : ℕ) (old new : IndexView) → RenewsFences format (record b { turn = turn }) n old new → RenewsFences format b n old new
renews_turned format b turn n old new renews = record { hmax = renews.hmax; height = renews.height; set = renews.set; others = renews.others }

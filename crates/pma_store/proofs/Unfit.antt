-- A batch that was looked over and doesn't fit isn't one commit in the state of its file.
use Rattle.std.proofs.Common.{◌≡◌, inl, inr, ℕ, ◌*◌, ◌^◌, true, cond, List, length, Option, Some, None, is_some, sym, ap, ◌∙◌, arith}
use mathlib.Core.Bool.{true≢false}
use Rattle.std.proofs.lemmas.Nat.{pow_pos}
use Rattle.map_model.specs.Image.{array_of, map_of}
use Rattle.map_model.specs.Items.{are_distinct, first_full}
use Rattle.map_model.specs.ItemWords.{count_items, no_items}
use Rattle.map_model.specs.Store.{Update}
use Rattle.one_commit.specs.Editing.{charge_by}
use Rattle.one_commit.specs.Fitting.{changes_in, fit_one_commit}
use Rattle.redo_journal.specs.Frames.{Batch}
use Rattle.pma_store.specs.declared.validation.Validated.{Validated}
use Rattle.pma_store.specs.declared.batch_scan.BatchScan.{BatchScan}
use Rattle.pma_store.specs.StoreAnswers.{state_in}
use Rattle.pma_store.specs.AtOnce.{IsUnfit}
use Rattle.pma_store.specs.ItemEffects.{counts_of as counts_validated, edits_of, validated_of}
use Rattle.pma_store.specs.Looked.{AreLoaded, BelongThere, HasLooked}
use Rattle.pma_store.specs.Once.{AreOneCommit, AreUsed}
use Rattle.pma_store.specs.StoreView.{StoreView, Stands, limit_of}
use Rattle.pma_store.proofs.Effects.{charges_edits, edits_in}
use Rattle.pma_store.proofs.OnceLaws.{are_all, edited_charge, not_short, used_few}
use Rattle.pma_store.proofs.Outcomes.{balanced_array, counts_are, has_is, holds}
use Rattle.pma_store.proofs.Standing.{rows_ascend, size_is}

module _ (items : List Update) (s : StoreView) (image : List ℕ) (stands : Stands s image) (numbers : List ℕ) (b : Batch) (look : BatchScan) (validated : Validated) (loaded : AreLoaded s.place.layout.format b look (2 ^ s.tally.height))
    (looked : HasLooked s.place.layout.format (array_of image) numbers items b look (2 ^ s.tally.height)) (used : AreUsed s.place.layout (array_of image) items b look.whole) (belong : BelongThere (array_of image) numbers items) (distinct : are_distinct items ≡ true)
    (validated_is : Some (counts_validated validated) ≡ validated_of (limit_of s) (map_of image) items) (are : AreOneCommit s.place.layout (state_in s image) items) where
  size : length (array_of image) ≡ 2 ^ (state_in s image).height
  size = size_is s image stands ∙ ap (λ (h : ℕ). 2 ^ h) (sym stands.balanced.stands.height_is)

  -- as many items edit a segment as were validated to
  edits_are : 2 * edits_of validated ≡ charge_by (array_of image) items
  edits_are =
      let room : first_full (limit_of s) (map_of image) items ≡ None = (are_all (limit_of s) (state_in s image) items (holds s image stands) (balanced_array s image stands) size distinct are.fit).admitted in
      let counts : counts_validated validated ≡ count_items (limit_of s) (map_of image) items no_items = some_is (validated_is ∙ ap (λ (o : Option ℕ). cond (is_some o) None (Some (count_items (limit_of s) (map_of image) items no_items))) room) in
      let edits : edits_of validated ≡ edits_in (count_items (limit_of s) (map_of image) items no_items) = ap edits_in counts in
      omega (arith, edits, charges_edits (array_of image) (limit_of s) (map_of image) items no_items distinct (λ k d lt. sym (has_is s image stands _)))
    where
      some_is : Some (counts_validated validated) ≡ Some (count_items (limit_of s) (map_of image) items no_items) → counts_validated validated ≡ count_items (limit_of s) (map_of image) items no_items
      some_is e = cc

  pub not_once : IsUnfit numbers items look validated s.tally → ⊥
  not_once (inl short) = not_short (limit_of s) (state_in s image) items (holds s image stands) (balanced_array s image stands) size distinct are.fit s.place.layout are.room (used.short short)
  not_once (inr (inl many)) =
      omega (arith, many, loaded.count_is, used_few s.place.layout (array_of image) items b look.whole loaded.held used, edited_charge (array_of image) items, edits_are)
  not_once (inr (inr changes)) =
      let never = changes (array_of image) (omega (arith, size_is s image stands, pow_pos s.tally.height)) (rows_ascend s.place.layout s.place.region s.tally.height s.tally.counts image stands.balanced.stands) belong looked.found in
      true≢false (sym are.fit ∙ (λ τ. fit_one_commit (stands.balanced.stands.height_is τ) (counts_are s image stands τ) (changes_in (array_of image) items)) ∙ never)

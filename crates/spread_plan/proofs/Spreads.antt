-- A spread undoes a pack of the shares.
use Rattle.std.proofs.Common.{◌≡◌, ℕ, zero, suc, ◌+◌, ◌-◌, ◌*◌, ◌/◌, ◌≤◌, ◌<◌, min, List, [], length, sum, get_or, refl, sym, ap, ap₂, subst, ◌∙◌, arith}
use Rattle.std.proofs.lemmas.List.{length-map}
use Rattle.std.proofs.lemmas.List.Elements.{All-from_get_or}
use Rattle.std.proofs.lemmas.List.FromFn.{length-map-range_with_len, get_or-map-range_with_len}
use Rattle.std.proofs.lemmas.List.Sums.{sum_by-le}
use Rattle.std.proofs.Math.Nat.{add-mul}
use Rattle.density_rule.specs.Spread.{share, shares}
use Rattle.density_rule.proofs.Quotients.{part_at_most}
use Rattle.density_rule.proofs.Shares.{length-shares, get_or-shares, sum-shares}
use Rattle.density_rule.specs.declared.TheConstants.{SEGMENT_RECORDS}
use Rattle.spread_plan.specs.Moves.{records_of, counts_of, after_moves}
use Rattle.spread_plan.specs.Stages.{FitSegments, IsStage, CanMoveLeft, CanMoveRight, AllStages}
use Rattle.spread_plan.specs.Plans.{full_counts, pack_moves, spread_moves}
use Rattle.spread_plan.proofs.Lists.{get_or-counts_of, length-records_of, lists_by_counts, cut, counts_of-cut, records_of-cut}
use Rattle.spread_plan.proofs.Packing.{HasRoom, Leads}
use Rattle.spread_plan.proofs.Packs.{pack_leads}
use Rattle.spread_plan.proofs.StageLemmas.{AllStages-last, AllStages-weaker, undone_all}

-- a share of records that fit fits a segment
pub share-le : (n m i : ℕ) → 0 < m → n ≤ SEGMENT_RECORDS * m → share n m i ≤ SEGMENT_RECORDS
share-le n m i pos le =
    let next : (i + 1) * n ≡ i * n + n = add-mul i 1 n ∙ omega arith in
    omega (arith, ap (λ (k : ℕ). k / m) next, part_at_most (i * n) n m SEGMENT_RECORDS pos le)

sum-full_counts-le : (n m : ℕ) → sum (full_counts n m) ≤ m * SEGMENT_RECORDS
sum-full_counts-le n m =
    let full : ℕ → ℕ = λ i. min SEGMENT_RECORDS (n - i * SEGMENT_RECORDS) in
    let each = All-from_get_or (λ c. c ≤ SEGMENT_RECORDS) (full_counts n m) 0 (λ i lt. omega (arith, get_or-map-range_with_len full 0 m i i 0 (omega (arith, lt, length-map-range_with_len full 0 m)) (omega arith))) in
    subst (λ (k : ℕ). sum (full_counts n m) ≤ k * SEGMENT_RECORDS) (length-map-range_with_len full 0 m) (sum_by-le (λ c. c) SEGMENT_RECORDS (full_counts n m) each)

-- the lists in which the spread ends
module _ {X : Type 0} (n m : ℕ) (lists : List (List X)) (all : length (records_of lists) ≡ n) (packed : counts_of lists ≡ full_counts n m) where
  few : n ≤ SEGMENT_RECORDS * m
  few = omega (arith, all, length-records_of lists, ap sum packed, sum-full_counts-le n m)

  whole : (k : ℕ) → k ≡ m → length (records_of lists) ≡ sum (shares n m)
  whole zero e = omega (arith, all, few, ap (λ (k : ℕ). sum (shares n k)) e)
  whole (suc k) e = all ∙ sym (sum-shares n m (omega (arith, e)))

  abbrev spread : List (List X)
  spread = cut (shares n m) (records_of lists)

  counts : counts_of spread ≡ shares n m
  counts = counts_of-cut (shares n m) (records_of lists) (omega (arith, whole m refl))

  records : records_of spread ≡ records_of lists
  records = records_of-cut (shares n m) (records_of lists) (whole m refl)

  long : length spread ≡ m
  long = sym (length-map spread length) ∙ ap length counts ∙ length-shares n m

  fit : FitSegments spread
  fit = All-from_get_or HasRoom spread [] (λ i lt. omega (arith, get_or-counts_of spread i, ap (λ (ns : List ℕ). get_or ns i 0) counts, get_or-shares n m i (omega (arith, lt, long)), share-le n m i (omega (arith, lt, long)) few))

  leads : Leads spread (pack_moves (shares n m)) spread
  leads = subst (λ (ns : List ℕ). Leads spread (pack_moves ns) spread) counts (pack_leads spread fit)

  abbrev end : List (List X)
  end = after_moves (pack_moves (shares n m)) spread

  end_is : end ≡ lists
  end_is =
      lists_by_counts end lists (leads.1 ∙ ap₂ full_counts (ap length records ∙ all) long ∙ sym packed)
      ((AllStages-last CanMoveLeft (IsStage spread) (pack_moves (shares n m)) spread leads.0).records ∙ records)

  from_lists : (now : List (List X)) → IsStage spread now → IsStage lists now
  from_lists now is = record {
    segments = is.segments ∙ long ∙ sym (sym (length-map lists length) ∙ ap length packed ∙ length-map-range_with_len (λ i. min SEGMENT_RECORDS (n - i * SEGMENT_RECORDS)) 0 m);
    records = is.records ∙ records;
    fit = is.fit;
  }

  pub spread_stages : AllStages CanMoveRight (IsStage lists) (spread_moves n m) lists
  spread_stages =
      AllStages-weaker CanMoveRight (IsStage spread) (IsStage lists) from_lists (spread_moves n m) lists
      (subst (AllStages CanMoveRight (IsStage spread) (spread_moves n m)) end_is (undone_all spread (pack_moves (shares n m)) spread leads.0).0)

  pub spread_end : counts_of (after_moves (spread_moves n m) lists) ≡ shares n m
  spread_end =
      ap (λ (ls : List (List X)). counts_of (after_moves (spread_moves n m) ls)) (sym end_is)
      ∙ ap counts_of (undone_all spread (pack_moves (shares n m)) spread leads.0).1 ∙ counts

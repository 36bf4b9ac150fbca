-- A pack of all segments.
use Rattle.std.proofs.Common.{◌≡◌, ℕ, ◌+◌, ◌-◌, ◌*◌, ◌≤◌, ◌<◌, ◌⊎◌, inl, inr, min, List, [], ◌∷◌, length, drop, sum, get_or, refl, sym, ap, ◌∙◌, arith}
use Rattle.std.proofs.lemmas.Bool.{cases_eq}
use Rattle.std.proofs.lemmas.List.{length-drop, length-map, get_or-drop, drop-drop, ext_get_or}
use Rattle.std.proofs.lemmas.List.Elements.{All-get_or}
use Rattle.std.proofs.lemmas.List.FromFn.{length-map-range_with_len, get_or-map-range_with_len}
use Rattle.density_rule.specs.declared.TheConstants.{SEGMENT_RECORDS}
use Rattle.spread_plan.specs.Moves.{records_of, counts_of, list_at}
use Rattle.spread_plan.specs.Stages.{FitSegments}
use Rattle.spread_plan.specs.Plans.{full_counts, pack_from, pack_moves}
use Rattle.spread_plan.proofs.Lists.{sum-cons, get_or-counts_of, length-records_of}
use Rattle.spread_plan.proofs.Packing.{HasRoom, IsPacked, Leads, segment_leads}

-- the count at a place, and those behind it
module _ (counts : List ℕ) (k c : ℕ) (cs : List ℕ) (e : c ∷ cs ≡ drop k counts) where
  count_in : k < length counts
  count_in = omega (arith, ap length e, length-drop k counts)

  count_at : get_or counts k 0 ≡ c
  count_at = let here : k + 0 ≡ k = omega arith in ap (λ (i : ℕ). get_or counts i 0) (sym here) ∙ sym (get_or-drop k counts 0 0) ∙ ap (λ (l : List ℕ). get_or l 0 0) (sym e)

  counts_behind : cs ≡ drop (k + 1) counts
  counts_behind = ap (λ (l : List ℕ). drop 1 l) e ∙ drop-drop 1 k counts

module _ {X : Type 0} (lists : List (List X)) (fit : FitSegments lists) where
  -- segment s is done where its records are, but for those in its own room
  module _ (s next total : ℕ) (now : List (List X)) (is : IsPacked lists s next total now) (done : next ≡ min total (s * SEGMENT_RECORDS)) where
    upto_here : (i : ℕ) → i < s + 1 → length (list_at now i) ≡ min SEGMENT_RECORDS (total - i * SEGMENT_RECORDS)
    upto_here i lt = by_place (cases_eq i s)
      where
        by_place : (i ≡ s) ⊎ (i ≡ s → ⊥) → length (list_at now i) ≡ min SEGMENT_RECORDS (total - i * SEGMENT_RECORDS)
        by_place (inl e) = ap (λ (k : ℕ). length (list_at now k)) e ∙ omega (arith, is.here, done, e, is.most, is.near)
        by_place (inr ne) = omega (arith, is.below i (omega (arith, lt, ne)), done, ne, lt)

    -- the next segment
    enter : (c : ℕ) → s + 1 < length lists → length (list_at lists (s + 1)) ≡ c → IsPacked lists (s + 1) total (total + c) now
    enter c within count_is = record {
      stage = is.stage;
      below = upto_here;
      here = is.above (s + 1) (omega arith) ∙ omega (arith, count_is);
      above = λ i lt. is.above i (omega (arith, lt));
      inside = within;
      upto = omega arith;
      left = omega (arith, is.most);
      near = omega (arith, count_is, All-get_or HasRoom lists (s + 1) [] within fit);
      most = omega (arith, is.most, count_is, All-get_or HasRoom lists (s + 1) [] within fit);
    }

    -- the last
    end : s + 1 ≡ length lists → total ≡ length (records_of lists) → counts_of now ≡ full_counts (length (records_of lists)) (length lists)
    end last all =
        let n = length (records_of lists) in let m = length lists in
        let count : length (counts_of now) ≡ m = length-map now length ∙ is.stage.segments in
        ext_get_or 0 (counts_of now) (full_counts n m) (count ∙ sym (length-map-range_with_len (λ i. min SEGMENT_RECORDS (n - i * SEGMENT_RECORDS)) 0 m))
        (λ i lt. get_or-counts_of now i ∙ upto_here i (omega (arith, lt, count, last)) ∙ ap (λ (t : ℕ). min SEGMENT_RECORDS (t - i * SEGMENT_RECORDS)) all
        ∙ sym (get_or-map-range_with_len (λ i. min SEGMENT_RECORDS (n - i * SEGMENT_RECORDS)) 0 m i i 0 (omega (arith, lt, count)) (omega arith)))

  -- the segments from s + 1 on
  all_lead : (cs : List ℕ) (s next total : ℕ) (now : List (List X)) → IsPacked lists s next total now → next ≡ min total (s * SEGMENT_RECORDS) → cs ≡ drop (s + 1) (counts_of lists) → total + sum cs ≡ length (records_of lists)
      → Leads lists (pack_from (s + 1) total cs) now
  all_lead [] s next total now is done rest all =
      let last : s + 1 ≡ length lists = omega (arith, is.inside, ap length rest, length-drop (s + 1) (counts_of lists), length-map lists length) in
      (is.stage, end s next total now is done last (omega (arith, all)))
  all_lead (c ∷ cs) s next total now is done rest all =
      let within : s + 1 < length lists = omega (arith, count_in (counts_of lists) (s + 1) c cs rest, length-map lists length) in
      let packed = enter s next total now is done c within (sym (get_or-counts_of lists (s + 1)) ∙ count_at (counts_of lists) (s + 1) c cs rest) in
      let stop : ℕ = min (total + c) ((s + 1) * SEGMENT_RECORDS) in
      segment_leads lists (s + 1) total stop (total + c) (pack_from (s + 1 + 1) (total + c) cs) now packed (omega (arith, packed.left)) (omega arith) (omega arith)
      (λ after on. all_lead cs (s + 1) stop (total + c) after on refl (counts_behind (counts_of lists) (s + 1) c cs rest) (omega (arith, all, sum-cons c cs)))

pub pack_leads : {X : Type 0} (lists : List (List X)) → FitSegments lists → Leads lists (pack_moves (counts_of lists)) lists
pack_leads [] fit = (record { segments = refl; records = refl; fit = fit }, refl)
pack_leads (list ∷ lists) fit =
    let all = list ∷ lists in
    let c = length list in let total = 0 + c in
    let size : c ≤ SEGMENT_RECORDS = All-get_or HasRoom all 0 [] (omega arith) fit in
    let start : IsPacked all 0 0 total all = record {
      stage = record { segments = refl; records = refl; fit = fit };
      below = λ i lt. absurd (omega (arith, lt));
      here = omega arith;
      above = λ i lt. refl;
      inside = omega arith;
      upto = omega arith;
      left = omega arith;
      near = omega (arith, size);
      most = omega (arith, size);
    } in
    let stop : ℕ = min total (0 * SEGMENT_RECORDS) in
    segment_leads all 0 0 stop total (pack_from (0 + 1) total (counts_of lists)) all start (omega arith) (omega arith) (omega arith)
    (λ after on. all_lead all fit (counts_of lists) 0 stop total after on refl refl (omega (arith, length-records_of all, sum-cons c (counts_of lists))))

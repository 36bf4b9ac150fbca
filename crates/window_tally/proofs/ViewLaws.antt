-- What each call does to what callers see keeps what is true of every tally.
use Rattle.std.proofs.Common.{◌≡◌, ℕ, suc, ◌+◌, ◌-◌, ◌*◌, ◌/◌, ◌^◌, ◌<◌, ◌≤◌, Bool, true, false, List, [], ◌∷◌, length, get_or, set, replicate, sum, refl, sym, ap, subst, ◌∙◌, arith, inl, inr}
use Rattle.std.proofs.lemmas.Bool.{cases_lt, cases_eq}
use Rattle.std.proofs.lemmas.List.{length-set, length-replicate, get_or-set_same, get_or-set_other, get_or-replicate, get_or_past}
use Rattle.std.proofs.lemmas.List.Sums.{sum_by-cons}
use Rattle.std.proofs.Math.Nat.{mul-le-mul_left}
use Rattle.std.proofs.Math.Pow.{pow_mono}
use Rattle.density_rule.specs.Bounds.{upper_of, lower_of, IsInBounds}
use Rattle.density_rule.specs.Windows.{IsWindow, count_in}
use Rattle.density_rule.specs.CountUpdates.{count_after, counts_after}
use Rattle.density_rule.specs.Spread.{shares, spread_counts, resized_counts}
use Rattle.density_rule.specs.Laws.{IsBetween}
use Rattle.density_rule.specs.Marks.{no_marks, updated_marks, spread_marks, resized_marks, KeepsDrift}
use Rattle.density_rule.proofs.Bounding.{least_of-some}
use Rattle.density_rule.proofs.Totals.{count_in-segment}
use Rattle.density_rule.proofs.Places.{window_end}
use Rattle.density_rule.proofs.Changes.{length-counts_after}
use Rattle.density_rule.proofs.Shares.{length-shares, length-spread_counts, count_in-spread_outside, get_or-shares, share_between}
use Rattle.density_rule.proofs.Room.{even_inside}
use Rattle.density_rule.proofs.Drift.{keeps_none, keeps_updated, keeps_spread, keeps_resized}
use Rattle.window_tally.specs.TallyView.{TallyView, IsTally, empty_tally}
use Rattle.density_rule.specs.declared.TheConstants.{SEGMENT_RECORDS}

-- few records, so sums fit
pub sum-few : (counts : List ℕ) → ((i : ℕ) → get_or counts i 0 ≤ SEGMENT_RECORDS) → sum counts ≤ length counts * SEGMENT_RECORDS
sum-few [] few = omega arith
sum-few (c ∷ counts) few = omega (arith, sum_by-cons (λ x. x) c counts, few 0, sum-few counts (λ i. few (suc i)))

pub records_fit : (t : TallyView) → IsTally t → sum t.counts ≤ 2 ^ 22
records_fit t is =
    let size : 2 ^ t.height ≤ 2 ^ 16 = pow_mono {i = t.height} {j = 16} (omega (arith, is.height_is, is.hmax_is)) in
    omega (arith, sum-few t.counts is.capacity, is.size)

pub empty_is : (hmax height : ℕ) → hmax ≤ 16 → height ≤ hmax → IsTally (empty_tally hmax height)
empty_is hmax height low le = record { hmax_is = low; height_is = le; size = length-replicate (2 ^ height) 0; capacity = capacity; drift = keeps_none height _ }
  where
    capacity : (i : ℕ) → get_or (replicate (2 ^ height) 0) i 0 ≤ SEGMENT_RECORDS
    capacity i = elim (cases_lt i (2 ^ height)) [
      | inl lt ↦ omega (arith, get_or-replicate {A = ℕ} (2 ^ height) i 0 0 lt)
      | inr ge ↦ omega (arith, get_or_past {X = ℕ} (replicate (2 ^ height) 0) i 0 (omega (arith, length-replicate {A = ℕ} (2 ^ height) 0)))
    ]

pub forgotten_is : (t : TallyView) → IsTally t → IsTally (record t { marks = no_marks t.height })
forgotten_is t is = record { hmax_is = is.hmax_is; height_is = is.height_is; size = is.size; capacity = is.capacity; drift = keeps_none t.height t.counts }

-- a new count of one segment
set_few : (counts : List ℕ) (segment count : ℕ) → count ≤ SEGMENT_RECORDS → ((i : ℕ) → get_or counts i 0 ≤ SEGMENT_RECORDS) → (i : ℕ) → get_or (set counts segment count) i 0 ≤ SEGMENT_RECORDS
set_few counts segment count small few i = elim (cases_eq i segment) [
  | inl same ↦ elim (cases_lt segment (length counts)) [
    | inl lt ↦ omega (arith, ap (λ (n : ℕ). get_or (set counts segment count) n 0) same, get_or-set_same counts segment count 0 lt)
    | inr past ↦ omega (arith, get_or_past (set counts segment count) i 0 (omega (arith, length-set counts segment count)))
  ]
  | inr other ↦ omega (arith, get_or-set_other counts segment i count 0 other, few i)
]

pub loaded_is : (t : TallyView) (segment count : ℕ) → IsTally t → count ≤ SEGMENT_RECORDS → t.marks ≡ no_marks t.height → IsTally (record t { counts = set t.counts segment count })
loaded_is t segment count is small none = record { hmax_is = is.hmax_is; height_is = is.height_is; size = length-set t.counts segment count ∙ is.size; capacity = set_few t.counts segment count small is.capacity; drift = subst (KeepsDrift (set t.counts segment count)) (sym none) (keeps_none t.height (set t.counts segment count)) }

pub updated_is : (t : TallyView) (segment : ℕ) (adds : Bool) → IsTally t → segment < 2 ^ t.height → (adds ≡ true → get_or t.counts segment 0 < SEGMENT_RECORDS) → (adds ≡ false → 1 ≤ get_or t.counts segment 0)
    → IsTally (record t { counts = counts_after adds t.counts segment; marks = updated_marks t.height segment t.marks })
updated_is t segment adds is in_store room some = record { hmax_is = is.hmax_is; height_is = is.height_is; size = length-counts_after adds t.counts segment ∙ is.size; capacity = set_few t.counts segment (count_after adds (get_or t.counts segment 0)) (by_change adds room) is.capacity; drift = keeps_updated t.height t.counts t.marks segment adds (omega (arith, is.height_is, is.hmax_is)) (omega (arith, is.size)) (omega (arith, records_fit t is)) some is.drift }
  where
    by_change : (adds : Bool) → (adds ≡ true → get_or t.counts segment 0 < SEGMENT_RECORDS) → count_after adds (get_or t.counts segment 0) ≤ SEGMENT_RECORDS
    by_change true room = omega (arith, room refl)
    by_change false room = omega (arith, is.capacity segment)

pub spread_is : (t : TallyView) (j w : ℕ) → IsTally t → IsWindow t.height j w → 1 ≤ j → IsInBounds t.height j (count_in t.counts j w)
    → IsTally (record t { counts = spread_counts t.counts j w; marks = spread_marks t.height j w t.marks })
spread_is t j w is window larger bounds = record { hmax_is = is.hmax_is; height_is = is.height_is; size = length-spread_counts t.counts j w fits ∙ is.size; capacity = capacity; drift = keeps_spread t.height t.counts t.marks j w low fits between is.drift }
  where
    low : j ≤ 16
    low = omega (arith, window.low, is.height_is, is.hmax_is)

    fits : (w + 1) * 2 ^ j ≤ length t.counts
    fits = omega (arith, window_end t.height j w window, is.size)

    between : IsBetween (lower_of j) (upper_of j) (count_in t.counts j w)
    between = record { least_is = omega (arith, bounds.least_is, least_of-some t.height j (omega (arith, window.low))); most_is = bounds.most_is }

    -- a segment is a window of height 0
    capacity : (i : ℕ) → get_or (spread_counts t.counts j w) i 0 ≤ SEGMENT_RECORDS
    capacity i = elim (cases_lt i (length t.counts)) [
      | inr past ↦ omega (arith, get_or_past (spread_counts t.counts j w) i 0 (omega (arith, length-spread_counts t.counts j w fits)))
      | inl lt ↦
          let segment = count_in-segment (spread_counts t.counts j w) i (omega (arith, length-spread_counts t.counts j w fits)) in
          elim (cases_eq (i / 2 ^ (j - 0)) w) [
            | inl inside ↦ omega (arith, segment, (even_inside t.counts 0 i j w (record { low = low; in_store = fits; smaller = larger; inside = inside; bounds = between })).most_is)
            | inr outside ↦ omega (arith, segment, count_in-spread_outside t.counts j w fits 0 i (λ lt inside. outside inside), count_in-segment t.counts i lt, is.capacity i)
          ]
    ]

pub resized_is : (t : TallyView) (height : ℕ) → IsTally t → height ≤ t.hmax → IsInBounds height height (sum t.counts) → IsTally (record t { height = height; counts = resized_counts t.counts height; marks = resized_marks height })
resized_is t height is le bounds = record { hmax_is = is.hmax_is; height_is = le; size = length-shares (sum t.counts) (2 ^ height); capacity = capacity; drift = keeps_resized height (sum t.counts) low least bounds.most_is }
  where
    low : height ≤ 16
    low = omega (arith, is.hmax_is)

    least : 1 ≤ height → lower_of height ≤ sum t.counts
    least some = omega (arith, bounds.least_is, least_of-some height height some)

    capacity : (i : ℕ) → get_or (shares (sum t.counts) (2 ^ height)) i 0 ≤ SEGMENT_RECORDS
    capacity i = elim (cases_lt i (2 ^ height)) [
      | inr past ↦ omega (arith, get_or_past (shares (sum t.counts) (2 ^ height)) i 0 (omega (arith, length-shares (sum t.counts) (2 ^ height))))
      | inl lt ↦
          let wide : 2 ^ height * (SEGMENT_RECORDS - height) ≤ 2 ^ height * SEGMENT_RECORDS = mul-le-mul_left (2 ^ height) (omega arith) in
          omega (arith, get_or-shares (sum t.counts) (2 ^ height) i lt, (share_between (sum t.counts) height i 0 SEGMENT_RECORDS (omega arith) (omega (arith, bounds.most_is))).1)
    ]

-- The steps of the two iterators.
use Rattle.std.proofs.Common.{◌≡◌, ℕ, ◌+◌, ◌-◌, ◌*◌, ◌/◌, ◌≤◌, ◌<◌, min, max, List, [], ◌∷◌, ◌++◌, length, map, take, sum, reverse, refl, sym, ap, ap₂, ◌∙◌, arith, append_assoc}
use Rattle.std.proofs.lemmas.List.{append-nil, length-take-le, map-append, reverse-append, take_all, take_more}
use Rattle.std.proofs.lemmas.List.Elements.{All-head, All-tail}
use Rattle.std.proofs.Math.Nat.{mul-div_cancel_left, mul-le-mul_left, mul-le-mul_right}
use Rattle.density_rule.specs.Spread.{share, shares}
use Rattle.density_rule.proofs.Quotients.{div_rises}
use Rattle.density_rule.proofs.Shares.{length-shares, get_or-shares, total-shares}
use Rattle.spread_plan.specs.declared.Move.{Move}
use Rattle.density_rule.specs.declared.TheConstants.{SEGMENT_RECORDS}
use Rattle.spread_plan.specs.Plans.{moves_between, pack_from, pack_moves, inverse_move, inverse_moves, spread_moves}
use Rattle.spread_plan.specs.States.{moves_to_pack, IsPacking, moves_to_spread, IsSpreading}
use Rattle.spread_plan.proofs.Fewness.{moves_between-none}
use Rattle.spread_plan.proofs.Coming.{moves_between-first, moves_between-last}
use Rattle.spread_plan.proofs.Lists.{sum-cons}
use Rattle.spread_plan.proofs.Spreads.{share-le}

abbrev IsSmall : ℕ → Type 0
IsSmall count = count ≤ SEGMENT_RECORDS

-- a pack goes on to the next segment
module _ (rest : List ℕ) (count segments records next end : ℕ) (is : IsPacking (count ∷ rest) segments records next end) (done : next ≡ end) where
  abbrev stop : ℕ
  stop = min (records + count) (segments * SEGMENT_RECORDS)

  small : count ≤ SEGMENT_RECORDS
  small = All-head IsSmall count rest is.counts_fit

  pub packing_on : IsPacking rest (segments + 1) (records + count) records stop
  packing_on = record {
    segments_fit = omega (arith, is.segments_fit);
    counts_fit = All-tail IsSmall count rest is.counts_fit;
    records_fit = omega (arith, is.records_fit, small);
    forward = omega (arith, is.records_fit);
    near = omega (arith, small);
    end_is = omega arith;
  }

  pub coming_on : moves_to_pack rest (segments + 1) (records + count) records stop ≡ moves_to_pack (count ∷ rest) segments records next end
  coming_on =
      let here : segments + 1 - 1 ≡ segments = omega arith in
      ap (λ (k : ℕ). moves_between k records stop ++ pack_from (segments + 1) (records + count) rest) here
      ∙ ap (λ (ms : List Move). ms ++ pack_from segments records (count ∷ rest)) (sym (moves_between-none (segments - 1) next end (omega (arith, done))))

-- a pack gives a move
module _ (rest : List ℕ) (segments records next end : ℕ) (is : IsPacking rest segments records next end) (some : next < end) (stop : ℕ) (stop_is : stop ≡ min end ((next / SEGMENT_RECORDS + 1) * SEGMENT_RECORDS)) where
  pub coming_then : moves_to_pack rest segments records next end ≡ record { from = segments - 1; to = next / SEGMENT_RECORDS; count = stop - next } ∷ moves_to_pack rest segments records stop end
  coming_then = ap (λ (ms : List Move). ms ++ pack_from segments records rest) (moves_between-first (segments - 1) next end some is.near stop stop_is)

pack_from-append : (segment before : ℕ) (xs ys : List ℕ) → pack_from segment before (xs ++ ys) ≡ pack_from segment before xs ++ pack_from (segment + length xs) (before + sum xs) ys
pack_from-append segment before [] ys = let here : segment ≡ segment + 0 = omega arith in let so_many : before ≡ before + 0 = omega arith in ap₂ (λ (s : ℕ) (b : ℕ). pack_from s b ys) here so_many
pack_from-append segment before (x ∷ xs) ys =
    let first = moves_between segment before (min (before + x) (segment * SEGMENT_RECORDS)) in
    let here : segment + 1 + length xs ≡ segment + length (x ∷ xs) = omega arith in
    let so_many : before + x + sum xs ≡ before + sum (x ∷ xs) = omega (arith, sum-cons x xs) in
    ap (λ (ms : List Move). first ++ ms) (pack_from-append (segment + 1) (before + x) xs ys ∙ ap₂ (λ (s : ℕ) (b : ℕ). pack_from (segment + 1) (before + x) xs ++ pack_from s b ys) here so_many)
    ∙ sym (append_assoc first (pack_from (segment + 1) (before + x) xs) (pack_from (segment + length (x ∷ xs)) (before + sum (x ∷ xs)) ys))

inverse_moves-push : (moves : List Move) (m : Move) → inverse_moves (moves ++ m ∷ []) ≡ inverse_move m ∷ inverse_moves moves
inverse_moves-push moves m = ap reverse (map-append inverse_move moves (m ∷ [])) ∙ reverse-append (map inverse_move moves) (inverse_move m ∷ [])

-- a spread begins
pub spread_begins : (n m : ℕ) → moves_to_spread n m m n n ≡ spread_moves n m
spread_begins n m =
    ap inverse_moves (ap₂ (λ (ns : List ℕ) (ms : List Move). pack_moves ns ++ ms) (take_all m (shares n m) (omega (arith, length-shares n m))) (moves_between-none m n n (omega arith)) ∙ append-nil (pack_moves (shares n m)))

-- a spread goes on to the next segment
module _ (n m to start end : ℕ) (is : IsSpreading n m to start end) (done : start ≡ end) (some : 0 < to) where
  abbrev before : ℕ
  before = to - 1

  abbrev first : ℕ
  first = before * n / m

  next : before + 1 ≡ to
  next = omega (arith, some)

  last : first + share n m before ≡ start
  last =
      omega (arith, is.start_is, div_rises (before * n) ((before + 1) * n) m is.some (mul-le-mul_right n (omega arith)), ap (λ (k : ℕ). k * n / m) next)

  pub share_before : (to - 1) * n / m + share n m (to - 1) ≡ start
  share_before = last

  low : first ≤ before * SEGMENT_RECORDS
  low =
      let whole = before * SEGMENT_RECORDS in
      let most : before * n ≤ m * whole = omega (arith, mul-le-mul_left before is.records_fit) in
      omega (arith, div_rises (before * n) (m * whole) m is.some most, mul-div_cancel_left whole is.some)

  pub spreading_on : (stop : ℕ) → stop ≡ min start (before * SEGMENT_RECORDS) → IsSpreading n m before first stop
  spreading_on stop stop_is = record {
    some = is.some;
    segments_fit = is.segments_fit;
    records_fit = is.records_fit;
    to_is = omega (arith, is.to_is);
    start_is = refl;
    forward = omega (arith, stop_is, last, low);
    near = omega (arith, stop_is, last, share-le n m before is.some is.records_fit);
    left = omega (arith, stop_is);
    within = omega (arith, stop_is, last, get_or-shares n m before (omega (arith, is.to_is, some)));
  }

  pub spread_on : (stop : ℕ) → stop ≡ min start (before * SEGMENT_RECORDS) → moves_to_spread n m before first stop ≡ moves_to_spread n m to start end
  spread_on stop stop_is =
      let ns = shares n m in
      let long : length (take before ns) ≡ before = length-take-le before ns (omega (arith, is.to_is, length-shares n m)) in
      let shorter : take before ns ++ share n m before ∷ [] ≡ take to ns =
      ap (λ (c : ℕ). take before ns ++ c ∷ []) (sym (get_or-shares n m before (omega (arith, is.to_is, some)))) ∙ sym (take_more ns before 0 (omega (arith, is.to_is, some, length-shares n m))) ∙ ap (λ (k : ℕ). take k ns) next in
      let here : 0 + length (take before ns) ≡ before = omega (arith, long) in
      let so_many : 0 + sum (take before ns) ≡ first = omega (arith, total-shares n m before is.some (omega (arith, is.to_is))) in
      let stops : min (first + share n m before) (before * SEGMENT_RECORDS) ≡ stop = omega (arith, last, stop_is) in
      ap inverse_moves (
      ap (λ (ms : List Move). pack_moves (take before ns) ++ ms) (
      sym (append-nil (moves_between before first stop)) ∙ ap (λ (k : ℕ). moves_between before first k ++ []) (sym stops)
      ∙ ap₂ (λ (s : ℕ) (b : ℕ). pack_from s b (share n m before ∷ [])) (sym here) (sym so_many)
      )
      ∙ sym (pack_from-append 0 0 (take before ns) (share n m before ∷ [])) ∙ ap pack_moves shorter
      ∙ sym (append-nil (pack_moves (take to ns))) ∙ ap (λ (ms : List Move). pack_moves (take to ns) ++ ms) (sym (moves_between-none to start end (omega (arith, done))))
      )

-- a spread gives a move
module _ (n m to start end : ℕ) (is : IsSpreading n m to start end) (some : start < end) (from first : ℕ) (from_is : from ≡ (end - 1) / SEGMENT_RECORDS) (first_is : first ≡ max start (from * SEGMENT_RECORDS)) where
  pub spread_then : moves_to_spread n m to start end ≡ record { from = from; to = to; count = end - first } ∷ moves_to_spread n m to start first
  spread_then =
      let before = pack_moves (take to (shares n m)) in let last : Move = record { from = to; to = from; count = end - first } in
      ap inverse_moves (ap (λ (ms : List Move). before ++ ms) (moves_between-last to start end some is.near from first from_is first_is) ∙ sym (append_assoc before (moves_between to start first) (last ∷ [])))
      ∙ inverse_moves-push (before ++ moves_between to start first) last

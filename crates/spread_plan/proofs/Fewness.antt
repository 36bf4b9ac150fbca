-- How many moves there are.
use Rattle.std.proofs.Common.{◌≡◌, ℕ, ◌+◌, ◌-◌, ◌*◌, ◌/◌, ◌≤◌, min, List, [], ◌∷◌, ◌++◌, length, map, ap, ap₂, arith, inl, inr}
use Rattle.std.proofs.lemmas.Bool.{cases_eq}
use Rattle.std.proofs.lemmas.List.{length-append, length-map, length-reverse}
use Rattle.density_rule.specs.Spread.{shares}
use Rattle.density_rule.proofs.Shares.{length-shares}
use Rattle.spread_plan.specs.declared.Move.{Move}
use Rattle.density_rule.specs.declared.TheConstants.{SEGMENT_RECORDS}
use Rattle.spread_plan.specs.Plans.{move_of, moves_between, pack_from, pack_moves, inverse_move, spread_moves}
use Rattle.spread_plan.proofs.Packing.{move_of-none, move_of-some}

length-move_of-le : (from to count : ℕ) → length (move_of from to count) ≤ 1
length-move_of-le from to count = elim (cases_eq count 0) [
  | inl e ↦ omega (arith, ap length (move_of-none from to count e))
  | inr ne ↦ omega (arith, ap length (move_of-some from to count (omega (arith, ne))))
]

length-moves_between-le : (from a b : ℕ) → length (moves_between from a b) ≤ 2
length-moves_between-le from a b =
    let to = a / SEGMENT_RECORDS in let edge = (to + 1) * SEGMENT_RECORDS in
    omega (arith, length-append (move_of from to (min b edge - a)) (move_of from (to + 1) (b - edge)), length-move_of-le from to (min b edge - a), length-move_of-le from (to + 1) (b - edge))

pub moves_between-none : (from a b : ℕ) → b ≤ a → moves_between from a b ≡ []
moves_between-none from a b le =
    let to = a / SEGMENT_RECORDS in let edge = (to + 1) * SEGMENT_RECORDS in
    ap₂ ◌++◌ (move_of-none from to (min b edge - a) (omega (arith, le))) (move_of-none from (to + 1) (b - edge) (omega (arith, le)))

length-pack_from-le : (segment before : ℕ) (counts : List ℕ) → length (pack_from segment before counts) ≤ 2 * length counts
length-pack_from-le segment before [] = omega arith
length-pack_from-le segment before (count ∷ counts) =
    let stop = min (before + count) (segment * SEGMENT_RECORDS) in let rest = pack_from (segment + 1) (before + count) counts in
    omega (arith, length-append (moves_between segment before stop) rest, length-moves_between-le segment before stop, length-pack_from-le (segment + 1) (before + count) counts)

pub length-pack_moves-le : (counts : List ℕ) → length (pack_moves counts) ≤ 2 * (length counts - 1)
length-pack_moves-le [] = omega arith
length-pack_moves-le (count ∷ counts) =
    let stop = min (0 + count) (0 * SEGMENT_RECORDS) in
    omega (arith, ap (λ (ms : List Move). length (ms ++ pack_from (0 + 1) (0 + count) counts)) (moves_between-none 0 0 stop (omega arith)), length-pack_from-le (0 + 1) (0 + count) counts)

pub length-spread_moves-le : (n m : ℕ) → length (spread_moves n m) ≤ 2 * (m - 1)
length-spread_moves-le n m =
    omega (arith, length-reverse (map inverse_move (pack_moves (shares n m))), length-map (pack_moves (shares n m)) inverse_move, length-pack_moves-le (shares n m), length-shares n m)

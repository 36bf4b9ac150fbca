-- A pack, segment by segment: where it has come to, and that each move can be made.
use Rattle.std.proofs.Common.{◌≡◌, ◌≢◌, ℕ, ◌+◌, ◌-◌, ◌*◌, ◌/◌, ◌≤◌, ◌<◌, ◌⊎◌, inl, inr, min, List, [], ◌∷◌, ◌++◌, length, take, drop, slice_set, refl, sym, ap, subst, ◌∙◌, arith, append_assoc, cond, ne_eqb}
use Rattle.std.proofs.lemmas.Bool.{cases_eq}
use Rattle.std.proofs.lemmas.List.{length-append, length-drop, length-take-le}
use Rattle.std.proofs.lemmas.List.Elements.{All-set}
use Rattle.spread_plan.specs.declared.Move.{Move}
use Rattle.density_rule.specs.declared.TheConstants.{SEGMENT_RECORDS}
use Rattle.spread_plan.specs.Moves.{records_of, counts_of, list_at, after_move, after_move_left, after_moves}
use Rattle.spread_plan.specs.Stages.{IsStage, CanMoveLeft, AllStages}
use Rattle.spread_plan.specs.Plans.{full_counts, move_of, moves_between}
use Rattle.spread_plan.proofs.Lists.{records_of-left}
use Rattle.spread_plan.proofs.Making.{after_move-left, length-after_move_left, from_after_left, to_after_left, other_after_left}

pub move_of-none : (from to count : ℕ) → count ≡ 0 → move_of from to count ≡ []
move_of-none from to count e = ap (λ (n : ℕ). move_of from to n) e

pub move_of-some : (from to count : ℕ) → 0 < count → move_of from to count ≡ record { from = from; to = to; count = count } ∷ []
move_of-some from to count some = let one : List Move = record { from = from; to = to; count = count } ∷ [] in ap (λ b. cond b [] one) (ne_eqb count 0 (λ e. omega (arith, some, e)))

abbrev pub HasRoom : {X : Type 0} → List X → Type 0
HasRoom list = length list ≤ SEGMENT_RECORDS

-- the records numbered below `next` are packed, those of segment s from `next` to below `total` are still there, and
-- the segments above it are as they were
pub record IsPacked {X : Type 0} (lists : List (List X)) (s next total : ℕ) (now : List (List X)) : Type 0 where
  pub stage : IsStage lists now
  pub below : (i : ℕ) → i < s → length (list_at now i) ≡ min SEGMENT_RECORDS (next - i * SEGMENT_RECORDS)
  pub here : length (list_at now s) ≡ total - next
  pub above : (i : ℕ) → s < i → length (list_at now i) ≡ length (list_at lists i)
  pub inside : s < length lists
  pub upto : next ≤ total
  pub left : next ≤ s * SEGMENT_RECORDS
  pub near : total ≤ next + SEGMENT_RECORDS
  pub most : total ≤ s * SEGMENT_RECORDS + SEGMENT_RECORDS

-- one move
module _ {X : Type 0} (lists : List (List X)) (s next total : ℕ) (now : List (List X)) (is : IsPacked lists s next total now)
    (then : ℕ) (more : next < then) (to_edge : then ≤ (next / SEGMENT_RECORDS + 1) * SEGMENT_RECORDS) (to_end : then ≤ total) (to_left : then ≤ s * SEGMENT_RECORDS) where
  abbrev to : ℕ
  to = next / SEGMENT_RECORDS

  abbrev m : Move
  m = record { from = s; to = to; count = then - next }

  goes_left : to < s
  goes_left = omega (arith, more, to_left)

  within : s < length now
  within = omega (arith, is.inside, is.stage.segments)

  to_start : to * SEGMENT_RECORDS ≤ next
  to_start = omega arith

  there : then - next ≤ length (list_at now s)
  there = omega (arith, is.here, to_end)

  room : length (list_at now to) + (then - next) ≤ SEGMENT_RECORDS
  room = omega (arith, is.below to goes_left, to_edge, to_start, more)

  can : CanMoveLeft m now
  can = (goes_left, record { from_in = within; to_in = omega (arith, goes_left, within); some = omega (arith, more); there = there; room = room })

  none_between : (i : ℕ) → to < i → i < s → length (list_at now i) ≡ 0
  none_between i lt below = omega (arith, is.below i below, more, to_edge, lt)

  abbrev after : List (List X)
  after = after_move_left m now

  taken : length (take (then - next) (list_at now s)) ≡ then - next
  taken = length-take-le (then - next) (list_at now s) there

  longer : length (list_at now to ++ take (then - next) (list_at now s)) ≡ length (list_at now to) + (then - next)
  longer = length-append (list_at now to) (take (then - next) (list_at now s)) ∙ ap (λ (k : ℕ). length (list_at now to) + k) taken

  shorter : length (drop (then - next) (list_at now s)) ≡ total - then
  shorter = omega (arith, length-drop (then - next) (list_at now s), is.here, more, to_end)

  after_stage : IsStage lists after
  after_stage = record {
    segments = length-after_move_left m now goes_left within ∙ is.stage.segments;
    records = records_of-left now to s (then - next) goes_left within none_between ∙ is.stage.records;
    fit = All-set HasRoom (slice_set now to (list_at now to ++ take (then - next) (list_at now s))) s (drop (then - next) (list_at now s)) (omega (arith, shorter, is.near, more))
        (All-set HasRoom now to (list_at now to ++ take (then - next) (list_at now s)) (omega (arith, longer, room)) is.stage.fit);
  }

  after_below : (i : ℕ) → i < s → length (list_at after i) ≡ min SEGMENT_RECORDS (then - i * SEGMENT_RECORDS)
  after_below i lt = by_place (cases_eq i to)
    where
      by_place : (i ≡ to) ⊎ (i ≢ to) → length (list_at after i) ≡ min SEGMENT_RECORDS (then - i * SEGMENT_RECORDS)
      by_place (inl e) = ap (λ (k : ℕ). length (list_at after k)) e ∙ ap length (to_after_left m now goes_left within) ∙ omega (arith, longer, is.below to goes_left, e, to_start, to_edge, more)
      by_place (inr ne) = ap length (other_after_left m now goes_left within i (λ e. omega (arith, e, lt)) ne) ∙ omega (arith, is.below i lt, ne, to_start, to_edge, more)

  packed_on : IsPacked lists s then total after
  packed_on = record {
    stage = after_stage;
    below = after_below;
    here = ap length (from_after_left m now goes_left within) ∙ shorter;
    above = λ i lt. ap length (other_after_left m now goes_left within i (λ e. omega (arith, e, lt)) (λ e. omega (arith, e, lt, goes_left))) ∙ is.above i lt;
    inside = is.inside;
    upto = to_end;
    left = to_left;
    near = omega (arith, is.near, more);
    most = is.most;
  }

  pub moved_on : IsPacked lists s then total (after_move m now)
  moved_on = subst (IsPacked lists s then total) (sym (after_move-left m now goes_left)) packed_on

-- the moves lead from these lists through stages to one whose counts are those of a pack
abbrev pub Leads : {X : Type 0} → List (List X) → List Move → List (List X) → Type 0
Leads lists moves now = AllStages CanMoveLeft (IsStage lists) moves now × (counts_of (after_moves moves now) ≡ full_counts (length (records_of lists)) (length lists))

module _ {X : Type 0} (lists : List (List X)) (s total : ℕ) (rest : List Move) where
  -- one move, or none
  one : (next then to count : ℕ) (now : List (List X)) → IsPacked lists s next total now → next ≤ then → then ≤ (next / SEGMENT_RECORDS + 1) * SEGMENT_RECORDS → then ≤ total → then ≤ s * SEGMENT_RECORDS
      → (next < then → to ≡ next / SEGMENT_RECORDS) → count ≡ then - next → ((after : List (List X)) → IsPacked lists s then total after → Leads lists rest after) → Leads lists (move_of s to count ++ rest) now
  one next then to count now is le to_edge to_end to_left to_is count_is go = by_order (cases_eq next then)
    where
      by_order : (next ≡ then) ⊎ (next ≢ then) → Leads lists (move_of s to count ++ rest) now
      by_order (inl e) = subst (λ (ms : List Move). Leads lists (ms ++ rest) now) (sym (move_of-none s to count (omega (arith, count_is, e)))) (go now (subst (λ (n : ℕ). IsPacked lists s n total now) e is))
      by_order (inr ne) =
          let more : next < then = omega (arith, le, ne) in
          let given : Move = record { from = s; to = to; count = count } in let made : Move = record { from = s; to = next / SEGMENT_RECORDS; count = then - next } in
          let same : given ≡ made = λ i. record { from = s; to = to_is more i; count = count_is i } in
          let later = go (after_move made now) (moved_on lists s next total now is then more to_edge to_end to_left) in
          subst (λ (ms : List Move). Leads lists (ms ++ rest) now) (sym (move_of-some s to count (omega (arith, count_is, more)) ∙ ap (λ (m : Move). m ∷ []) same))
          ((is.stage, can lists s next total now is then more to_edge to_end to_left, later.0), later.1)

-- all moves from one segment
pub segment_leads : {X : Type 0} (lists : List (List X)) (s next end total : ℕ) (rest : List Move) (now : List (List X)) → IsPacked lists s next total now → next ≤ end → end ≤ total → end ≤ s * SEGMENT_RECORDS
    → ((after : List (List X)) → IsPacked lists s end total after → Leads lists rest after) → Leads lists (moves_between s next end ++ rest) now
segment_leads lists s next end total rest now is le to_end to_left go =
    let edge = (next / SEGMENT_RECORDS + 1) * SEGMENT_RECORDS in
    let second = move_of s (next / SEGMENT_RECORDS + 1) (end - edge) in
    subst (λ (ms : List Move). Leads lists ms now) (sym (append_assoc (move_of s (next / SEGMENT_RECORDS) (min end edge - next)) second rest))
    (one lists s total (second ++ rest) next (min end edge) (next / SEGMENT_RECORDS) (min end edge - next) now is (omega (arith, le)) (omega arith) (omega (arith, to_end)) (omega (arith, to_left)) (λ more. refl) refl
    (λ after packed. one lists s total rest (min end edge) end (next / SEGMENT_RECORDS + 1) (end - edge) after packed (omega arith) (omega (arith, is.near, to_end)) to_end to_left (λ more. omega (arith, more)) (omega (arith, le)) go))

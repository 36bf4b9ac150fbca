-- What one move does to lists, and how it is undone.
use Rattle.std.proofs.Common.{◌≡◌, ◌+◌, ◌≢◌, ℕ, ◌-◌, ◌≤◌, ◌<◌, List, [], ◌++◌, length, take, drop, slice_set, nat_lt, ap, ap₂, ◌∙◌, arith}
use Rattle.std.proofs.lemmas.Bool.{cond-true, cond-false, cond_both, lt-ltb, false_from_ne_true, ltb-true}
use Rattle.std.proofs.lemmas.List.{length-append, length-drop, length-take-le, length-set, get_or-set_same, get_or-set_other, set-set, set_comm, set-get_or, take-append-drop, map-set}
use Rattle.std.proofs.Math.Seq.{take-append_seam, drop-append_seam}
use Rattle.spread_plan.specs.declared.Move.{Move}
use Rattle.spread_plan.specs.Moves.{counts_of, list_at, after_move, after_move_left, after_move_right}
use Rattle.spread_plan.specs.Plans.{inverse_move}

pub after_move-left : {X : Type 0} (m : Move) (lists : List (List X)) → m.to < m.from → after_move m lists ≡ after_move_left m lists
after_move-left m lists lt = cond-true (nat_lt m.to m.from) (after_move_left m lists) (after_move_right m lists) (lt-ltb m.to m.from lt)

pub after_move-right : {X : Type 0} (m : Move) (lists : List (List X)) → m.from < m.to → after_move m lists ≡ after_move_right m lists
after_move-right m lists lt = cond-false (nat_lt m.to m.from) (after_move_left m lists) (after_move_right m lists) (false_from_ne_true (nat_lt m.to m.from) (λ e. omega (arith, lt, ltb-true m.to m.from e)))

-- the counts after a move, whichever way it goes
module _ {X : Type 0} (m : Move) (lists : List (List X)) (le : m.count ≤ length (list_at lists m.from)) where
  abbrev had : List X
  had = list_at lists m.from

  abbrev gets : List X
  gets = list_at lists m.to

  abbrev HasCounts : List (List X) → Type 0
  HasCounts after = counts_of after ≡ slice_set (slice_set (counts_of lists) m.to (length gets + m.count)) m.from (length had - m.count)

  by_lengths : (xs ys : List X) → length xs ≡ length gets + m.count → length ys ≡ length had - m.count → HasCounts (slice_set (slice_set lists m.to xs) m.from ys)
  by_lengths xs ys long short = map-set length (slice_set lists m.to xs) m.from ys ∙ ap₂ (λ (ns : List ℕ) (n : ℕ). slice_set ns m.from n) (map-set length lists m.to xs ∙ ap (slice_set (counts_of lists) m.to) long) short

  counts_left : HasCounts (after_move_left m lists)
  counts_left = by_lengths (gets ++ take m.count had) (drop m.count had) (omega (arith, length-append gets (take m.count had), length-take-le m.count had le)) (length-drop m.count had)

  counts_right : HasCounts (after_move_right m lists)
  counts_right =
      let kept = length had - m.count in
      by_lengths (drop kept had ++ gets) (take kept had) (omega (arith, length-append (drop kept had) gets, length-drop kept had, le)) (length-take-le kept had (omega arith))

  pub counts_of-after_move : counts_of (after_move m lists) ≡ slice_set (slice_set (counts_of lists) m.to (length (list_at lists m.to) + m.count)) m.from (length (list_at lists m.from) - m.count)
  counts_of-after_move = cond_both (nat_lt m.to m.from) (after_move_left m lists) (after_move_right m lists) HasCounts (λ e. counts_left) (λ e. counts_right)

module _ {X : Type 0} (m : Move) (lists : List (List X)) (left : m.to < m.from) (within : m.from < length lists) where
  abbrev source : List X
  source = list_at lists m.from

  abbrev longer : List X
  longer = list_at lists m.to ++ take m.count source

  abbrev after : List (List X)
  after = after_move_left m lists

  pub length-after_move_left : length after ≡ length lists
  length-after_move_left = length-set (slice_set lists m.to longer) m.from (drop m.count source) ∙ length-set lists m.to longer

  pub from_after_left : list_at after m.from ≡ drop m.count source
  from_after_left = get_or-set_same (slice_set lists m.to longer) m.from (drop m.count source) [] (omega (arith, within, length-set lists m.to longer))

  pub to_after_left : list_at after m.to ≡ longer
  to_after_left = get_or-set_other (slice_set lists m.to longer) m.from m.to (drop m.count source) [] (λ e. omega (arith, e, left)) ∙ get_or-set_same lists m.to longer [] (omega (arith, left, within))

  pub other_after_left : (i : ℕ) → i ≢ m.from → i ≢ m.to → list_at after i ≡ list_at lists i
  other_after_left i from to = get_or-set_other (slice_set lists m.to longer) m.from i (drop m.count source) [] from ∙ get_or-set_other lists m.to i longer [] to

  pub undone : m.count ≤ length source → after_move (inverse_move m) after ≡ lists
  undone le =
      let back : Move = inverse_move m in
      let taken : length (take m.count source) ≡ m.count = length-take-le m.count source le in
      let kept : length (list_at after m.to) - m.count ≡ length (list_at lists m.to) = omega (arith, ap length to_after_left, length-append (list_at lists m.to) (take m.count source), taken) in
      let brought : drop (length (list_at after m.to) - m.count) (list_at after m.to) ++ list_at after m.from ≡ source =
      ap₂ (λ (xs : List X) (ys : List X). xs ++ ys) (ap₂ (λ (k : ℕ) (l : List X). drop k l) kept to_after_left ∙ drop-append_seam (list_at lists m.to) (take m.count source)) from_after_left ∙ take-append-drop m.count source in
      let left_over : take (length (list_at after m.to) - m.count) (list_at after m.to) ≡ list_at lists m.to = ap₂ (λ (k : ℕ) (l : List X). take k l) kept to_after_left ∙ take-append_seam (list_at lists m.to) (take m.count source) in
      after_move-right back after left
      ∙ ap₂ (λ (xs : List X) (ys : List X). slice_set (slice_set after m.from xs) m.to ys) brought left_over
      ∙ ap (λ (ls : List (List X)). slice_set ls m.to (list_at lists m.to)) (set-set (slice_set lists m.to longer) m.from (drop m.count source) source)
      ∙ ap (λ (ls : List (List X)). slice_set ls m.to (list_at lists m.to)) (set_comm lists m.to m.from longer source (λ e. omega (arith, e, left)))
      ∙ set-set (slice_set lists m.from source) m.to longer (list_at lists m.to)
      ∙ ap (λ (ls : List (List X)). slice_set ls m.to (list_at lists m.to)) (set-get_or lists m.from []) ∙ set-get_or lists m.to []

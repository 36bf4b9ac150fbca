-- Stages of moves that are put together, taken apart and undone.
use Rattle.std.proofs.Common.{◌≡◌, ℕ, ◌+◌, ◌-◌, List, [], ◌∷◌, ◌++◌, length, map, take, refl, sym, ap, subst, ◌∙◌, arith}
use Rattle.std.proofs.lemmas.List.{length-append, length-drop, length-take-le, reverse-append}
use Rattle.std.proofs.lemmas.List.Elements.{All-get_or}
use Rattle.spread_plan.specs.declared.Move.{Move}
use Rattle.spread_plan.specs.Moves.{list_at, after_move, after_move_left, after_moves}
use Rattle.spread_plan.specs.Stages.{IsStage, CanMoveLeft, CanMoveRight, AllStages}
use Rattle.spread_plan.specs.Plans.{inverse_move, inverse_moves}
use Rattle.spread_plan.proofs.Making.{after_move-left, length-after_move_left, from_after_left, to_after_left, undone}
use Rattle.spread_plan.proofs.Packing.{HasRoom}

pub after_moves-append : {X : Type 0} (xs ys : List Move) (lists : List (List X)) → after_moves (xs ++ ys) lists ≡ after_moves ys (after_moves xs lists)
after_moves-append [] ys lists = refl
after_moves-append (m ∷ xs) ys lists = after_moves-append xs ys (after_move m lists)

module _ {X : Type 0} (Can : Move → List (List X) → Type 0) (P : List (List X) → Type 0) where
  -- before the first move
  pub AllStages-first : (moves : List Move) (lists : List (List X)) → AllStages Can P moves lists → P lists
  AllStages-first [] lists all = all
  AllStages-first (m ∷ moves) lists all = all.0

  -- after the last
  pub AllStages-last : (moves : List Move) (lists : List (List X)) → AllStages Can P moves lists → P (after_moves moves lists)
  AllStages-last [] lists all = all
  AllStages-last (m ∷ moves) lists all = AllStages-last moves (after_move m lists) all.2

  -- once the first of the moves have been made
  pub AllStages-after : (xs ys : List Move) (lists : List (List X)) → AllStages Can P (xs ++ ys) lists → AllStages Can P ys (after_moves xs lists)
  AllStages-after [] ys lists all = all
  AllStages-after (m ∷ xs) ys lists all = AllStages-after xs ys (after_move m lists) all.2

  -- P holds wherever the moves have come to, and the next one can be made
  pub AllStages-at : (moves done rest : List Move) (lists : List (List X)) → moves ≡ done ++ rest → AllStages Can P moves lists → P (after_moves done lists)
  AllStages-at moves done rest lists split all = AllStages-first rest (after_moves done lists) (AllStages-after done rest lists (subst (λ (ms : List Move). AllStages Can P ms lists) split all))

  pub AllStages-can : (moves done rest : List Move) (m : Move) (lists : List (List X)) → moves ≡ done ++ m ∷ rest → AllStages Can P moves lists → Can m (after_moves done lists)
  AllStages-can moves done rest m lists split all = (AllStages-after done (m ∷ rest) lists (subst (λ (ms : List Move). AllStages Can P ms lists) split all)).1

  pub AllStages-append : (xs ys : List Move) (lists : List (List X)) → AllStages Can P xs lists → AllStages Can P ys (after_moves xs lists) → AllStages Can P (xs ++ ys) lists
  AllStages-append [] ys lists xs_all ys_all = ys_all
  AllStages-append (m ∷ xs) ys lists xs_all ys_all = (xs_all.0, xs_all.1, AllStages-append xs ys (after_move m lists) xs_all.2 ys_all)

  pub AllStages-weaker : (Q : List (List X) → Type 0) → ((lists : List (List X)) → P lists → Q lists) → (moves : List Move) (lists : List (List X)) → AllStages Can P moves lists → AllStages Can Q moves lists
  AllStages-weaker Q weaker [] lists all = weaker lists all
  AllStages-weaker Q weaker (m ∷ moves) lists all = (weaker lists all.0, all.1, AllStages-weaker Q weaker moves (after_move m lists) all.2)

inverse_moves-cons : (m : Move) (moves : List Move) → inverse_moves (m ∷ moves) ≡ inverse_moves moves ++ inverse_move m ∷ []
inverse_moves-cons m moves = reverse-append (inverse_move m ∷ []) (map inverse_move moves)

module _ {X : Type 0} (first : List (List X)) where
  -- a move to the left can be undone
  module _ (m : Move) (now : List (List X)) (is : IsStage first now) (can : CanMoveLeft m now) where
    abbrev made : List (List X)
    made = after_move m now

    made_is : made ≡ after_move_left m now
    made_is = after_move-left m now can.0

    pub unmade : after_move (inverse_move m) made ≡ now
    unmade = ap (after_move (inverse_move m)) made_is ∙ undone m now can.0 can.1.from_in can.1.there

    to_long : length (list_at made m.to) ≡ length (list_at now m.to) + m.count
    to_long =
        ap (λ (ls : List (List X)). length (list_at ls m.to)) made_is ∙ ap length (to_after_left m now can.0 can.1.from_in)
        ∙ length-append (list_at now m.to) (take m.count (list_at now m.from)) ∙ ap (λ (k : ℕ). length (list_at now m.to) + k) (length-take-le m.count (list_at now m.from) can.1.there)

    from_long : length (list_at made m.from) ≡ length (list_at now m.from) - m.count
    from_long = ap (λ (ls : List (List X)). length (list_at ls m.from)) made_is ∙ ap length (from_after_left m now can.0 can.1.from_in) ∙ length-drop m.count (list_at now m.from)

    as_many : length made ≡ length now
    as_many = ap length made_is ∙ length-after_move_left m now can.0 can.1.from_in

    can_undo : CanMoveRight (inverse_move m) made
    can_undo = (
      can.0,
      record {
        from_in = omega (arith, as_many, can.1.to_in);
        to_in = omega (arith, as_many, can.1.from_in);
        some = can.1.some;
        there = omega (arith, to_long);
        room = omega (arith, from_long, can.1.there, All-get_or HasRoom now m.from [] can.1.from_in is.fit);
      },
    )

  -- and so can moves to the left, through the same stages
  pub undone_all : (moves : List Move) (now : List (List X)) → AllStages CanMoveLeft (IsStage first) moves now
      → AllStages CanMoveRight (IsStage first) (inverse_moves moves) (after_moves moves now) × (after_moves (inverse_moves moves) (after_moves moves now) ≡ now)
  undone_all [] now all = (all, refl)
  undone_all (m ∷ moves) now all =
      let made = after_move m now in let end = after_moves moves made in
      let later = undone_all moves made all.2 in
      let back : after_move (inverse_move m) made ≡ now = unmade m now all.0 all.1 in
      let stage : IsStage first made = AllStages-first CanMoveLeft (IsStage first) moves made all.2 in
      let last : AllStages CanMoveRight (IsStage first) (inverse_move m ∷ []) made = (stage, can_undo m now all.0 all.1, subst (IsStage first) (sym back) all.0) in (
        subst (λ (ms : List Move). AllStages CanMoveRight (IsStage first) ms end) (sym (inverse_moves-cons m moves))
            (AllStages-append CanMoveRight (IsStage first) (inverse_moves moves) (inverse_move m ∷ []) end later.0 (subst (AllStages CanMoveRight (IsStage first) (inverse_move m ∷ [])) (sym later.1) last)),
        ap (λ (ms : List Move). after_moves ms end) (inverse_moves-cons m moves) ∙ after_moves-append (inverse_moves moves) (inverse_move m ∷ []) end ∙ ap (after_move (inverse_move m)) later.1 ∙ back,
      )

-- What commands write, by the charges of their updates.
use Rattle.std.proofs.Common.{◌≡◌, ℕ, ◌+◌, ◌*◌, ◌/◌, ◌^◌, ◌≤◌, Bool, true, false, cond, List, [], ◌∷◌, Option, Some, None, refl, sym, ap, subst, ◌∙◌, arith}
use Rattle.std.specs.Prelude.{◌==◌}
use Rattle.density_rule.specs.Marks.{Marks, mark_of}
use Rattle.density_rule.specs.CountUpdates.{charge_of, resized_height, height_by_broken}
use Rattle.header_gate.specs.Header.{layout_in}
use Rattle.header_gate.specs.Places.{height_limit, segment_size}
use Rattle.header_gate.specs.declared.layout.Layout.{Layout}
use Rattle.map_model.specs.Array.{Array, segment_for}
use Rattle.map_model.specs.ArrayState.{ArrayState, IsSoundState, UpdateReport, next_state, report_by, report_by_change, report_of}
use Rattle.map_model.specs.ArrayUpdates.{array_after, broken_for, change_of, effect_in, effect_change}
use Rattle.map_model.specs.Charges.{charge_after, effect_charge}
use Rattle.map_model.specs.Holding.{IsNext}
use Rattle.map_model.specs.Image.{slot_format}
use Rattle.map_model.specs.ItemWords.{charge_after_items}
use Rattle.map_model.specs.Store.{Map, Update, key_of, Effect, Replaces, Adds, Takes, FindsFull, FindsNone}
use Rattle.map_model.specs.After.{height_after}
use Rattle.map_model.proofs.SessionLaws.{next_sound, states_sound}
use Rattle.map_model.proofs.UpdateLaws.{next_after}
use Rattle.batch_intent.specs.Means.{Means}
use Rattle.command_text.specs.Script.{commands_of}
use Rattle.command_text.specs.Session.{Session, session_after, session_step, IsPaid}
use Rattle.command_text.specs.Updates.{updates_made}
use Rattle.command_text.specs.declared.command.Command.{Command}
use Rattle.command_text.proofs.SessionLaws.{paid_first, paid_next}
use Rattle.pma_store.specs.Changing.{most_written, effect_outcome}
use Rattle.pma_store.specs.Costing.{report_cost, update_cost_in, updates_cost}
use Rattle.pma_store.specs.Readying.{clear_cost}
use Rattle.pma_store.specs.Rewrites.{commit_cost}
use Rattle.pma_store.specs.Charging.{changes}
use Rattle.pma_store.proofs.ClearCosts.{clear_most}
use Rattle.pma_engine.specs.CommandCosts.{charged_cost, images_cost, session_cost}
use Rattle.pma_engine.specs.Jobs.{ArePaid}
use Rattle.pma_engine.specs.Outcome.{session_of, state_of}
use Rattle.pma_engine.proofs.Meant.{begins_sound}

charge_made : (hmax height : ℕ) (segments : Array) (u : Update) → charge_after hmax height segments u ≡ effect_charge (effect_in hmax segments u) height segments (key_of u)
unfolding charge_after
charge_made hmax height segments u = refl

-- images of two charges
images_plus : (l : Layout) (m n : ℕ) → images_cost l (m + n) ≡ images_cost l m + images_cost l n
images_plus l m n = omega arith

-- factors
times_up : (f m n : ℕ) → m ≤ n → f * m ≤ f * n
times_up f m n le = grind arith

module _ (l : Layout) (some : 1 ≤ l.format) where
  abbrev hmax : ℕ
  hmax = height_limit l

  -- what a resize costs, and the spread of a window, by their charges
  resize_paid : (next : ℕ) → clear_cost l + (segment_size l * 2 ^ next + 9) + commit_cost l ≤ images_cost l (2 ^ next + 3)
  resize_paid next = omega (arith, some, clear_most l)

  spread_paid : (j : ℕ) → most_written l j ≤ images_cost l (16 * 2 ^ j)
  spread_paid j = omega (arith, times_up (2 ^ j) 1 l.format some)

  -- what an update costs that adds a record or takes one, by its greatest broken height
  broken_paid : (adds : Bool) (height i : ℕ) (marks : Marks) (o : Option ℕ) (next : ℕ) → next ≡ height_by_broken adds height o
      → report_cost l next (report_by height i o marks) ≤ images_cost l (charge_of adds height o)
  broken_paid adds height i marks None next at = omega (arith, some)
  broken_paid adds height i marks (Some c) next at = by (c == height) refl
    where
      reported : Bool → UpdateReport
      reported b = cond b (record { spread = None; cause = None; resized = true }) (record { spread = Some (record { height = c + 1; number = i / 2 ^ (c + 1) }); cause = mark_of marks c (i / 2 ^ c); resized = false })

      charged : Bool → ℕ
      charged b = cond b (2 ^ resized_height adds height + 3) (16 * 2 ^ (c + 1))

      by : (b : Bool) → (c == height) ≡ b → report_cost l next (reported (c == height)) ≤ images_cost l (charged (c == height))
      by true e =
          let same : next ≡ resized_height adds height = at ∙ ap (λ (b : Bool). cond b (resized_height adds height) height) e in
          subst (λ (b : Bool). report_cost l next (reported b) ≤ images_cost l (charged b)) (sym e)
          (subst (λ (h : ℕ). report_cost l next (reported true) ≤ images_cost l (2 ^ h + 3)) same (resize_paid next))
      by false e = subst (λ (b : Bool). report_cost l next (reported b) ≤ images_cost l (charged b)) (sym e) (spread_paid (c + 1))

  module _ (s : ArrayState) (sound : IsSoundState hmax s) where
    next : (u : Update) (o : Option Bool) → change_of hmax s.array u ≡ o → IsNext hmax o s.height s.array (key_of u) (height_after hmax s.height s.map u) (array_after hmax s.height s.array u)
    next u o is = subst (λ (o : Option Bool). IsNext hmax o s.height s.array (key_of u) (height_after hmax s.height s.map u) (array_after hmax s.height s.array u)) is (next_after hmax s.map s.height s.array sound.holds sound.balanced u)

    -- an update that adds a record or takes one
    changing : (u : Update) (adds : Bool) → change_of hmax s.array u ≡ Some adds
        → report_cost l (height_after hmax s.height s.map u) (report_of hmax s u) ≤ images_cost l (charge_of adds s.height (broken_for adds s.height s.array (key_of u)))
    changing u adds is =
        subst (λ (o : Option Bool). report_cost l (height_after hmax s.height s.map u) (report_by_change s u o) ≤ images_cost l (charge_of adds s.height (broken_for adds s.height s.array (key_of u)))) (sym is)
        (broken_paid adds s.height (segment_for s.array (key_of u)) s.marks (broken_for adds s.height s.array (key_of u)) (height_after hmax s.height s.map u) (next u (Some adds) is).height_is)

    -- one that changes a value
    replacing : (u : Update) → change_of hmax s.array u ≡ None → report_cost l (height_after hmax s.height s.map u) (report_of hmax s u) ≤ images_cost l 2
    replacing u is = subst (λ (o : Option Bool). report_cost l (height_after hmax s.height s.map u) (report_by_change s u o) ≤ images_cost l 2) (sym is) (omega (arith, some))

    pub update_paid : (u : Update) → update_cost_in l s u ≤ images_cost l (charge_after hmax s.height s.array u)
    update_paid u = subst (λ (n : ℕ). update_cost_in l s u ≤ images_cost l n) (sym (charge_made hmax s.height s.array u)) (by (effect_in hmax s.array u) refl)
      where
        by : (effect : Effect) → effect_in hmax s.array u ≡ effect
            → cond (changes (effect_outcome effect)) (report_cost l (height_after hmax s.height s.map u) (report_of hmax s u)) 0 ≤ images_cost l (effect_charge effect s.height s.array (key_of u))
        by Replaces is = replacing u (ap effect_change is)
        by Adds is = changing u true (ap effect_change is)
        by Takes is = changing u false (ap effect_change is)
        by FindsFull is = omega arith
        by FindsNone is = omega arith

  updates_paid : (s : ArrayState) → IsSoundState hmax s → (us : List Update) → updates_cost l s us ≤ images_cost l (charge_after_items hmax s us)
  updates_paid s sound [] = omega arith
  updates_paid s sound (u ∷ us) =
      omega (
        arith,
        update_paid s sound u,
        updates_paid (next_state hmax s u) (next_sound hmax s sound u) us,
        images_plus l (charge_after hmax s.height s.array u) (charge_after_items hmax (next_state hmax s u) us),
      )

  -- what a session's commands cost
  session_charged : (x : Session) → IsSoundState hmax x.store → (cs : List Command) → images_cost l x.ledger.charge + session_cost l x.store cs ≤ charged_cost l x cs
  session_charged x sound [] = omega arith
  session_charged x sound (c ∷ cs) =
      let us = updates_made l x.store.map c in
      omega (
        arith,
        updates_paid x.store sound us,
        images_plus l x.ledger.charge (charge_after_items hmax x.store us),
        session_charged (session_step l x c) (states_sound hmax x.store us sound) cs,
      )

-- what is charged is paid
paid_after : (l : Layout) (x : Session) → IsSoundState (height_limit l) x.store → IsPaid x → (cs : List Command) → IsPaid (session_after l x cs)
paid_after l x sound paid [] = paid
paid_after l x sound paid (c ∷ cs) = paid_after l (session_step l x c) (states_sound (height_limit l) x.store (updates_made l x.store.map c) sound) (paid_next l x c sound paid) cs

module _ (image : List ℕ) (m : Map) (means : Means (layout_in image) image m) where
  -- what the commands of a run cost
  pub charged_is : (cs : List Command) → session_cost (layout_in image) (state_of m image) cs ≤ charged_cost (layout_in image) (session_of m image) cs
  charged_is cs = omega (arith, session_charged (layout_in image) means.represents.header.layout.format.least (session_of m image) (begins_sound image m means) cs)

  -- and what they are charged
  pub session_paid : (script : List ℕ) → ArePaid m image script
  session_paid script =
      let sound = begins_sound image m means in
      let low : (state_of m image).height ≤ 16 = omega (arith, sound.holds.within.height_is, sound.holds.within.hmax_is) in
      omega (arith, paid_after (layout_in image) (session_of m image) sound (paid_first (state_of m image) low) (commands_of (slot_format image) script))

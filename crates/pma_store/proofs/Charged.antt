-- What a store tells of an update is what the update is charged, and what it writes at most.
use Rattle.std.proofs.Common.{◌≡◌, inl, inr, ℕ, ◌+◌, ◌*◌, ◌^◌, ◌≤◌, Bool, true, false, cond, nat_lt, List, length, Option, Some, None, refl, sym, ◌∙◌, ap, subst, arith}
use Rattle.std.specs.FinMap.{contains_key}
use Rattle.std.proofs.lemmas.Bool.{cases_eq}
use Rattle.density_rule.specs.Bounds.{upper_of}
use Rattle.density_rule.specs.declared.Window.{Window}
use Rattle.density_rule.specs.CountUpdates.{charge_of}
use Rattle.header_gate.specs.declared.layout.Layout.{Layout}
use Rattle.header_gate.specs.Places.{IsSlotFormat}
use Rattle.key_slot.specs.Record.{Bytes}
use Rattle.map_model.specs.Array.{Array, rows, segment_for}
use Rattle.map_model.specs.ArrayState.{UpdateReport, report_of, report_by_change}
use Rattle.map_model.specs.ArrayUpdates.{has_key, change_of, broken_for, array_after, effect_in, effect_change}
use Rattle.map_model.specs.Charges.{charge_after, effect_charge}
use Rattle.map_model.specs.Holding.{IsNext}
use Rattle.map_model.specs.Image.{array_of, height_of, map_of}
use Rattle.map_model.specs.Store.{Update, bind, unbind, key_of, effect_by}
use Rattle.map_model.specs.After.{height_after}
use Rattle.map_model.proofs.UpdateLaws.{next_after}
use Rattle.cost_ledger.specs.Work.{charge_by}
use Rattle.cost_ledger.specs.declared.work.Work.TheVariants as work
use Rattle.cost_ledger.proofs.Charging.{charge_is}
use Rattle.pma_store.specs.StoreAnswers.{state_in, put_answer, reported}
use Rattle.pma_store.specs.Charging.{charge_told, put_changes, spread_work, changes}
use Rattle.pma_store.specs.Changing.{outcome_of, update_cost, effect_outcome}
use Rattle.pma_store.specs.Costing.{has_effect, report_cost, update_cost_in}
use Rattle.pma_store.specs.StoreView.{StoreView, Stands, limit_of}
use Rattle.pma_store.specs.declared.answers.Put.{Put}
use Rattle.pma_store.specs.declared.answers.Report.{Report}
use Rattle.pma_store.specs.declared.answers.Outcome.{Outcome}
use Rattle.pma_store.specs.declared.answers.Outcome.TheVariants.{Unchanged, Replaced, Changed}
use Rattle.pma_store.proofs.ClearCosts.{clear_most}
use Rattle.pma_store.proofs.Outcomes.{quiet, holds, balanced_array, has_is, put_answered, replaced_report}
use Rattle.pma_store.proofs.Paying.{work_is, put_changed}

-- an update that changes its own segment alone
quiet_charge : (next : ℕ) (r : Report) → reported r ≡ quiet → charge_told next true r ≡ 2
quiet_charge next r is = by_parts (ap (λ (u : UpdateReport). u.resized) is) (ap (λ (u : UpdateReport). u.spread) is)
  where
    by_parts : r.resized ≡ false → r.rebalanced ≡ None → charge_told next true r ≡ 2
    by_parts same none = λ t. charge_by (cond (same t) (work.Resize next) (spread_work (none t)))

charge_made : (hmax height : ℕ) (segments : Array) (u : Update) → charge_after hmax height segments u ≡ effect_charge (effect_in hmax segments u) height segments (key_of u)
unfolding charge_after
charge_made hmax height segments u = refl

-- an outcome says whether anything changed
pub effect_is : (hmax : ℕ) (segments : Array) (u : Update) → changes (outcome_of hmax segments u) ≡ has_effect hmax segments u
effect_is hmax segments u = refl

-- a removal changes something where its key is there
removes : (key : Bytes) (b r : Bool) → b ≡ changes (effect_outcome (effect_by b r (unbind key)))
removes key true r = refl
removes key false r = refl

module _ (s : StoreView) (image : List ℕ) (stands : Stands s image) where
  -- an update that adds a record or takes one
  by_change : (u : Update) (adds : Bool) → change_of (limit_of s) (array_of image) u ≡ Some adds → (r : Report) → reported r ≡ report_of (limit_of s) (state_in s image) u → (next : ℕ) → next ≡ height_after (limit_of s) (height_of image) (map_of image) u
      → charge_told next true r ≡ charge_of adds (height_of image) (broken_for adds (height_of image) (array_of image) (key_of u))
  by_change u adds is r report next at =
      let broken = broken_for adds (height_of image) (array_of image) (key_of u) in
      let changed = subst (λ (o : Option Bool). IsNext (limit_of s) o (height_of image) (array_of image) (key_of u) (height_after (limit_of s) (height_of image) (map_of image) u) (array_after (limit_of s) (height_of image) (array_of image) u)) is
      (next_after (limit_of s) (map_of image) (height_of image) (array_of image) (holds s image stands) (balanced_array s image stands) u) in
      ap charge_by (work_is adds (height_of image) (segment_for (array_of image) (key_of u)) broken s.tally.marks r next (at ∙ changed.height_is) (report ∙ ap (report_by_change (state_in s image) u) is))
      ∙ charge_is adds (height_of image) broken

  -- by whether it changes anything
  pub charged : (u : Update) (changed : Bool) → changed ≡ has_effect (limit_of s) (array_of image) u → (r : Report) → reported r ≡ report_of (limit_of s) (state_in s image) u → (next : ℕ) → next ≡ height_after (limit_of s) (height_of image) (map_of image) u
      → charge_told next changed r ≡ charge_after (limit_of s) (height_of image) (array_of image) u
  charged (bind key value) changed is r report next at = go (has_key (array_of image) key) (nat_lt (length (rows (array_of image))) (upper_of (limit_of s))) refl refl ∙ sym (charge_made (limit_of s) (height_of image) (array_of image) (bind key value))
    where
      of : Bool → Bool → ℕ
      of b room = effect_charge (effect_by b room (bind key value)) (height_of image) (array_of image) key

      go : (b room : Bool) → has_key (array_of image) key ≡ b → nat_lt (length (rows (array_of image))) (upper_of (limit_of s)) ≡ room
          → charge_told next changed r ≡ of (has_key (array_of image) key) (nat_lt (length (rows (array_of image))) (upper_of (limit_of s)))
      go true room e f = ap (λ b. charge_told next b r) (is ∙ ap (λ (b : Bool). changes (effect_outcome (effect_by b (nat_lt (length (rows (array_of image))) (upper_of (limit_of s))) (bind key value)))) e) ∙ quiet_charge next r (report ∙ replaced_report s image stands key value e) ∙ sym (ap (λ b. of b (nat_lt (length (rows (array_of image))) (upper_of (limit_of s)))) e)
      go false true e f =
          let change : change_of (limit_of s) (array_of image) (bind key value) ≡ Some true = λ t. effect_change (effect_by (e t) (f t) (bind key value)) in
          ap (λ b. charge_told next b r) (is ∙ (λ t. changes (effect_outcome (effect_by (e t) (f t) (bind key value))))) ∙ by_change (bind key value) true change r report next at ∙ sym (λ t. of (e t) (f t))
      go false false e f = ap (λ b. charge_told next b r) (is ∙ (λ t. changes (effect_outcome (effect_by (e t) (f t) (bind key value))))) ∙ sym (λ t. of (e t) (f t))
  charged (unbind key) changed is r report next at = go (has_key (array_of image) key) refl ∙ sym (charge_made (limit_of s) (height_of image) (array_of image) (unbind key))
    where
      of : Bool → ℕ
      of b = effect_charge (effect_by b (nat_lt (length (rows (array_of image))) (upper_of (limit_of s))) (unbind key)) (height_of image) (array_of image) key

      go : (b : Bool) → has_key (array_of image) key ≡ b → charge_told next changed r ≡ of (has_key (array_of image) key)
      go true e = ap (λ b. charge_told next b r) (is ∙ sym (removes key (has_key (array_of image) key) (nat_lt (length (rows (array_of image))) (upper_of (limit_of s)))) ∙ e) ∙ by_change (unbind key) false (ap (λ (b : Bool). effect_change (effect_by b (nat_lt (length (rows (array_of image))) (upper_of (limit_of s))) (unbind key))) e) r report next at ∙ sym (ap of e)
      go false e = ap (λ b. charge_told next b r) (is ∙ sym (removes key (has_key (array_of image) key) (nat_lt (length (rows (array_of image))) (upper_of (limit_of s)))) ∙ e) ∙ sym (ap of e)

  -- what the calls answer says whether anything changed
  pub put_effect : (key value : Bytes) (answer : Put) → answer ≡ put_answer (limit_of s) (map_of image) key → put_changes answer ≡ has_effect (limit_of s) (array_of image) (bind key value)
  put_effect key value answer is =
      ap put_changes (is ∙ sym (put_answered s image stands key value)) ∙ put_changed (limit_of s) (outcome_of (limit_of s) (array_of image) (bind key value)) ∙ effect_is (limit_of s) (array_of image) (bind key value)

  pub take_effect : (key : Bytes) (took : Bool) → took ≡ contains_key (map_of image) key → took ≡ has_effect (limit_of s) (array_of image) (unbind key)
  take_effect key took is = is ∙ sym (has_is s image stands key) ∙ removes key (has_key (array_of image) key) (nat_lt (length (rows (array_of image))) (upper_of (limit_of s)))

  -- what it writes at most, by its report and by the state
  pub cost_told : (u : Update) (changed : Bool) → changed ≡ has_effect (limit_of s) (array_of image) u → (r : Report) → reported r ≡ report_of (limit_of s) (state_in s image) u → (next : ℕ) → next ≡ height_after (limit_of s) (height_of image) (map_of image) u
      → cond changed (update_cost s.place.layout next r) 0 ≡ update_cost_in s.place.layout (state_in s image) u
  cost_told u changed is r report next at = λ t. cond (is t) (report_cost s.place.layout (at t) (report t)) 0

-- What is written, in images of segments.

images_of : (f height : ℕ) → 1 ≤ f → f ≤ 2 → (n : ℕ) → n ≡ 2 ^ height → 5 + (4096 * f * n + 9) + (8196 * f + 6) ≤ 4101 * f * (n + 3)
images_of f height low high n is = elim (cases_eq f 1) [
  | inl one ↦ let few : 5 + (4096 * 1 * n + 9) + (8196 * 1 + 6) ≤ 4101 * 1 * (n + 3) = omega arith in subst (λ (f : ℕ). 5 + (4096 * f * n + 9) + (8196 * f + 6) ≤ 4101 * f * (n + 3)) (sym one) few
  | inr more ↦
      let two : f ≡ 2 = omega (arith, more, low, high) in
      let few : 5 + (4096 * 2 * n + 9) + (8196 * 2 + 6) ≤ 4101 * 2 * (n + 3) = omega arith in subst (λ (f : ℕ). 5 + (4096 * f * n + 9) + (8196 * f + 6) ≤ 4101 * f * (n + 3)) (sym two) few
]

spread_images : (f n : ℕ) → 1 ≤ f → f ≤ 2 → (65568 * f + 24) * n ≤ 4101 * f * (16 * n)
spread_images f n low high = elim (cases_eq f 1) [
  | inl one ↦ let few : (65568 * 1 + 24) * n ≤ 4101 * 1 * (16 * n) = omega arith in subst (λ (f : ℕ). (65568 * f + 24) * n ≤ 4101 * f * (16 * n)) (sym one) few
  | inr more ↦
      let two : f ≡ 2 = omega (arith, more, low, high) in
      let few : (65568 * 2 + 24) * n ≤ 4101 * 2 * (16 * n) = omega arith in subst (λ (f : ℕ). (65568 * f + 24) * n ≤ 4101 * f * (16 * n)) (sym two) few
]

written_by : (l : Layout) → IsSlotFormat l.format → (height : ℕ) (r : Report) → update_cost l height r ≤ 4101 * l.format * charge_told height true r
written_by l is height r = go r.resized r.rebalanced
  where
    go : (resized : Bool) (spread : Option Window) → update_cost l height (record r { resized = resized; rebalanced = spread }) ≤ 4101 * l.format * charge_by (cond resized (work.Resize height) (spread_work spread))
    go true spread = omega (arith, images_of l.format height is.least is.most (2 ^ height) refl, clear_most l)
    go false None = omega (arith, is.least)
    go false (Some w) = spread_images l.format (2 ^ w.height) is.least is.most

pub written_images : (l : Layout) → IsSlotFormat l.format → (height : ℕ) (changed : Bool) (r : Report) (before after : ℕ) → after ≤ before + update_cost l height r → (changed ≡ false → after ≡ before) → after ≤ before + 4101 * l.format * charge_told height changed r
written_images l is height true r before after cost same = omega (arith, cost, written_by l is height r)
written_images l is height false r before after cost same = omega (arith, same refl)

-- by whether anything changed
pub written_changed : (changed : Bool) (bound before after : ℕ) → after ≤ before + bound → (changed ≡ false → after ≡ before) → after ≤ before + cond changed bound 0
written_changed true bound before after cost same = cost
written_changed false bound before after cost same = omega (arith, same refl)

-- only what changes nothing has this outcome
pub unchanged_is : (outcome : Outcome) → changes outcome ≡ false → outcome ≡ Unchanged
unchanged_is Unchanged is = refl
unchanged_is Replaced is = absurd cc
unchanged_is Changed is = absurd cc

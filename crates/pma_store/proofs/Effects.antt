-- How many items of a batch edit a segment, what they are charged, and what they cost at least.
use Rattle.std.proofs.Common.{◌≡◌, ℕ, zero, suc, ◌+◌, ◌*◌, ◌^◌, ◌<◌, ◌≤◌, Bool, true, false, cond, not, nat_lt, List, [], ◌∷◌, length, get_or, Option, Some, None, refl, sym, ap, subst, ◌∙◌, arith, is_some}
use mathlib.Core.Bool.{true≢false}
use Rattle.std.specs.Str.{bytes_eq}
use Rattle.std.specs.FinMap.{contains_key, len}
use Rattle.std.proofs.lemmas.Nat.{pow_pos}
use Rattle.density_rule.specs.declared.Window.{Window}
use Rattle.density_rule.specs.Bounds.{upper_of}
use Rattle.header_gate.specs.declared.layout.Layout.{Layout}
use Rattle.header_gate.specs.Places.{height_limit}
use Rattle.map_model.specs.Array.{Array}
use Rattle.map_model.specs.ArrayState.{ArrayState, UpdateReport, next_state, report_of}
use Rattle.map_model.specs.ArrayUpdates.{has_key}
use Rattle.map_model.specs.Holding.{HoldsMap, IsBalancedArray}
use Rattle.map_model.specs.Items.{are_distinct, first_full, is_full}
use Rattle.map_model.specs.ItemWords.{ItemCounts, count_items, has_item, effect_count, AreAdmitted}
use Rattle.std.specs.Cmp.Lexicographic.{nat_list_eq_equiv}
use Rattle.key_slot.specs.Record.{Bytes}
use Rattle.key_slot.proofs.SegmentLaws.{times_up}
use Rattle.map_model.proofs.Resuming.{get_other, meets_full, room_cons}
use Rattle.map_model.specs.Store.{Map, Update, bind, unbind, key_of, Effect, effect_by, effect_of}
use Rattle.map_model.specs.After.{map_after}
use Rattle.map_model.proofs.UpdateLaws.{holds_after, balanced_after}
use Rattle.map_model.proofs.Effects.{same_effect}
use Rattle.one_commit.specs.Editing.{charge_one, charge_by}
use Rattle.one_commit.proofs.Alike.{both_true, neither_true, not_true}
use Rattle.pma_store.specs.Changing.{most_written, window_cost, effect_outcome}
use Rattle.pma_store.specs.Costing.{report_cost, update_cost_in, updates_cost}
use Rattle.pma_store.specs.Charging.{changes}
use Rattle.pma_store.proofs.ClearCosts.{spared_few}

-- how many of the items edit a segment, by what they do
abbrev pub edits_in : ItemCounts → ℕ
edits_in c = c.stored + c.replaced + c.removed

-- whether one does, by whether its key is there
abbrev one : Update → Bool → ℕ
one (bind key value) there = 1
one (unbind key) there = cond there 1 0

counts_one : (hmax : ℕ) (m : Map) (u : Update) (c : ItemCounts) → edits_in (effect_count (effect_of hmax m u) c) ≡ edits_in c + one u (contains_key m (key_of u))
counts_one hmax m (bind key value) c = by (contains_key m key) (nat_lt (len m) (upper_of hmax))
  where
    by : (b r : Bool) → edits_in (effect_count (effect_by b r (bind key value)) c) ≡ edits_in c + 1
    by true r = omega arith
    by false true = omega arith
    by false false = omega arith
counts_one hmax m (unbind key) c = by (contains_key m key) (nat_lt (len m) (upper_of hmax))
  where
    by : (b r : Bool) → edits_in (effect_count (effect_by b r (unbind key)) c) ≡ edits_in c + cond b 1 0
    by true r = omega arith
    by false r = omega arith

charged_one : (u : Update) (there : Bool) → charge_one there u ≡ 2 * one u there
charged_one (bind key value) there = refl
charged_one (unbind key) true = refl
charged_one (unbind key) false = refl

-- no other item has the key of one
apart : (key : Bytes) (us : List Update) (k : ℕ) (d : Update) → k < length us → has_item key us ≡ false → bytes_eq (key_of (get_or us k d)) key ≡ false
apart key [] k d lt none = absurd (omega arith)
apart key (u ∷ us) zero d lt none = nat_list_eq_equiv.symm (key_of u) key ∙ (neither_true (bytes_eq key (key_of u)) (has_item key us) none).0
apart key (u ∷ us) (suc k) d lt none = apart key us k d (omega arith) (neither_true (bytes_eq key (key_of u)) (has_item key us) none).1

-- two images are charged for each
pub charges_edits : (segments : Array) (hmax : ℕ) (m : Map) (items : List Update) (c : ItemCounts) → are_distinct items ≡ true → ((k : ℕ) (d : Update) → k < length items → contains_key m (key_of (get_or items k d)) ≡ has_key segments (key_of (get_or items k d)))
    → 2 * edits_in (count_items hmax m items c) ≡ 2 * edits_in c + charge_by segments items
charges_edits segments hmax m [] c distinct there = omega arith
charges_edits segments hmax m (u ∷ us) c distinct there =
    let parts = both_true (not (has_item (key_of u) us)) (are_distinct us) distinct in
    let none = not_true (has_item (key_of u) us) parts.0 in
    let rest = charges_edits segments hmax (map_after hmax m u) us (effect_count (effect_of hmax m u) c) parts.1 (λ k d lt. ap is_some (get_other hmax m u (key_of (get_or us k d)) (apart (key_of u) us k d lt none)) ∙ there (suc k) d (omega (arith, lt))) in
    let own : charge_one (has_key segments (key_of u)) u ≡ 2 * one u (contains_key m (key_of u)) = charged_one u (has_key segments (key_of u)) ∙ ap (λ (b : Bool). 2 * one u b) (sym (there 0 u (omega arith))) in
    omega (arith, rest, counts_one hmax m u c, own)

-- Each writes at least its commit.

least_cost : (l : Layout) (height : ℕ) (r : UpdateReport) → 8196 * l.format ≤ report_cost l height r
least_cost l height r = by r.resized r.spread
  where
    windows : (w : Option Window) → 8196 * l.format ≤ window_cost l w
    windows None = omega (arith, spared_few l)
    windows (Some w) = let some = pow_pos w.height in let split : most_written l w.height ≡ (65568 * l.format + 24) * 2 ^ w.height = refl in omega (arith, split, times_up (65568 * l.format + 24) 1 (2 ^ w.height) some)

    by : (b : Bool) (w : Option Window) → 8196 * l.format ≤ report_cost l height (record { spread = w; cause = r.cause; resized = b })
    by true w = omega (arith, spared_few l)
    by false w = windows w

has_one : (l : Layout) (s : ArrayState) (u : Update) → HoldsMap (height_limit l) s.map s.height s.array → meets_full (height_limit l) s.map u ≡ false → 8196 * l.format * one u (contains_key s.map (key_of u)) ≤ update_cost_in l s u
has_one l s u holds room =
    let cost = least_cost l (next_state (height_limit l) s u).height (report_of (height_limit l) s u) in
    subst (λ (effect : Effect). 8196 * l.format * one u (contains_key s.map (key_of u)) ≤ cond (changes (effect_outcome effect)) (report_cost l (next_state (height_limit l) s u).height (report_of (height_limit l) s u)) 0)
    (sym (same_effect (height_limit l) s.map s.height s.array holds u)) (by u (contains_key s.map (key_of u)) (nat_lt (len s.map) (upper_of (height_limit l))) room cost)
  where
    by : {n : ℕ} (v : Update) (b r : Bool) → is_full (effect_by b r v) ≡ false → 8196 * l.format ≤ n → 8196 * l.format * one v b ≤ cond (changes (effect_outcome (effect_by b r v))) n 0
    by (bind key value) true r room cost = omega (arith, cost)
    by (bind key value) false true room cost = omega (arith, cost)
    by (bind key value) false false room cost = absurd (true≢false room)
    by (unbind key) true r room cost = omega (arith, cost)
    by (unbind key) false r room cost = omega arith

pub costs_edits : (l : Layout) (s : ArrayState) (items : List Update) (c : ItemCounts) → HoldsMap (height_limit l) s.map s.height s.array → IsBalancedArray s.height s.array → AreAdmitted (height_limit l) s.map items
    → 8196 * l.format * edits_in (count_items (height_limit l) s.map items c) ≤ 8196 * l.format * edits_in c + updates_cost l s items
costs_edits l s [] c holds balanced room = omega arith
costs_edits l s (u ∷ us) c holds balanced room =
    let hmax = height_limit l in
    let parts = room_cons (meets_full hmax s.map u) (first_full hmax (map_after hmax s.map u) us) room in
    let rest = costs_edits l (next_state hmax s u) us (effect_count (effect_of hmax s.map u) c) (holds_after hmax s.map s.height s.array holds balanced u) (balanced_after hmax s.map s.height s.array holds balanced u) parts.1 in
    let sum : 8196 * l.format * (edits_in c + one u (contains_key s.map (key_of u))) ≡ 8196 * l.format * edits_in c + 8196 * l.format * one u (contains_key s.map (key_of u)) = distributes (8196 * l.format) (edits_in c) (one u (contains_key s.map (key_of u))) in
    omega (arith, rest, ap (λ (n : ℕ). 8196 * l.format * n) (counts_one hmax s.map u c), sum, has_one l s u holds parts.0)
  where
    distributes : (n x y : ℕ) → n * (x + y) ≡ n * x + n * y
    distributes n x y = grind arith

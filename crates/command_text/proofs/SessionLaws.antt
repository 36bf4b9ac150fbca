-- Each update of a session is paid for.
use Rattle.std.proofs.Common.{◌≡◌, ℕ, ◌+◌, ◌*◌, ◌^◌, ◌<◌, ◌≤◌, Bool, true, false, nat_lt, List, [], ◌∷◌, length, get_or, sum, Option, Some, None, inl, inr, refl, sym, ◌∙◌, ap, subst, arith}
use Rattle.std.proofs.lemmas.Bool.{cases_lt, ltb-true}
use Rattle.std.proofs.lemmas.List.{length-map}
use Rattle.std.proofs.lemmas.Nat.{pow_pos}
use Rattle.density_rule.specs.Bounds.{upper_of}
use Rattle.density_rule.specs.Marks.{marks_step}
use Rattle.density_rule.specs.Ready.{ready_counts}
use Rattle.density_rule.specs.CountUpdates.{counts_after, charge_of}
use Rattle.header_gate.specs.declared.layout.Layout.{Layout}
use Rattle.header_gate.specs.Places.{height_limit}
use Rattle.map_model.specs.Store.{Update, bind, unbind, key_of, effect_by}
use Rattle.map_model.specs.After.{height_after}
use Rattle.map_model.specs.Array.{Array, rows, counts_of, segment_for}
use Rattle.map_model.specs.ArrayState.{ArrayState, IsSoundState, next_state, next_states}
use Rattle.map_model.specs.ArrayUpdates.{has_key, change_of, broken_for, place_for, array_after, marks_by_change, marks_after, effect_in, effect_change}
use Rattle.map_model.specs.Charges.{charge_after, effect_charge}
use Rattle.map_model.specs.Holding.{IsNext}
use Rattle.map_model.specs.ItemWords.{charge_after_items}
use Rattle.map_model.proofs.Changing.{some_there}
use Rattle.map_model.proofs.Readying.{broken_is, looked_in_store}
use Rattle.map_model.proofs.SessionLaws.{next_sound}
use Rattle.map_model.proofs.Spreading.{sum-counts}
use Rattle.map_model.proofs.Entries.{rows_ascend}
use Rattle.map_model.proofs.UpdateLaws.{next_after}
use Rattle.cost_ledger.specs.Potential.{potential}
use Rattle.cost_ledger.proofs.Paying.{paid_by_counts, potential_at_first}
use Rattle.command_text.specs.Session.{Session, session_from, session_step, potential_in, IsPaid}
use Rattle.command_text.specs.Updates.{updates_made}
use Rattle.command_text.specs.declared.command.Command.{Command}

charge_is : (hmax height : ℕ) (segments : Array) (u : Update) → charge_after hmax height segments u ≡ effect_charge (effect_in hmax segments u) height segments (key_of u)
unfolding charge_after
charge_is hmax height segments u = refl

module _ (hmax : ℕ) (s : ArrayState) (sound : IsSoundState hmax s) where
  low : s.height ≤ 16
  low = omega (arith, sound.holds.within.height_is, sound.holds.within.hmax_is)

  next : (u : Update) (o : Option Bool) → change_of hmax s.array u ≡ o → IsNext hmax o s.height s.array (key_of u) (height_after hmax s.height s.map u) (array_after hmax s.height s.array u)
  next u o is = subst (λ (o : Option Bool). IsNext hmax o s.height s.array (key_of u) (height_after hmax s.height s.map u) (array_after hmax s.height s.array u)) is (next_after hmax s.map s.height s.array sound.holds sound.balanced u)

  -- an update that leaves the counts
  quietly : (u : Update) → change_of hmax s.array u ≡ None → potential_in (next_state hmax s u) ≡ potential_in s
  quietly u is =
      let after = next u None is in
      let marks : marks_after hmax s.height s.array u s.marks ≡ s.marks = ap (λ (o : Option Bool). marks_by_change s.height s.array (key_of u) o s.marks) is in
      λ t. potential (after.height_is t) (sum (after.counts_are t)) (marks t)

  -- one that adds a record or takes one
  changing : (u : Update) (adds : Bool) → change_of hmax s.array u ≡ Some adds → (adds ≡ false → has_key s.array (key_of u) ≡ true) → (adds ≡ true → length (rows s.array) < upper_of hmax)
      → charge_of adds s.height (broken_for adds s.height s.array (key_of u)) + potential_in (next_state hmax s u) ≤ potential_in s + 514
  changing u adds is present room =
      let key = key_of u in
      let broken = broken_for adds s.height s.array (key_of u) in
      let at = place_for adds s.height s.array (key_of u) in
      let after = next u (Some adds) is in
      let ready = after.ready in
      let ascends = rows_ascend (rows s.array) s.map sound.holds.rows_are in
      let some : 0 < length s.array = omega (arith, sound.holds.size, pow_pos s.height) in
      let size : length (counts_of s.array) ≡ 2 ^ s.height = length-map s.array length ∙ sound.holds.size in
      let marks : marks_after hmax s.height s.array u s.marks ≡ marks_step adds s.height (segment_for s.array (key_of u)) (broken_for adds s.height s.array (key_of u)) (place_for adds s.height s.array (key_of u)) s.marks = ap (λ (o : Option Bool). marks_by_change s.height s.array (key_of u) o s.marks) is in
      let counts : counts_of (array_after hmax s.height s.array u) ≡ counts_after adds (ready_counts adds s.height (counts_of s.array) (segment_for s.array (key_of u)) (broken_for adds s.height s.array (key_of u))) (place_for adds s.height s.array (key_of u)) =
      after.counts_are ∙ ap (λ (cs : List ℕ). counts_after adds cs (place_for adds s.height s.array (key_of u))) ready.counts_are in
      let paid = paid_by_counts s.height (counts_of s.array) (segment_for s.array (key_of u)) adds low size (looked_in_store adds s.height s.array (key_of u) sound.holds.size ascends)
      (λ takes. some_there s.array (key_of u) some ascends (present takes)) sound.balanced may_grow s.marks sound.drift broken (broken_is adds s.height s.array (key_of u)) at ready.in_store
      (λ takes. subst (λ (cs : List ℕ). 1 ≤ get_or cs (place_for adds s.height s.array (key_of u)) 0) ready.counts_are (ready.some takes)) in
      subst (λ (n : ℕ). charge_of adds s.height (broken_for adds s.height s.array (key_of u)) + n ≤ potential_in s + 514) (sym (λ t. potential (after.height_is t) (sum (counts t)) (marks t))) paid
    where
      may_grow : adds ≡ true → upper_of s.height < sum (counts_of s.array) + 1 → s.height + 1 ≤ 16
      may_grow more over = elim (cases_lt s.height hmax) [
        | inl lt ↦ omega (arith, sound.holds.within.hmax_is, lt)
        | inr ge ↦ let top : upper_of s.height ≡ upper_of hmax = ap (λ (h : ℕ). upper_of h) (omega (arith, ge, sound.holds.within.height_is)) in absurd (omega (arith, over, room more, top, sum-counts s.array))
      ]

  pub paid_state : (u : Update) → charge_after hmax s.height s.array u + potential_in (next_state hmax s u) ≤ potential_in s + 514
  paid_state (bind key value) = subst (λ (n : ℕ). n + potential_in (next_state hmax s (bind key value)) ≤ potential_in s + 514) (sym (charge_is hmax s.height s.array (bind key value))) (by_tests (has_key s.array key) (nat_lt (length (rows s.array)) (upper_of hmax)) refl refl)
    where
      by_tests : (b c : Bool) → has_key s.array key ≡ b → nat_lt (length (rows s.array)) (upper_of hmax) ≡ c → effect_charge (effect_by b c (bind key value)) s.height s.array key + potential_in (next_state hmax s (bind key value)) ≤ potential_in s + 514
      by_tests true c p q = let same = quietly (bind key value) (λ t. effect_change (effect_by (p t) (nat_lt (length (rows s.array)) (upper_of hmax)) (bind key value))) in omega (arith, same)
      by_tests false true p q = changing (bind key value) true (λ t. effect_change (effect_by (p t) (q t) (bind key value))) (λ f. absurd cc) (λ _. ltb-true (length (rows s.array)) (upper_of hmax) q)
      by_tests false false p q = let same = quietly (bind key value) (λ t. effect_change (effect_by (p t) (q t) (bind key value))) in omega (arith, same)
  paid_state (unbind key) = subst (λ (n : ℕ). n + potential_in (next_state hmax s (unbind key)) ≤ potential_in s + 514) (sym (charge_is hmax s.height s.array (unbind key))) (by_test (has_key s.array key) refl)
    where
      by_test : (b : Bool) → has_key s.array key ≡ b → effect_charge (effect_by b (nat_lt (length (rows s.array)) (upper_of hmax)) (unbind key)) s.height s.array key + potential_in (next_state hmax s (unbind key)) ≤ potential_in s + 514
      by_test true p = changing (unbind key) false (ap (λ (b : Bool). effect_change (effect_by b (nat_lt (length (rows s.array)) (upper_of hmax)) (unbind key))) p) (λ _. p) (λ f. absurd cc)
      by_test false p = let same = quietly (unbind key) (ap (λ (b : Bool). effect_change (effect_by b (nat_lt (length (rows s.array)) (upper_of hmax)) (unbind key))) p) in omega (arith, same)

-- so are items
paid_items : (hmax : ℕ) (s : ArrayState) → IsSoundState hmax s → (us : List Update) → charge_after_items hmax s us + potential_in (next_states hmax s us) ≤ potential_in s + 514 * length us
paid_items hmax s sound [] = omega arith
paid_items hmax s sound (u ∷ us) =
    let here = paid_state hmax s sound u in
    let rest = paid_items hmax (next_state hmax s u) (next_sound hmax s sound u) us in
    omega (arith, here, rest)

-- and so is a session
pub paid_first : (s : ArrayState) → s.height ≤ 16 → IsPaid (session_from s)
paid_first s low = omega (arith, potential_at_first s.height (sum (counts_of s.array)) s.marks low)

more_given : (given updates more : ℕ) → 514 * (updates + more) + given ≡ 514 * updates + given + 514 * more
more_given given updates more = omega arith

pub paid_next : (l : Layout) (x : Session) (c : Command) → IsSoundState (height_limit l) x.store → IsPaid x → IsPaid (session_step l x c)
paid_next l x c sound paid =
    let us = updates_made l x.store.map c in
    let given = 32 * (x.ledger.start + 1) * 2 ^ x.ledger.start in
    omega (arith, paid, paid_items (height_limit l) x.store sound us, more_given given x.ledger.updates (length us))

-- The record of a key is passed, where no record ahead is below the key.
use Rattle.std.proofs.Common.{◌≡◌, inl, inr, ◌<◌, Bool, true, false, cond, List, [], ◌∷◌, drop, length, slice_get, Option, Some, refl, sym, ap, subst, ◌∙◌, arith, ◌+◌, if◌then◌else◌}
use Rattle.std.proofs.lemmas.Bool.{cases_lt}
use Rattle.std.specs.declared.cmp.Ordering.TheVariants.{Less, Equal, Greater}
use Rattle.std.specs.Ordering.{is_lt, is_eq}
use Rattle.station.specs.View.{View}
use Rattle.key_slot.specs.Record.{Bytes, Record, key_cmp, IsAscending}
use Rattle.key_slot.proofs.Truth.{equal, passes}
use Rattle.key_slot.proofs.Ordered.{less_back}
use Rattle.map_model.specs.Array.{Array}
use Rattle.map_model.specs.FileReasons.{begins_above}
use Rattle.range_scan.proofs.Amid.{drop_at}
use Rattle.redo_journal.specs.declared.place.Place.{Place}
use Rattle.bulk_load.specs.declared.ahead.Ahead.{Ahead}
use Rattle.bulk_load.specs.Ahead.{IsAbove, ReadsLive, StopsAt, at_hand, begins_under, begins_with, left_in, passed, hand}
use Rattle.bulk_load.specs.MergeText.{above}
use Rattle.bulk_load.proofs.AheadLaws.{above_first, above_passed, hand_none, hand_some, left_is, left_over, left_with, still_above}
use Rattle.bulk_load.proofs.AmidLaws.{live_passed}
use Rattle.bulk_load.proofs.MergeLaws.{order, same_key}

true_false : true ≡ false → ⊥
true_false e = cc

-- a record that is neither below a key nor has it is above it
upper : (k r : Bytes) → is_lt (key_cmp r k) ≡ false → is_eq (key_cmp r k) ≡ false → is_lt (key_cmp k r) ≡ true
upper k r low same =
    elim (key_cmp r k) as (λ o. key_cmp r k ≡ o → is_lt (key_cmp k r) ≡ true) [
      | Less ↦ λ p. absurd (true_false (ap is_lt (sym p) ∙ low))
      | Equal ↦ λ p. absurd (true_false (ap is_eq (sym p) ∙ same))
      | Greater ↦ λ p. ap is_lt (less_back order r k p)
    ] refl

module _ (place : Place) (h : Ahead) (v : View) (live : ReadsLive place h v) (k : Bytes) (stops : StopsAt (Some k) h) where
  met_at : begins_with k (at_hand h) ≡ true → (r : Record) × (slice_get h.page.rows h.index ≡ Some r) × (r.0 ≡ k) × (h.index < length h.page.rows)
  met_at met = elim (cases_lt h.index (length h.page.rows)) [
    | inl lt ↦ by (hand_some h.index h.page.rows lt) lt
    | inr ge ↦ absurd (true_false (sym met ∙ ap (begins_with k) (hand_none h.index h.page.rows (omega (arith, ge, live.ahead.taken)))))
  ]
    where
      by : (r : Record) × (slice_get h.page.rows h.index ≡ Some r) → h.index < length h.page.rows → (r : Record) × (slice_get h.page.rows h.index ≡ Some r) × (r.0 ≡ k) × (h.index < length h.page.rows)
      by s lt = (s.0, s.1, same_key s.0.0 k (equal _ (passes _ (ap (begins_with k) (sym (drop_at h.page.rows h.index s.0 s.1)) ∙ met))), lt)

  unmet : begins_with k (at_hand h) ≡ false → IsAbove (Some k) h
  unmet isnt = record { here = by (at_hand h) stops.here isnt; onward = λ none more rs behind. absurd (more (stops.all none)) }
    where
      by : (l : List Record) → begins_under (Some k) l ≡ false → begins_with k l ≡ false → begins_above (Some k) l ≡ true
      by [] low same = refl
      by (r ∷ l) low same = upper k r.0 low same

  -- by whether it is there
  abbrev after : Bool → Ahead
  after met = cond met (passed h) h

  pub pass_live : (met : Bool) → begins_with k (at_hand h) ≡ met → ReadsLive place (after met) v
  pass_live true is = live_passed place h v (met_at is).3 live
  pass_live false is = live

  pub pass_above : (met : Bool) → begins_with k (at_hand h) ≡ met → IsAbove (Some k) (after met)
  pass_above true is = let m = met_at is in subst (λ (x : Bytes). IsAbove (Some x) (passed h)) m.2 (above_passed place h live.ahead m.0 m.1)
  pass_above false is = unmet is

  pub pass_still : (met : Bool) → begins_with k (at_hand h) ≡ met → (key : Option Bytes) → IsAbove key h → IsAbove key (after met)
  pass_still true is key was = let m = met_at is in still_above place h live.ahead m.0 m.1 key was
  pass_still false is key was = was

  pub pass_left : (segments : Array) → h.reader.end ≡ length segments → IsAscending (left_in segments h) → (met : Bool) → begins_with k (at_hand h) ≡ met → left_in segments (after met) ≡ above k (left_in segments h)
  pass_left segments end up met is = sym (above_first k (left_in segments h) up (left_over segments h end (Some k) stops) ∙ ap (λ (b : Bool). cond b (drop 1 (left_in segments h)) (left_in segments h)) (left_with segments h end (Some k) stops k ∙ is) ∙ by met is)
    where
      by : (met : Bool) → begins_with k (at_hand h) ≡ met → cond met (drop 1 (left_in segments h)) (left_in segments h) ≡ left_in segments (after met)
      by true is = let m = met_at is in ap (λ (l : List Record). drop 1 l) (left_is place h live.ahead m.0 m.1 segments)
      by false is = refl

  pub pass_hand : (met : Bool) → begins_with k (at_hand h) ≡ met → hand (after met) + (if met then 1 else 0) ≡ hand h
  pass_hand true is = omega (arith, (met_at is).3)
  pass_hand false is = omega arith

  pub pass_reader : (met : Bool) → (after met).reader ≡ h.reader
  pass_reader true = refl
  pass_reader false = refl

  pub pass_tally : (met : Bool) → (after met).tally.now ≡ h.tally.now
  pass_tally true = refl
  pass_tally false = refl

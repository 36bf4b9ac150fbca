-- An opening keeps the intent of a file, and what the file means.
use Rattle.std.proofs.Common.{◌≡◌, ⊎_elim, ℕ, ◌+◌, ◌%◌, ◌<◌, ◌==◌, ◌&&◌, nat_le, cond, List, [], sym, ap, subst, ◌∙◌, arith}
use Rattle.station.specs.Bytes.{byte}
use Rattle.header_gate.specs.declared.layout.Layout.{Layout}
use Rattle.header_gate.specs.declared.layout.TheConstants.{INTENT_VERSION}
use Rattle.header_gate.specs.Header.{layout_in, live_copy, number, IsGatePlace}
use Rattle.header_gate.specs.Places.{copy_place}
use Rattle.header_gate.proofs.NumberLaws.{number_same}
use Rattle.map_model.specs.Store.{Map}
use Rattle.map_model.specs.Image.{Represents, slot_format}
use Rattle.redo_journal.specs.Commit.{IsJournalPlace, IsRegionPlace}
use Rattle.batch_intent.specs.Means.{Means, waiting, KeepsIntent, IsApart}
use Rattle.batch_intent.specs.Spelling.{Spells, items_in}
use Rattle.batch_intent.specs.Gate.{has_intent}
use Rattle.batch_intent.proofs.Meanings.{update_keeps, waiting_kept, area_kept}
use Rattle.recovery.specs.Restores.{Opens, Restores}
use Rattle.recovery.proofs.Bringing.{opens_restored}

-- A file with the same intent.

-- it has the same items
pub items_same : (old new : List ℕ) → KeepsIntent old new → waiting new ≡ waiting old
unfolding waiting
items_same old new keeps t = cond (waiting_kept old new keeps t) (items_in (area_kept old new keeps t)) []

module _ (old new : List ℕ) (keeps : KeepsIntent old new) where
  has_same : (l : Layout) → has_intent l new ≡ has_intent l old
  has_same l t = nat_le INTENT_VERSION l.version && (keeps.gate_is t == 1)

  -- where it represents what it represented, it means what it meant
  pub means_kept : {l : Layout} (m : Map) → ((base : Map) (height : ℕ) → Represents old base height → Represents new base height) → Means l old m → Means l new m
  means_kept {l} m represents means = record {
    layout_is = keeps.layout_is ∙ means.layout_is;
    height = means.height;
    base = means.base;
    items = means.items;
    represents = represents means.base means.height means.represents;
    idle = λ none. means.idle (sym (has_same l) ∙ none);
    form = λ some. subst (Spells l.format means.items) (sym (area_kept old new keeps)) (means.form (sym (has_same l) ∙ some));
    admitted = means.admitted;
    begins = means.begins;
    begins_is = means.begins_is;
    map_is = means.map_is;
  }

-- An opening.

apart_gate : (k : ℕ) → IsGatePlace k → IsApart k
apart_gate k is = record { identity = λ x. omega (arith, is, x.0); intent = λ x. ⊎_elim (λ there. omega (arith, is, there.0)) (λ there. omega (arith, is, there)) x }

apart_region : (l : Layout) (k : ℕ) → IsRegionPlace l k → IsApart k
apart_region l k is = record { identity = λ x. omega (arith, is.0, x.1); intent = λ x. ⊎_elim (λ there. omega (arith, is.0, there.1)) (λ there. omega (arith, is.0, there)) x }

apart_journal : (l : Layout) (k : ℕ) → IsJournalPlace l k → IsApart k
apart_journal l k is = record { identity = λ x. omega (arith, is.0, x.1); intent = λ x. ⊎_elim (λ there. omega (arith, is.0, there.1)) (λ there. omega (arith, is.0, there)) x }

module _ (old new : List ℕ) (opens : Opens old new) where
  -- the bytes of the header page stay, but for the journal's gate
  in_page : (k : ℕ) → ¬ IsGatePlace k → k < 4096 → byte new k ≡ byte old k
  in_page k other lt = opens.touched.rest k (λ x. ⊎_elim other (λ y. ⊎_elim (λ journal. omega (arith, journal.0, lt)) (λ region. omega (arith, region.0, lt)) y) x)

  live_same : live_copy new ≡ live_copy old
  live_same = ap (λ (b : ℕ). b % 2) (in_page 0 (λ is. omega (arith, is)) (omega arith))

  format_same : slot_format new ≡ slot_format old
  format_same =
      let place = copy_place (live_copy old) + 4 in
      ap (λ (copy : ℕ). number new (copy_place copy + 4)) live_same
      ∙ number_same new old place place (λ n x y lt ex ey.
      let e : x ≡ y = omega (arith, ex, ey) in
      in_page x (λ is. omega (arith, is, ex, lt)) (omega (arith, ex, lt)) ∙ ap (byte old) e)

  pub opens_keeps : KeepsIntent old new
  opens_keeps = update_keeps old new format_same (record {
    size = opens.touched.size;
    rest = λ k out. opens.touched.rest k (λ x. out (⊎_elim (apart_gate k) (λ y. ⊎_elim (apart_journal (layout_in old) k) (apart_region (layout_in old) k) y) x));
  })

  pub opens_means : {l : Layout} (m : Map) → Means l old m → Means l new m
  opens_means m means = means_kept old new opens_keeps m opens.map means

-- and before it is known that nothing is wrong with the file
pub restores_keeps : (old new : List ℕ) → Restores old new → KeepsIntent old new
restores_keeps old new restores = opens_keeps old new (opens_restored old new restores)

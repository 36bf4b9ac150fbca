-- A station at rest stays so while bytes change that neither gate, journals nor regions have, as those of an intent.
use Rattle.std.proofs.Common.{◌≡◌, ◌⊎◌, ⊎_elim, inl, ℕ, zero, suc, ◌+◌, ◌*◌, ◌^◌, ◌<◌, ◌≤◌, List, length, get_or, refl, sym, ◌∙◌, ap, subst, arith}
use Rattle.std.specs.Prelude.{◌%◌}
use Rattle.station.specs.Bytes.{byte, Touched}
use Rattle.station.specs.View.{View, Lawful, NothingPending}
use Rattle.station.specs.Steps.{Steps}
use Rattle.station.proofs.Composition.{told_back}
use Rattle.header_gate.specs.declared.layout.Layout.{Layout}
use Rattle.header_gate.specs.Header.{live_copy, gate}
use Rattle.header_gate.specs.InPlace.{IsDone}
use Rattle.header_gate.specs.Places.{page_size, table_place, image_place, region_place, area_place}
use Rattle.header_gate.specs.Recovered.{live_table, IsTableOf}
use Rattle.header_gate.proofs.Shifts.{shift_most}
use Rattle.redo_journal.specs.Rest.{RestsAt}
use Rattle.redo_journal.proofs.Live.{same_live, same_shift, same_laid, rest_nothing, rests_by}

-- a place that neither journals nor regions have
abbrev pub IsOutsideAll : Layout → ℕ → Type 0
IsOutsideAll l p = (p < table_place) ⊎ (area_place l ≤ p)

in_region : (l : Layout) (copy n o : ℕ) → copy < 2 → n < 2 ^ l.hmax → o < page_size → IsOutsideAll l (region_place l copy + page_size * n + o) → ⊥
in_region l zero n o small below inner out = ⊎_elim (λ before. omega (arith, before)) (λ behind. omega (arith, behind, below, inner)) out
in_region l (suc zero) n o small below inner out = ⊎_elim (λ before. omega (arith, before)) (λ behind. omega (arith, behind, below, inner)) out
in_region l (suc (suc copy)) n o small below inner out = absurd (omega (arith, small))

module _ (l : Layout) (X : ℕ → Type 0) (selector : X 0 → ⊥) (at_gate : X 512 → ⊥) (apart : (p : ℕ) → X p → IsOutsideAll l p) where
  done_apart : (d i : List ℕ) → Touched X d i → IsDone l d → IsDone l i
  done_apart d i touched done laid =
      let gate_is : gate i ≡ gate d = ap (λ (b : ℕ). b % 2) (touched.rest 512 at_gate) in
      let same = same_live l X d i touched gate_is selector (λ p x live. ⊎_elim (λ before. omega (arith, before, live.0)) (λ behind. omega (arith, behind, live.1, shift_most l (gate d))) (apart p x)) in
      let is = done (sym (same_laid l d i gate_is) ∙ laid) in
      let table : live_table l i ≡ live_table l d = same.table is.table.most_is in
      record {
        table = subst (IsTableOf l.journal (2 ^ l.hmax)) (sym table) is.table;
        pages = λ j o below inner.
            let below_d : j < length (live_table l d) = omega (arith, below, ap length table) in
            let q = region_place l (live_copy d) + page_size * get_or (live_table l d) j 0 + o in
            (λ t. byte i (region_place l (same.copy t) + page_size * get_or (table t) j 0 + o))
            ∙ touched.rest q (λ x. in_region l (live_copy d) (get_or (live_table l d) j 0) o (omega arith) (is.table.below j 0 below_d) inner (apart q x))
            ∙ is.pages j o below_d inner
            ∙ sym (same.images j o (omega (arith, below_d, is.table.most_is)) inner)
            ∙ ap (λ (s : ℕ). byte i (image_place l j + s + o)) (sym (same_shift l d i gate_is));
      }

  pub rests_apart : {a b : View} (n : ℕ) → Lawful b → RestsAt l n a → NothingPending b → Steps (Touched X) a b → RestsAt l n b
  rests_apart {a} {b} n law rests nothing ab =
      rests_by l n law ab.frame
      (rest_nothing l b nothing (λ told_b. let told = told_back ab.frame told_b in done_apart a.held b.held (ab.held told) (rests.rest.done told)))
      rests.single
      (λ told. ap (λ (x : ℕ). x % 2) ((ab.held told).rest 512 at_gate) ∙ rests.gates a.held (inl (told, refl)))

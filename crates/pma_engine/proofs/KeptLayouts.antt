-- What keeps the layout of a file.
use Rattle.std.proofs.Common.{◌≡◌, inl, inr, false, ℕ, ◌+◌, ◌%◌, ◌<◌, ◌≤◌, List, length, Option, Some, None, refl, sym, ◌∙◌, ap, arith}
use Rattle.std.proofs.lemmas.Bool.{cases_lt}
use Rattle.std.proofs.lemmas.List.{get_or_past}
use Rattle.station.specs.Bytes.{byte}
use Rattle.station.specs.View.{View, Fixed, Told, Honest, EachHeld, Lawful, attached_by}
use Rattle.station.specs.Steps.{Steps, Says, LeavesOnly}
use Rattle.station.proofs.Composition.{told_on}
use Rattle.station.proofs.Sayings.{leaves_in, leaves_on}
use Rattle.header_gate.specs.declared.layout.Layout.{Layout}
use Rattle.header_gate.specs.declared.reason.Reason.{Reason}
use Rattle.header_gate.specs.Header.{number, live_copy, format_in, layout_in}
use Rattle.header_gate.specs.Places.{copy_place, page_size}
use Rattle.header_gate.specs.Recovered.{recovered}
use Rattle.header_gate.proofs.NumberLaws.{number_same}
use Rattle.header_gate.proofs.RecoveredPages.{recovered_page}
use Rattle.batch_intent.specs.Means.{meant_map, opening_reason}
use Rattle.batch_intent.proofs.OpeningReasons.{means_of_none}
use Rattle.pma_store.specs.Opens.{OpensMeant}
use Rattle.pma_engine.specs.Jobs.{KeepsLayout}
use Rattle.pma_engine.specs.RunOpening.{Reopens}
use Rattle.pma_engine.specs.Serving.{HasLayout}

-- the same header page, but for the gate, names the same layout
page_layout : (old new : List ℕ) → ((k : ℕ) → k < page_size → (k ≡ 512 → ⊥) → byte new k ≡ byte old k) → layout_in new ≡ layout_in old
page_layout old new same = λ t. record { hmax = behind 3084 (omega arith) (omega arith) t; journal = behind 3088 (omega arith) (omega arith) t; version = behind 3080 (omega arith) (omega arith) t; format = format t }
  where
    behind : (k : ℕ) → 513 ≤ k → k + 4 ≤ page_size → number new k ≡ number old k
    behind k low high = number_same new old k k (λ n x y lt ex ey. let e : x ≡ y = omega (arith, ex, ey) in same x (omega (arith, ex, lt, high)) (λ at. omega (arith, at, ex, low)) ∙ ap (byte old) e)

    live : live_copy new ≡ live_copy old
    live = ap (λ (b : ℕ). b % 2) (same 0 (omega arith) (λ e. omega (arith, e)))

    format : format_in (live_copy new) new ≡ format_in (live_copy old) old
    format = behind (copy_place (live_copy new) + 4) (omega arith) (omega arith) ∙ ap (λ (c : ℕ). number old (copy_place c + 4)) live

-- files of one length that recover to the same image have the same page
recovered_layout : (l : Layout) (old new : List ℕ) → length new ≡ length old → recovered l new ≡ recovered l old → layout_in new ≡ layout_in old
recovered_layout l old new size is = page_layout old new (λ k low other. elim (cases_lt k (length old)) [
  | inl lt ↦ sym (recovered_page l new k (omega (arith, lt, size)) low other) ∙ ap (λ (x : List ℕ). byte x k) is ∙ recovered_page l old k lt low other
  | inr past ↦ get_or_past new k 0 (omega (arith, past, size)) ∙ sym (get_or_past old k 0 past)
])

-- an opening keeps the layout, of whatever file
pub meant_layout : (old new : List ℕ) → OpensMeant old new → layout_in new ≡ layout_in old
meant_layout old new meant = by (opening_reason old) refl
  where
    by : (o : Option Reason) → opening_reason old ≡ o → layout_in new ≡ layout_in old
    by None is = (meant.means (layout_in old) (meant_map old) (means_of_none old is)).layout_is
    by (Some r) is = recovered_layout (layout_in old) old new meant.touched.size (meant.recovers r is)

-- a saying behind calls that kept it
pub layout_said : {a b d : View} {text : List ℕ} (l : Layout) → Lawful a → Lawful b → b.fixed ≡ a.fixed → a.calls ≤ b.calls → EachHeld (λ image. layout_in image ≡ l) a → HasLayout l a b → Says text b d → HasLayout l a d
layout_said {a} {b} {d} l law law_b fixed calls each kept says = record {
  held = λ told. ap layout_in says.held ∙ kept.held told;
  moments =
      leaves_on (λ image said. layout_in image ≡ l) fixed calls kept.moments says.moments (λ honest image said is. is) (λ honest_a image said now.
      let honest_b : Honest b = ap (λ (f : Fixed). f.honest) fixed ∙ honest_a in
      elim (kept.moments.each honest_a a.calls image b.said (omega arith) (law_b.now honest_b a.calls image calls now.0)) [
        | inl past ↦ each image (inr (honest_a, (law.present honest_a image b.said past).0))
        | inr is ↦ is
      ]);
}

-- From before the attach on.

-- of an opening
pub layout_reopened : (a b : View) → Steps Reopens (attached_by false a) b → KeepsLayout a b
layout_reopened a b ab =
    let moments : LeavesOnly (λ image said. (start : List ℕ) × a.may_leave start × (layout_in image ≡ layout_in start)) (attached_by false a) b =
    leaves_in (λ image said. (start : List ℕ) × a.may_leave start × (layout_in image ≡ layout_in start)) ab.moments (λ honest image said now. (now.1.0, now.1.1, now.1.2.layout)) in
    record { held = λ told. (ab.held told).layout; moments = record { each = moments.each } }

-- of one behind which a line was said
pub layout_refused : {text : List ℕ} (a b d : View) → Steps Reopens (attached_by false a) b → Says text b d → KeepsLayout a d
layout_refused a b d ab says =
    let moments : LeavesOnly (λ image said. (start : List ℕ) × a.may_leave start × (layout_in image ≡ layout_in start)) (attached_by false a) d =
    leaves_on (λ image said. (start : List ℕ) × a.may_leave start × (layout_in image ≡ layout_in start)) ab.frame.fixed ab.frame.calls ab.moments says.moments
    (λ honest image said now. (now.1.0, now.1.1, now.1.2.layout))
    (λ honest image said now. let at = ab.images honest image now.0 in (at.0, at.1, at.2.layout)) in
    record { held = λ told. ap layout_in says.held ∙ (ab.held told).layout; moments = record { each = moments.each } }

-- of a run over the store that was opened
pub layout_ran : (l : Layout) (a b d : View) → Lawful a → Steps Reopens (attached_by false a) b → (Told a → l ≡ layout_in a.held) → HasLayout l b d → KeepsLayout a d
layout_ran l a b d law ab same kept =
    let moments : LeavesOnly (λ image said. (start : List ℕ) × a.may_leave start × (layout_in image ≡ layout_in start)) (attached_by false a) d =
    leaves_on (λ image said. (start : List ℕ) × a.may_leave start × (layout_in image ≡ layout_in start)) ab.frame.fixed ab.frame.calls ab.moments kept.moments
    (λ honest image said now. (now.1.0, now.1.1, now.1.2.layout))
    (λ honest image said is. (a.held, law.held honest, is ∙ same (law.tells honest).0)) in
    record { held = λ told. kept.held (told_on ab.frame told) ∙ same told; moments = record { each = moments.each } }

-- Reads of the index that go on from each other.
use Rattle.std.proofs.Common.{◌≡◌, ℕ, ◌+◌, ◌-◌, ◌*◌, ◌^◌, ◌≤◌, Bool, true, false, cond, refl, sym, ap, ◌∙◌, arith, inl, inr}
use Rattle.std.specs.Prelude.{◌==◌, Result, Ok, Err, Option, Some, None, IfOk, IfErr, IfSome, IsNone}
use Rattle.std.proofs.Math.Pow.{pow_mono}
use borrow.Author.Tests.{eqb-true, eq-eqb}
use Rattle.std.proofs.lemmas.Bool.{cases_lt}
use Rattle.station.specs.View.{after_read}
use Rattle.station.specs.declared.travel.Travel.{Travel}
use Rattle.header_gate.specs.declared.layout.Layout.{Layout}
use Rattle.header_gate.specs.Places.{area_size, page_size}
use Rattle.range_scan.proofs.Walks.{read_on}
use Rattle.index_file.specs.Area.{node_place, count_place}
use Rattle.index_file.specs.IndexReading.{after_part, after_nodes, after_area, IsFrontRead, IsAreaFront}
use Rattle.index_file.proofs.AreaLaws.{area_room}
use Rattle.recovery.specs.declared.fault.OpenFault.{OpenFault}
use Rattle.recovery.specs.declared.parts.Parts.{Parts}
use Rattle.index_file.specs.IndexOpening.{after_quick}

-- no bytes
pub part_none : (place n : ℕ) (t : Travel) → n ≡ 0 → after_part place n t ≡ t
part_none place n t none = ap (λ (b : Bool). cond b t (after_read place n t)) (eq-eqb n 0 none)

-- some bytes
pub part_some : (place n : ℕ) (t : Travel) → 1 ≤ n → after_part place n t ≡ after_read place n t
part_some place n t some = by_test (n == 0) refl
  where
    by_test : (b : Bool) → (n == 0) ≡ b → cond b t (after_read place n t) ≡ after_read place n t
    by_test true is = absurd (omega (arith, some, eqb-true n 0 is))
    by_test false is = refl

-- bytes behind those that were read
pub part_on : (place n m : ℕ) (t : Travel) → 1 ≤ m → after_read (place + n) m (after_part place n t) ≡ after_part place (n + m) t
part_on place n m t more = elim (cases_lt 0 n) [
  | inl some ↦ ap (after_read (place + n) m) (part_some place n t some) ∙ read_on place n m t ∙ sym (part_some place (n + m) t (omega (arith, more)))
  | inr few ↦
      let none : n ≡ 0 = omega (arith, few) in
      ap (after_read (place + n) m) (part_none place n t none)
      ∙ ap (λ (p : ℕ). after_read p m t) {x = place + n} {y = place} (omega (arith, none))
      ∙ sym (part_some place m t more)
      ∙ ap (λ (k : ℕ). after_part place k t) {x = m} {y = n + m} (omega (arith, none))
]

-- a piece of nodes, and one of counts
pub nodes_on : (l : Layout) (first count : ℕ) (s t u : Travel) → 1 ≤ count → t ≡ after_part (node_place l 0) (64 * first) s → u ≡ after_read (node_place l first) (64 * count) t → u ≡ after_part (node_place l 0) (64 * (first + count)) s
nodes_on l first count s t u some before now =
    now
    ∙ ap (after_read (node_place l first) (64 * count)) before
    ∙ ap (λ (p : ℕ). after_read p (64 * count) (after_part (node_place l 0) (64 * first) s)) {x = node_place l first} {y = node_place l 0 + 64 * first} (omega arith)
    ∙ part_on (node_place l 0) (64 * first) (64 * count) s (omega (arith, some))
    ∙ ap (λ (n : ℕ). after_part (node_place l 0) n s) {x = 64 * first + 64 * count} {y = 64 * (first + count)} (omega arith)

pub counts_on : (l : Layout) (first count : ℕ) (s t u : Travel) → 1 ≤ count → t ≡ after_part (count_place l 0) (4 * first) s → u ≡ after_read (count_place l first) (4 * count) t → u ≡ after_part (count_place l 0) (4 * (first + count)) s
counts_on l first count s t u some before now =
    now
    ∙ ap (after_read (count_place l first) (4 * count)) before
    ∙ ap (λ (p : ℕ). after_read p (4 * count) (after_part (count_place l 0) (4 * first) s)) {x = count_place l first} {y = count_place l 0 + 4 * first} (omega arith)
    ∙ part_on (count_place l 0) (4 * first) (4 * count) s (omega (arith, some))
    ∙ ap (λ (n : ℕ). after_part (count_place l 0) n s) {x = 4 * first + 4 * count} {y = 4 * (first + count)} (omega arith)

-- nothing was read yet
pub none_read : (place size : ℕ) (t : Travel) → IsFrontRead place size t t
none_read place size t = record { bytes = 0; most = omega arith; now_is = refl }

-- Reads write nothing.

pub part_written : (place n : ℕ) (t : Travel) → (after_part place n t).written ≡ t.written
part_written place n t = elim (cases_lt 0 n) [
  | inl some ↦ ap (λ (u : Travel). u.written) (part_some place n t some)
  | inr few ↦ ap (λ (u : Travel). u.written) (part_none place n t (omega (arith, few)))
]

pub area_written : (l : Layout) (h : ℕ) (t : Travel) → (after_area l h t).written ≡ t.written
area_written l h t = part_written (count_place l 0) (4 * 2 ^ h) (after_nodes l h t) ∙ part_written (node_place l 0) (64 * (2 ^ h - 1)) t

pub front_written : (l : Layout) (h : ℕ) (s t : Travel) → IsAreaFront l h s t → t.written ≡ s.written
front_written l h s t (inl nodes) = ap (λ (u : Travel). u.written) nodes.now_is ∙ part_written (node_place l 0) nodes.bytes s
front_written l h s t (inr counts) = ap (λ (u : Travel). u.written) counts.now_is ∙ part_written (count_place l 0) counts.bytes (after_nodes l h s) ∙ part_written (node_place l 0) (64 * (2 ^ h - 1)) s

pub unwritten_by : (r : Result (Option Parts) OpenFault) (l : Layout) (h : ℕ) (s t : Travel) → IfOk r (λ given. IfSome given (λ parts. t ≡ after_area parts.place.layout parts.tally.height s))
    → IfOk r (λ given. IsNone given → t ≡ s) → IfErr r (λ e. IsAreaFront l h s t) → t.written ≡ s.written
unwritten_by (Ok (Some parts)) l h s t all none front = ap (λ (u : Travel). u.written) all ∙ area_written parts.place.layout parts.tally.height s
unwritten_by (Ok None) l h s t all none front = ap (λ (u : Travel). u.written) (none refl)
unwritten_by (Err e) l h s t all none front = front_written l h s t front

-- The bytes that a quick opening reads: no more than the header page and the index.

part_read : (place n : ℕ) (t : Travel) → (after_part place n t).read ≤ t.read + n
part_read place n t = elim (cases_lt 0 n) [
  | inl some ↦ omega (arith, ap (λ (u : Travel). u.read) (part_some place n t some))
  | inr few ↦ omega (arith, ap (λ (u : Travel). u.read) (part_none place n t (omega (arith, few))))
]

pub quick_read : (l : Layout) (h : ℕ) (t : Travel) → 3 ≤ l.version → h ≤ l.hmax → (after_quick l h t).read ≤ t.read + (page_size + area_size l)
quick_read l h t version low =
    let more : 2 ^ h ≤ 2 ^ l.hmax = pow_mono low in
    omega (arith, part_read (count_place l 0) (4 * 2 ^ h) (after_nodes l h (after_read 0 page_size t)), part_read (node_place l 0) (64 * (2 ^ h - 1)) (after_read 0 page_size t), area_room l version, more)

-- and where it opens nothing, a front of these
pub front_read : (l : Layout) (h : ℕ) (t u : Travel) → 3 ≤ l.version → h ≤ l.hmax → IsAreaFront l h (after_read 0 page_size t) u → u.read ≤ t.read + (page_size + area_size l)
front_read l h t u version low (inl nodes) =
    let more : 2 ^ h ≤ 2 ^ l.hmax = pow_mono low in
    omega (arith, ap (λ (v : Travel). v.read) nodes.now_is, part_read (node_place l 0) nodes.bytes (after_read 0 page_size t), nodes.most, area_room l version, more)
front_read l h t u version low (inr counts) =
    let more : 2 ^ h ≤ 2 ^ l.hmax = pow_mono low in
    omega (arith, ap (λ (v : Travel). v.read) counts.now_is, part_read (count_place l 0) counts.bytes (after_nodes l h (after_read 0 page_size t)), counts.most, part_read (node_place l 0) (64 * (2 ^ h - 1)) (after_read 0 page_size t), area_room l version, more)

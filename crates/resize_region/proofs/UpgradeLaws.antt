-- The height of an upgraded store: its segments have room for the records, which are within its bounds.
use Rattle.std.proofs.Common.{◌≡◌, inl, inr, List, length, ℕ, ◌+◌, ◌-◌, ◌*◌, ◌^◌, ◌≤◌, sum, sym, ap, subst, arith}
use Rattle.std.specs.Prelude.{Result, Err}
use Rattle.std.specs.FinMap.{len}
use Rattle.std.proofs.lemmas.Bool.{cases_lt}
use Rattle.std.proofs.Math.Nat.{mul-le-mul_right}
use Rattle.density_rule.specs.Bounds.{IsInBounds, upper_of, lower_of, least_of}
use Rattle.density_rule.proofs.Bounding.{least_of-some, least_of-le-lower_of, lower_of-rises}
use Rattle.header_gate.specs.declared.layout.Layout.{Layout}
use Rattle.header_gate.specs.Places.{height_limit, segment_size}
use Rattle.station.specs.View.{View, Told, Rose}
use Rattle.station.specs.Steps.{Steps}
use Rattle.key_slot.specs.declared.sizes.TheConstants.{SEGMENT_SLOTS}
use Rattle.map_model.specs.Array.{rows}
use Rattle.map_model.specs.Image.{array_of, map_of, height_of}
use Rattle.map_model.proofs.Entries.{length-rows}
use Rattle.map_model.proofs.Reasonings.{own_rows}
use Rattle.redo_journal.specs.declared.place.Place.{Place}
use Rattle.segment.specs.declared.fault.StoreFault.{StoreFault}
use Rattle.segment.specs.declared.fault.StoreFault.TheVariants.{Failed}
use Rattle.segment_frames.specs.FrameStanding.{StandsFor}
use Rattle.window_tally.specs.TallyView.{TallyView, IsTally}
use Rattle.window_tally.proofs.ViewLaws.{sum-few}
use Rattle.resize_region.specs.OldRows.{IsDamageIn}
use Rattle.resize_region.specs.Source.{Walks}
use Rattle.resize_region.specs.Upgraded.{Upgrades, widened, upgraded_height}
use Rattle.resize_region.specs.Widening.{SpreadsWide, widen_calls}
use Rattle.resize_region.proofs.OldRowLaws.{failed_is}

pub upgraded_low : (l : Layout) (height : ℕ) → upgraded_height l height ≤ height_limit (widened l)
upgraded_low l height = omega arith

-- records that a store of a height may have
few : (h n : ℕ) → n ≤ upper_of h → n ≤ SEGMENT_SLOTS * 2 ^ h
few h n le =
    let most : (SEGMENT_SLOTS - h) * 2 ^ h ≤ SEGMENT_SLOTS * 2 ^ h = mul-le-mul_right (2 ^ h) (omega arith) in
    omega (arith, le, most)

pub upgraded_room : (l : Layout) (t : TallyView) → IsTally t → sum t.counts ≤ upper_of (l.hmax - 1) → sum t.counts ≤ SEGMENT_SLOTS * 2 ^ upgraded_height l t.height
upgraded_room l t is le = elim (cases_lt (l.hmax - 1) t.height) [
  | inl above ↦
      let same : l.hmax - 1 ≡ upgraded_height l t.height = omega (arith, above) in
      subst (λ (h : ℕ). sum t.counts ≤ SEGMENT_SLOTS * 2 ^ h) same (few (l.hmax - 1) (sum t.counts) le)
  | inr low ↦
      let same : t.height ≡ upgraded_height l t.height = omega (arith, low) in
      subst (λ (h : ℕ). sum t.counts ≤ SEGMENT_SLOTS * 2 ^ h) same (omega (arith, sum-few t.counts is.capacity, is.size))
]

-- more than the least of a height is more than that of the height below
least : (k height n : ℕ) → height ≡ k + 1 → least_of height height ≤ n → least_of k k ≤ n
least k height n next le = omega (arith, le, least_of-some height height (omega (arith, next)), ap lower_of next, lower_of-rises k, least_of-le-lower_of k k)

pub upgraded_bounds : (l : Layout) (height n : ℕ) → height ≤ l.hmax → IsInBounds height height n → n ≤ upper_of (l.hmax - 1) → IsInBounds (upgraded_height l height) (upgraded_height l height) n
upgraded_bounds l height n limit bounds le = elim (cases_lt (l.hmax - 1) height) [
  | inl above ↦
      let same : l.hmax - 1 ≡ upgraded_height l height = omega (arith, above) in
      subst (λ (h : ℕ). IsInBounds h h n) same (record { least_is = least (l.hmax - 1) height n (omega (arith, above, limit)) bounds.least_is; most_is = le })
  | inr low ↦
      let same : height ≡ upgraded_height l height = omega (arith, low) in
      subst (λ (h : ℕ). IsInBounds h h n) same bounds
]

-- the bounds that an image keeps
pub own_bounds : (place : Place) (t : TallyView) (image : List ℕ) → StandsFor place t image → IsInBounds t.height t.height (length (rows (array_of image)))
own_bounds place t image stands =
    let is = stands.settled.represents in
    let total : len (map_of image) ≡ length (rows (array_of image)) = sym (length-rows (rows (array_of image)) (map_of image) (own_rows image (map_of image) (height_of image) is)) in
    subst (λ (h : ℕ). IsInBounds h h (length (rows (array_of image)))) stands.height_is (record { least_is = omega (arith, total, is.least_is); most_is = omega (arith, total, is.most_is) })

-- an upgrade that failed
pub spreads_err : (place after : Place) (t : TallyView) (a b : View) {U : Type 0} (result : Result U StoreFault) (fault : StoreFault) → result ≡ Err fault → Steps (Upgrades place (upgraded_height place.layout t.height)) a b → after ≡ place
    → b.travel.written ≤ a.travel.written + (segment_size (widened place.layout) * 2 ^ upgraded_height place.layout t.height + 9) → ((n : ℕ) × (n ≤ 2 ^ t.height) × Walks place 0 n a.travel b.travel) → b.calls ≤ a.calls + widen_calls place t.height → (Told a → fault ≡ Failed) → IsDamageIn place t a b fault → (fault ≡ Failed → Rose a.disk_faults b.disk_faults)
    → SpreadsWide {T = U} result place after t a b
spreads_err place after t a b {U = U} result fault is steps kept cost reads calls damaged cause failed = subst (λ (x : Result U StoreFault). SpreadsWide {T = U} x place after t a b) (sym is) (record {
  steps = steps;
  settled = tt;
  rests = tt;
  array = tt;
  stands = tt;
  place_is = tt;
  place_kept = kept;
  cost = cost;
  reads = reads;
  calls = calls;
  whole = tt;
  damaged = damaged;
  cause = cause;
  failed = λ e. failed (failed_is {T = U} fault e);
})

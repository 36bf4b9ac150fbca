-- What a load writes and how many calls it makes at most, whatever is answered.
use Rattle.std.proofs.Common.{◌⊎◌, inl, inr, ℕ, ◌+◌, ◌-◌, ◌*◌, ◌/◌, ◌^◌, ◌≤◌, arith}
use Rattle.header_gate.specs.Places.{IsLayout, height_limit, segment_size}
use Rattle.header_gate.specs.declared.layout.Layout.{Layout}
use Rattle.density_rule.proofs.Quotients.{div_rises}
use Rattle.key_slot.specs.declared.sizes.TheConstants.{SEGMENT_SLOTS}
use Rattle.key_slot.proofs.SegmentLaws.{times_up}
use Rattle.segment_frames.specs.SegmentParts.{GoesInParts, parts}
use Rattle.bulk_load.specs.Loads.{most_records}
use Rattle.bulk_load.specs.Packing.{HasPlace, WritesRuns, room_in}
use Rattle.bulk_load.specs.Spreading.{load_calls, used_by}
use Rattle.bulk_load.specs.declared.packing.Taken.{Taken}
use Rattle.bulk_load.proofs.LoadLaws.{few_records}
use Rattle.bulk_load.proofs.PackLaws.{cost_on, room_some, room_two, runs_parts}

module _ (l : Layout) (known : IsLayout l) (t : Taken) (place : HasPlace l t) (few : t.records ≤ most_records l) where
  inside : t.written ≤ 2 ^ height_limit l
  inside = omega (arith, place.behind, few_records (height_limit l) t.records few)

  -- the segments that were written are some of the region's
  pub all_cost : (before now : ℕ) → now ≤ before + segment_size l * t.written → now ≤ before + segment_size l * 2 ^ height_limit l
  all_cost before now cost = omega (arith, cost, times_up (segment_size l) t.written (2 ^ height_limit l) inside)

  -- and those of one call more
  pub tried_cost : (before now next : ℕ) → now ≤ before + segment_size l * t.written → next ≤ now + segment_size l * (2 ^ height_limit l - t.written) → next ≤ before + segment_size l * 2 ^ height_limit l
  tried_cost before now next cost more = cost_on (segment_size l) t.written (2 ^ height_limit l) before now next inside cost more

  pub all_calls : (before now : ℕ) → WritesRuns (room_in l) 0 t.written before now → now ≤ before + parts (room_in l) (used_by (most_records l))
  all_calls before now runs =
      omega (arith, runs.2, (runs_parts (room_in l) (used_by (most_records l)) t.written runs.0 (omega (arith, room_some l known)) (omega (arith, place.behind, few)) runs.1).few)

  pub tried_calls : (before now next : ℕ) → WritesRuns (room_in l) 0 t.written before now → (next ≤ now) ⊎ ((next ≤ now + 1) × (SEGMENT_SLOTS * (t.written + room_in l) ≤ most_records l)) → next ≤ before + parts (room_in l) (used_by (most_records l))
  tried_calls before now next runs (inl none) = omega (arith, none, all_calls before now runs)
  tried_calls before now next runs (inr one) =
      let more : room_in l * (runs.0 + 1) ≤ t.written + room_in l - 0 = omega (arith, runs.1) in
      omega (arith, one.0, runs.2, (runs_parts (room_in l) (used_by (most_records l)) (t.written + room_in l) (runs.0 + 1) (omega (arith, room_some l known)) (omega (arith, one.1)) more).few)

-- The records that were read are written packed.
module _ (l : Layout) (t : Taken) (before now next : ℕ) (behind : SEGMENT_SLOTS * t.written ≤ t.records) where
  pub packed_cost : t.records ≤ most_records l → now ≤ before + segment_size l * t.written → next ≤ now + segment_size l * (used_by t.records - t.written) → next ≤ before + segment_size l * 2 ^ height_limit l
  packed_cost few cost more =
      let all = cost_on (segment_size l) t.written (used_by t.records) before now next (omega (arith, behind)) cost more in
      omega (arith, all, times_up (segment_size l) (used_by t.records) (2 ^ height_limit l) (omega (arith, few_records (height_limit l) t.records few)))

-- more calls for more records and segments
parts_rise : (room a b : ℕ) → 1 ≤ room → a ≤ b → parts room a ≤ parts room b
parts_rise room a b some le = div_rises (a + (room - 1)) (b + (room - 1)) room some (omega (arith, le))

pub packing_rises : (l : Layout) → IsLayout l → (records most : ℕ) → records ≤ most → parts (room_in l) (used_by records) ≤ parts (room_in l) (used_by most)
packing_rises l known records most le = parts_rise (room_in l) (used_by records) (used_by most) (omega (arith, room_some l known)) (omega (arith, le))

pub packed_calls : (l : Layout) → IsLayout l → (t : Taken) (before now next : ℕ) → SEGMENT_SLOTS * t.written ≤ t.records → WritesRuns (room_in l) 0 t.written before now → GoesInParts (room_in l) (used_by t.records) t.written (used_by t.records) now next
    → next ≤ before + parts (room_in l) (used_by t.records)
packed_calls l known t before now next behind runs goes =
    let more = goes runs.0 (runs_parts (room_in l) (used_by t.records) t.written runs.0 (omega (arith, room_some l known)) (omega (arith, behind)) runs.1) in
    omega (arith, runs.2, more.2, more.1.few)

pub load_calls_rise : (l : Layout) → IsLayout l → (records most segments all : ℕ) → records ≤ most → segments ≤ all → load_calls l records segments ≤ load_calls l most all
load_calls_rise l known records most segments all le less =
    let two : 2 ≤ room_in l = room_two l known in
    let used : used_by records ≤ used_by most = omega (arith, le) in
    omega (arith, packing_rises l known records most le, parts_rise (room_in l / 2) (used_by records) (used_by most) (omega (arith, two)) used, parts_rise (room_in l - room_in l / 2) segments all (omega (arith, two)) less)

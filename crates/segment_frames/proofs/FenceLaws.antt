-- The first key of a frame.
use Rattle.std.proofs.Common.{◌≡◌, ◌⊎◌, inl, inr, ℕ, zero, suc, ◌+◌, ◌-◌, ◌*◌, ◌/◌, ◌<◌, ◌≤◌, List, [], length, take, drop, get_or, slice_get, slice_range, Option, Some, None, sym, ap, ◌∙◌, arith}
use Rattle.header_gate.specs.Places.{IsSlotFormat}
use Rattle.std.specs.Option.{option_map}
use Rattle.std.specs.Prelude.{unwrap_or}
use Rattle.key_slot.specs.Record.{Record}
use Rattle.key_slot.specs.declared.sizes.TheConstants.{SEGMENT_SLOTS}
use Rattle.key_slot.specs.Slot.{slot_of}
use Rattle.segment.specs.Rows.{key_at}
use Rattle.std.proofs.Math.Nat.{mul-div_left}
use Rattle.key_slot.specs.Format.{narrow, wide, slot_size}
use Rattle.raw_slots.specs.declared.TheConstants.{SLOT_SIZE as RAW_SIZE}
use Rattle.raw_slots.specs.Slots.{bytes_of}
use Rattle.raw_slots.proofs.Grouping.{group_at}
use Rattle.segment_frames.specs.HeldRecords.{grouped, HoldsRows}
use Rattle.segment_frames.proofs.Grouped.{within_groups}
use Rattle.segment_frames.proofs.FrameLaws.{slot_of-slot_in}

-- what the first slot of a segment's frames reads as
pub first_read : (format : ℕ) (rows : List Record) (f : ℕ) (slots : List (List ℕ)) (bytes : List ℕ) (content : Option (Option Record)) → 1 ≤ format → SEGMENT_SLOTS * format * f + SEGMENT_SLOTS * format ≤ length slots → HoldsRows format rows f (grouped format slots)
    → bytes ≡ bytes_of (slice_range slots (SEGMENT_SLOTS * format * f) (SEGMENT_SLOTS * format * f + format)) → content ≡ slot_of format bytes → content ≡ Some (slice_get rows 0)
first_read format rows f slots bytes content some room holds is read =
    let place = SEGMENT_SLOTS * f + 0 in
    let within : place < length slots / format = within_groups format place (length slots) some (omega (arith, room, some)) in
    let at : SEGMENT_SLOTS * format * f ≡ format * place = omega arith in
    let size : SEGMENT_SLOTS * format * f + format - SEGMENT_SLOTS * format * f ≡ format = omega arith in
    let group : bytes ≡ get_or (grouped format slots) place [] =
    is ∙ ap (λ (k : ℕ). bytes_of (take k (drop (SEGMENT_SLOTS * format * f) slots))) size ∙ ap (λ (k : ℕ). bytes_of (take format (drop k slots))) at ∙ sym (group_at format (length slots / format) place slots within) in
    read ∙ ap (slot_of format) (group ∙ holds.slots_are 0 (omega arith)) ∙ slot_of-slot_in format rows 0 holds.records

-- tells its first key
pub first_key_is : (rows : List Record) (content : Option Record) → Some content ≡ Some (slice_get rows 0) → option_map (λ (r : Record). r.0) content ≡ key_at rows 0
first_key_is rows content is = ap (λ (o : Option (Option Record)). option_map (λ (r : Record). r.0) (unwrap_or o None)) is

-- the bytes of a slot tell its format
pub slot_length : (format : ℕ) (bytes : List ℕ) → IsSlotFormat format → length bytes ≡ format * RAW_SIZE → (length bytes ≡ slot_size narrow) ⊎ (length bytes ≡ slot_size wide)
slot_length zero bytes is long = absurd (omega (arith, is.least))
slot_length (suc zero) bytes is long = inl (omega (arith, long))
slot_length (suc (suc zero)) bytes is long = inr (omega (arith, long))
slot_length (suc (suc (suc n))) bytes is long = absurd (omega (arith, is.most))

pub slot_format_is : (format : ℕ) (bytes : List ℕ) → length bytes ≡ format * RAW_SIZE → length bytes / slot_size narrow ≡ format
slot_format_is format bytes long = ap (λ (n : ℕ). n / 64) long ∙ mul-div_left format {n = 64} (omega arith)

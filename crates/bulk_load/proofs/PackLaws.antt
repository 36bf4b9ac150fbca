-- Packed records, one more at a time.
use Rattle.std.proofs.Common.{rules, ◌≡◌, ◌⊎◌, inl, inr, ℕ, ◌+◌, ◌-◌, ◌*◌, ◌/◌, ◌^◌, ◌<◌, ◌≤◌, min, true, List, [], ◌∷◌, ◌++◌, T, length, take, drop, refl, sym, ap, subst, ◌∙◌, arith}
use Rattle.std.specs.List.{list_all}
use Rattle.std.proofs.lemmas.Bool.{cases_lt}
use Rattle.std.proofs.lemmas.List.{take_all, drop_all, take-append-drop, drop-append-le, take-append-le, append-nil, length-take, length-drop, length-append}
use Rattle.key_slot.specs.Record.{Record, is_record, IsAscending}
use Rattle.key_slot.specs.Segment.{FitsSegment}
use Rattle.key_slot.specs.declared.sizes.TheConstants.{SEGMENT_SLOTS}
use Rattle.density_rule.proofs.Quotients.{div_rises}
use Rattle.header_gate.specs.declared.layout.Layout.{Layout}
use Rattle.header_gate.specs.Places.{IsLayout, height_limit}
use Rattle.std.proofs.Math.Nat.{pow-le-pow_right, le-div_iff_mul-le}
use Rattle.redo_journal.specs.Frames.{Batch}
use Rattle.resize_region.specs.Shares.{places}
use Rattle.map_model.specs.Array.{Array, rows}
use Rattle.map_model.specs.FileReasons.{last_key, begins_above}
use Rattle.map_model.proofs.Ends.{joined}
use Rattle.map_model.proofs.Replacing.{segments_fit}
use Rattle.segment_frames.proofs.Rows.{records-append}
use Rattle.bulk_load.specs.declared.room.TheConstants.{MOST_FRAMES}
use Rattle.bulk_load.specs.Packing.{room_in, AreRows, packed_at, WritesRuns}
use Rattle.segment_frames.specs.SegmentParts.{InParts}

-- the places that are used are there
pub room_fits : (l : Layout) (b : Batch) → IsLayout l → b.journal ≡ l.journal → room_in l ≤ places l.format b
room_fits l b known same = omega (arith, div_rises (min l.journal MOST_FRAMES) b.journal l.format known.format.least (omega (arith, same)))

-- two places are used at least
pub room_two : (l : Layout) → IsLayout l → 2 ≤ room_in l
room_two l known = by (cases_lt l.format 2)
  where
    by : (l.format < 2) ⊎ (2 ≤ l.format) → 2 ≤ room_in l
    by (inl low) = let one : l.format ≡ 1 = omega (arith, low, known.format.least) in omega (arith, ap (λ (f : ℕ). min l.journal MOST_FRAMES / f) one, known.least)
    by (inr high) = let two : l.format ≡ 2 = omega (arith, high, known.format.most) in omega (arith, ap (λ (f : ℕ). min l.journal MOST_FRAMES / f) two, known.least)

pub room_some : (l : Layout) → IsLayout l → 1 ≤ room_in l
room_some l known = omega (arith, room_two l known)

-- a store has at most 2^16 segments
pub few_segments : (l : Layout) → IsLayout l → 2 ^ height_limit l ≤ 2 ^ 16
few_segments l known = pow-le-pow_right {n = 2} (omega arith) {i = height_limit l} {j = 16} (omega (arith, known.hmax, known.format.least))

-- One record more.

module _ (rs : List Record) (r : Record) (i : ℕ) where
  pub packed_before : SEGMENT_SLOTS * i + SEGMENT_SLOTS ≤ length rs → packed_at (rs ++ r ∷ []) i ≡ packed_at rs i
  packed_before full =
      ap (take SEGMENT_SLOTS) (drop-append-le (SEGMENT_SLOTS * i) rs (r ∷ []) (omega (arith, full)))
      ∙ take-append-le SEGMENT_SLOTS (drop (SEGMENT_SLOTS * i) rs) (r ∷ []) (omega (arith, full, length-drop (SEGMENT_SLOTS * i) rs))

  pub packed_here : SEGMENT_SLOTS * i ≤ length rs → length rs < SEGMENT_SLOTS * i + SEGMENT_SLOTS → packed_at (rs ++ r ∷ []) i ≡ packed_at rs i ++ r ∷ []
  packed_here low high =
      let d = drop (SEGMENT_SLOTS * i) rs in
      ap (take SEGMENT_SLOTS) (drop-append-le (SEGMENT_SLOTS * i) rs (r ∷ []) low)
      ∙ take_all SEGMENT_SLOTS (d ++ r ∷ []) (omega (arith, high, low, length-drop (SEGMENT_SLOTS * i) rs, length-append d (r ∷ [])))
      ∙ ap (λ (l : List Record). l ++ r ∷ []) (sym (take_all SEGMENT_SLOTS d (omega (arith, high, low, length-drop (SEGMENT_SLOTS * i) rs))))

-- no record is there yet
pub packed_none : (rs : List Record) (i : ℕ) → length rs ≤ SEGMENT_SLOTS * i → packed_at rs i ≡ []
packed_none rs i past = ap (take SEGMENT_SLOTS) (drop_all (SEGMENT_SLOTS * i) rs past)

pub length-packed_at : (rs : List Record) (i : ℕ) → length (packed_at rs i) ≡ min SEGMENT_SLOTS (length rs - SEGMENT_SLOTS * i)
length-packed_at rs i = length-take SEGMENT_SLOTS (drop (SEGMENT_SLOTS * i) rs) ∙ ap (min SEGMENT_SLOTS) (length-drop (SEGMENT_SLOTS * i) rs)

pub packed_few : (rs : List Record) (i : ℕ) → length (packed_at rs i) ≤ SEGMENT_SLOTS
packed_few rs i = omega (arith, length-packed_at rs i)

-- the last key is the new one
pub last_key-more : (rs : List Record) (r : Record) → last_key (rs ++ r ∷ []) ≡ last_key (r ∷ [])
last_key-more [] r = refl
last_key-more (e ∷ []) r = refl
last_key-more (e ∷ f ∷ rs) r = last_key-more (f ∷ rs) r

-- a record above the others
pub rows_more : (format : ℕ) (rs : List Record) (r : Record) → AreRows format rs → T (is_record format r) → begins_above (last_key rs) (r ∷ []) ≡ true → AreRows format (rs ++ r ∷ [])
rows_more format rs r are fits above = record {
  ascending = joined rs (r ∷ []) are.ascending tt above;
  fit = records-append format rs (r ∷ []) are.fit (one fits);
}
  where
    one : T (is_record format r) → T (list_all (is_record format) (r ∷ []))
    one h = search rules

pub rows_none : (format : ℕ) → AreRows format []
rows_none format = record { ascending = tt; fit = tt }

-- Segments of them.

abbrev three : (rs : List Record) (i : ℕ) → Array
three rs i = take (SEGMENT_SLOTS * i) rs ∷ packed_at rs i ∷ drop SEGMENT_SLOTS (drop (SEGMENT_SLOTS * i) rs) ∷ []

three_rows : (rs : List Record) (i : ℕ) → rows (three rs i) ≡ rs
three_rows rs i =
    let d = drop (SEGMENT_SLOTS * i) rs in
    ap (λ (l : List Record). take (SEGMENT_SLOTS * i) rs ++ (packed_at rs i ++ l)) (append-nil (drop SEGMENT_SLOTS d))
    ∙ ap (λ (l : List Record). take (SEGMENT_SLOTS * i) rs ++ l) (take-append-drop SEGMENT_SLOTS d) ∙ take-append-drop (SEGMENT_SLOTS * i) rs

pub packed_fits : (format : ℕ) (rs : List Record) (i : ℕ) → AreRows format rs → FitsSegment format (packed_at rs i)
packed_fits format rs i are =
    segments_fit format (three rs i) 1 (subst IsAscending (sym (three_rows rs i)) are.ascending) (subst (λ (l : List Record). T (list_all (is_record format) l)) (sym (three_rows rs i)) are.fit) (packed_few rs i)

-- what was written, when more is
pub cost_on : (size a b before now next : ℕ) → a ≤ b → now ≤ before + size * a → next ≤ now + size * (b - a) → next ≤ before + size * b
cost_on size a b before now next le one two =
    let sum_is : b ≡ a + (b - a) = omega (arith, le) in
    let parts : size * b ≡ size * a + size * (b - a) = ap (λ (k : ℕ). size * k) sum_is ∙ omega arith in
    omega (arith, parts, one, two)

-- runs that were written after others
pub runs_on : (room from mid to before now next : ℕ) → from ≤ mid → mid ≤ to → WritesRuns room from mid before now → WritesRuns room mid to now next → WritesRuns room from to before next
runs_on room from mid to before now next one two first second =
    let both : room * (first.0 + second.0) ≡ room * first.0 + room * second.0 = omega arith in
    (first.0 + second.0, omega (arith, both, one, two, first.1, second.1), omega (arith, first.2, second.2))

-- they are parts of all that are to be written
pub runs_parts : (room count to : ℕ) (made : ℕ) → 1 ≤ room → to ≤ count → room * made ≤ to - 0 → InParts room count to made
runs_parts room count to made some le whole = record {
  whole = λ lt. omega (arith, whole);
  few = (le-div_iff_mul-le {k = room} {x = made} {y = count + (room - 1)} some).1 (omega (arith, whole, le));
}

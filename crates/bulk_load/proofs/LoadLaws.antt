-- A file into whose other region records were written, and the flip to it.
use Rattle.std.proofs.Common.{◌≡◌, inl, inr, ℕ, zero, suc, ◌+◌, ◌-◌, ◌*◌, ◌^◌, ◌<◌, ◌≤◌, List, length, sym, ap, subst, ◌∙◌, arith}
use Rattle.std.specs.FinMap.{from_sorted, entries, entries-from_sorted, len}
use Rattle.std.proofs.Math.Nat.{mul-le-mul_right}
use Rattle.std.proofs.Math.Pow.{pow_pos}
use Rattle.station.specs.Bytes.{Touched}
use Rattle.density_rule.specs.Bounds.{upper_of, lower_of, least_of}
use Rattle.density_rule.proofs.Bounding.{least_of-some, lower_of-next-le}
use Rattle.key_slot.specs.Record.{Record, key_cmp}
use Rattle.key_slot.specs.declared.sizes.TheConstants.{SEGMENT_SLOTS}
use Rattle.header_gate.specs.Header.{live_copy, gate, layout_in}
use Rattle.header_gate.specs.InPlace.{IsBare}
use Rattle.header_gate.specs.declared.layout.Layout.{Layout}
use Rattle.header_gate.specs.Places.{IsLayout, height_limit}
use Rattle.header_gate.specs.Flip.{Flips, Flipped, Unflipped, FlipPlaces}
use Rattle.map_model.specs.Store.{Map}
use Rattle.map_model.specs.Array.{spread_over}
use Rattle.map_model.specs.Image.{Represents, array_in, array_of, map_of, height_of}
use Rattle.map_model.proofs.Entries.{length-rows}
use Rattle.map_model.proofs.Recovering.{represents_own}
use Rattle.map_model.proofs.Spreading.{rows-spread_over, length-spread_over}
use Rattle.redo_journal.specs.declared.place.Place.{Place}
use Rattle.window_tally.specs.TallyView.{TallyView}
use Rattle.segment_frames.specs.FrameStanding.{IsSettledAt, StandsFor}
use Rattle.map_model.specs.Regions.{Spares, IsSparePlace, HoldsArray}
use Rattle.resize_region.specs.Spare.{HasWritten}
use Rattle.map_model.proofs.OtherRegion.{still_represents, layout_same, flipped_represents, flipped_array, flipped_bare, layout_new, tall}
use Rattle.resize_region.proofs.SettledLaws.{settled_kept, bare_kept, gate_kept}
use Rattle.line_source.specs.SourceView.{SourceView}
use Rattle.line_source.specs.LineReaderView.{ReaderView}
use Rattle.segment.specs.declared.fault.StoreFault.{StoreFault}
use Rattle.segment.specs.declared.fault.StoreFault.TheVariants as store
use Rattle.redo_journal.specs.Commit.{IsAt}
use Rattle.resize_region.proofs.FreeRuns.{free_same}
use Rattle.resize_region.proofs.SourceLaws.{at_place}
use Rattle.bulk_load.specs.declared.fault.LoadFault.{LoadFault}
use Rattle.bulk_load.specs.declared.fault.LoadFault.TheVariants.{NotEmpty, Line, Full, Disk, Damaged, Script, Spent}
use Rattle.bulk_load.specs.LoadFaults.{IsReadingFault, IsWritingFault, IsLoadFault, IsNoDamage, load_fault_of}
use Rattle.bulk_load.specs.Packing.{AreRows}
use Rattle.bulk_load.specs.Loads.{Loads, IsLeastHeight}

-- What is beside the live parts.

pub spare_loads : (place : Place) (Text : List Record → Type 0) (old new : List ℕ) → IsSettledAt place old → IsBare place.layout old → Spares place.layout place.region old new → Loads place Text old new
spare_loads place Text old new is bare spares =
    let copy : Spares place.layout (live_copy old) old new = subst (λ (r : ℕ). Spares place.layout r old new) (sym is.region_is) spares in
    record {
      map_is = λ m before rep. inl (still_represents place.layout old new m before rep bare is.layout_is copy);
      gate_is = gate_kept place.layout (1 - place.region) old new (omega arith) spares.touched;
      layout_is = layout_same place.layout old new (map_of old) (height_of old) is.represents bare is.layout_is copy;
      touched = spares.touched;
    }

-- what a flip writes is beside the live parts
flip_spare : (place : Place) (k : ℕ) → FlipPlaces (1 - place.region) k → IsSparePlace place.layout (1 - place.region) k
flip_spare place k (inl first) = inl first
flip_spare place k (inr there) = inr (inl there)

touched_on : (place : Place) (old mid new : List ℕ) → Touched (IsSparePlace place.layout (1 - place.region)) old mid → Touched (FlipPlaces (1 - place.region)) mid new → Touched (IsSparePlace place.layout (1 - place.region)) old new
touched_on place old mid new one two = record {
  size = two.size ∙ one.size;
  rest = λ k out. two.rest k (λ there. out (flip_spare place k there)) ∙ one.rest k out;
}

unflipped_spare : (place : Place) (old mid new : List ℕ) → place.region < 2 → Spares place.layout place.region old mid → Unflipped (1 - place.region) mid new → Spares place.layout place.region old new
unflipped_spare place old mid new small spares flip = record {
  live_is = omega (arith, flip.names, small);
  touched = touched_on place old mid new spares.touched flip.touched;
}

-- The least height.

-- at it the root has at least as many records as it must
pub enough : (n height : ℕ) → height ≤ 16 → IsLeastHeight n height → least_of height height ≤ n
enough n zero low is = omega arith
enough n (suc h) low is =
    let above : upper_of h < n = is.least h (omega arith) in
    let next : suc h ≡ h + 1 = omega arith in
    let same : least_of (suc h) (suc h) ≡ lower_of (h + 1) = least_of-some (suc h) (suc h) (omega arith) ∙ ap (λ (k : ℕ). lower_of k) next in
    omega (arith, above, same, lower_of-next-le h (omega (arith, low)))

pub few_records : (height n : ℕ) → n ≤ upper_of height → n ≤ SEGMENT_SLOTS * 2 ^ height
few_records height n most =
    let bound : (SEGMENT_SLOTS - height) * 2 ^ height ≤ SEGMENT_SLOTS * 2 ^ height = mul-le-mul_right (2 ^ height) (omega arith) in
    omega (arith, most, bound)

-- The other region.

pub tall_limit : (l : Layout) → IsLayout l → height_limit l ≤ 16
tall_limit l known = omega (arith, known.hmax, known.format.least)

module _ (place : Place) (height : ℕ) (rs : List Record) (old mid : List ℕ) (small : place.region < 2) (is : IsSettledAt place old) (bare : IsBare place.layout old) (spares : Spares place.layout place.region old mid) (known : IsLayout place.layout) (low : height ≤ height_limit place.layout)
    (are : AreRows place.layout.format rs) (least : IsLeastHeight (length rs) height) (written : HasWritten place (spread_over (2 ^ height) rs) (2 ^ height) mid) where
  middle : IsSettledAt place mid
  middle = settled_kept place old mid is bare spares

  abbrev m : Map
  m = from_sorted rs

  entries_are : entries m ≡ rs
  entries_are = entries-from_sorted key_cmp rs are.ascending

  count : length rs ≡ len m
  count = length-rows rs m (sym entries_are)

  -- it holds the array to be
  holds : HoldsArray place.layout (1 - place.region) height m (spread_over (2 ^ height) rs) mid
  holds = record {
    sound = middle.represents.header;
    layout_is = ap (λ (l : Layout). record l { format = place.layout.format }) middle.layout_is;
    format = known.format;
    bare = bare_kept place old mid is bare spares;
    holds = record {
      rows_are = rows-spread_over (2 ^ height) rs (pow_pos height) ∙ sym entries_are;
      size = length-spread_over (2 ^ height) rs;
      within = record { least_is = omega (arith, enough (length rs) height (omega (arith, low, tall_limit place.layout known)) least, count); most_is = omega (arith, least.holds, count); height_is = low; hmax_is = tall_limit place.layout known };
    };
    each = written;
  }

  copy_small : 1 - place.region < 2
  copy_small = omega arith

  module _ (new : List ℕ) (flip : Flipped (1 - place.region) height place.layout.format mid new) where
    pub represents : Represents new m height
    represents = flipped_represents place.layout (1 - place.region) height m (spread_over (2 ^ height) rs) mid new copy_small holds flip

    gate_new : gate new ≡ gate old
    gate_new = gate_kept place.layout (1 - place.region) old new (omega arith) (touched_on place old mid new spares.touched flip.touched)

    pub bare_new : IsBare place.layout new
    bare_new = flipped_bare place.layout (1 - place.region) height m (spread_over (2 ^ height) rs) mid new copy_small holds flip

    layout_after : layout_in new ≡ place.layout
    layout_after = layout_new place.layout (1 - place.region) height m (spread_over (2 ^ height) rs) mid new copy_small holds flip

    tall_new : height_of new ≡ height
    tall_new = tall place.layout (1 - place.region) height m (spread_over (2 ^ height) rs) mid new copy_small holds flip

    pub array_new : array_of new ≡ spread_over (2 ^ height) rs
    array_new = ap (λ (h : ℕ). array_in new h) tall_new ∙ flipped_array place.layout (1 - place.region) height m (spread_over (2 ^ height) rs) mid new copy_small holds flip

    pub settled_new : IsSettledAt (record place { region = 1 - place.region }) new
    settled_new = record {
      represents = represents_own new m height represents;
      gate_even = λ single. gate_new ∙ is.gate_even single;
      layout_is = layout_after;
      region_is = flip.names;
    }

    pub flipped_loads : (Text : List Record → Type 0) → Text rs → Loads place Text old new
    flipped_loads Text text = record {
      map_is = λ n before rep. inr (record { rows = rs; height = height; text = text; least = least; represents = represents });
      gate_is = gate_new;
      layout_is = layout_after ∙ sym is.layout_is;
      touched = touched_on place old mid new spares.touched flip.touched;
    }

  -- whatever a flip leaves
  pub flips_load : (Text : List Record → Type 0) → Text rs → (new start : List ℕ) → Spares place.layout place.region old start → Flips (1 - place.region) height place.layout.format mid start new → Loads place Text old new
  flips_load Text text new start before (inl un) = spare_loads place Text old new is bare (unflipped_spare place old start new small before un)
  flips_load Text text new start before (inr flip) = flipped_loads new flip Text text

-- nothing was written
pub loads_same : (place : Place) (Text : List Record → Type 0) (image : List ℕ) → IsSettledAt place image → IsBare place.layout image → Loads place Text image image
loads_same place Text image is bare = spare_loads place Text image image is bare (subst (λ (r : ℕ). Spares place.layout r image image) is.region_is (free_same place.layout image))

-- an image with a tally stands at its place
pub at_of : (place : Place) (t : TallyView) (image : List ℕ) → StandsFor place t image → IsAt place image
at_of place t image is = at_place place image is.settled

-- Faults.

-- what of_file makes of a fault
pub no_records_fault : (format most n : ℕ) (r0 : ReaderView) (s0 s : SourceView) (fault : LoadFault) → n ≡ 0 → IsWritingFault format most r0 s0 s fault → IsLoadFault format most n r0 s0 s fault
no_records_fault format most n r0 s0 s (NotEmpty k) none is = absurd is
no_records_fault format most n r0 s0 s (Line k) none is = (none, is)
no_records_fault format most n r0 s0 s (Full k) none is = (none, is)
no_records_fault format most n r0 s0 s Disk none is = none
no_records_fault format most n r0 s0 s (Damaged segment why) none is = none
no_records_fault format most n r0 s0 s Script none is = (none, is)
no_records_fault format most n r0 s0 s Spent none is = (none, is)

-- a fault of the reading
pub read_fault : (format most : ℕ) (r0 : ReaderView) (s0 s : SourceView) (fault : LoadFault) → IsReadingFault format most r0 s0 s fault → IsWritingFault format most r0 s0 s fault
read_fault format most r0 s0 s (NotEmpty k) is = is
read_fault format most r0 s0 s (Line k) is = is
read_fault format most r0 s0 s (Full k) is = is
read_fault format most r0 s0 s Disk is = is
read_fault format most r0 s0 s (Damaged segment why) is = record {}
read_fault format most r0 s0 s Script is = is
read_fault format most r0 s0 s Spent is = is

-- a fault of the reading is no damage
pub read_no_damage : (format most : ℕ) (r0 : ReaderView) (s0 s : SourceView) (fault : LoadFault) → IsReadingFault format most r0 s0 s fault → IsNoDamage fault
read_no_damage format most r0 s0 s (NotEmpty k) is = record {}
read_no_damage format most r0 s0 s (Line k) is = record {}
read_no_damage format most r0 s0 s (Full k) is = record {}
read_no_damage format most r0 s0 s Disk is = record {}
read_no_damage format most r0 s0 s (Damaged segment why) is = absurd is
read_no_damage format most r0 s0 s Script is = record {}
read_no_damage format most r0 s0 s Spent is = record {}

-- a fault of a call on the file
pub file_fault : (format most : ℕ) (r0 : ReaderView) (s0 s : SourceView) (fault : StoreFault) → IsWritingFault format most r0 s0 s (load_fault_of fault)
file_fault format most r0 s0 s store.Failed = record {}
file_fault format most r0 s0 s (store.Damaged segment why) = record {}

pub file_no_damage : (fault : StoreFault) → fault ≡ store.Failed → IsNoDamage (load_fault_of fault)
file_no_damage fault e = subst (λ (f : StoreFault). IsNoDamage (load_fault_of f)) (sym e) (record {})

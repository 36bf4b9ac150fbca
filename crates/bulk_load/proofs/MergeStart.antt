-- The start of a merge, and its end.
use Rattle.station.specs.declared.travel.Travel.{Travel}
use Rattle.std.proofs.Common.{◌≡◌, inl, inr, ℕ, ◌+◌, ◌^◌, ◌≤◌, Bool, true, false, List, [], ◌∷◌, Option, None, refl, sym, ap, subst, ◌∙◌, arith, sum, take, length}
use Rattle.station.specs.View.{View, Told, EachHeld}
use Rattle.header_gate.specs.Places.{IsLayout, height_limit}
use Rattle.key_slot.specs.Record.{Record}
use Rattle.line_source.specs.LineReaderView.{ReaderView}
use Rattle.line_source.specs.SourceView.{SourceView}
use Rattle.map_model.specs.Array.{Array, rows}
use Rattle.map_model.specs.Image.{array_of, height_of, map_of}
use Rattle.map_model.specs.FileReasons.{begins_above}
use Rattle.map_model.proofs.Reasonings.{own_rows}
use Rattle.range_scan.specs.Checking.{LieAbove}
use Rattle.redo_journal.specs.declared.place.Place.{Place}
use Rattle.redo_journal.specs.Frames.{Batch}
use Rattle.resize_region.specs.Shares.{StandsBare}
use Rattle.window_tally.specs.TallyView.{TallyView}
use Rattle.bulk_load.specs.declared.fault.LoadFault.{LoadFault}
use Rattle.bulk_load.specs.declared.fault.LoadFault.TheVariants.{NotEmpty, Line, Full, Disk, Damaged, Script, Spent}
use Rattle.bulk_load.specs.declared.packing.Taken.{Taken}
use Rattle.bulk_load.specs.declared.run.Found.{Found}
use Rattle.bulk_load.specs.declared.run.MergeRun.{MergeRun}
use Rattle.bulk_load.specs.Ahead.{IsAbove, IsAhead, left_in}
use Rattle.bulk_load.specs.Amid.{Goes, HasMerged, IsBetween, IsLiveDamage, Tries, counts_in, HasEdits}
use Rattle.bulk_load.specs.LoadFaults.{IsFileFault, IsNoDamage, IsShownBy}
use Rattle.bulk_load.specs.Loads.{most_records}
use Rattle.bulk_load.specs.MergeCauses.{IsMergeDamage, IsMergeFault, IsLastSeen}
use Rattle.bulk_load.specs.Packing.{CanFill, HasPacked, IsTaken, WritesRuns, room_in}
use Rattle.bulk_load.specs.TextReading.{IsTaking}
use Rattle.bulk_load.specs.Spreading.{load_calls, used_by}
use Rattle.bulk_load.specs.MergeUpdates.{HasAll, IsMergeOut}
use Rattle.bulk_load.proofs.PackLaws.{room_some, runs_parts}

-- Before the first line.
module _ (place : Place) (s : MergeRun) (f : Batch) (a : View) (can : CanFill place f a) (taken : IsTaken place.layout s.taken f []) (none : s.taken ≡ record { records = 0; written = 0; last = None; ended = false }) (ahead : IsAhead place s.ahead)
    (order : (image : List ℕ) → StandsBare place s.ahead.tally.now image → LieAbove s.ahead.reader (array_of image)) (stands : EachHeld (StandsBare place s.ahead.tally.now) a) (above : IsAbove None s.ahead) (last : s.last ≡ None) (edits : s.edits ≡ 0)
    (found : s.found ≡ record { stored = 0; replaced = 0; removed = 0; absent = 0 }) (page : s.ahead.page.rows ≡ []) (start : s.ahead.reader.next ≡ 0) where
  records_none : s.taken.records ≡ 0
  records_none = ap (λ (t : Taken). t.records) none

  written_none : s.taken.written ≡ 0
  written_none = ap (λ (t : Taken). t.written) none

  pub starts_between : IsBetween place s f a
  starts_between = record {
    amid = record {
      can = can;
      live = record { ahead = ahead; reach = can.reach; stands = stands; order = λ told. order a.held (stands a.held (inl (told, refl))) };
      taking = record {
        rows = [];
        taken = taken;
        place = record { behind = omega (arith, records_none, written_none); within = omega (arith, records_none, room_some place.layout can.layout) };
        few = omega (arith, records_none);
      };
      above = subst (λ (k : Option (List ℕ)). IsAbove k s.ahead) (sym (ap (λ (t : Taken). t.last) none)) above;
    };
    behind = λ r over. ap (λ (t : Taken). begins_above t.last (r ∷ [])) none;
    counted = ap (λ (x : Found). x.stored + x.replaced + x.removed + x.absent) found ∙ sym edits;
    few = omega (arith, edits);
    balance = omega (
      arith,
      records_none,
      ap (λ (x : Found). x.removed) found,
      ap (λ (x : Found). x.stored) found,
      ap (λ (l : List Record). length l) page,
      ap (λ (n : ℕ). sum (take n s.ahead.tally.now.counts)) start,
    );
  }

  pub starts_edits : HasEdits [] s
  starts_edits = record { keys = record { edits_are = edits; last = last }; binds = ap (λ (x : Found). x.stored + x.replaced) found }

  pub starts_merged : ((segments : Array) → left_in segments s.ahead ≡ rows segments) → Told a → HasMerged place (map_of a.held) [] s f a
  starts_merged all told =
      let is = (stands a.held (inl (told, refl))).stands.settled in
      record {
        taken = taken;
        packed = λ i lt. absurd (omega (arith, lt, written_none));
        left = all (array_of a.held) ∙ own_rows a.held (map_of a.held) (height_of a.held) is.represents;
        found = ap (λ (x : Found). counts_in x) found;
        edits_are = edits;
        last = last;
        ascending = tt;
      }

-- All records that result, on any station.

true_false : true ≡ false → ⊥
true_false e = cc

pub record Chosen (place : Place) (r0 : ReaderView) (s0 : SourceView) (a : View) (s : MergeRun) (b : Batch) (z : View) : Type 0 where
  pub rows : List Record
  pub taken : IsTaken place.layout s.taken b rows
  pub out : Told a → IsMergeOut place.layout r0 s0 a (counts_in s.found) rows
  pub packed : Told a → HasPacked place rows s.taken.written z.held

pub chosen : (place : Place) (r0 : ReaderView) (s0 : SourceView) (a : View) (s : MergeRun) (b : Batch) (z : View) → (Told a → HasAll place r0 s0 a s b z) → IsTaking place.layout s.taken b → Chosen place r0 s0 a s b z
chosen place r0 s0 a s b z all taking = by a.fixed.tells_held refl
  where
    by : (tells : Bool) → a.fixed.tells_held ≡ tells → Chosen place r0 s0 a s b z
    by true told = let x = all told in record { rows = x.rows; taken = x.taken; out = λ _. x.out; packed = λ _. x.packed }
    by false untold = record { rows = taking.rows; taken = taking.taken; out = λ told. absurd (true_false (sym told ∙ untold)); packed = λ told. absurd (true_false (sym told ∙ untold)) }

-- Costs.

module _ (place : Place) (known : IsLayout place.layout) (segments : ℕ) (f g : Batch) (a b : View) where
  -- of a reading that was tried
  pub tries_calls : Tries place segments 0 0 f g a b → b.calls + 4 ≤ a.calls + (segments + load_calls place.layout (most_records place.layout) (2 ^ height_limit place.layout))
  tries_calls tries =
      let c = tries.calls in
      omega (arith, c.5, (runs_parts (room_in place.layout) (used_by (most_records place.layout)) c.0 c.1 (omega (arith, room_some place.layout known)) (omega (arith, c.3)) c.4).few)

  -- and of one to the end
  pub goes_runs : (w n : ℕ) → n ≤ segments → Goes place 0 w 0 n f g a b → WritesRuns (room_in place.layout) 0 w (a.calls + segments) b.calls
  goes_runs w n upto goes = (goes.calls.0, goes.calls.1, omega (arith, goes.calls.2, upto))

-- Damage on any station.

pub live_shown : (place : Place) (from : ℕ) (x y : Travel) (t : TallyView) (b : Batch) (fault : LoadFault) → IsLiveDamage place from x y t fault → IsMergeDamage place.layout.format t b fault
live_shown place from x y t b (Damaged segment why) is = inl (is.0, is.1, is.4)
live_shown place from x y t b (NotEmpty n) is = record {}
live_shown place from x y t b (Line n) is = record {}
live_shown place from x y t b (Full n) is = record {}
live_shown place from x y t b Disk is = record {}
live_shown place from x y t b Script is = record {}
live_shown place from x y t b Spent is = record {}

pub live_last : (place : Place) (x y : Travel) (t : TallyView) (b : Batch) (fault : LoadFault) → IsLiveDamage place 0 x y t fault → IsLastSeen place t b x y fault
live_last place x y t b (Damaged segment why) is = inl (is.0, is.1, is.3, is.4)
live_last place x y t b (NotEmpty n) is = record {}
live_last place x y t b (Line n) is = record {}
live_last place x y t b (Full n) is = record {}
live_last place x y t b Disk is = record {}
live_last place x y t b Script is = record {}
live_last place x y t b Spent is = record {}

pub packed_last : (place : Place) (x y : Travel) (t : TallyView) (b : Batch) (fault : LoadFault) → IsShownBy place.layout.format b fault → IsLastSeen place t b x y fault
packed_last place x y t b (Damaged segment why) is = inr is
packed_last place x y t b (NotEmpty n) is = record {}
packed_last place x y t b (Line n) is = record {}
packed_last place x y t b (Full n) is = record {}
packed_last place x y t b Disk is = record {}
packed_last place x y t b Script is = record {}
packed_last place x y t b Spent is = record {}

pub packed_shown : (format : ℕ) (t : TallyView) (b : Batch) (fault : LoadFault) → IsShownBy format b fault → IsMergeDamage format t b fault
packed_shown format t b (Damaged segment why) is = inr is
packed_shown format t b (NotEmpty n) is = record {}
packed_shown format t b (Line n) is = record {}
packed_shown format t b (Full n) is = record {}
packed_shown format t b Disk is = record {}
packed_shown format t b Script is = record {}
packed_shown format t b Spent is = record {}

-- a fault of a call on the file
pub file_merge_fault : (format most : ℕ) (a : View) (r0 : ReaderView) (s0 s : SourceView) (fault : LoadFault) → IsFileFault fault → (Told a → IsNoDamage fault) → IsMergeFault format most a r0 s0 s fault
file_merge_fault format most a r0 s0 s Disk is fine = record {}
file_merge_fault format most a r0 s0 s (Damaged segment why) is fine = fine
file_merge_fault format most a r0 s0 s (NotEmpty n) is fine = is
file_merge_fault format most a r0 s0 s (Line n) is fine = absurd is
file_merge_fault format most a r0 s0 s (Full n) is fine = absurd is
file_merge_fault format most a r0 s0 s Script is fine = absurd is
file_merge_fault format most a r0 s0 s Spent is fine = absurd is

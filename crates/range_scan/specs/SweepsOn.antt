-- A sweep that reads on, as far as its next record needs it.
use Rattle.std.specs.Prelude.{◌≡◌, ◌+◌, ◌-◌, ◌/◌, ◌<◌, ◌≤◌, true, false, T, length, Result, OnOk, is_err}
use Rattle.std.specs.FinMap.{entries}
use Rattle.station.specs.Bytes.{Same}
use Rattle.station.specs.View.{View, Told, Rose}
use Rattle.station.specs.Steps.{Steps}
use Rattle.header_gate.specs.InPlace.{IsRecovered}
use Rattle.header_gate.specs.Places.{file_length}
use Rattle.map_model.specs.Array.{cut}
use Rattle.map_model.specs.Image.{map_of}
use Rattle.segment.specs.declared.fault.StoreFault.{StoreFault}
use Rattle.segment.specs.declared.fault.StoreFault.TheVariants.{Failed}
use Rattle.range_scan.specs.ScanBounds.{are_before, is_void}
use Rattle.range_scan.specs.SegmentFaults.{IsDamageAt}
use Rattle.range_scan.specs.SweepView.{SweepView, IsSweep, GoesOn, validated}
use Rattle.range_scan.specs.Sweeping.{IsSweeping, BeginsThere, between}
use Rattle.range_scan.specs.SweepRuns.{ReadsRun}
use Rattle.range_scan.specs.Walk.{after_walk}

-- A sweep that may read on for a further record.
pub record CanReadOn (s : SweepView) (v : View) : Type 0 where
  -- no call failed, and its limit isn't reached
  pub unfaulted : s.faulted ≡ false
  pub wanting : s.given < s.limit
  -- if the station tells its bytes it is amid the scan of the file, whose regions have the bytes of the recovered image
  pub sweeping : Told v → IsSweeping s v.held
  pub readable : Told v → IsRecovered s.reader.layout v.held
  -- the station reaches the file's end
  pub reach : file_length s.reader.layout ≤ v.fixed.reach

-- It read none or some of the next segments, and answered a record or none.
pub record SweepsOn {A : Type 0} (result : Result A StoreFault) (s t : SweepView) (a b : View) : Type 0 where
  -- it is the same scan, and on Ok goes on in the file
  pub same : GoesOn s t
  pub is_sweep : IsSweep t
  pub sweeping : OnOk result (Told b → IsSweeping t b.held)
  -- it is closed exactly after a failure
  pub faulted : t.faulted ≡ is_err result
  -- no byte changes; it reads the next segments in order, each once, and writes nothing
  pub steps : Steps Same a b
  pub reads : b.travel ≡ after_walk s.reader.layout s.reader.region s.reader.next t.reader.next a.travel
  -- at most one call is made for each segment that is read
  pub calls : b.calls ≤ a.calls + (t.reader.next - s.reader.next)
  -- it validates a further segment only if those that it validated before it in the call have no record that isn't below the lower
  -- bound
  pub needed : Told a → T (are_before s.low (between (validated s) (validated t - 1) (cut s.tally.counts (entries (map_of a.held)))))
  -- it reads only if it validated all that it read before, and then a run
  pub runs : s.reader.next < t.reader.next → ReadsRun s t
  -- if the scan begins in its first segment, it reads at most two besides one for each four records that it answered
  pub few : Told a → BeginsThere s (entries (map_of a.held)) → t.reader.next - s.first ≤ t.given / 4 + 2
  -- no segment is read while records are kept, or if the bounds leave no room
  pub idle : 0 < length s.kept → t.reader ≡ s.reader
  pub void : is_void s.low s.high ≡ true → t.reader ≡ s.reader

-- Why it stopped: at the segment that it validated last.
pub record StopsSweep (fault : StoreFault) (s t : SweepView) (a b : View) : Type 0 where
  -- if bytes are told only the disk stops it
  pub damaged : Told a → fault ≡ Failed
  -- on any station damage is that of the segment that it validated last
  pub causes : IsDamageAt (validated t - 1) s.tally.counts fault
  -- `Failed` comes only if the count of disk faults rose
  pub failed : fault ≡ Failed → Rose a.disk_faults b.disk_faults

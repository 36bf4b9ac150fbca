-- What growth and shrinkage do.
use Rattle.std.specs.Prelude.{◌≡◌, ℕ, ◌+◌, ◌-◌, ◌*◌, ◌^◌, ◌<◌, ◌≤◌, Option, IsSome, Result, OnOk, OnErr, IfErr, IsErrOf}
use Rattle.station.specs.View.{View, Told, EachHeld, NothingPending, Rose}
use Rattle.station.specs.Steps.{Steps}
use Rattle.density_rule.specs.Spread.{resized_counts}
use Rattle.density_rule.specs.Marks.{resized_marks}
use Rattle.header_gate.specs.InPlace.{IsBare}
use Rattle.header_gate.specs.Places.{IsLayout, file_length, height_limit, segment_size}
use Rattle.key_slot.specs.Record.{Bytes}
use Rattle.map_model.specs.Array.{segment_at, resized}
use Rattle.map_model.specs.Image.{array_of}
use Rattle.redo_journal.specs.declared.place.Place.{Place}
use Rattle.redo_journal.specs.Frames.{Batch}
use Rattle.redo_journal.specs.Rest.{RestsAt}
use Rattle.segment.specs.Rows.{key_at}
use Rattle.segment.specs.declared.fault.StoreFault.{StoreFault}
use Rattle.segment.specs.declared.fault.StoreFault.TheVariants.{Failed}
use Rattle.segment_frames.specs.FrameStanding.{StandsFor}
use Rattle.window_tally.specs.TallyView.{TallyView}
use Rattle.resize_region.specs.Resized.{Resizes}
use Rattle.resize_region.specs.Shares.{HasCause}
use Rattle.segment_frames.specs.Lists.{most_segments}
use Rattle.resize_region.specs.Source.{Walks, copy_calls}

-- a place and a tally that stand for a settled file as far as which the station reaches, over which nothing is to be laid,
-- and frames for its journal
pub record CanResize (place : Place) (t : TallyView) (frames : Batch) (v : View) : Type 0 where
  pub layout : IsLayout place.layout
  pub region : place.region < 2
  pub reach : file_length place.layout ≤ v.fixed.reach
  pub journal : frames.journal ≡ place.layout.journal
  pub hmax : t.hmax ≡ height_limit place.layout
  pub stands : EachHeld (StandsFor place t) v
  pub nothing : NothingPending v
  pub bare : Told v → IsBare place.layout v.held

-- A resize to a height, whatever it answered.
pub record ResizesTo {T : Type 0} (height : ℕ) (result : Result T StoreFault) (place after : Place) (t u : TallyView)
    (fence : ℕ → Option Bytes) (frames : Batch) (a b : View) : Type 0 where
  pub steps : Steps (Resizes place height) a b
  pub settled : OnOk result (NothingPending b)
  pub rests : OnOk result ((turn : ℕ) → RestsAt place.layout turn a → RestsAt after.layout turn b)
  pub array : OnOk result (Told a → array_of b.held ≡ resized (array_of a.held) height)
  pub stands : OnOk result (EachHeld (StandsFor after u) b)
  pub tally_is : OnOk result (u ≡ record t { height = height; counts = resized_counts t.counts height; marks = resized_marks height })
  pub place_is : OnOk result (after ≡ record place { region = 1 - place.region })
  pub tally_kept : OnErr result (u ≡ t)
  pub place_kept : OnErr result (after ≡ place)
  -- all segments have fences, those of their first keys
  pub fences_set : OnOk result ((i : ℕ) → i < 2 ^ height → 0 < i → IsSome (fence i))
  pub fences_agree : OnOk result (Told a → (i : ℕ) → i < 2 ^ height → 0 < i → fence i ≡ key_at (segment_at (array_of b.held) i) 0)
  -- at most the bytes of the new segments and 9 are written
  pub cost : b.travel.written ≤ a.travel.written + (segment_size place.layout * 2 ^ height + 9)
  -- the live region is read in one direction, each segment at most once
  pub reads : (n : ℕ) × (n ≤ 2 ^ t.height) × Walks place 0 n a.travel b.travel
  -- the calls of a copying, and those of a flip
  pub calls : b.calls ≤ a.calls + (copy_calls (most_segments place.layout) (2 ^ t.height) (2 ^ height) + 4)
  -- if bytes are told only the disk stops it
  pub damaged : IfErr result (λ fault. Told a → fault ≡ Failed)
  -- and on any station a frame shows the damage
  pub cause : IfErr result (HasCause place.layout.format t.counts frames)
  -- `Failed` comes only if the count of disk faults rose
  pub failed : IsErrOf result Failed → Rose a.disk_faults b.disk_faults

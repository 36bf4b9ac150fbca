-- How many calls of the device an update makes at most.
use Rattle.std.specs.Prelude.{ℕ, ◌+◌, ◌-◌, ◌^◌, ◌==◌, if◌then◌else◌, Option, Some, None}
use Rattle.density_rule.specs.declared.Window.{Window}
use Rattle.header_gate.specs.declared.layout.Layout.{Layout}
use Rattle.header_gate.specs.declared.layout.TheConstants.{PAIRED}
use Rattle.recovery.specs.OpeningCosts.{repair_calls}
use Rattle.resize_region.specs.Source.{copy_calls}
use Rattle.segment_frames.specs.Lists.{most_segments}
use Rattle.window_tally.specs.declared.Pick.{Pick}
use Rattle.window_tally.specs.declared.Pick.TheVariants.{Fits, Spread, Grow, Shrink, AtLimit}
use Rattle.pma_store.specs.declared.answers.Report.{Report}

-- the spread of a window of height j
abbrev pub spread_calls : Layout → ℕ → ℕ
spread_calls l j = repair_calls (most_segments l) j

-- what clears the live one of two journals before a resize: its count and the gate, each with a sync
unfoldable pub clear_calls : Layout → ℕ
clear_calls l = if l.version == PAIRED then 4 else 0

-- a resize from one height to another: a copying and a flip
abbrev pub copying_calls : Layout → ℕ → ℕ → ℕ
copying_calls l from to = copy_calls (most_segments l) (2 ^ from) (2 ^ to) + 4

-- with what clears a journal before it
abbrev pub resize_calls : Layout → ℕ → ℕ → ℕ
resize_calls l from to = clear_calls l + copying_calls l from to

-- what is asked for first, in a store of this height
abbrev pub ready_calls : Layout → ℕ → Pick → ℕ
ready_calls l height Fits = 0
ready_calls l height (Spread w) = spread_calls l w.height
ready_calls l height Grow = resize_calls l height (height + 1)
ready_calls l height Shrink = resize_calls l height (height - 1)
ready_calls l height AtLimit = 0

-- behind it the update's own segment is read again
abbrev pub again_calls : Pick → ℕ
again_calls Fits = 0
again_calls (Spread w) = 1
again_calls Grow = 1
again_calls Shrink = 1
again_calls AtLimit = 0

-- what a commit spares with two journals: its pages aren't synced, and no gate is closed behind them, by a write and a sync
unfoldable pub spared_calls : Layout → ℕ
spared_calls l = if l.version == PAIRED then 3 else 0

-- a commit of that many runs of neighbouring pages
abbrev pub runs_calls : Layout → ℕ → ℕ
runs_calls l runs = 8 + runs - spared_calls l

-- the commit of one segment: nine calls, with two journals six
abbrev pub commit_calls : Layout → ℕ
commit_calls l = runs_calls l 1

-- an update once its segment was found, by what is asked for
abbrev pub asked_calls : Layout → ℕ → Pick → ℕ
asked_calls l height pick = ready_calls l height pick + again_calls pick + commit_calls l

-- by its report, and the heights between which it brings the store
abbrev pub window_calls : Layout → Option Window → ℕ
window_calls l None = 0
window_calls l (Some w) = spread_calls l w.height + 1

abbrev pub update_calls : Layout → ℕ → ℕ → Report → ℕ
update_calls l from to r = (if r.resized then resize_calls l from to + 1 else window_calls l r.rebalanced) + commit_calls l

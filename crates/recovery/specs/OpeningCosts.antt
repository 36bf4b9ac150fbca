-- What an opening writes at most, and what it reads of a file to which nothing is to be done.
use Rattle.std.specs.Prelude.{if◌then◌else◌, nat_le, ◌==◌, ℕ, ◌+◌, ◌-◌, ◌*◌, ◌/◌, ◌^◌, List, Option, Some, None}
use Rattle.density_rule.specs.declared.Window.{Window}
use Rattle.density_rule.specs.Repair.{repair_window}
use Rattle.header_gate.specs.declared.layout.Layout.{Layout}
use Rattle.header_gate.specs.declared.layout.TheConstants.{GREATEST_HEIGHT, INDEXED, PAIRED}
use Rattle.header_gate.specs.Header.{layout_in}
use Rattle.header_gate.specs.Places.{page_size, height_limit, segment_size}
use Rattle.header_gate.specs.Recovered.{live_table, names_some}
use Rattle.map_model.specs.Array.{counts_of}
use Rattle.map_model.specs.Image.{array_of, height_of}
use Rattle.range_scan.specs.declared.segment_buffer.TheConstants.{RUN_SIZE}
use Rattle.redo_journal.specs.Neighbours.{run_count}
use Rattle.segment_frames.specs.Lists.{most_segments}
use Rattle.segment_frames.specs.SegmentParts.{parts}
use Rattle.recovery.specs.Intents.{region_reads, intent_reads, intent_calls}

-- a replay: the pages of a full journal, and the gate
abbrev pub replay_cost : Layout → ℕ
replay_cost l = page_size * l.journal + 1

-- a repair of a store of this slot format and height: the spread of a window of that height
abbrev pub repair_cost : ℕ → ℕ → ℕ
repair_cost format height = (4 * 2 ^ height - 2) * (16392 * format + 6)

-- an opening: both, the repair at the greatest height that the layout allows
unfoldable pub opening_cost : Layout → ℕ
opening_cost l = replay_cost l + repair_cost l.format (height_limit l)

-- The calls of an opening. A replay: what it reads of the journal, a write for each of its pages, and the gate.
abbrev pub replay_calls : Layout → ℕ
replay_calls l = 6 + l.journal

-- a repair of a store of this height, with frames for that many segments: one batch if they are room for all, and else those
-- of a window's moves and fences
abbrev pub repair_calls : ℕ → ℕ → ℕ
repair_calls frames height = if nat_le (2 ^ height) frames then 10 else 12 * (4 * 2 ^ height - 2) + parts frames (2 ^ height)

-- the segments of a store of this height, in runs of as many as are read at once
abbrev pub region_calls : Layout → ℕ → ℕ
region_calls l height = parts (RUN_SIZE / segment_size l) (2 ^ height)

-- what comes behind the header of a store of this height: the replay, the region, the intent with a look, and the repair
abbrev pub behind_calls : Layout → ℕ → ℕ
behind_calls l height = replay_calls l + region_calls l height + (2 + 2 ^ height) + repair_calls (most_segments l) height

-- in all, with the sync, and the length and the page of the header
abbrev pub opening_calls : Layout → ℕ → ℕ
opening_calls l height = 3 + behind_calls l height

-- if no page is to be laid: of two journals the live one's count is read
abbrev pub bare_calls : Layout → ℕ
bare_calls l = if l.version == PAIRED then 2 else 0

-- behind the header of a file to which nothing is to be done: this count, its segments, and the intent
abbrev pub back_calls : List ℕ → ℕ
back_calls image = bare_calls (layout_in image) + region_calls (layout_in image) (height_of image) + intent_calls image

-- The calls that a file needs. A journal that is to be replayed over the live region, and names some page: those of a replay, a
-- write for each run of neighbouring pages that its table names
abbrev pub laying_calls : List ℕ → ℕ
laying_calls image = if names_some (layout_in image) image then 6 + run_count (live_table (layout_in image) image) else 0

-- a repair, with frames for that many segments: those of the window that is spread, if one is
abbrev pub mending_calls : ℕ → Option Window → ℕ
mending_calls frames None = 0
mending_calls frames (Some w) = repair_calls frames w.height

-- what comes behind the header
abbrev pub asked_behind : List ℕ → ℕ
asked_behind image = laying_calls image + back_calls image + mending_calls (most_segments (layout_in image)) (repair_window (height_of image) (counts_of (array_of image)))

-- and in all
abbrev pub asked_opening : List ℕ → ℕ
asked_opening image = 3 + asked_behind image

-- the layout with the greatest height and the longest journal, whose openings write the most
abbrev pub greatest_layout : Layout
greatest_layout = record { hmax = GREATEST_HEIGHT; journal = 2 ^ GREATEST_HEIGHT; version = INDEXED; format = 1 }

-- if no page is to be laid, that count
abbrev pub bare_reads : Layout → ℕ
bare_reads l = if l.version == PAIRED then 4 else 0

-- What is read behind the header: this count, the live region, and the intent.
abbrev pub back_reads : List ℕ → ℕ
back_reads image = bare_reads (layout_in image) + region_reads image + intent_reads image

-- and in all, with the header page
abbrev pub opening_reads : List ℕ → ℕ
opening_reads image = page_size + back_reads image

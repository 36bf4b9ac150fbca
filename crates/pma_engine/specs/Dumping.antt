-- The outcome of the dump of a file.
use Rattle.std.specs.Prelude.{◌≡◌, ◌⊎◌, ℕ, ◌+◌, ◌*◌, ◌^◌, ◌≤◌, List, ◌++◌, length, take, false, None}
use Rattle.std.specs.List.{flat_map}
use Rattle.std.specs.FinMap.{entries}
use Rattle.station.specs.View.{View, Told, SaidTold, NothingPending, Rose, attached_by}
use Rattle.station.specs.Steps.{Run}
use Rattle.header_gate.specs.Header.{layout_in}
use Rattle.header_gate.specs.Places.{page_size, segment_size}
use Rattle.index_file.specs.Clean.{IsShut}
use Rattle.map_model.specs.Image.{map_of}
use Rattle.map_model.specs.Store.{Map}
use Rattle.batch_intent.specs.Means.{Means, meant_map, opening_reason}
use Rattle.recovery.specs.OpeningCosts.{opening_reads}
use Rattle.command_text.specs.Answers.{range_lines}
use Rattle.command_text.specs.Reply.{reply_text}
use Rattle.pma_store.specs.Opens.{CallsOpening, IsAllAtRest}
use Rattle.pma_store.specs.StoreView.{StoreView}
use Rattle.pma_engine.specs.Carrying.{Looks}
use Rattle.pma_engine.specs.CommandCosts.{Walks}
use Rattle.pma_engine.specs.Closing.{IsButClosed, WritesGate}
use Rattle.pma_engine.specs.RunOpening.{IsOutOfMemory, reopening_calls, reopening_cost}
use Rattle.pma_engine.specs.Outcome.{IsRefused}
use Rattle.pma_engine.specs.Refusing.{SaysLastLine}
use Rattle.pma_engine.specs.Upgrading.{KeepsMeaning, opened_height}
use Rattle.pma_engine.specs.declared.status.TheConstants.{DONE, REFUSED, DISK_FAULT, REPLY_FAULT, OUT_OF_MEMORY}

-- the statuses with which a dump may end
abbrev pub IsDumpStatus : ℕ → Type 0
IsDumpStatus status = (status ≡ DONE) ⊎ ((status ≡ REFUSED) ⊎ ((status ≡ DISK_FAULT) ⊎ ((status ≡ REPLY_FAULT) ⊎ (status ≡ OUT_OF_MEMORY))))

-- the lines of all records of a map, ascending, and then the line with their number
abbrev pub dump_text : Map → List ℕ
dump_text m = flat_map reply_text (range_lines (entries m))

-- the calls of a dump, besides those of the items of an intent that is to be applied: those of the opening, one for each segment,
-- and at most one for each byte that is said
abbrev pub dump_calls : List ℕ → ℕ
dump_calls image = reopening_calls image + (2 ^ opened_height image + length (dump_text (meant_map image)))

-- a front of a text was said behind what was said before
pub record SaidFront (text said_before said : List ℕ) : Type 0 where
  pub count : ℕ
  pub within : count ≤ length text
  pub said_is : said ≡ said_before ++ take count text

-- `dump`
pub record DumpsFile (status : ℕ) (a b : View) : Type 0 where
  -- Of a valid store: if nothing is pending at the entry, a crash at any moment leaves a file that has the layout of the one at
  -- the entry and means its map. And so do the held bytes at the return, whatever the status.
  pub steps : NothingPending a → Run (λ image said. KeepsMeaning a.held image) (attached_by false a) b
  pub held : Told a → KeepsMeaning a.held b.held
  -- With 0 the file is a valid store, and exactly the lines of its records were said, ascending, and the line with their number.
  pub done : status ≡ DONE → Told a → (opening_reason a.held ≡ None) × (SaidTold a → b.said ≡ a.said ++ dump_text (meant_map a.held))
  -- With every status but 3 a front of this was said.
  pub front : (status ≡ REFUSED → ⊥) → Told a → SaidTold a → SaidFront (dump_text (meant_map a.held)) a.said b.said
  -- With 3 the file is refused, as `IsRefused` says.
  pub refused : status ≡ REFUSED → IsRefused a b
  -- With 7 it is as `IsOutOfMemory` says.
  pub memory : status ≡ OUT_OF_MEMORY → IsOutOfMemory (attached_by false a) b
  -- With 0 and 6 nothing is pending, and a file of version 3 or 4 has an even clean gate.
  pub settled : (status ≡ DONE) ⊎ (status ≡ REPLY_FAULT) → NothingPending b
  pub shut : (status ≡ DONE) ⊎ (status ≡ REPLY_FAULT) → Told a → IsShut b.held
  -- A valid store ends with 0, or for want of memory with 7, if the counts of disk faults and of failed sayings didn't rise.
  pub complete : Told a → (m : Map) → Means (layout_in a.held) a.held m → (Rose a.disk_faults b.disk_faults → ⊥) →
      (Rose a.say_faults b.say_faults → ⊥) → (status ≡ DONE) ⊎ (status ≡ OUT_OF_MEMORY)
  -- Over a file to which nothing is to be done nothing is written but the gate of an open index, and with every status but 4
  -- every other byte stays.
  pub unwritten : Told a → IsAllAtRest a.held → WritesGate a.held a.travel.written b.travel.written
  pub kept : (status ≡ DISK_FAULT → ⊥) → Told a → IsAllAtRest a.held → IsButClosed a.held a.held b.held
  -- Over any file no more is written than an opening may.
  pub written : Told a → b.travel.written ≤ a.travel.written + reopening_cost a.held
  -- Over a file to which nothing is to be done, whatever the status, no more is read than the opening reads, the header page once
  -- more, and each segment once more.
  pub read : Told a → IsAllAtRest a.held → b.travel.read ≤ a.travel.read + (page_size + opening_reads a.held + segment_size (layout_in a.held) * 2 ^ opened_height a.held)
  -- With every status but 3 it makes no more calls than an opening may, one for each segment of the opened store, and one for
  -- each byte of the lines of the map's records and their number; with 3 those of the opening and 512; besides the calls of the
  -- items of an intent.
  pub calls : (status ≡ REFUSED → ⊥) → Told a → CallsOpening (dump_calls a.held) (attached_by false a) b
  pub refused_calls : status ≡ REFUSED → Told a → CallsOpening (reopening_calls a.held + 512) (attached_by false a) b

-- the outcome of the dump of an open store, on whose station nothing is pending
pub record DumpsOpened (status : ℕ) (s : StoreView) (a b : View) : Type 0 where
  pub status_is : (status ≡ DONE) ⊎ ((status ≡ REFUSED) ⊎ ((status ≡ DISK_FAULT) ⊎ (status ≡ REPLY_FAULT)))
  -- nothing is written, and no byte changes at any moment
  pub looks : Looks a b
  -- whatever was answered, segments were read in order, from the first on and each at most once
  pub walks : (to : ℕ) × Walks s 0 to a.travel b.travel
  pub calls : Told a → b.calls ≤ a.calls + (2 ^ s.tally.height + length (dump_text (map_of a.held)))
  pub done : status ≡ DONE → Told a → SaidTold a → b.said ≡ a.said ++ dump_text (map_of a.held)
  pub front : Told a → SaidTold a → SaidFront (dump_text (map_of a.held)) a.said b.said
  pub undamaged : status ≡ REFUSED → Told a → ⊥
  pub line : status ≡ REFUSED → SaidTold a → SaysLastLine a b
  pub settled : (status ≡ DONE) ⊎ (status ≡ REPLY_FAULT) → NothingPending b
  pub disk : status ≡ DISK_FAULT → Rose a.disk_faults b.disk_faults
  pub reply : status ≡ REPLY_FAULT → Rose a.say_faults b.say_faults

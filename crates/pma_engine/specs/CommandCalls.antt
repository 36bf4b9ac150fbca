-- How many calls of the device a command makes, and the line that has it.
use Rattle.std.specs.Prelude.{◌≡◌, ℕ, ◌+◌, ◌/◌, ◌^◌, ◌<◌, ◌≤◌, length, Option, Some, None}
use Rattle.std.specs.FinMap.{entries, get}
use Rattle.station.specs.View.{View, Told}
use Rattle.key_slot.specs.Record.{Bytes}
use Rattle.map_model.specs.Array.{segment_for}
use Rattle.map_model.specs.Cursors.{Cursor, Cursors}
use Rattle.map_model.specs.Image.{array_of, map_of}
use Rattle.map_model.specs.Scan.{scanned}
use Rattle.window_tally.specs.declared.Change.{Change}
use Rattle.window_tally.specs.declared.Change.TheVariants.{Add, Take}
use Rattle.command_text.specs.declared.command.Command.{Command}
use Rattle.command_text.specs.declared.command.Command.TheVariants.{Nothing, Put, Remove, Batch, Get, Range, Check, Probe, Cost, Open, Next, Prev, Close, OversizedKey, OversizedValue, RepeatedKey, Bad}
use Rattle.pma_store.specs.BatchCalls.{IsForBatch}
use Rattle.pma_store.specs.UpdateCalls.{asked_calls}
use Rattle.pma_store.specs.Damaging.{picked}
use Rattle.pma_store.specs.StoreView.{StoreView}

-- that many calls are those of an update, by what the kept counts need in one segment, to which the key belongs; the first one
-- reads that segment, and if they need nothing the commit makes nine behind it, at version 4 six
pub record IsForUpdate (change : Change) (key : Bytes) (s : StoreView) (a : View) (calls : ℕ) : Type 0 where
  pub at : ℕ
  pub within : at < 2 ^ s.tally.height
  pub own : Told a → at ≡ segment_for (array_of a.held) key
  pub is : calls ≡ 1 + asked_calls s.place.layout s.tally.height (picked change at s.tally)

-- that many calls are those of a step of a cursor, which reads a segment or two; if there is none, none
abbrev pub IsForStep : Option Cursor → ℕ → Type 0
IsForStep None calls = calls ≡ 0
IsForStep (Some at) calls = calls ≡ 2

-- that many calls are those of a range: no more than the store has segments, and no more than two besides one for each four of its
-- records
pub record IsForRange (low high : Option Bytes) (limit : ℕ) (s : StoreView) (a : View) (calls : ℕ) : Type 0 where
  pub within : calls ≤ 2 ^ s.tally.height
  pub few : Told a → calls ≤ length (scanned low high limit (entries (map_of a.held))) / 4 + 2

-- That many calls are those of a command, with these cursors open: of an update by what it needs, of a batch by its segments and
-- its items, of a get one, of a range one for each segment that it reads, of a check one for each segment, of a step of a cursor two,
-- and of every other command none.
abbrev pub IsForCommand : Command → StoreView → Cursors → View → ℕ → Type 0
IsForCommand (Put key value) s k a calls = IsForUpdate Add key s a calls
IsForCommand (Remove key) s k a calls = IsForUpdate Take key s a calls
IsForCommand (Batch items) s k a calls = IsForBatch items s a calls
IsForCommand (Get key) s k a calls = calls ≡ 1
IsForCommand (Range low high limit) s k a calls = IsForRange low high limit s a calls
IsForCommand Check s k a calls = calls ≡ 2 ^ s.tally.height
IsForCommand Nothing s k a calls = calls ≡ 0
IsForCommand (Probe key block) s k a calls = calls ≡ 0
IsForCommand Cost s k a calls = calls ≡ 0
IsForCommand (Open name low high) s k a calls = calls ≡ 0
IsForCommand (Next name) s k a calls = IsForStep (get k name) calls
IsForCommand (Prev name) s k a calls = IsForStep (get k name) calls
IsForCommand (Close name) s k a calls = calls ≡ 0
IsForCommand OversizedKey s k a calls = calls ≡ 0
IsForCommand OversizedValue s k a calls = calls ≡ 0
IsForCommand RepeatedKey s k a calls = calls ≡ 0
IsForCommand (Bad why) s k a calls = calls ≡ 0

-- a command makes at most that many calls, before its reply is said
pub record MakesCalls (c : Command) (s : StoreView) (k : Cursors) (a b : View) : Type 0 where
  pub calls : ℕ
  pub is_for : IsForCommand c s k a calls
  pub most : b.calls ≤ a.calls + calls

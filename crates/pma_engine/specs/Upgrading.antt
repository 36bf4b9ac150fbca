-- The outcome of an upgrade of a file to slot format 2.
use Rattle.std.specs.Prelude.{◌≡◌, ◌⊎◌, ℕ, ◌+◌, ◌-◌, ◌*◌, ◌^◌, ◌<◌, ◌≤◌, List, false, Option, Some, None, Result, Ok, Err}
use Rattle.std.specs.FinMap.{len}
use Rattle.station.specs.View.{View, Told, SaidTold, NothingPending, Rose, attached_by}
use Rattle.station.specs.Steps.{Run}
use Rattle.density_rule.specs.Bounds.{upper_of}
use Rattle.header_gate.specs.InPlace.{IsBare}
use Rattle.header_gate.specs.Header.{live_copy, layout_in}
use Rattle.header_gate.specs.Places.{segment_size}
use Rattle.header_gate.specs.Recovered.{recovered}
use Rattle.header_gate.specs.declared.layout.Layout.{Layout}
use Rattle.header_gate.specs.declared.reason.Reason.{Reason}
use Rattle.index_file.specs.Clean.{IsShut}
use Rattle.header_gate.specs.declared.reason.Reason.TheVariants.{Format}
use Rattle.key_slot.specs.Format.{narrow, wide}
use Rattle.map_model.specs.Array.{resized}
use Rattle.map_model.specs.Image.{Represents, array_of, map_of}
use Rattle.map_model.specs.Store.{Map}
use Rattle.batch_intent.specs.Means.{Means, has_waiting, meant_map, opened_items_state, opening_reason}
use Rattle.segment.specs.declared.fault.StoreFault.{StoreFault}
use Rattle.segment.specs.declared.fault.StoreFault.TheVariants.{Failed, Damaged}
use Rattle.resize_region.specs.Upgraded.{widened, upgraded_height}
use Rattle.resize_region.specs.declared.outcome.Upgrade.{Upgrade}
use Rattle.resize_region.specs.declared.outcome.Upgrade.TheVariants.{Done, Already, OneSegment, TooMany}
use Rattle.command_text.specs.declared.reply.Reply.{Reply}
use Rattle.command_text.specs.declared.reply.Reply.TheVariants as reply
use Rattle.pma_store.specs.Opens.{IsAllAtRest}
use Rattle.pma_store.specs.Readying.{clear_cost}
use Rattle.pma_engine.specs.Closing.{IsButClosed, WritesGate}
use Rattle.pma_engine.specs.RunOpening.{IsOutOfMemory, reopening_cost}
use Rattle.pma_engine.specs.Refusing.{IsRefusal, SaysLine}
use Rattle.pma_engine.specs.declared.status.TheConstants.{DONE, REFUSED, DISK_FAULT, OUT_OF_MEMORY}

-- the statuses with which an upgrade may end
abbrev pub IsUpgradeStatus : ℕ → Type 0
IsUpgradeStatus status = (status ≡ DONE) ⊎ ((status ≡ REFUSED) ⊎ ((status ≡ DISK_FAULT) ⊎ (status ≡ OUT_OF_MEMORY)))

-- the line that tells why a store isn't upgraded, whose live copy has this number
abbrev pub line_of_upgrade : ℕ → Result Upgrade StoreFault → Option Reply
line_of_upgrade copy (Ok Done) = None
line_of_upgrade copy (Ok Already) = Some (reply.NotStore (Format copy wide))
line_of_upgrade copy (Ok OneSegment) = Some reply.OneSegment
line_of_upgrade copy (Ok (TooMany records)) = Some (reply.TooMany records)
line_of_upgrade copy (Err Failed) = None
line_of_upgrade copy (Err (Damaged segment why)) = Some (reply.Damaged segment why)

-- the status with which the job ends then
abbrev pub status_of_upgrade : Result Upgrade StoreFault → ℕ
status_of_upgrade (Ok Done) = DONE
status_of_upgrade (Ok Already) = REFUSED
status_of_upgrade (Ok OneSegment) = REFUSED
status_of_upgrade (Ok (TooMany records)) = REFUSED
status_of_upgrade (Err Failed) = DISK_FAULT
status_of_upgrade (Err (Damaged segment why)) = REFUSED

-- a store with this layout, this live copy and that many records has slot format 2 already, or in format 2 no room for a
-- segment, or for fewer records than it has; and this line says so
abbrev pub AnswersUpgrade : Layout → ℕ → ℕ → Reply → Type 0
AnswersUpgrade l copy records line = ((l.format ≡ wide) × (line ≡ reply.NotStore (Format copy wide)))
    ⊎ (((l.format ≡ narrow) × (l.hmax ≡ 0) × (line ≡ reply.OneSegment))
    ⊎ ((l.format ≡ narrow) × (1 ≤ l.hmax) × (upper_of (l.hmax - 1) < records) × (line ≡ reply.TooMany records)))

-- the store of an old image isn't upgraded, and this line says why, with the number of the copy that is live in the new one
abbrev pub IsUpgradeAnswer : List ℕ → List ℕ → Reply → Type 0
IsUpgradeAnswer old new line = AnswersUpgrade (layout_in old) (live_copy new) (len (meant_map old)) line

-- why the upgrade of a file is refused: the first reason against the file, or that answer
abbrev pub IsUpgradeRefusal : List ℕ → List ℕ → Reply → Type 0
IsUpgradeRefusal old new line = ((r : Reason) × (opening_reason old ≡ Some r) × (line ≡ reply.NotStore r))
    ⊎ ((opening_reason old ≡ None) × IsUpgradeAnswer old new line)

-- the new image has the layout of the old one, and means each map that it does
abbrev pub KeepsMeaning : List ℕ → List ℕ → Type 0
KeepsMeaning old new = (m : Map) → Means (layout_in old) old m → Means (layout_in old) new m

-- the new image means each map that the old one does, in the layout of the old one or with slot format 2
abbrev pub MayUpgrade : List ℕ → List ℕ → Type 0
MayUpgrade old new = (m : Map) → Means (layout_in old) old m → Means (layout_in old) new m ⊎ Means (widened (layout_in old)) new m

-- the height of a store once it is opened, and once it is upgraded
abbrev pub opened_height : List ℕ → ℕ
opened_height image = (opened_items_state image).height

abbrev pub next_height : List ℕ → ℕ
next_height image = upgraded_height (layout_in image) (opened_height image)

-- A store was upgraded.
pub record IsUpgraded (old new : List ℕ) : Type 0 where
  -- The old file is a valid store to which none of the three answers is due: it has format 1, a height limit of 1 or more, and no
  -- more records than it may have then.
  pub sound : opening_reason old ≡ None
  pub due : (copy : ℕ) (line : Reply) → AnswersUpgrade (layout_in old) copy (len (meant_map old)) line → ⊥
  -- It means the same map, at the height that its opening leaves, or at H - 1 if that is H, the greatest one.
  pub means : (l : Layout) (m : Map) → Means l old m → (means : Means (widened l) new m) × (means.height ≡ next_height old)
  -- No intent is to be applied.
  pub no_intent : has_waiting new ≡ false
  -- It has slot format 2, and its layout is else as it was.
  pub layout : layout_in new ≡ widened (layout_in old)
  -- Its array is the opened one, spread over the segments of that height.
  pub array : array_of new ≡ resized (opened_items_state old).array (next_height old)

-- An upgrade was refused.
pub record IsUpgradeRefused (a b : View) : Type 0 where
  -- One line is said: whole, or a front of it if a saying failed.
  pub line : SaidTold a → (line : Reply) × IsRefusal line × SaysLine line a.said a b
  -- Over a station that tells its bytes the line tells the first reason against the file; or of a valid store that it has format
  -- 2, with the copy that is live at the return; or that its height limit is 0; or that it has more records than it may have
  -- then, and how many, with the items of an intent.
  pub why : Told a → (line : Reply) × IsUpgradeRefusal a.held b.held line × (SaidTold a → SaysLine line a.said a b)
  -- A file that is no store recovers to what it recovered to; and if no page is to be replayed over its region (below version 4: if
  -- its gate is even), every byte stays. But an odd clean gate may be closed besides, from version 3 on.
  pub recovers : Told a → (r : Reason) → opening_reason a.held ≡ Some r → IsButClosed a.held (recovered (layout_in a.held) a.held) (recovered (layout_in a.held) b.held)
  pub bare : Told a → (r : Reason) → opening_reason a.held ≡ Some r → IsBare (layout_in a.held) a.held → IsButClosed a.held a.held b.held
  -- The live copy is the one at the entry, if no intent was to be applied.
  pub copy : Told a → has_waiting a.held ≡ false → live_copy b.held ≡ live_copy a.held
  -- A file to which nothing is to be done keeps every byte, and nothing is written, but that an odd clean gate may be closed.
  pub kept : Told a → IsAllAtRest a.held → IsButClosed a.held a.held b.held × WritesGate a.held a.travel.written b.travel.written

-- at most that many bytes are written by the widening of a store of this layout and height: the other region's segments, and a flip
abbrev pub widen_cost : Layout → ℕ → ℕ
widen_cost l height = segment_size (widened l) * 2 ^ upgraded_height l height + 9

-- and by the upgrade: at version 4 with what leaves nothing pending before it
abbrev pub upgrade_cost : Layout → ℕ → ℕ
upgrade_cost l height = clear_cost l + widen_cost l height

-- `upgrade`
pub record UpgradesFile (status : ℕ) (a b : View) : Type 0 where
  -- Of a valid store: if nothing is pending at the entry, a crash at any moment leaves a file that means the map of the one at
  -- the entry, in its layout or in the same with slot format 2. And so do the held bytes at the return, whatever the status.
  pub steps : NothingPending a → Run (λ image said. MayUpgrade a.held image) (attached_by false a) b
  pub held : Told a → MayUpgrade a.held b.held
  -- With 3 and 7, of a valid store: the held bytes have the layout of the file at the entry and mean its map.
  pub kept : (status ≡ DONE → ⊥) → (status ≡ DISK_FAULT → ⊥) → Told a → KeepsMeaning a.held b.held
  -- With 0 the file was upgraded, as `IsUpgraded` says, and nothing is pending.
  pub done : status ≡ DONE → Told a → IsUpgraded a.held b.held
  pub settled : status ≡ DONE → NothingPending b
  -- With 0 a file of version 3 or 4 has an even clean gate.
  pub shut : status ≡ DONE → Told a → IsShut b.held
  -- With every status but 3 nothing is said.
  pub silent : (status ≡ REFUSED → ⊥) → b.said ≡ a.said
  -- With 3 it is refused, as `IsUpgradeRefused` says.
  pub refused : status ≡ REFUSED → IsUpgradeRefused a b
  -- With 7 it is as `IsOutOfMemory` says.
  pub memory : status ≡ OUT_OF_MEMORY → IsOutOfMemory (attached_by false a) b
  -- A valid store, if the count of disk faults didn't rise, ends with 0 or 7, or with 3 and an answer that is due.
  pub complete : Told a → (m : Map) → Means (layout_in a.held) a.held m → (Rose a.disk_faults b.disk_faults → ⊥) →
      (status ≡ DONE) ⊎ ((status ≡ OUT_OF_MEMORY) ⊎ ((status ≡ REFUSED) × ((line : Reply) × IsUpgradeAnswer a.held b.held line)))
  -- Whatever the status, no more is written than an opening may, and `8192 * 2^h + 9` bytes, at version 4 5 more, with h the
  -- height that an upgrade gives the file.
  pub written : Told a → b.travel.written ≤ a.travel.written + (reopening_cost a.held + upgrade_cost (layout_in a.held) (opened_height a.held))

-- the outcome of the upgrade of an open store, on whose station nothing is pending, if that many bytes may be written before it is
-- widened; its file has no intent that is to be applied
pub record UpgradesOpened (status : ℕ) (l : Layout) (height before : ℕ) (a b : View) : Type 0 where
  pub status_is : (status ≡ DONE) ⊎ ((status ≡ REFUSED) ⊎ (status ≡ DISK_FAULT))
  pub run : Run (λ image said. MayUpgrade a.held image) a b
  pub held : Told a → MayUpgrade a.held b.held
  pub due : status ≡ DONE → Told a → (copy : ℕ) (line : Reply) → AnswersUpgrade (layout_in a.held) copy (len (map_of a.held)) line → ⊥
  pub means : status ≡ DONE → Told a → (m : Map) → Represents a.held m height →
      (means : Means (widened (layout_in a.held)) b.held m) × (means.height ≡ upgraded_height l height)
  pub no_intent : status ≡ DONE → Told a → has_waiting b.held ≡ false
  pub layout : status ≡ DONE → Told a → layout_in b.held ≡ widened (layout_in a.held)
  pub array : status ≡ DONE → Told a → array_of b.held ≡ resized (array_of a.held) (upgraded_height l height)
  pub settled : status ≡ DONE → NothingPending b
  pub silent : (status ≡ REFUSED → ⊥) → b.said ≡ a.said
  pub line : status ≡ REFUSED → SaidTold a → (line : Reply) × IsRefusal line × SaysLine line a.said a b
  pub why : status ≡ REFUSED → Told a →
      (line : Reply) × AnswersUpgrade (layout_in a.held) (live_copy b.held) (len (map_of a.held)) line
      × (SaidTold a → SaysLine line a.said a b)
  pub kept : status ≡ REFUSED → Told a → (b.held ≡ a.held) × (b.travel.written ≡ a.travel.written)
  pub written : b.travel.written ≤ a.travel.written + (before + widen_cost l height)
  pub disk : status ≡ DISK_FAULT → Rose a.disk_faults b.disk_faults

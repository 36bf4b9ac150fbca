-- The outcome of an opening, and what is known of parts and file between its steps.
use Rattle.std.specs.Prelude.{◌≡◌, ◌≢◌, ◌⊎◌, ℕ, ◌+◌, ◌<◌, ◌≤◌, List, sum, Some, None, Result, IsOk, OnOk, IfErr, IsErrOf}
use Rattle.station.specs.View.{View, Told, Honest, EachHeld, NothingPending, Rose, up}
use Rattle.station.specs.Steps.{Steps, LeavesOnly}
use Rattle.density_rule.specs.Bounds.{IsInBounds}
use Rattle.density_rule.specs.Marks.{no_marks}
use Rattle.density_rule.specs.Repair.{repair_window}
use Rattle.header_gate.specs.declared.header.Header.{Header}
use Rattle.header_gate.specs.declared.layout.Layout.{Layout}
use Rattle.header_gate.specs.declared.reason.Reason.{Reason}
use Rattle.header_gate.specs.Header.{layout_in}
use Rattle.header_gate.specs.InPlace.{IsBare}
use Rattle.header_gate.specs.Places.{file_length, height_limit}
use Rattle.header_gate.specs.Reasons.{header_reason}
use Rattle.map_model.specs.Store.{Map}
use Rattle.map_model.specs.Image.{array_of, height_of}
use Rattle.map_model.specs.Repairing.{repair as repair_of}
use Rattle.redo_journal.specs.declared.place.Place.{Place}
use Rattle.redo_journal.specs.Rest.{RestsAt}
use Rattle.segment_frames.specs.Lists.{most_segments}
use Rattle.segment_frames.specs.FrameStanding.{StandsFor}
use Rattle.veb_index.specs.IndexView.{IndexView}
use Rattle.window_tally.specs.TallyView.{TallyView}
use Rattle.batch_intent.specs.Means.{Means, opening_reason}
use Rattle.redistribute.specs.Rearranged.{Rearranges}
use Rattle.recovery.specs.OpeningCosts.{repair_cost, mending_calls, asked_behind}
use Rattle.recovery.specs.OpeningFaults.{IsEarly, IsNoDamage, IsRepairFault}
use Rattle.recovery.specs.Intents.{intent_of, IsIntentFor}
use Rattle.recovery.specs.StoreParts.{AreParts, Fits, AgreesWith, HasFences, HasHeader}
use Rattle.recovery.specs.Restores.{Restores, LeavesFile}
use Rattle.recovery.specs.declared.fault.OpenFault.{OpenFault}
use Rattle.recovery.specs.declared.fault.OpenFault.TheVariants.{Memory, Failed, NotStore}
use Rattle.recovery.specs.declared.parts.Parts.{Parts}

-- The outcome of an opening: which files it opens, why it refuses the others, and what becomes of the file. At each moment
-- `opens` relates it to the file at entry; a file that `rests` says nothing is to be done to is read, and no more than `reads`.
pub record OpensFile {T : Type 0} (opens : List ℕ → List ℕ → Type 0) (rests : List ℕ → Type 0) (reads : List ℕ → ℕ)
    (result : Result T OpenFault) (a b : View) : Type 0 where
  -- on Ok there is no reason against the file, and `NotStore` names the first one, if the station tells its bytes
  pub sound : OnOk result (Told a → opening_reason a.held ≡ None)
  pub refused : IfErr result (λ e. (r : Reason) → e ≡ NotStore r → Told a → opening_reason a.held ≡ Some r)
  -- if the station tells its bytes and the count of disk faults didn't rise, each file that means a map is opened, but for want
  -- of memory
  pub complete : Told a → (l : Layout) (m : Map) → Means l a.held m → ¬ Rose a.disk_faults b.disk_faults → IsOk result ⊎ IsErrOf result Memory
  -- at every moment, and in the held bytes whatever is answered, the file comes by `opens` from the one at entry
  pub steps : Steps opens a b
  -- a refused file represents at every moment what it did and recovers to what it recovered to, and no byte of it differs but
  -- those of the journal's gate and the regions
  pub late : IfErr result (λ e. (r : Reason) → e ≡ NotStore r → Steps Restores a b)
  -- a refusal for the header or the journal leaves every byte, and so does any refusal if no page is to be replayed over the live
  -- region; nothing is written then
  pub early : IfErr result (λ e. (r : Reason) → e ≡ NotStore r → IsEarly r → LeavesFile a b)
  pub bare : IfErr result (λ e. (r : Reason) → e ≡ NotStore r → Told a → IsBare (layout_in a.held) a.held → LeavesFile a b)
  -- behind a refusal nothing is pending
  pub refused_settled : IfErr result (λ e. (r : Reason) → e ≡ NotStore r → NothingPending b)
  -- behind want of memory nothing is pending, nothing is wrong with the header, every byte is left at every moment, and nothing
  -- is written
  pub memory : IsErrOf result Memory → LeavesFile a b
  pub memory_last : IsErrOf result Memory → NothingPending b × (Told a → header_reason a.held ≡ None)
  -- whatever is answered, a file to which nothing is to be done keeps every byte, nothing is written, and no more is read than
  -- `reads` says
  pub kept : Told a → rests a.held → LeavesFile a b
  pub one_pass : Told a → rests a.held → b.travel.read ≤ a.travel.read + reads a.held
  -- whatever is answered, a file with a reason against its header keeps every byte, and nothing is written
  pub unsound : Told a → header_reason a.held ≢ None → LeavesFile a b
  -- if the station tells its bytes, `Damaged` never comes
  pub damaged : IfErr result (λ e. Told a → IsNoDamage e)

-- more was done than one call that failed
abbrev pub GoesOn : {T : Type 0} → Result T OpenFault → View → View → Type 0
GoesOn result a b = (IsErrOf result Failed → ⊥) ⊎ (up a.calls 1 < b.calls)

-- The first call is a sync, before anything is read: behind that one call, whatever a crash leaves comes by R from the bytes that
-- were held at entry, and from no other image.
pub record SyncsFirst {T : Type 0} (R : List ℕ → List ℕ → Type 0) (result : Result T OpenFault) (a b : View) : Type 0 where
  pub called : up a.calls 1 ≤ b.calls
  -- while the first call is made, a crash leaves an image that it might have left at entry; behind it, one that comes by R from
  -- the bytes that were held there
  pub first : LeavesOnly (λ image said. a.may_leave image ⊎ R a.held image) a b
  pub synced : GoesOn result a b → Honest a → (image said : List ℕ) → b.may_have_left (up a.calls 1) image said → R a.held image

-- The parts of an opened store, and the file that they agree with: its array is the repair of the old one.
pub record IsOpened (parts : Parts) (a b : View) : Type 0 where
  pub agrees : EachHeld (AgreesWith parts.place parts.tally parts.index) b
  pub room : parts.index.hmax ≡ height_limit parts.place.layout
  pub fits : Fits parts.place parts.tally parts.index parts.frames.journal
  pub reach : file_length parts.place.layout ≤ a.fixed.reach
  pub unrested : parts.tally.marks ≡ no_marks parts.tally.height
  pub array : Told a → array_of b.held ≡ repair_of (height_of a.held) (array_of a.held)
  pub waits : Told a → parts.intent ≡ intent_of a.held
  pub items : IsIntentFor parts.place.layout.format parts.intent
  pub rests : RestsAt parts.place.layout parts.frames.turn b
  -- the calls that the file asked for
  pub calls : Told a → b.calls ≤ a.calls + asked_behind a.held

-- Parts that were made for the file with this header, of which nothing is known yet.
pub record Awaits (head : Header) (parts : Parts) (v : View) : Type 0 where
  pub parts_are : AreParts parts.place parts.tally parts.index parts.frames.journal
  pub room : parts.index.hmax ≡ height_limit parts.place.layout
  pub height_is : parts.tally.height ≡ head.height
  pub unrested : parts.tally.marks ≡ no_marks parts.tally.height
  pub reach : file_length parts.place.layout ≤ v.fixed.reach
  pub nothing : NothingPending v
  pub turn : parts.frames.turn ≡ 0
  pub header_is : Told v → HasHeader parts.place head.height head.gate v.held

-- The file was read: each image stands for the tally, whose records are within the bounds of its height, and the index has
-- the fences of the segments that aren't empty. The journal lies in place, and nothing is pending.
pub record IsReadBack (place : Place) (tally : TallyView) (index : IndexView) (journal turn : ℕ) (v : View) : Type 0 where
  pub parts_are : AreParts place tally index journal
  pub unrested : tally.marks ≡ no_marks tally.height
  pub reach : file_length place.layout ≤ v.fixed.reach
  pub root : IsInBounds tally.height tally.height (sum tally.counts)
  pub stands : EachHeld (StandsFor place tally) v
  pub fenced : Told v → HasFences index (array_of v.held)
  pub rests : RestsAt place.layout turn v
  pub nothing : NothingPending v

-- The outcome of a repair.
pub record Repairs (result : Result (Unit {0}) OpenFault) (old new : Parts) (a b : View) : Type 0 where
  pub agrees : OnOk result (EachHeld (AgreesWith new.place new.tally new.index) b)
  pub fits : OnOk result (Fits new.place new.tally new.index new.frames.journal)
  pub unrested : OnOk result (new.tally.marks ≡ no_marks new.tally.height)
  pub array : OnOk result (Told a → array_of b.held ≡ repair_of old.tally.height (array_of a.held))
  pub place : new.place ≡ old.place
  pub room : new.index.hmax ≡ old.index.hmax
  pub intent : new.intent ≡ old.intent
  pub steps : Steps (Rearranges old.place) a b
  pub cost : b.travel.written ≤ a.travel.written + repair_cost old.place.layout.format old.tally.height
  pub calls : b.calls ≤ a.calls + mending_calls (most_segments old.place.layout) (repair_window old.tally.height old.tally.counts)
  pub damaged : IfErr result (λ e. Told a → e ≡ Failed)
  pub causes : IfErr result IsRepairFault

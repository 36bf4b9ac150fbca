-- What came of the reading of a file, before a repair.
use Rattle.std.proofs.Common.{◌≡◌, ◌+◌, ◌^◌, ◌≤◌, None, Some}
use Rattle.std.specs.Prelude.{Result, OnOk, IfErr}
use Rattle.station.specs.View.{View, Told, NothingPending}
use Rattle.station.specs.Steps.{Steps}
use Rattle.header_gate.specs.declared.header.Header.{Header}
use Rattle.header_gate.specs.declared.reason.Reason.{Reason}
use Rattle.header_gate.specs.Header.{layout_in}
use Rattle.header_gate.specs.InPlace.{IsBare}
use Rattle.map_model.specs.Image.{array_of}
use Rattle.batch_intent.specs.Means.{opening_reason}
use Rattle.recovery.specs.OpeningCosts.{replay_cost, replay_calls, region_calls, laying_calls, back_reads, back_calls}
use Rattle.recovery.specs.OpeningFaults.{IsEarly, IsNoDamage, IsReadFault}
use Rattle.recovery.specs.Intents.{intent_of, IsIntentFor}
use Rattle.recovery.specs.Opening.{IsReadBack}
use Rattle.recovery.specs.Restores.{Restores, LeavesFile}
use Rattle.recovery.specs.declared.fault.OpenFault.{OpenFault}
use Rattle.recovery.specs.declared.fault.OpenFault.TheVariants.{NotStore}
use Rattle.recovery.specs.declared.parts.Parts.{Parts}

pub record ReadsBack (head : Header) (result : Result (Unit {0}) OpenFault) (old new : Parts) (a b : View) : Type 0 where
  pub back : OnOk result (IsReadBack new.place new.tally new.index new.frames.journal new.frames.turn b)
  pub height_is : OnOk result (new.tally.height ≡ head.height)
  pub place : new.place ≡ old.place
  pub room : new.index.hmax ≡ old.index.hmax
  pub array : OnOk result (Told a → array_of b.held ≡ array_of a.held)
  -- the intent
  pub waits : OnOk result (Told a → new.intent ≡ intent_of a.held)
  pub items : OnOk result (IsIntentFor new.place.layout.format new.intent)
  -- the reasons against the file
  pub sound : OnOk result (Told a → opening_reason a.held ≡ None)
  pub refused : IfErr result (λ e. (r : Reason) → e ≡ NotStore r → Told a → opening_reason a.held ≡ Some r)
  pub steps : Steps Restores a b
  pub early : IfErr result (λ e. (r : Reason) → e ≡ NotStore r → IsEarly r → LeavesFile a b)
  pub refused_settled : IfErr result (λ e. (r : Reason) → e ≡ NotStore r → NothingPending b)
  -- where no page is to be laid nothing changes
  pub kept : Told a → IsBare (layout_in a.held) a.held → LeavesFile a b
  pub one_pass : Told a → IsBare (layout_in a.held) a.held → b.travel.read ≤ a.travel.read + back_reads a.held
  pub cost : b.travel.written ≤ a.travel.written + replay_cost old.place.layout
  pub calls : b.calls ≤ a.calls + (replay_calls old.place.layout + region_calls old.place.layout head.height + (2 + 2 ^ head.height))
  pub calls_bare : Told a → IsBare (layout_in a.held) a.held → b.calls ≤ a.calls + back_calls a.held
  pub calls_asked : OnOk result (Told a → b.calls ≤ a.calls + (laying_calls a.held + back_calls a.held))
  pub damaged : IfErr result (λ e. Told a → IsNoDamage e)
  pub causes : IfErr result IsReadFault

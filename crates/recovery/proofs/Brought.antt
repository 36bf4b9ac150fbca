-- What the steps behind the header of a file come to, by where they end.
use Rattle.std.proofs.Common.{◌≡◌, ◌≤◌, ◌+◌, Ok, Err, ◌∙◌, arith}
use Rattle.std.specs.Prelude.{Result, OnOk, IfErr, IsErrOf}
use Rattle.std.proofs.lemmas.Result.{IfErr-weaker}
use Rattle.station.specs.View.{View, Lawful, Told, Rose}
use Rattle.density_rule.specs.Repair.{repair_window}
use Rattle.density_rule.specs.Windows.{IsBalanced}
use Rattle.header_gate.specs.declared.header.Header.{Header}
use Rattle.redo_journal.specs.Rest.{RestsAt}
use Rattle.segment_frames.specs.Lists.{most_segments}
use Rattle.recovery.specs.OpeningCosts.{repair_calls, mending_calls, opening_cost, behind_calls, back_reads, back_calls}
use Rattle.recovery.specs.Opening.{Awaits, Repairs, IsOpened, OpensFile}
use Rattle.recovery.specs.OpeningFaults.{IsRereadFault}
use Rattle.recovery.specs.Restores.{Opens, LeavesFile, IsAtRest}
use Rattle.recovery.specs.declared.fault.OpenFault.{OpenFault}
use Rattle.recovery.specs.declared.fault.OpenFault.TheVariants.{Failed}
use Rattle.recovery.specs.declared.parts.Parts.{Parts}
use Rattle.recovery.proofs.CostLaws.{replay_within, mending_within, room_some}
use Rattle.recovery.proofs.Opening.{reread}
use Rattle.recovery.proofs.Openings.{not_back, repaired, opened, cost, balanced, read_reread}
use Rattle.recovery.proofs.ReadingBack.{ReadsBack}
use Rattle.recovery.proofs.Repairing.{repairs_with}

-- The outcome of the steps behind the header of a file, by parts that were made for it.
pub record BringsBack (head : Header) (result : Result (Unit {0}) OpenFault) (old new : Parts) (a b : View) : Type 0 where
  pub opened : OnOk result (IsOpened new a b)
  pub place : new.place ≡ old.place
  pub opens : OpensFile Opens IsAtRest back_reads result a b
  pub cost : b.travel.written ≤ a.travel.written + opening_cost old.place.layout
  pub calls : b.calls ≤ a.calls + behind_calls old.place.layout head.height
  pub calls_at_rest : Told a → IsAtRest a.held → b.calls ≤ a.calls + back_calls a.held
  pub causes : IfErr result IsRereadFault
  pub failed : IsErrOf result Failed → Rose a.disk_faults b.disk_faults

-- before the repair
pub not_brought : (e : OpenFault) (head : Header) (old new : Parts) (a b : View) → Awaits head old a → ReadsBack head (Err e) old new a b → (e ≡ Failed → Rose a.disk_faults b.disk_faults) → BringsBack head (Err e) old new a b
not_brought e head old new a b awaits read failed = record {
  opened = tt;
  place = read.place;
  opens = not_back e head old new a b read (λ told. (awaits.header_is told).sound) failed;
  cost = omega (arith, read.cost, replay_within old.place.layout);
  calls = omega (arith, read.calls);
  calls_at_rest = λ told rest. read.calls_bare told rest.bare;
  causes = read_reread e read.causes;
  failed = λ is. let own : e ≡ Failed = cc in failed own;
}

-- with the repair
pub brought : (result : Result (Unit {0}) OpenFault) (head : Header) (old mid new : Parts) (a b c : View) → Awaits head old a → Lawful a → ReadsBack head (Ok tt) old mid a b → Repairs result mid new b c
    → OnOk result (RestsAt new.place.layout new.frames.turn c) → (IsBalanced mid.tally.height mid.tally.counts → LeavesFile b c) → (IsBalanced mid.tally.height mid.tally.counts → c.travel.read ≡ b.travel.read)
    → (IsBalanced mid.tally.height mid.tally.counts → c.calls ≡ b.calls) → (IsErrOf result Failed → Rose b.disk_faults c.disk_faults) → BringsBack head result old new a c
brought result head old mid new a b c awaits law read repairs rests kept unread uncalled failed = record {
  opened = opened result tt head old mid new a b c awaits law read repairs rests;
  place = repairs.place ∙ read.place;
  opens = repaired result tt head old mid new a b c awaits law read repairs kept unread failed;
  cost = cost result tt head old mid new a b c awaits law read repairs;
  calls = omega (arith, read.calls, repairs.calls, within, same);
  calls_at_rest = λ told rest. omega (arith, read.calls_bare told rest.bare, uncalled (balanced result tt head old mid new a b c awaits law read repairs told rest));
  causes = IfErr-weaker result _ _ reread repairs.causes;
  failed = λ is. omega (arith, failed is, read.steps.frame.disk_faults);
}
  where
    same : repair_calls (most_segments mid.place.layout) mid.tally.height ≡ repair_calls (most_segments old.place.layout) head.height
    same = λ t. repair_calls (most_segments (read.place t).layout) (read.height_is t)

    within : mending_calls (most_segments mid.place.layout) (repair_window mid.tally.height mid.tally.counts) ≤ repair_calls (most_segments mid.place.layout) mid.tally.height
    within = mending_within (most_segments mid.place.layout) mid.tally.height (repair_window mid.tally.height mid.tally.counts) (room_some mid.place.layout read.back.parts_are.layout)
        (λ w is. (repairs_with mid.tally.height mid.tally.counts read.back.parts_are.is_tally.size read.back.root w is).is.holds.window.low)

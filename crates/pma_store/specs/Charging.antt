-- What an update is charged, and that it is paid for.
use Rattle.std.specs.Prelude.{ℕ, ◌+◌, ◌≤◌, if◌then◌else◌, Bool, true, false, Option, Some, None}
use Rattle.density_rule.specs.declared.Window.{Window}
use Rattle.window_tally.specs.TallyView.{TallyView}
use Rattle.cost_ledger.specs.Potential.{potential_of}
use Rattle.cost_ledger.specs.Work.{charge_by, IsWork}
use Rattle.cost_ledger.specs.declared.work.Work.{Work}
use Rattle.cost_ledger.specs.declared.work.Work.TheVariants as work
use Rattle.pma_store.specs.declared.answers.Put.{Put}
use Rattle.pma_store.specs.declared.answers.Put.TheVariants.{New, Full}
use Rattle.pma_store.specs.declared.answers.Put.TheVariants as put
use Rattle.pma_store.specs.declared.answers.Report.{Report}
use Rattle.pma_store.specs.declared.answers.Outcome.{Outcome}
use Rattle.pma_store.specs.declared.answers.Outcome.TheVariants.{Unchanged, Replaced, Changed}

-- whether an update changed anything
abbrev pub changes : Outcome → Bool
changes Unchanged = false
changes Replaced = true
changes Changed = true

-- whether a put did, by its answer
abbrev pub put_changes : Put → Bool
put_changes New = true
put_changes put.Replaced = true
put_changes (Full most) = false

abbrev pub spread_work : Option Window → Work
spread_work None = work.Segment
spread_work (Some w) = work.Spread w.height

-- what an update did, which left the store at this height, by whether it changed anything and by its report
abbrev pub work_by : ℕ → Bool → Report → Work
work_by height changed r = if changed then (if r.resized then work.Resize height else spread_work r.rebalanced) else work.Nothing

-- what it is charged
abbrev pub charge_told : ℕ → Bool → Report → ℕ
charge_told height changed r = charge_by (work_by height changed r)

-- its charge and the rise of the potential are together at most 514
pub record IsPaid (old new : TallyView) (done : Work) : Type 0 where
  pub low : IsWork done
  pub pays : charge_by done + potential_of new ≤ potential_of old + 514

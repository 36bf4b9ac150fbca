-- The end of a run, by whether all was done.
use Rattle.std.proofs.Common.{◌≡◌, ◌⊎◌, inl, inr, sym, ap, subst, ◌∙◌, arith}
use Rattle.std.proofs.lemmas.Bool.Decides.{nat_tests}
use Rattle.pma_store.specs.StoreView.{StoreView, IsOpenOn}
use Rattle.pma_engine.specs.Carrying.{SessionView, layout_on, session_in, with_cursors}
use Rattle.pma_engine.specs.Ending.{EndsRun, IsSettledStatus}
use Rattle.pma_engine.specs.Outcome.{ServesScript, fresh_session}
use Rattle.pma_engine.specs.Serving.{AsksNothing, HasLayout}
use Rattle.pma_engine.specs.declared.status.TheConstants.{REFUSED, DISK_FAULT}
use Rattle.pma_engine.proofs.EndedRuns.{runs_ended, runs_stopped}
use Rattle.pma_engine.proofs.run.run_opened.Goals as goal
use Rattle.pma_engine.proofs.run.run_opened.Goals.{After-serve_opened-status, then-status-eq-REFUSED-via-then-status-eq-REFUSED, then-status-eq-REFUSED-via-else-status-eq-REFUSED+then-status-eq-DISK_FAULT}

-- a session on the store that was opened
fresh : (g : _) (c : After-serve_opened-status g) → with_cursors c.new-metered.result c.new-cursors.result ≡ fresh_session c.args.store
fresh g c = λ i. record { store = c.new-metered.ensures.store i; cursors = c.new-cursors.ensures i; ledger = c.new-metered.ensures.ledger i }

serves : (g : _) (c : After-serve_opened-status g) → ServesScript c.serve_opened-status.result c.args.most (layout_on c.args.store) (session_in (fresh_session c.args.store) (g.S.Station.view c.args.station.now).held) (g.I.Source.view c.args.source.now) (g.I.Source.view c.serve_opened-status.new.source) (g.S.Station.view c.args.station.now) (g.S.Station.view c.serve_opened-status.new.station)
serves g c =
    subst (λ (v : SessionView). ServesScript c.serve_opened-status.result c.args.most (layout_on v.store) (session_in v (g.S.Station.view c.args.station.now).held) (g.I.Source.view c.args.source.now) (g.I.Source.view c.serve_opened-status.new.source) (g.S.Station.view c.args.station.now) (g.S.Station.view c.serve_opened-status.new.station)) (fresh g c) c.serve_opened-status.ensures.serves

unread : (g : _) (c : After-serve_opened-status g) → AsksNothing (layout_on c.args.store).format (g.I.Source.view c.args.source.now) → (g.S.Station.view c.serve_opened-status.new.station).travel ≡ (g.S.Station.view c.args.station.now).travel
unread g c asks = c.serve_opened-status.ensures.unread (subst (λ (s : StoreView). AsksNothing (layout_on s).format (g.I.Source.view c.args.source.now)) (sym c.new-metered.ensures.store) asks)

kept : (g : _) (c : After-serve_opened-status g) → HasLayout (layout_on c.args.store) (g.S.Station.view c.args.station.now) (g.S.Station.view c.serve_opened-status.new.station)
kept g c = subst (λ (s : StoreView). HasLayout (layout_on s) (g.S.Station.view c.args.station.now) (g.S.Station.view c.serve_opened-status.new.station)) c.new-metered.ensures.store c.serve_opened-status.ensures.kept

-- the status of a serving behind which the run is ended
settled_status : (g : _) (c : After-serve_opened-status g) → (c.serve_opened-status.result ≡ REFUSED → ⊥) → (c.serve_opened-status.result ≡ DISK_FAULT → ⊥) → IsSettledStatus c.serve_opened-status.result
settled_status g c refused disk = elim (serves g c).status_is [
  | inl rest ↦ inl rest
  | inr (inl e) ↦ absurd (refused e)
  | inr (inr (inl e)) ↦ absurd (disk e)
  | inr (inr (inr (inl e))) ↦ inr e
  | inr (inr (inr (inr e))) ↦ absurd ((serves g c).enough e)
]

pub returns-then-status-eq-REFUSED : goal.returns-then-status-eq-REFUSED
returns-then-status-eq-REFUSED g c =
    let here = (goal.at.returns-then-status-eq-REFUSED g c).After-serve_opened-status in
    let is : (c.serve_opened-status.result ≡ REFUSED) ⊎ (c.serve_opened-status.result ≡ DISK_FAULT) =
    elim c.then-status-eq-REFUSED.branch [
      | then-status-eq-REFUSED-via-then-status-eq-REFUSED w ↦ inl (grind (arith, nat_tests, w.if-status-eq-REFUSED.true))
      | then-status-eq-REFUSED-via-else-status-eq-REFUSED+then-status-eq-DISK_FAULT w ↦ inr (grind (arith, nat_tests, w.if-status-eq-DISK_FAULT.true))
    ] in
    runs_stopped c.serve_opened-status.result c.args.most c.args.store (g.I.Source.view c.args.source.now) (g.I.Source.view c.serve_opened-status.new.source) (g.S.Station.view c.args.station.now) (g.S.Station.view c.serve_opened-status.new.station)
    is c.requires.shut (serves g here) c.serve_opened-status.ensures.shut (unread g here) (kept g here)

pub end_run-requires-clause-status : goal.end_run-requires-clause-status
end_run-requires-clause-status g c =
    settled_status g (goal.at.end_run-requires-clause-status g c).After-serve_opened-status (λ e. grind (arith, nat_tests, e, c.if-status-eq-REFUSED.false)) (λ e. grind (arith, nat_tests, e, c.if-status-eq-DISK_FAULT.false))

pub end_run-requires-clause-open : goal.end_run-requires-clause-open
end_run-requires-clause-open g c =
    subst (λ (s : StoreView). IsOpenOn s (g.S.Station.view c.serve_opened-status.new.station)) (sym c.into_store.ensures)
    (c.serve_opened-status.ensures.open (settled_status g (goal.at.end_run-requires-clause-open g c).After-serve_opened-status (λ e. grind (arith, nat_tests, e, c.if-status-eq-REFUSED.false)) (λ e. grind (arith, nat_tests, e, c.if-status-eq-DISK_FAULT.false))))

pub end_run-requires-clause-shut : goal.end_run-requires-clause-shut
end_run-requires-clause-shut g c = c.serve_opened-status.ensures.shut.after c.requires.shut

pub returns : goal.returns
returns g c =
    let here = (goal.at.returns g c).After-serve_opened-status in
    let is = settled_status g here (λ e. grind (arith, nat_tests, e, c.if-status-eq-REFUSED.false)) (λ e. grind (arith, nat_tests, e, c.if-status-eq-DISK_FAULT.false)) in
    let b = g.S.Station.view c.serve_opened-status.new.station in
    let d = g.S.Station.view c.end_run.new.station in
    let t = c.serve_opened-status.new.store in
    let layout : t.store.place.layout ≡ layout_on c.args.store = c.serve_opened-status.ensures.layout ∙ ap (λ (s : StoreView). s.place.layout) c.new-metered.ensures.store in
    runs_ended c.end_run.result c.serve_opened-status.result c.args.most c.args.store t.store (g.I.Source.view c.args.source.now) (g.I.Source.view c.serve_opened-status.new.source) (g.S.Station.view c.args.station.now) b d (g.met.S.Station.lawful c.args.station.now) c.requires.shut
    (serves g here) is (c.serve_opened-status.ensures.open is) layout c.serve_opened-status.ensures.shut (unread g here) (kept g here) (subst (λ (s : StoreView). EndsRun c.serve_opened-status.result c.end_run.result s b d) c.into_store.ensures c.end_run.ensures)

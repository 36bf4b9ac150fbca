use Rattle.std.proofs.Common.{◌≡◌, ℕ, [], ◌∷◌, Ok, sym, ap, ◌∙◌, subst, arith}
use Rattle.cost_ledger.specs.Ledger.{noted}
use Rattle.cost_ledger.specs.Work.{charge_by, IsWork}
use Rattle.header_gate.specs.declared.layout.Layout.{Layout}
use Rattle.header_gate.specs.Places.{IsSlotFormat}
use Rattle.map_model.specs.Store.{bind}
use Rattle.pma_store.specs.Charging.{charge_told, put_changes, work_by}
use Rattle.pma_store.specs.Makes.{Puts}
use Rattle.pma_store.specs.Metered.{MeteredView, Notes, view_of}
use Rattle.pma_store.specs.StoreView.{IsOpenOn}
use Rattle.pma_store.proofs.Making.{stands_there}
use Rattle.pma_store.proofs.Metering.{err_notes, full_at, may_note, put_effect, update_notes}
use Rattle.pma_store.proofs.Charged.{written_images}
use Rattle.pma_store.proofs.metered.Metered.put.Goals as goal

pub charge-requires : goal.charge-requires
charge-requires g c =
    let work : c.work_of-work.result ≡ work_by c.put.new.self.tally.height (put_changes c.in_ok-answer.answer) c.in_ok-answer.report = c.work_of-work.ensures ∙ (λ τ. work_by (c.height.ensures.height τ) (c.has_put.ensures τ) c.in_ok-answer.report) in
    subst IsWork (sym work) c.in_ok-answer.ensures.put.update.paid.low

pub note-requires-clause-paid : goal.note-requires-clause-paid
note-requires-clause-paid g c =
    let work : c.work_of-work.result ≡ work_by c.put.new.self.tally.height (put_changes c.in_ok-answer.answer) c.in_ok-answer.report = c.work_of-work.ensures ∙ (λ τ. work_by (c.height.ensures.height τ) (c.has_put.ensures τ) c.in_ok-answer.report) in
    may_note (view_of c.self.inside) c.self.invariant (ap (λ (m : MeteredView). m.store.closed) c.self.view_is ∙ c.requires.open.opened) c.put.new.self.tally 1 c.charge.result (omega (arith, c.in_ok-answer.ensures.put.update.paid.pays, c.charge.ensures.charge ∙ ap charge_by work))

pub returns-clause-notes : goal.returns-clause-notes
returns-clause-notes g c =
    let a = g.S.Station.view c.args.station.now in
    let s = c.self.inside.store in
    let u = bind c.args.key.now c.args.value.now in
    let work : c.work_of-work.result ≡ work_by c.put.new.self.tally.height (put_changes c.in_ok-answer.answer) c.in_ok-answer.report = c.work_of-work.ensures ∙ (λ τ. work_by (c.height.ensures.height τ) (c.has_put.ensures τ) c.in_ok-answer.report) in
    let on = subst (λ (m : MeteredView). IsOpenOn m.store a) (sym c.self.view_is) c.requires.open in
    subst (λ (m : MeteredView). Notes (u ∷ []) (Ok (c.in_ok-answer.answer, c.in_ok-answer.report)) (λ done. 1) (λ done. charge_told c.put.new.self.tally.height (put_changes done.0) done.1) m (record { store = c.put.new.self; ledger = c.note.new.self }) a) c.self.view_is
    (update_notes (c.in_ok-answer.answer, c.in_ok-answer.report) u (λ done. put_changes done.0) (λ done. done.1) (view_of c.self.inside) c.put.new.self c.note.new.self c.self.invariant on
    (λ told. put_effect s a.held (stands_there s on.on told) c.args.key.now c.args.value.now c.in_ok-answer.answer (c.in_ok-answer.ensures.put.answer told)) c.in_ok-answer.ensures.put.update
    (c.note.ensures.noted ∙ ap (λ (n : ℕ). noted 1 n c.self.inside.ledger) (c.charge.ensures.charge ∙ ap charge_by work)) c.note.ensures.kept)

pub returns-clause-images : goal.returns-clause-images
returns-clause-images g c =
    let a = g.S.Station.view c.args.station.now in
    let b = g.S.Station.view c.put.new.station in
    let put = subst (λ (m : MeteredView). Puts c.args.key.now c.args.value.now (Ok (c.in_ok-answer.answer, c.in_ok-answer.report)) m.store c.put.new.self a b) c.self.view_is c.in_ok-answer.ensures.put in
    written_images c.args.self.now.store.place.layout (subst (λ (l : Layout). IsSlotFormat l.format) put.update.layout (record { least = c.height.ensures.store.layout.format.least; most = c.height.ensures.store.layout.format.most })) c.put.new.self.tally.height (put_changes c.in_ok-answer.answer) c.in_ok-answer.report a.travel.written b.travel.written put.update.cost (λ is. (put.full (full_at c.in_ok-answer.answer is).0 (full_at c.in_ok-answer.answer is).1).unwritten)

pub returns-in_err-answer-clause-notes : goal.returns-in_err-answer-clause-notes
returns-in_err-answer-clause-notes g c =
    let u = bind c.args.key.now c.args.value.now in
    subst (λ (m : MeteredView). Notes (u ∷ []) c.from_residual.result (λ done. 1) (λ done. charge_told c.put.new.self.tally.height (put_changes done.0) done.1) m (record { store = c.put.new.self; ledger = c.self.inside.ledger }) (g.S.Station.view c.args.station.now)) c.self.view_is
    (err_notes c.from_residual.result c.from_residual.ensures.0 (u ∷ []) (λ done. 1) (λ done. charge_told c.put.new.self.tally.height (put_changes done.0) done.1) (view_of c.self.inside) c.put.new.self c.self.invariant c.in_err-answer.ensures.closed)

use Rattle.std.proofs.Common.{◌≡◌, ℕ, [], ◌∷◌, Ok, sym, ap, ◌∙◌, subst, arith, rules}
use Rattle.cost_ledger.specs.Ledger.{noted}
use Rattle.cost_ledger.specs.Work.{charge_by, IsWork}
use Rattle.header_gate.specs.declared.layout.Layout.{Layout}
use Rattle.header_gate.specs.Places.{IsSlotFormat}
use Rattle.map_model.specs.Store.{unbind}
use Rattle.pma_store.specs.Charging.{charge_told, work_by}
use Rattle.pma_store.specs.Makes.{Removes}
use Rattle.pma_store.specs.Metered.{MeteredView, Notes, view_of}
use Rattle.pma_store.specs.StoreView.{IsOpenOn}
use Rattle.pma_store.proofs.Making.{stands_there}
use Rattle.pma_store.proofs.Metering.{may_note, took_effect, update_notes}
use Rattle.pma_store.proofs.Charged.{written_images}
use Rattle.pma_store.proofs.metered.Metered.remove.Goals as goal

pub charge-requires : goal.charge-requires
charge-requires g c =
    let work : c.work_of-work.result ≡ work_by c.remove.new.self.tally.height c.in_ok-took.took c.in_ok-took.report = c.work_of-work.ensures ∙ ap (λ (h : ℕ). work_by h c.in_ok-took.took c.in_ok-took.report) c.height.ensures.height in
    subst IsWork (sym work) c.in_ok-took.ensures.removed.update.paid.low

pub note-requires-clause-paid : goal.note-requires-clause-paid
note-requires-clause-paid g c =
    let work : c.work_of-work.result ≡ work_by c.remove.new.self.tally.height c.in_ok-took.took c.in_ok-took.report = c.work_of-work.ensures ∙ ap (λ (h : ℕ). work_by h c.in_ok-took.took c.in_ok-took.report) c.height.ensures.height in
    may_note (view_of c.self.inside) c.self.invariant (ap (λ (m : MeteredView). m.store.closed) c.self.view_is ∙ c.requires.open.opened) c.remove.new.self.tally 1 c.charge.result (omega (arith, c.in_ok-took.ensures.removed.update.paid.pays, c.charge.ensures.charge ∙ ap charge_by work))

pub returns-clause-notes : goal.returns-clause-notes
returns-clause-notes g c =
    let a = g.S.Station.view c.args.station.now in
    let s = c.self.inside.store in
    let u = unbind c.args.key.now in
    let work : c.work_of-work.result ≡ work_by c.remove.new.self.tally.height c.in_ok-took.took c.in_ok-took.report = c.work_of-work.ensures ∙ ap (λ (h : ℕ). work_by h c.in_ok-took.took c.in_ok-took.report) c.height.ensures.height in
    let on = subst (λ (m : MeteredView). IsOpenOn m.store a) (sym c.self.view_is) c.requires.open in
    subst (λ (m : MeteredView). Notes (u ∷ []) (Ok (c.in_ok-took.took, c.in_ok-took.report)) (λ done. 1) (λ done. charge_told c.remove.new.self.tally.height done.0 done.1) m (record { store = c.remove.new.self; ledger = c.note.new.self }) a) c.self.view_is
    (update_notes (c.in_ok-took.took, c.in_ok-took.report) u (λ done. done.0) (λ done. done.1) (view_of c.self.inside) c.remove.new.self c.note.new.self c.self.invariant on
    (λ told. took_effect s a.held (stands_there s on.on told) c.args.key.now c.in_ok-took.took (c.in_ok-took.ensures.removed.answer told)) c.in_ok-took.ensures.removed.update
    (c.note.ensures.noted ∙ ap (λ (n : ℕ). noted 1 n c.self.inside.ledger) (c.charge.ensures.charge ∙ ap charge_by work)) c.note.ensures.kept)

pub returns-clause-images : goal.returns-clause-images
returns-clause-images g c =
    let a = g.S.Station.view c.args.station.now in
    let b = g.S.Station.view c.remove.new.station in
    let removed = subst (λ (m : MeteredView). Removes c.args.key.now (Ok (c.in_ok-took.took, c.in_ok-took.report)) m.store c.remove.new.self a b) c.self.view_is c.in_ok-took.ensures.removed in
    written_images c.args.self.now.store.place.layout (subst (λ (l : Layout). IsSlotFormat l.format) removed.update.layout (record { least = c.height.ensures.store.layout.format.least; most = c.height.ensures.store.layout.format.most })) c.remove.new.self.tally.height c.in_ok-took.took c.in_ok-took.report a.travel.written b.travel.written removed.update.cost (λ is. (removed.absent is).unwritten)

pub returns-in_err-took-clause-notes : goal.returns-in_err-took-clause-notes
returns-in_err-took-clause-notes g c = search rules

use Rattle.pma_store.specs.Metered.{MeteredView, Notes}
use Rattle.std.proofs.Common.{ℕ, length, Ok, ap, subst, sym, ◌∙◌}
use Rattle.map_model.specs.Image.{map_of}
use Rattle.pma_store.specs.Batching.{charge_in, items_made, made_in, version_of}
use Rattle.pma_store.specs.Metered.{view_of}
use Rattle.pma_store.specs.StoreView.{IsOpenOn, limit_of}
use Rattle.pma_store.specs.declared.answers.Batch.{Batch}
use Rattle.pma_store.specs.declared.answers.Batch.TheVariants as batch
use Rattle.cost_ledger.specs.Ledger.{noted}
use Rattle.pma_store.specs.Batching.{Batches}
use Rattle.pma_store.proofs.Metering.{batch_notes, refused_notes}
use Rattle.pma_store.proofs.metered.Metered.batch.Goals as goal

pub returns-in-Done-clause-notes : goal.returns-in-Done-clause-notes
returns-in-Done-clause-notes g c =
    let a = g.S.Station.view c.args.station.now in
    let items = c.args.intent.now in
    let on = subst (λ (m : MeteredView). IsOpenOn m.store a) (sym c.self.view_is) c.requires.open in
    let done : Batch = batch.Done c.in-Done.stored c.in-Done.replaced c.in-Done.removed c.in-Done.absent c.in-Done.charge in
    let made = subst (λ (d : Batch). Batches items (Ok d) (view_of c.self.inside).store c.batch.new.self a (g.S.Station.view c.batch.new.station)) c.in-Done.is c.in_ok-done.ensures.batch in
    subst (λ (m : MeteredView). Notes (items_made (version_of m.store) (limit_of m.store) (map_of a.held) items) (Ok done) (made_in (length items)) charge_in m (record { store = c.batch.new.self; ledger = c.note.new.self }) a) c.self.view_is
    (batch_notes items done (view_of c.self.inside) c.batch.new.self c.note.new.self c.self.invariant on made (c.note.ensures.noted ∙ ap (λ (n : ℕ). noted n c.in-Done.charge c.self.inside.ledger) c.len.ensures.count) c.note.ensures.kept)

pub returns-in_default-clause-notes : goal.returns-in_default-clause-notes
returns-in_default-clause-notes g c =
    let a = g.S.Station.view c.args.station.now in
    let items = c.args.intent.now in
    let on = subst (λ (m : MeteredView). IsOpenOn m.store a) (sym c.self.view_is) c.requires.open in
    subst (λ (m : MeteredView). Notes (items_made (version_of m.store) (limit_of m.store) (map_of a.held) items) (Ok c.in_ok-done.done) (made_in (length items)) charge_in m (record { store = c.batch.new.self; ledger = c.self.inside.ledger }) a) c.self.view_is
    (refused_notes items c.in_ok-done.done (view_of c.self.inside) c.batch.new.self c.self.invariant on c.in_ok-done.ensures.batch c.in_default.not-Done)

-- The index of a store is left by its parts.
use Rattle.std.proofs.Common.{◌≡◌, ◌≤◌, inl, inr, refl, sym, ap, subst, arith}
use Rattle.std.proofs.lemmas.Bool.Decides.{nat_tests}
use Rattle.station.specs.View.{EachHeld}
use Rattle.station.proofs.Composition.{each_held}
use Rattle.header_gate.specs.InPlace.{IsBare}
use Rattle.header_gate.specs.declared.layout.TheConstants.{INDEXED}
use Rattle.redo_journal.specs.declared.place.Place.{Place}
use Rattle.pma_store.specs.StoreView.{StoreView, IsOpenOn}
use Rattle.pma_engine.specs.Closing.{LeavesIndex}
use Rattle.pma_engine.proofs.LeftIndexes.{leaves_by, leaves_none, ready_of}
use Rattle.pma_engine.proofs.leaving.leave_file.Goals as goal
use Rattle.pma_engine.proofs.leaving.leave_file.Goals.{After-into_parts-parts}

-- the store that has the parts
abbrev same_store : (g : _) (c : After-into_parts-parts g) → StoreView
same_store g c =
    let parts = c.into_parts-parts.result in record { place = parts.place; tally = parts.tally; index = parts.index; journal = parts.frames.journal; turn = parts.frames.turn; closed = c.args.store.closed }

same : (g : _) (c : After-into_parts-parts g) → same_store g c ≡ c.args.store
same g c =
    let is = c.into_parts-parts.ensures in λ t. record { place = is.place t; tally = is.tally t; index = is.index t; journal = is.journal t; turn = is.turn t; closed = c.args.store.closed }

open_on : (g : _) (c : After-into_parts-parts g) → IsOpenOn (same_store g c) (g.S.Station.view c.args.station.now)
open_on g c = subst (λ (s : StoreView). IsOpenOn s (g.S.Station.view c.args.station.now)) (sym (same g c)) c.requires.open

pub returns-then-parts-lt-INDEXED : goal.returns-then-parts-lt-INDEXED
returns-then-parts-lt-INDEXED g c =
    leaves_none c.args.store (g.S.Station.view c.args.station.now) c.requires.nothing c.requires.shut (λ is.
    let own : c.into_parts-parts.result.place.layout.version ≡ c.args.store.place.layout.version = ap (λ (p : Place). p.layout.version) c.into_parts-parts.ensures.place in
    grind (arith, nat_tests, own, is, c.if-parts-lt-INDEXED.true))

pub leave_index-requires-clause-indexed : goal.leave_index-requires-clause-indexed
leave_index-requires-clause-indexed g c = grind (arith, nat_tests, c.if-parts-lt-INDEXED.false)

pub leave_index-requires-clause-ready : goal.leave_index-requires-clause-ready
leave_index-requires-clause-ready g c =
    let here = (goal.at.leave_index-requires-clause-ready g c).After-into_parts-parts in
    let is : INDEXED ≤ c.into_parts-parts.result.place.layout.version = grind (arith, nat_tests, c.if-parts-lt-INDEXED.false) in
    let a = g.S.Station.view c.args.station.now in
    let bare : EachHeld (IsBare (same_store g here).place.layout) a = each_held a (IsBare (same_store g here).place.layout) (g.met.S.Station.lawful c.args.station.now) c.requires.nothing (λ told. subst (λ (s : StoreView). IsBare s.place.layout a.held) (sym (same g here)) (c.requires.bare told)) in
    ready_of (same_store g here) a (open_on g here) bare c.requires.shut is

pub leave_index-requires-clause-nothing : goal.leave_index-requires-clause-nothing
leave_index-requires-clause-nothing g c = c.requires.nothing

pub returns-in-Ok : goal.returns-in-Ok
returns-in-Ok g c =
    let here = (goal.at.returns-in-Ok g c).After-into_parts-parts in
    let is : INDEXED ≤ c.into_parts-parts.result.place.layout.version = grind (arith, nat_tests, c.if-parts-lt-INDEXED.false) in
    let does = c.in-Ok.ensures in
    subst (λ (s : StoreView). LeavesIndex 0 s (g.S.Station.view c.args.station.now) (g.S.Station.view c.leave_index.new.station)) (same g here)
    (leaves_by 0 (same_store g here) (g.S.Station.view c.args.station.now) (g.S.Station.view c.leave_index.new.station) is (inl refl) c.leave_index.ensures.steps (λ e. does.left) (λ e. does.opened) (λ e. does.settled) c.leave_index.ensures.cost c.leave_index.ensures.no_reads c.leave_index.ensures.calls (λ e. absurd (omega (arith, e))))

pub returns : goal.returns
returns g c =
    let here = (goal.at.returns g c).After-into_parts-parts in
    let is : INDEXED ≤ c.into_parts-parts.result.place.layout.version = grind (arith, nat_tests, c.if-parts-lt-INDEXED.false) in
    subst (λ (s : StoreView). LeavesIndex 4 s (g.S.Station.view c.args.station.now) (g.S.Station.view c.leave_index.new.station)) (same g here)
    (leaves_by 4 (same_store g here) (g.S.Station.view c.args.station.now) (g.S.Station.view c.leave_index.new.station) is (inr refl) c.leave_index.ensures.steps (λ e. absurd (omega (arith, e))) (λ e. absurd (omega (arith, e))) (λ e. absurd (omega (arith, e))) c.leave_index.ensures.cost c.leave_index.ensures.no_reads c.leave_index.ensures.calls
    (λ e. c.in-Err.ensures.cause))

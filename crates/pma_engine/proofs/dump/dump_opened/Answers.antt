-- What was said of all records, by the parts of the store, and how it was ended.
use Rattle.std.proofs.Common.{◌≡◌, inl, ap, refl, subst, sym, ◌∙◌}
use Rattle.station.specs.View.{Told}
use Rattle.header_gate.specs.declared.layout.Layout.{Layout}
use Rattle.header_gate.specs.InPlace.{IsRecovered}
use Rattle.map_model.specs.Standing.{StandsBalanced}
use Rattle.redo_journal.specs.declared.place.Place.{Place}
use Rattle.pma_store.proofs.Resting.{readable_held}
use Rattle.pma_engine.specs.Dumping.{DumpsOpened}
use Rattle.window_tally.specs.TallyView.{TallyView}
use Rattle.pma_engine.proofs.Dumping.{SweepsStore, dumped_of}
use Rattle.pma_engine.proofs.dump.dump_opened.Goals as goal
use Rattle.pma_engine.proofs.dump.dump_opened.Goals.{After-sweep_all-sweep}

module _ (g : _) (c : After-sweep_all-sweep g) where
  -- the parts stand for the file as the store did
  stands_by : Told (g.S.Station.view c.args.station.now) → StandsBalanced c.into_parts-parts.result.place.layout c.into_parts-parts.result.place.region c.into_parts-parts.result.tally.height c.into_parts-parts.result.tally.counts (g.S.Station.view c.args.station.now).held
  stands_by told =
      let is = c.into_parts-parts.ensures in
      subst (λ (x : Type 0). x) (λ i. StandsBalanced (sym is.place i).layout (sym is.place i).region (sym is.tally i).height (sym is.tally i).counts (g.S.Station.view c.args.station.now).held)
      (c.requires.open.on.stands (g.S.Station.view c.args.station.now).held (inl (told, refl))).balanced

pub say_sweep-said-requires-clause-sweeping : goal.say_sweep-said-requires-clause-sweeping
say_sweep-said-requires-clause-sweeping g c told =
    let here = (goal.at.say_sweep-said-requires-clause-sweeping g c).After-sweep_all-sweep in
    c.sweep_all-sweep.ensures.sweeping (g.S.Station.view c.args.station.now).held (stands_by g here told)

pub say_sweep-said-requires-clause-readable : goal.say_sweep-said-requires-clause-readable
say_sweep-said-requires-clause-readable g c told =
    let layout : c.sweep_all-sweep.result.reader.layout ≡ c.args.store.place.layout = c.sweep_all-sweep.ensures.layout ∙ ap (λ (p : Place). p.layout) c.into_parts-parts.ensures.place in
    subst (λ (l : Layout). IsRecovered l (g.S.Station.view c.args.station.now).held) (sym layout) (readable_held c.args.store c.requires.open.on told)

pub returns : goal.returns
returns g c =
    let here = (goal.at.returns g c).After-sweep_all-sweep in
    let a = g.S.Station.view c.args.station.now in
    let b = g.S.Station.view c.say_sweep-said.new.station in
    let d = g.S.Station.view c.end_served.new.station in
    let parts = c.into_parts-parts.ensures in
    let does = c.sweep_all-sweep.ensures in
    let of : SweepsStore c.sweep_all-sweep.result c.args.store = record {
      layout = does.layout ∙ ap (λ (p : Place). p.layout) parts.place;
      region = does.region ∙ ap (λ (p : Place). p.region) parts.place;
      first = does.first;
      height = ap (λ (t : TallyView). t.height) (does.tally ∙ parts.tally);
    } in
    subst (λ n. DumpsOpened n c.args.store a d) (sym c.end_served.ensures.status)
    (dumped_of c.args.store c.sweep_all-sweep.result c.say_sweep-said.new.sweep of a b (g.met.S.Station.lawful c.args.station.now) (g.met.S.Station.lawful c.say_sweep-said.new.station) c.requires.nothing
    (λ told. c.sweep_all-sweep.ensures.all a.held (stands_by g here told)) c.say_sweep-said.result c.say_sweep-said.ensures d c.end_served.ensures.says
    (λ none. ap g.S.Station.view (c.end_served.ensures.silent none)) c.end_served.ensures.line)

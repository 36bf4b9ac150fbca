use Rattle.std.proofs.Common.{inl, false, Result, Ok, Err, ◌∙◌, ◌+◌, ◌≤◌, ap, arith}
use Rattle.std.specs.Prelude.{OnOk}
use Rattle.station.proofs.Composition.{told_on}
use Rattle.station.specs.View.{Told}
use Rattle.header_gate.specs.Header.{layout_in}
use Rattle.map_model.specs.Image.{height_of}
use Rattle.recovery.specs.OpeningCosts.{asked_opening, opening_calls}
use Rattle.pma_engine.specs.RunOpening.{sync_calls}
use Rattle.pma_engine.proofs.Alike.{layout_same}
use Rattle.station.specs.declared.travel.Travel.{Travel}
use Rattle.pma_engine.proofs.Calling.{asked_same, most_same, opening_behind, opening_more, region_bytes, region_calls}
use Rattle.pma_engine.proofs.Opening.{opens_failed, region_failed, region_synced}
use Rattle.pma_engine.proofs.attaching.open_by_region.Goals as goal
use Rattle.pma_engine.proofs.attaching.open_by_region.Goals.{After-sync_opened}

-- what is so whatever comes is so on Ok
on_any : {T E P : Type 0} (r : Result T E) → P → OnOk r P
on_any (Ok x) p = p
on_any (Err e) p = tt

-- the calls of the sync, by the layout of the file
synced : (g : _) (c : After-sync_opened g) → Told (g.S.Station.view c.args.station.now) → (g.S.Station.view c.sync_opened.new.station).calls ≤ (g.S.Station.view c.open_on.new.station).calls + sync_calls (layout_in (g.S.Station.view c.args.station.now).held)
synced g c told =
    let a = g.S.Station.view c.args.station.now in
    let b = g.S.Station.view c.close_index.new.station in
    let closing = c.close_index.ensures in
    omega (arith, c.sync_opened.ensures.calls, ap sync_calls (c.in-Ok-open_on.ensures.layout (told_on closing.steps.frame told) ∙ layout_same a.held b.held (closing.steps.held told)))

pub returns-in-Ok-open_on-clause-opens : goal.returns-in-Ok-open_on-clause-opens
returns-in-Ok-open_on-clause-opens g c =
    let closing = c.close_index.ensures in
    let is = c.in-Ok-open_on.ensures in
    region_synced (g.S.Station.view c.args.station.now) (g.S.Station.view c.close_index.new.station) (g.S.Station.view c.open_on.new.station) (g.met.S.Station.lawful c.close_index.new.station) (g.met.S.Station.lawful c.open_on.new.station)
    (record { steps = closing.steps; kept = closing.kept; most = closing.cost }) c.in-Ok.ensures.settled closing.clean c.in-Ok.ensures.shut c.in-Ok-open_on.store is.opens c.open_on.ensures.cost is.open is.layout is.state
    c.open_on.ensures.synced.first (g.S.Station.view c.sync_opened.new.station) c.sync_opened.result c.sync_opened.ensures

pub returns-in-Err-open_on-clause-opens : goal.returns-in-Err-open_on-clause-opens
returns-in-Err-open_on-clause-opens g c =
    let closing = c.close_index.ensures in
    let is = c.in-Err-open_on.ensures in
    region_failed (g.S.Station.view c.args.station.now) (g.S.Station.view c.close_index.new.station) (g.S.Station.view c.open_on.new.station) (g.met.S.Station.lawful c.close_index.new.station) (g.met.S.Station.lawful c.open_on.new.station)
    (record { steps = closing.steps; kept = closing.kept; most = closing.cost }) c.in-Ok.ensures.settled closing.clean c.in-Ok.ensures.shut c.in-Err-open_on.fault is.opens c.open_on.ensures.cost is.failed c.open_on.ensures.synced.first

pub returns-in-Err-clause-opens : goal.returns-in-Err-clause-opens
returns-in-Err-clause-opens g c =
    let closing = c.close_index.ensures in
    opens_failed false (g.S.Station.view c.args.station.now) (g.S.Station.view c.close_index.new.station) (record { steps = closing.steps; kept = closing.kept; most = closing.cost }) closing.clean c.in-Err.ensures.cause (λ never. absurd cc)

pub returns-in-Ok-open_on-clause-calls_at_rest : goal.returns-in-Ok-open_on-clause-calls_at_rest
returns-in-Ok-open_on-clause-calls_at_rest g c told rest =
    omega (
      arith,
      region_calls 4 (g.S.Station.view c.args.station.now) (g.S.Station.view c.close_index.new.station) (g.S.Station.view c.open_on.new.station) c.close_index.ensures.steps c.close_index.ensures.calls c.open_on.ensures.calls_at_rest told rest,
      synced g (goal.at.returns-in-Ok-open_on-clause-calls_at_rest g c).After-sync_opened told,
    )

pub returns-in-Ok-open_on-clause-calls_shut : goal.returns-in-Ok-open_on-clause-calls_shut
returns-in-Ok-open_on-clause-calls_shut g c told rest none =
    omega (
      arith,
      region_calls 2 (g.S.Station.view c.args.station.now) (g.S.Station.view c.close_index.new.station) (g.S.Station.view c.open_on.new.station) c.close_index.ensures.steps (c.close_index.ensures.calls_shut told none) c.open_on.ensures.calls_at_rest told rest,
      synced g (goal.at.returns-in-Ok-open_on-clause-calls_shut g c).After-sync_opened told,
    )

pub returns-in-Err-open_on-clause-calls_at_rest : goal.returns-in-Err-open_on-clause-calls_at_rest
returns-in-Err-open_on-clause-calls_at_rest g c told rest =
    omega (arith, region_calls 4 (g.S.Station.view c.args.station.now) (g.S.Station.view c.close_index.new.station) (g.S.Station.view c.open_on.new.station) c.close_index.ensures.steps c.close_index.ensures.calls c.open_on.ensures.calls_at_rest told rest)

pub returns-in-Err-open_on-clause-calls_shut : goal.returns-in-Err-open_on-clause-calls_shut
returns-in-Err-open_on-clause-calls_shut g c told rest none =
    omega (arith, region_calls 2 (g.S.Station.view c.args.station.now) (g.S.Station.view c.close_index.new.station) (g.S.Station.view c.open_on.new.station) c.close_index.ensures.steps (c.close_index.ensures.calls_shut told none) c.open_on.ensures.calls_at_rest told rest)

pub returns-in-Err-clause-calls_at_rest : goal.returns-in-Err-clause-calls_at_rest
returns-in-Err-clause-calls_at_rest g c told rest = omega (arith, c.close_index.ensures.calls)

pub returns-in-Err-clause-calls_shut : goal.returns-in-Err-clause-calls_shut
returns-in-Err-clause-calls_shut g c told rest none = omega (arith, c.close_index.ensures.calls_shut told none)

pub returns-in-Ok-open_on-clause-calls : goal.returns-in-Ok-open_on-clause-calls
returns-in-Ok-open_on-clause-calls g c told =
    let a = g.S.Station.view c.args.station.now in
    let b = g.S.Station.view c.open_on.new.station in
    let closing = c.close_index.ensures in
    opening_more (4 + opening_calls (layout_in a.held) (height_of a.held)) (sync_calls (layout_in a.held)) a b (g.S.Station.view c.sync_opened.new.station) (synced g (goal.at.returns-in-Ok-open_on-clause-calls g c).After-sync_opened told)
    (opening_behind 4 (opening_calls (layout_in a.held) (height_of a.held)) _ a (g.S.Station.view c.close_index.new.station) b closing.steps closing.calls told
    (most_same a.held (g.S.Station.view c.close_index.new.station).held (closing.steps.held told)) (c.open_on.ensures.calls (told_on closing.steps.frame told)))

pub returns-in-Err-open_on-clause-calls : goal.returns-in-Err-open_on-clause-calls
returns-in-Err-open_on-clause-calls g c told =
    let a = g.S.Station.view c.args.station.now in
    let b = g.S.Station.view c.open_on.new.station in
    let closing = c.close_index.ensures in
    opening_more (4 + opening_calls (layout_in a.held) (height_of a.held)) (sync_calls (layout_in a.held)) a b b (omega arith)
    (opening_behind 4 (opening_calls (layout_in a.held) (height_of a.held)) _ a (g.S.Station.view c.close_index.new.station) b closing.steps closing.calls told
    (most_same a.held (g.S.Station.view c.close_index.new.station).held (closing.steps.held told)) (c.open_on.ensures.calls (told_on closing.steps.frame told)))

pub returns-in-Ok-open_on-clause-calls_asked : goal.returns-in-Ok-open_on-clause-calls_asked
returns-in-Ok-open_on-clause-calls_asked g c =
    let a = g.S.Station.view c.args.station.now in
    let b = g.S.Station.view c.open_on.new.station in
    let closing = c.close_index.ensures in
    on_any c.sync_opened.result (λ told.
    opening_more (4 + asked_opening a.held) (sync_calls (layout_in a.held)) a b (g.S.Station.view c.sync_opened.new.station) (synced g (goal.at.returns-in-Ok-open_on-clause-calls_asked g c).After-sync_opened told)
    (opening_behind 4 (asked_opening a.held) _ a (g.S.Station.view c.close_index.new.station) b closing.steps closing.calls told
    (asked_same a.held (g.S.Station.view c.close_index.new.station).held (closing.steps.held told)) (c.in-Ok-open_on.ensures.calls_asked (told_on closing.steps.frame told))))

pub returns-in-Err-clause-calls : goal.returns-in-Err-clause-calls
returns-in-Err-clause-calls g c told = inl (omega (arith, c.close_index.ensures.calls))

-- The bytes that are read.

pub returns-in-Ok-open_on-clause-reads_at_rest : goal.returns-in-Ok-open_on-clause-reads_at_rest
returns-in-Ok-open_on-clause-reads_at_rest g c told rest =
    omega (
      arith,
      region_bytes (g.S.Station.view c.args.station.now) (g.S.Station.view c.close_index.new.station) (g.S.Station.view c.open_on.new.station) c.close_index.ensures.steps c.close_index.ensures.reads c.open_on.ensures.opens.one_pass told rest,
      ap (λ (t : Travel). t.read) c.sync_opened.ensures.travel,
    )

pub returns-in-Err-open_on-clause-reads_at_rest : goal.returns-in-Err-open_on-clause-reads_at_rest
returns-in-Err-open_on-clause-reads_at_rest g c told rest =
    region_bytes (g.S.Station.view c.args.station.now) (g.S.Station.view c.close_index.new.station) (g.S.Station.view c.open_on.new.station) c.close_index.ensures.steps c.close_index.ensures.reads c.open_on.ensures.opens.one_pass told rest

pub returns-in-Err-clause-reads_at_rest : goal.returns-in-Err-clause-reads_at_rest
returns-in-Err-clause-reads_at_rest g c told rest = omega (arith, c.close_index.ensures.reads)

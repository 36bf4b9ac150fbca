use Rattle.std.proofs.Common.{◌≡◌, ℕ, List, inr, refl, sym, ap, subst, ◌∙◌, arith}
use Rattle.station.specs.View.{Fixed, Told, NothingPending, after_read}
use Rattle.station.specs.declared.travel.Travel.{Travel}
use Rattle.station.proofs.Composition.{nothing_on, same_on, told_back, told_on}
use Rattle.header_gate.specs.Header.{layout_in}
use Rattle.header_gate.specs.Places.{page_size}
use Rattle.header_gate.specs.Reasons.{IsSoundHeader, IsHeader, header_reason}
use Rattle.map_model.specs.Image.{height_of}
use Rattle.index_file.specs.IndexReading.{IsAreaFront, NamesPlace, area_calls}
use Rattle.header_gate.proofs.Soundness.{sound_of_none}
use Rattle.index_file.specs.IndexOpening.{IsQuick}
use Rattle.index_file.proofs.Answering.{err_weaker, given_weaker, ok_weaker, on_ok_any}
use Rattle.index_file.proofs.QuickLaws.{quick_file, not_quick_file}
use Rattle.index_file.proofs.Travelling.{unwritten_by}
use Rattle.recovery.proofs.Syncing.{sync_failed, syncs_first}
use Rattle.index_file.proofs.quick.open_quick.Goals as goal

pub open_left-requires-clause-known : goal.open_left-requires-clause-known
open_left-requires-clause-known g c =
    let read = c.read_header.ensures.steps in
    let fits = c.in-Ok-read_header.ensures.fits in
    record {
      layout = fits.0;
      live = omega (arith, fits.3);
      height = fits.2;
      reach = omega (arith, fits.1, ap (λ (f : Fixed). f.reach) read.frame.fixed, ap (λ (f : Fixed). f.reach) c.sync.ensures.steps.frame.fixed);
      nothing = nothing_on (g.met.S.Station.lawful c.sync.new.self) c.in-Ok.ensures.settled read;
      sound = λ told_d.
          let told = told_back read.frame told_d in
          subst IsSoundHeader (sym (read.held told)) (sound_of_none (g.S.Station.view c.sync.new.self).held (c.in-Ok-read_header.ensures.sound told));
      header_is = λ told_d.
          let told = told_back read.frame told_d in
          subst (λ (f : List ℕ). IsHeader c.in-Ok-read_header.header f) (sym (read.held told)) (c.in-Ok-read_header.ensures.header told);
    }

pub returns-in-Ok-read_header-clause-indexed : goal.returns-in-Ok-read_header-clause-indexed
returns-in-Ok-read_header-clause-indexed g c = given_weaker c.open_left.result _ _ (λ parts is. is.indexed) c.open_left.ensures.opened

pub returns-in-Ok-read_header-clause-room : goal.returns-in-Ok-read_header-clause-room
returns-in-Ok-read_header-clause-room g c = given_weaker c.open_left.result _ _ (λ parts is. is.room) c.open_left.ensures.opened

pub returns-in-Ok-read_header-clause-rests : goal.returns-in-Ok-read_header-clause-rests
returns-in-Ok-read_header-clause-rests g c = given_weaker c.open_left.result _ _ (λ parts is. is.rests) c.open_left.ensures.opened

pub returns-in-Ok-read_header-clause-settled : goal.returns-in-Ok-read_header-clause-settled
returns-in-Ok-read_header-clause-settled g c =
    on_ok_any c.open_left.result (NothingPending (g.S.Station.view c.open_left.new.station))
    (nothing_on (g.met.S.Station.lawful c.read_header.new.station) (nothing_on (g.met.S.Station.lawful c.sync.new.self) c.in-Ok.ensures.settled c.read_header.ensures.steps) c.open_left.ensures.steps)

pub returns-in-Ok-read_header-clause-quick : goal.returns-in-Ok-read_header-clause-quick
returns-in-Ok-read_header-clause-quick g c =
    given_weaker c.open_left.result _ _ (λ parts may told.
    let told_b : Told (g.S.Station.view c.sync.new.self) = told_on c.sync.ensures.steps.frame told in
    subst IsQuick (c.sync.ensures.steps.held told) (quick_file c.in-Ok-read_header.header (g.S.Station.view c.sync.new.self).held (c.in-Ok-read_header.ensures.header told_b) (c.in-Ok-read_header.ensures.sound told_b) may)) c.open_left.ensures.quick

pub returns-in-Ok-read_header-clause-passed : goal.returns-in-Ok-read_header-clause-passed
returns-in-Ok-read_header-clause-passed g c =
    ok_weaker c.open_left.result _ _ (λ given passed none told quick.
    let told_b : Told (g.S.Station.view c.sync.new.self) = told_on c.sync.ensures.steps.frame told in
    not_quick_file c.in-Ok-read_header.header (g.S.Station.view c.sync.new.self).held (c.in-Ok-read_header.ensures.header told_b) (passed none).0 (subst IsQuick (sym (c.sync.ensures.steps.held told)) quick)) c.open_left.ensures.passed

pub returns-in-Ok-read_header-clause-unwritten : goal.returns-in-Ok-read_header-clause-unwritten
returns-in-Ok-read_header-clause-unwritten g c =
    unwritten_by c.open_left.result c.in-Ok-read_header.header.layout c.in-Ok-read_header.header.height (g.S.Station.view c.read_header.new.station).travel (g.S.Station.view c.open_left.new.station).travel
    (given_weaker c.open_left.result _ _ (λ parts is. is.travel) c.open_left.ensures.opened)
    (ok_weaker c.open_left.result _ _ (λ given passed none. (passed none).1) c.open_left.ensures.passed)
    c.open_left.ensures.front
    ∙ c.read_header.ensures.written
    ∙ ap (λ (t : Travel). t.written) c.sync.ensures.travel

pub returns-in-Ok-read_header-clause-front : goal.returns-in-Ok-read_header-clause-front
returns-in-Ok-read_header-clause-front g c =
    let a = g.S.Station.view c.args.station.now in
    let b = g.S.Station.view c.sync.new.self in
    let fits = c.in-Ok-read_header.ensures.fits in
    let h = c.in-Ok-read_header.header in
    let travel : (g.S.Station.view c.read_header.new.station).travel ≡ after_read 0 page_size a.travel = c.in-Ok-read_header.ensures.one_page ∙ ap (after_read 0 page_size) c.sync.ensures.travel in
    err_weaker c.open_left.result _ _ (λ e front. inr (
      h.layout,
      h.height,
      (
        fits.0,
        fits.2,
        (λ told.
            let told_b : Told b = told_on c.sync.ensures.steps.frame told in
            let is = c.in-Ok-read_header.ensures.header told_b in
            let same : b.held ≡ a.held = c.sync.ensures.steps.held told in
            (ap layout_in (sym same) ∙ sym is.layout_is, ap height_of (sym same) ∙ sym is.height_is)),
      ),
      subst (λ (t : Travel). IsAreaFront h.layout h.height t (g.S.Station.view c.open_left.new.station).travel) travel front,
    )) c.open_left.ensures.front

pub returns-in-Ok-read_header-clause-named : goal.returns-in-Ok-read_header-clause-named
returns-in-Ok-read_header-clause-named g c =
    let a = g.S.Station.view c.args.station.now in
    let b = g.S.Station.view c.sync.new.self in
    let fits = c.in-Ok-read_header.ensures.fits in
    let h = c.in-Ok-read_header.header in
    let travel : (g.S.Station.view c.read_header.new.station).travel ≡ after_read 0 page_size a.travel = c.in-Ok-read_header.ensures.one_page ∙ ap (after_read 0 page_size) c.sync.ensures.travel in
    err_weaker c.open_left.result _ _ (λ e names place is. (
      h.layout,
      h.height,
      (
        fits.0,
        fits.2,
        (λ told.
            let head = c.in-Ok-read_header.ensures.header (told_on c.sync.ensures.steps.frame told) in
            let same : b.held ≡ a.held = c.sync.ensures.steps.held told in
            (ap layout_in (sym same) ∙ sym head.layout_is, ap height_of (sym same) ∙ sym head.height_is)),
      ),
      subst (λ (t : Travel). NamesPlace h.layout h.height place t (g.S.Station.view c.open_left.new.station).travel) travel (names place is),
    )) c.open_left.ensures.named

-- The sync.

pub returns-in_default-clause-synced : goal.returns-in_default-clause-synced
returns-in_default-clause-synced g c = sync_failed (g.S.Station.view c.args.station.now) (g.S.Station.view c.sync.new.self) c.sync.ensures.counted c.sync.ensures.steps

pub returns-in-Ok-read_header-clause-synced : goal.returns-in-Ok-read_header-clause-synced
returns-in-Ok-read_header-clause-synced g c =
    syncs_first c.open_left.result (g.S.Station.view c.args.station.now) (g.S.Station.view c.sync.new.self) (g.S.Station.view c.open_left.new.station)
    (g.met.S.Station.lawful c.args.station.now) (g.met.S.Station.lawful c.sync.new.self) c.sync.ensures.counted c.sync.ensures.steps c.in-Ok.ensures.settled
    (same_on c.read_header.ensures.steps c.open_left.ensures.steps) (λ d. refl)

pub returns-in-Ok-read_header-clause-memory : goal.returns-in-Ok-read_header-clause-memory
returns-in-Ok-read_header-clause-memory g c is = (
  nothing_on (g.met.S.Station.lawful c.read_header.new.station) (nothing_on (g.met.S.Station.lawful c.sync.new.self) c.in-Ok.ensures.settled c.read_header.ensures.steps) c.open_left.ensures.steps,
  λ told. ap header_reason (sym (c.sync.ensures.steps.held told)) ∙ c.in-Ok-read_header.ensures.sound (told_on c.sync.ensures.steps.frame told),
)

-- What is asked of the station.

pub returns-in-Ok-read_header-clause-calls : goal.returns-in-Ok-read_header-clause-calls
returns-in-Ok-read_header-clause-calls g c =
    given_weaker c.open_left.result _ _ (λ parts is. omega (arith, is.calls, c.read_header.ensures.calls, c.sync.ensures.counted)) c.open_left.ensures.opened

pub returns-in-Ok-read_header-clause-page_calls : goal.returns-in-Ok-read_header-clause-page_calls
returns-in-Ok-read_header-clause-page_calls g c =
    ok_weaker c.open_left.result _ _ (λ given same none. omega (arith, same none, c.read_header.ensures.calls, c.sync.ensures.counted)) c.open_left.ensures.no_calls

pub returns-in-Ok-read_header-clause-calls_told : goal.returns-in-Ok-read_header-clause-calls_told
returns-in-Ok-read_header-clause-calls_told g c told =
    let is = c.in-Ok-read_header.ensures.header (told_on c.sync.ensures.steps.frame told) in
    omega (arith, c.open_left.ensures.calls, c.read_header.ensures.calls, c.sync.ensures.counted, ap area_calls (is.height_is ∙ ap height_of (c.sync.ensures.steps.held told)))

-- Why it stopped.

pub returns-in-Ok-read_header-clause-causes : goal.returns-in-Ok-read_header-clause-causes
returns-in-Ok-read_header-clause-causes g c = err_weaker c.open_left.result _ _ (λ e stops. stops.causes) c.open_left.ensures.stops

pub returns-in-Ok-read_header-clause-told : goal.returns-in-Ok-read_header-clause-told
returns-in-Ok-read_header-clause-told g c =
    err_weaker c.open_left.result _ _ (λ e stops r is told.
    stops.told r is (told_on c.read_header.ensures.steps.frame (told_on c.sync.ensures.steps.frame told))) c.open_left.ensures.stops

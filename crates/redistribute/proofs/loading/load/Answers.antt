use Rattle.std.proofs.Common.{arith, ◌≡◌, ◌+◌, inl, inr, refl, ap}
use Rattle.std.proofs.lemmas.Result.{on_ok_weaker, IfErr-weaker}
use Rattle.station.specs.View.{Told}
use Rattle.redo_journal.specs.Frames.{Batch}
use Rattle.segment_frames.specs.Lists.{segments_in, numbers_of}
use Rattle.segment_frames.proofs.PageNumbers.{pages_back, whole_pages, fits_journal}
use Rattle.header_gate.proofs.PagedSegments.{known_format}
use Rattle.segment_frames.proofs.LoadLaws.{shown_read, no_fault}
use Rattle.redistribute.specs.SpreadWindows.{HasWindow}
use Rattle.redistribute.specs.WindowBatches.{kept_in}
use Rattle.redistribute.proofs.LoadingLaws.{window_segments, window_count, shown_now, one_read, both_read}
use Rattle.redistribute.proofs.loading.load.Goals as goal
use Rattle.redistribute.proofs.loading.load.Goals.{After-read_batch, In-Ok}

-- the numbers of the batch
named : (g : _) (c : After-read_batch g) → segments_in c.args.place.now.layout.format c.read_batch.new.frames.numbers ≡ numbers_of c.args.runs
named g c = pages_back c.args.place.now.layout.format c.read_batch.new.frames.numbers (numbers_of c.args.runs) c.requires.layout.format.least (ap (λ (b : Batch). b.numbers) c.read_batch.ensures.rest)

-- the held bytes have the window
window : (g : _) (c : In-Ok g) → Told (g.S.Station.view c.args.station.now) → HasWindow c.args.place.now c.args.first (g.P.Plan.plan c.args.plan.now).counts (g.S.Station.view c.args.station.now).held
window g c told = c.requires.window (g.S.Station.view c.args.station.now).held (inl (told, refl))

pub returns-in-Ok-clause-shown : goal.returns-in-Ok-clause-shown
returns-in-Ok-clause-shown g c = on_ok_weaker c.validate_frames.result (λ held told.
    let here = (goal.at.returns-in-Ok-clause-shown g c).In-Ok in
    let a = g.S.Station.view c.args.station.now in
    let b = c.read_batch.new.frames in
    shown_read c.args.place.now a.held c.args.runs c.requires.within.order (window_segments c.args.place.now c.args.first (g.P.Plan.plan c.args.plan.now).counts a.held (window g here told) c.args.runs c.requires.within) (c.requires.readable told) b.slots (c.in-Ok.ensures.low told) (c.in-Ok.ensures.high told)
    b (named g (goal.at.returns-in-Ok-clause-shown g c).After-read_batch) refl) c.validate_frames.ensures.held

pub returns-in-Ok-clause-damaged : goal.returns-in-Ok-clause-damaged
returns-in-Ok-clause-damaged g c = IfErr-weaker c.validate_frames.result _ _ (λ fault shows told.
    let here = (goal.at.returns-in-Ok-clause-damaged g c).In-Ok in
    let a = g.S.Station.view c.args.station.now in
    let b = c.read_batch.new.frames in
    let counts = (g.P.Plan.plan c.args.plan.now).counts in
    let has = window g here told in
    absurd (no_fault c.args.place.now a.held c.args.runs c.requires.within.order (window_segments c.args.place.now c.args.first counts a.held has c.args.runs c.requires.within) (c.requires.readable told) b.slots (c.in-Ok.ensures.low told) (c.in-Ok.ensures.high told)
    b (kept_in c.args.first counts) fault (named g (goal.at.returns-in-Ok-clause-damaged g c).After-read_batch) refl (λ f lt. window_count c.args.place.now c.args.first counts a.held has c.args.runs c.requires.within f lt) shows)) c.validate_frames.ensures.fault

pub returns-in-Ok-clause-cause : goal.returns-in-Ok-clause-cause
returns-in-Ok-clause-cause g c =
    let is = named g (goal.at.returns-in-Ok-clause-cause g c).After-read_batch in
    IfErr-weaker c.validate_frames.result _ _ (λ fault shows. shown_now c.args.place.now.layout.format c.read_batch.new.frames c.args.first (g.P.Plan.plan c.args.plan.now).counts c.args.runs is c.requires.within fault shows) c.validate_frames.ensures.fault

pub returns-in-Ok-clause-reads : goal.returns-in-Ok-clause-reads
returns-in-Ok-clause-reads g c = both_read c.args.place.now c.args.runs (g.S.Station.view c.args.station.now).travel (g.S.Station.view c.read_batch.new.station).travel c.in-Ok.ensures.reads

pub returns-in-Err-clause-reads : goal.returns-in-Err-clause-reads
returns-in-Err-clause-reads g c =
    let place = c.args.place.now in
    let before = (g.S.Station.view c.args.station.now).travel in
    let now = (g.S.Station.view c.read_batch.new.station).travel in
    elim c.in-Err.ensures.part [ inl one ↦ one_read place c.args.runs before now one | inr both ↦ both_read place c.args.runs before now both ]

pub read_batch-requires-clause-room : goal.read_batch-requires-clause-room
read_batch-requires-clause-room g c = omega (arith, fits_journal c.args.place.now.layout (c.args.runs.low_len + c.args.runs.high_len) c.requires.room, c.requires.journal)

pub validate_frames-requires-clause-format : goal.validate_frames-requires-clause-format
validate_frames-requires-clause-format g c = known_format c.args.place.now.layout.hmax c.args.place.now.layout.format c.requires.layout.format

pub validate_frames-requires-clause-numbers : goal.validate_frames-requires-clause-numbers
validate_frames-requires-clause-numbers g c = named g (goal.at.validate_frames-requires-clause-numbers g c).After-read_batch

pub validate_frames-requires-clause-pages : goal.validate_frames-requires-clause-pages
validate_frames-requires-clause-pages g c = whole_pages c.args.place.now.layout.format c.read_batch.new.frames.numbers (numbers_of c.args.runs) c.requires.layout.format.least (ap (λ (b : Batch). b.numbers) c.read_batch.ensures.rest)

pub returns-in-Ok-clause-numbers : goal.returns-in-Ok-clause-numbers
returns-in-Ok-clause-numbers g c = named g (goal.at.returns-in-Ok-clause-numbers g c).After-read_batch

pub returns-in-Err-clause-numbers : goal.returns-in-Err-clause-numbers
returns-in-Err-clause-numbers g c = named g (goal.at.returns-in-Err-clause-numbers g c).After-read_batch

use Rattle.std.proofs.Common.{◌≡◌, inl, ℕ, ◌+◌, ◌*◌, ◌^◌, ◌<◌, List, [], ◌∷◌, length, All, refl, sym, ap, ◌∙◌, subst, arith}
use Rattle.std.proofs.Math.Pow.{pow_mono}
use Rattle.key_slot.proofs.SegmentLaws.{times_up}
use Rattle.std.proofs.lemmas.Result.{on_ok_weaker}
use Rattle.station.specs.Steps.{Steps}
use Rattle.station.proofs.Composition.{weaken}
use Rattle.header_gate.specs.Paged.{pages_of_all}
use Rattle.header_gate.specs.Places.{height_limit}
use Rattle.header_gate.specs.Recovered.{recovered, replayed_over}
use Rattle.header_gate.proofs.PagedSegments.{known_format, length-pages_of_all, pages_fit}
use Rattle.redo_journal.specs.Commit.{Commits, frame_byte}
use Rattle.segment_frames.specs.declared.runs.Runs.{Runs}
use Rattle.segment_frames.specs.Lists.{numbers_of}
use Rattle.segment_frames.proofs.PageNumbers.{few_runs, pages_back, whole_pages}
use Rattle.pma_store.proofs.ClearCosts.{called_runs, commit_bytes}
use Rattle.pma_store.proofs.Rewriting.{rewrites, has_rewritten, room_of, pages_within}
use Rattle.pma_store.proofs.commit.commit_rows.Goals as goal
use Rattle.pma_store.proofs.commit.commit_rows.Goals.{After-load_frame, After-commit}

-- the numbers of a run of one
one_number : (i : ℕ) → numbers_of (record { low = i; low_len = 1; high = i + 1; high_len = 0 }) ≡ i ∷ []
unfolding numbers_of
one_number i = refl

-- the numbers of its pages are that many
paged : (g : _) (c : After-load_frame g) → length c.load_frame.new.frames.numbers ≡ c.args.place.now.layout.format
paged g c = ap length c.load_frame.ensures.numbers ∙ length-pages_of_all c.args.place.now.layout.format (c.args.segment ∷ []) ∙ omega arith

pub load_frame-requires-clause-format : goal.load_frame-requires-clause-format
load_frame-requires-clause-format g c = known_format c.args.place.now.layout.hmax c.args.place.now.layout.format c.requires.layout.format

pub load_frame-requires-clause-room : goal.load_frame-requires-clause-room
load_frame-requires-clause-room g c = omega (arith, c.requires.journal, room_of c.args.place.now.layout c.requires.layout)

pub load_frame-requires-clause-small : goal.load_frame-requires-clause-small
load_frame-requires-clause-small g c =
    let l = c.args.place.now.layout in
    omega (
      arith,
      times_up l.format (c.args.segment + 1) (2 ^ height_limit l) (omega (arith, c.requires.segment)),
      pages_fit l.hmax l.format (height_limit l) c.requires.layout.format (omega arith),
      pow_mono {i = l.hmax} {j = 16} c.requires.layout.hmax,
    )

pub commit-requires-clause-some : goal.commit-requires-clause-some
commit-requires-clause-some g c = omega (arith, paged g (goal.at.commit-requires-clause-some g c).After-load_frame, c.requires.layout.format.least)

pub commit-requires-clause-below : goal.commit-requires-clause-below
commit-requires-clause-below g c =
    subst (λ (ns : List ℕ). All (λ n. n < 2 ^ c.args.place.now.layout.hmax) ns) (sym c.load_frame.ensures.numbers) (pages_within c.args.place.now.layout c.args.segment c.requires.layout c.requires.segment)

pub returns-clause-cost : goal.returns-clause-cost
returns-clause-cost g c =
    let pages = paged g (goal.at.returns-clause-cost g c).After-load_frame in
    omega (
      arith,
      commit_bytes c.args.place.now.layout (g.S.Station.view c.args.station.now).travel.written (g.S.Station.view c.commit.new.station).travel.written (8196 * c.args.place.now.layout.format + 5)
          (omega (arith, c.commit.ensures.cost, pages)) (λ paired. omega (arith, c.commit.ensures.cost_paired paired, pages)),
    )

pub returns-clause-calls : goal.returns-clause-calls
returns-clause-calls g c =
    let format = c.args.place.now.layout.format in
    let one : Runs = record { low = c.args.segment; low_len = 1; high = c.args.segment + 1; high_len = 0 } in
    let pages = c.load_frame.new.frames.numbers in
    let are = c.load_frame.ensures.numbers ∙ ap (pages_of_all format) (sym (one_number c.args.segment)) in
    let few = few_runs format pages one (whole_pages format pages (numbers_of one) c.requires.layout.format.least are) (pages_back format pages (numbers_of one) c.requires.layout.format.least are) in
    called_runs c.args.place.now.layout (g.S.Station.view c.args.station.now).calls (g.S.Station.view c.commit.new.station).calls 1 (omega (arith, c.commit.ensures.calls, few)) (λ paired. omega (arith, c.commit.ensures.calls_paired paired, few))

-- the commit is one of its pages
steps : (g : _) (c : After-commit g) → Steps (Commits c.args.place.now.layout c.args.place.now.region (pages_of_all c.args.place.now.layout.format (c.args.segment ∷ [])) (frame_byte c.load_frame.new.frames.slots)) (g.S.Station.view c.args.station.now) (g.S.Station.view c.commit.new.station)
steps g c =
    subst (λ (ns : List ℕ). Steps (Commits c.args.place.now.layout c.args.place.now.region ns (frame_byte c.load_frame.new.frames.slots)) (g.S.Station.view c.args.station.now) (g.S.Station.view c.commit.new.station))
    c.load_frame.ensures.numbers c.commit.ensures.steps

pub returns-clause-steps : goal.returns-clause-steps
returns-clause-steps g c =
    weaken (steps g (goal.at.returns-clause-steps g c).After-commit) (λ d i left step.
    rewrites c.args.place.now c.args.segment c.args.rows.now c.load_frame.new.frames.slots d i (c.requires.settled d left) c.load_frame.ensures.image step)

pub returns-clause-laid : goal.returns-clause-laid
returns-clause-laid g c =
    on_ok_weaker c.commit.result (λ laid told.
    let a = g.S.Station.view c.args.station.now in
    let b = g.S.Station.view c.commit.new.station in
    let slots = c.load_frame.new.frames.slots in
    let place = c.args.place.now in
    let named = subst (λ (ns : List ℕ). recovered place.layout b.held ≡ replayed_over place.layout place.region ns (frame_byte slots) (recovered place.layout a.held)) c.load_frame.ensures.numbers (laid told) in
    has_rewritten place c.args.segment c.args.rows.now slots a.held b.held (c.requires.settled a.held (inl (told, refl))) c.load_frame.ensures.image
    ((steps g (goal.at.returns-clause-laid g c).After-commit).held told) named) c.commit.ensures.laid

-- the frames note the gate as they did
turn_is : (g : _) (c : After-load_frame g) → c.load_frame.new.frames.turn ≡ c.args.frames.now.turn
turn_is g c = c.load_frame.ensures.turn

pub commit-requires-clause-single : goal.commit-requires-clause-single
commit-requires-clause-single g c single = turn_is g (goal.at.commit-requires-clause-single g c).After-load_frame ∙ c.requires.rests.single single

pub commit-requires-clause-gate : goal.commit-requires-clause-gate
commit-requires-clause-gate g c image left = c.requires.rests.gates image left ∙ sym (turn_is g (goal.at.commit-requires-clause-gate g c).After-load_frame)

pub commit-requires-clause-rest : goal.commit-requires-clause-rest
commit-requires-clause-rest g c paired = c.requires.rests.rest

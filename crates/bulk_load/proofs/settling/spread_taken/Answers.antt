use Rattle.std.proofs.Common.{arith, ◌≡◌, inl, ℕ, ◌+◌, ◌-◌, ◌*◌, ◌^◌, ◌≤◌, List, sym, ap, subst, ◌∙◌}
use Rattle.std.proofs.lemmas.Result.{err_from_is_err_and}
use Rattle.std.proofs.Math.Nat.{pow-le-pow_right}
use Rattle.station.specs.View.{Told}
use Rattle.station.specs.declared.travel.Travel.{Travel}
use Rattle.station.proofs.Composition.{told_on}
use Rattle.density_rule.specs.Bounds.{upper_of}
use Rattle.header_gate.specs.Places.{height_limit, segment_size}
use Rattle.key_slot.specs.Record.{Record}
use Rattle.key_slot.proofs.SegmentLaws.{times_up}
use Rattle.map_model.specs.Array.{spread_over}
use Rattle.resize_region.specs.Spare.{HasWritten}
use Rattle.resize_region.specs.Source.{copy_calls}
use Rattle.bulk_load.specs.Loads.{most_records}
use Rattle.bulk_load.specs.Packing.{IsTaken, HasPacked, room_in}
use Rattle.bulk_load.specs.Spreading.{used_by}
use Rattle.bulk_load.proofs.CauseLaws.{file_shown}
use Rattle.bulk_load.proofs.Calls.{spares_on, fill_on}
use Rattle.bulk_load.proofs.FileFaults.{file_fault_is}
use Rattle.bulk_load.proofs.LoadLaws.{few_records, file_no_damage}
use Rattle.bulk_load.proofs.MostLaws.{load_calls_rise, packed_calls, packed_cost, packing_rises}
use Rattle.bulk_load.proofs.PackLaws.{packed_none, cost_on, runs_parts, room_some}
use Rattle.bulk_load.proofs.settling.spread_taken.Goals as goal
use Rattle.bulk_load.proofs.settling.spread_taken.Goals.{After-segments_at-segments, After-flush_rest, In_ok-flush_rest}

pub least_height-height-requires-clause-room : goal.least_height-height-requires-clause-room
least_height-height-requires-clause-room g c = omega (arith, c.requires.few, ap upper_of c.height_limit.ensures.limit)

-- what was taken fits the segments
fits : (g : _) (c : After-segments_at-segments g) → c.args.taken.now.records ≤ 64 * c.segments_at-segments.result
fits g c = omega (arith, few_records c.least_height-height.result c.args.taken.now.records c.least_height-height.ensures.least.holds, c.segments_at-segments.ensures)

inside : (g : _) (c : After-segments_at-segments g) → c.segments_at-segments.result ≤ 2 ^ height_limit c.args.place.now.layout
inside g c =
    omega (arith, c.segments_at-segments.ensures, pow-le-pow_right {n = 2} (omega arith) {i = c.least_height-height.result} {j = height_limit c.args.place.now.layout} (omega (arith, c.least_height-height.ensures.limit, c.height_limit.ensures.limit)))

pub flush_rest-requires-clause-room : goal.flush_rest-requires-clause-room
flush_rest-requires-clause-room g c =
    let at = (goal.at.flush_rest-requires-clause-room g c).After-segments_at-segments in
    omega (arith, fits g at, inside g at)

-- all is in the file
taken : (g : _) (c : In_ok-flush_rest g) (rows : List Record) → IsTaken c.args.place.now.layout c.args.taken.now c.args.frames.now rows → IsTaken c.args.place.now.layout c.flush_rest.new.taken c.flush_rest.new.frames rows
taken g c rows is = c.in_ok-flush_rest.ensures.writes.taken rows is

pub spread_spare-requires-clause-can : goal.spread_spare-requires-clause-can
spread_spare-requires-clause-can g c = fill_on c.args.place.now c.args.frames.now c.flush_rest.new.frames c.requires.can c.flush_rest.ensures.writes.journal c.flush_rest.ensures.writes.steps

pub spread_spare-requires-clause-shares : goal.spread_spare-requires-clause-shares
spread_spare-requires-clause-shares g c = (taken g (goal.at.spread_spare-requires-clause-shares g c).In_ok-flush_rest c.requires.taken.0 c.requires.taken.1).shares

pub spread_spare-requires-clause-empty : goal.spread_spare-requires-clause-empty
spread_spare-requires-clause-empty g c i lt =
    (taken g (goal.at.spread_spare-requires-clause-empty g c).In_ok-flush_rest c.requires.taken.0 c.requires.taken.1).held i lt ∙ packed_none c.requires.taken.0 (c.flush_rest.new.taken.written + i) (omega (arith, c.in_ok-flush_rest.ensures.written, c.requires.taken.1.count))

pub spread_spare-requires-clause-inside : goal.spread_spare-requires-clause-inside
spread_spare-requires-clause-inside g c = inside g (goal.at.spread_spare-requires-clause-inside g c).After-segments_at-segments

pub spread_spare-requires-clause-room : goal.spread_spare-requires-clause-room
spread_spare-requires-clause-room g c = fits g (goal.at.spread_spare-requires-clause-room g c).After-segments_at-segments

-- Not written.

pub returns-in_err-flush_rest-clause-fault : goal.returns-in_err-flush_rest-clause-fault
returns-in_err-flush_rest-clause-fault g c =
    let p = err_from_is_err_and c.from_residual.result c.from_residual.ensures.1 in
    rw (p.1, p.2) (file_fault_is c.in_err-flush_rest.field-0.0)

pub returns-in_err-flush_rest-clause-damaged : goal.returns-in_err-flush_rest-clause-damaged
returns-in_err-flush_rest-clause-damaged g c =
    let p = err_from_is_err_and c.from_residual.result c.from_residual.ensures.1 in
    rw (p.1, p.2) (λ told rows is packed. file_no_damage c.in_err-flush_rest.field-0.0 c.in_err-flush_rest.ensures.writes.fault)

pub returns-in_err-flush_rest-clause-shown : goal.returns-in_err-flush_rest-clause-shown
returns-in_err-flush_rest-clause-shown g c =
    let p = err_from_is_err_and c.from_residual.result c.from_residual.ensures.1 in
    rw (p.1, p.2) (file_shown c.args.place.now.layout.format 0 c.flush_rest.new.frames c.in_err-flush_rest.field-0.0 (inl c.in_err-flush_rest.ensures.writes.fault))

pub returns-in_err-spread_spare-clause-steps : goal.returns-in_err-spread_spare-clause-steps
returns-in_err-spread_spare-clause-steps g c = spares_on c.args.place.now c.flush_rest.ensures.writes.steps c.spread_spare.ensures.steps

pub returns-in_err-spread_spare-clause-fault : goal.returns-in_err-spread_spare-clause-fault
returns-in_err-spread_spare-clause-fault g c =
    let p = err_from_is_err_and c.from_residual-in_err-spread_spare.result c.from_residual-in_err-spread_spare.ensures.1 in
    rw (p.1, p.2) (file_fault_is c.in_err-spread_spare.field-0.0)

-- what was taken is packed in the file
packed : (g : _) (c : In_ok-flush_rest g) → Told (g.S.Station.view c.args.station.now) → (rows : List Record) → IsTaken c.args.place.now.layout c.args.taken.now c.args.frames.now rows → HasPacked c.args.place.now rows c.args.taken.now.written (g.S.Station.view c.args.station.now).held
    → HasPacked c.args.place.now rows (used_by c.args.taken.now.records) (g.S.Station.view c.flush_rest.new.station).held
packed g c told rows is before i lt = c.in_ok-flush_rest.ensures.writes.packed told rows is before i (omega (arith, lt, c.in_ok-flush_rest.ensures.written))

pub returns-in_err-spread_spare-clause-damaged : goal.returns-in_err-spread_spare-clause-damaged
returns-in_err-spread_spare-clause-damaged g c =
    let p = err_from_is_err_and c.from_residual-in_err-spread_spare.result c.from_residual-in_err-spread_spare.ensures.1 in
    rw (p.1, p.2) (λ told rows is before. file_no_damage c.in_err-spread_spare.field-0.0 (c.in_err-spread_spare.ensures.damaged (told_on c.flush_rest.ensures.writes.steps.frame told) rows is.rows_are (sym is.count) (packed g (goal.at.returns-in_err-spread_spare-clause-damaged g c).In_ok-flush_rest told rows is before)))

pub returns-in_err-spread_spare-clause-shown : goal.returns-in_err-spread_spare-clause-shown
returns-in_err-spread_spare-clause-shown g c =
    let p = err_from_is_err_and c.from_residual-in_err-spread_spare.result c.from_residual-in_err-spread_spare.ensures.1 in
    rw (p.1, p.2) (file_shown c.args.place.now.layout.format c.args.taken.now.records c.spread_spare.new.frames c.in_err-spread_spare.field-0.0 c.in_err-spread_spare.ensures.cause)

-- All is written.

pub returns-clause-steps : goal.returns-clause-steps
returns-clause-steps g c = spares_on c.args.place.now c.flush_rest.ensures.writes.steps c.spread_spare.ensures.steps

pub returns-clause-written : goal.returns-clause-written
returns-clause-written g c told rows is before =
    subst (λ (m : ℕ). HasWritten c.args.place.now (spread_over m rows) m (g.S.Station.view c.spread_spare.new.station).held) c.segments_at-segments.ensures
    (c.in_ok-spread_spare.ensures.spread (told_on c.flush_rest.ensures.writes.steps.frame told) rows is.rows_are (sym is.count) (packed g (goal.at.returns-clause-written g c).In_ok-flush_rest told rows is before))

pub returns-clause-cost : goal.returns-clause-cost
returns-clause-cost g c before start =
    let at = (goal.at.returns-clause-cost g c).After-segments_at-segments in
    let size = segment_size c.args.place.now.layout in
    let t = c.args.taken.now in
    let u = c.flush_rest.new.taken in
    let behind : t.written ≤ u.written = omega (arith, c.requires.behind, c.in_ok-flush_rest.ensures.written) in
    let one = cost_on size t.written u.written before (g.S.Station.view c.args.station.now).travel.written (g.S.Station.view c.flush_rest.new.station).travel.written behind start (omega (arith, c.flush_rest.ensures.cost, ap (λ (n : ℕ). size * (n - t.written)) c.in_ok-flush_rest.ensures.written)) in
    let some : u.written ≤ 2 ^ c.least_height-height.result = omega (arith, fits g at, c.in_ok-flush_rest.ensures.written, c.segments_at-segments.ensures) in
    let all : size * c.segments_at-segments.result ≡ size * 2 ^ c.least_height-height.result = ap (λ (n : ℕ). size * n) c.segments_at-segments.ensures in
    omega (arith, one, c.spread_spare.ensures.cost, all, times_up size u.written (2 ^ c.least_height-height.result) some)

pub returns-clause-calls : goal.returns-clause-calls
returns-clause-calls g c before runs =
    let layout = c.args.place.now.layout in
    let t = c.args.taken.now in
    let packs = c.flush_rest.ensures.calls runs.0 (runs_parts (room_in layout) (used_by t.records) t.written runs.0 (omega (arith, room_some layout c.requires.can.layout)) (omega (arith, c.requires.behind)) runs.1) in
    omega (arith, runs.2, packs.2, packs.1.few, c.in_ok-spread_spare.ensures.calls, ap (copy_calls (room_in layout) (used_by t.records)) c.segments_at-segments.ensures)

-- Whatever was answered.

pub returns-in_err-flush_rest-clause-most_cost : goal.returns-in_err-flush_rest-clause-most_cost
returns-in_err-flush_rest-clause-most_cost g c before start =
    omega (arith, packed_cost c.args.place.now.layout c.args.taken.now before (g.S.Station.view c.args.station.now).travel.written (g.S.Station.view c.flush_rest.new.station).travel.written c.requires.behind c.requires.few start c.flush_rest.ensures.cost)

pub returns-in_err-flush_rest-clause-most_calls : goal.returns-in_err-flush_rest-clause-most_calls
returns-in_err-flush_rest-clause-most_calls g c before runs =
    let l = c.args.place.now.layout in
    omega (
      arith,
      packed_calls l c.requires.can.layout c.args.taken.now before (g.S.Station.view c.args.station.now).calls (g.S.Station.view c.flush_rest.new.station).calls c.requires.behind runs c.flush_rest.ensures.calls,
      packing_rises l c.requires.can.layout c.args.taken.now.records (most_records l) c.requires.few,
    )

pub returns-in_err-spread_spare-clause-most_cost : goal.returns-in_err-spread_spare-clause-most_cost
returns-in_err-spread_spare-clause-most_cost g c before start =
    let l = c.args.place.now.layout in
    let at = (goal.at.returns-in_err-spread_spare-clause-most_cost g c).After-segments_at-segments in
    omega (
      arith,
      packed_cost l c.args.taken.now before (g.S.Station.view c.args.station.now).travel.written (g.S.Station.view c.flush_rest.new.station).travel.written c.requires.behind c.requires.few start c.flush_rest.ensures.cost,
      c.spread_spare.ensures.cost,
      times_up (segment_size l) c.segments_at-segments.result (2 ^ height_limit l) (inside g at),
    )

pub returns-in_err-spread_spare-clause-most_calls : goal.returns-in_err-spread_spare-clause-most_calls
returns-in_err-spread_spare-clause-most_calls g c before runs =
    let l = c.args.place.now.layout in
    let at = (goal.at.returns-in_err-spread_spare-clause-most_calls g c).After-segments_at-segments in
    omega (
      arith,
      packed_calls l c.requires.can.layout c.args.taken.now before (g.S.Station.view c.args.station.now).calls (g.S.Station.view c.flush_rest.new.station).calls c.requires.behind runs c.flush_rest.ensures.calls,
      c.spread_spare.ensures.calls,
      load_calls_rise l c.requires.can.layout c.args.taken.now.records (most_records l) c.segments_at-segments.result (2 ^ height_limit l) c.requires.few (inside g at),
    )

pub returns-clause-most_cost : goal.returns-clause-most_cost
returns-clause-most_cost g c before start =
    let l = c.args.place.now.layout in
    let at = (goal.at.returns-clause-most_cost g c).After-segments_at-segments in
    omega (
      arith,
      packed_cost l c.args.taken.now before (g.S.Station.view c.args.station.now).travel.written (g.S.Station.view c.flush_rest.new.station).travel.written c.requires.behind c.requires.few start c.flush_rest.ensures.cost,
      c.spread_spare.ensures.cost,
      times_up (segment_size l) c.segments_at-segments.result (2 ^ height_limit l) (inside g at),
    )

pub returns-clause-most_calls : goal.returns-clause-most_calls
returns-clause-most_calls g c before runs =
    let l = c.args.place.now.layout in
    let at = (goal.at.returns-clause-most_calls g c).After-segments_at-segments in
    omega (
      arith,
      packed_calls l c.requires.can.layout c.args.taken.now before (g.S.Station.view c.args.station.now).calls (g.S.Station.view c.flush_rest.new.station).calls c.requires.behind runs c.flush_rest.ensures.calls,
      c.spread_spare.ensures.calls,
      load_calls_rise l c.requires.can.layout c.args.taken.now.records (most_records l) c.segments_at-segments.result (2 ^ height_limit l) c.requires.few (inside g at),
    )

-- What is read.

still : (g : _) (c : After-flush_rest g) → (g.S.Station.view c.flush_rest.new.station).travel.read ≡ (g.S.Station.view c.args.station.now).travel.read
still g c = ap (λ (t : Travel). t.read) c.flush_rest.ensures.writes.no_reads

pub returns-in_err-flush_rest-clause-read_bytes : goal.returns-in_err-flush_rest-clause-read_bytes
returns-in_err-flush_rest-clause-read_bytes g c = omega (arith, still g (goal.at.returns-in_err-flush_rest-clause-read_bytes g c).After-flush_rest)

pub returns-in_err-spread_spare-clause-read_bytes : goal.returns-in_err-spread_spare-clause-read_bytes
returns-in_err-spread_spare-clause-read_bytes g c = omega (arith, still g (goal.at.returns-in_err-spread_spare-clause-read_bytes g c).After-flush_rest, c.spread_spare.ensures.read_bytes)

pub returns-clause-read_bytes : goal.returns-clause-read_bytes
returns-clause-read_bytes g c = omega (arith, still g (goal.at.returns-clause-read_bytes g c).After-flush_rest, c.spread_spare.ensures.read_bytes)

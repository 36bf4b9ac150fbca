use Rattle.bulk_load.specs.declared.fault.LoadFault.{LoadFault}
use Rattle.bulk_load.specs.MergeCauses.{IsTextFault}
use Rattle.bulk_load.specs.declared.run.Found.{Found}
use Rattle.std.proofs.Common.{arith, ◌≡◌, ℕ, ◌+◌, ◌-◌, ◌*◌, ◌^◌, ◌≤◌, List, sym, ap, subst, ◌∙◌, sum}
use Rattle.std.proofs.lemmas.Result.{err_from_is_err_and}
use Rattle.station.specs.View.{View, EachHeld}
use Rattle.station.proofs.Composition.{told_on, told_back}
use Rattle.header_gate.specs.Places.{height_limit, segment_size}
use Rattle.station.specs.Steps.{Steps}
use Rattle.map_model.specs.Regions.{Spares}
use Rattle.range_scan.specs.Checking.{LieAbove}
use Rattle.map_model.specs.Image.{array_of}
use Rattle.resize_region.specs.Shares.{StandsBare}
use Rattle.window_tally.specs.TallyView.{TallyView}
use Rattle.resize_region.proofs.OldRowLaws.{rose_on}
use Rattle.bulk_load.specs.declared.packing.Taken.{Taken}
use Rattle.bulk_load.specs.Amid.{Goes, IsLiveDamage, Tries}
use Rattle.bulk_load.specs.Loads.{IsLeastHeight, most_records}
use Rattle.bulk_load.specs.Packing.{CanFill}
use Rattle.key_slot.proofs.SegmentLaws.{times_up}
use Rattle.resize_region.specs.Source.{Walks}
use Rattle.bulk_load.specs.Spreading.{used_by}
use Rattle.bulk_load.specs.MergeUpdates.{ReadsBeside}
use Rattle.bulk_load.proofs.AloneLaws.{file_text}
use Rattle.bulk_load.proofs.Calls.{fill_on, spares_on}
use Rattle.bulk_load.specs.declared.merged.Merged.{Merged}
use Rattle.bulk_load.proofs.CopyLaws.{disk_as, disk_is}
use Rattle.bulk_load.proofs.MergeStart.{Chosen, chosen, file_merge_fault, goes_runs, live_shown, packed_shown, starts_between, starts_merged, tries_calls, live_last, packed_last}
use Rattle.bulk_load.proofs.merged.write_merged.Goals as goal
use Rattle.bulk_load.proofs.merged.write_merged.Goals.{After-start_run-run, After-merge_text, After-spread_taken}

-- The start.

module _ (g : _) (c : After-start_run-run g) where
  started : CanFill c.args.place.now c.start_run-run.new.frames (g.S.Station.view c.args.station.now)
  started = let can = c.requires.can in record { layout = can.layout; region = can.region; reach = can.reach; journal = c.start_run-run.ensures.journal ∙ can.journal; live = can.live }

  own : EachHeld (StandsBare c.args.place.now c.start_run-run.result.ahead.tally.now) (g.S.Station.view c.args.station.now)
  own = subst (λ (t : TallyView). EachHeld (StandsBare c.args.place.now t) (g.S.Station.view c.args.station.now)) (sym c.start_run-run.ensures.tally) c.requires.stands

  in_order : (image : List ℕ) → StandsBare c.args.place.now c.start_run-run.result.ahead.tally.now image → LieAbove c.start_run-run.result.ahead.reader (array_of image)
  in_order image stands = c.start_run-run.ensures.order image (subst (λ (t : TallyView). StandsBare c.args.place.now t image) c.start_run-run.ensures.tally stands)

  written_none : c.start_run-run.result.taken.written ≡ 0
  written_none = ap (λ (t : Taken). t.written) c.start_run-run.ensures.none

  tall : 2 ^ c.start_run-run.result.ahead.tally.now.height ≡ 2 ^ c.args.tally.now.height
  tall = ap (λ (t : TallyView). 2 ^ t.height) c.start_run-run.ensures.tally

pub merge_text-requires : goal.merge_text-requires
merge_text-requires g c =
    let at = (goal.at.merge_text-requires g c).After-start_run-run in
    let e = c.start_run-run.ensures in
    record {
      starts = record {
        between = starts_between c.args.place.now c.start_run-run.result c.start_run-run.new.frames (g.S.Station.view c.args.station.now) (started g at) e.taken e.none e.ahead (in_order g at) (own g at) e.above e.last e.edits e.found e.page e.start;
        unread = c.requires.unread;
        going = ap (λ (t : Taken). t.ended) e.none;
        alone = record { keys = record { edits_are = e.edits; last = e.last }; binds = ap (λ (x : Found). x.stored + x.replaced) e.found };
        start = λ told. starts_merged c.args.place.now c.start_run-run.result c.start_run-run.new.frames (g.S.Station.view c.args.station.now) (started g at) e.taken e.none e.ahead (in_order g at) (own g at) e.above e.last e.edits e.found e.page e.start e.all told;
      };
    }

-- The text wasn't read.

tried : (g : _) (c : After-merge_text g) → Tries c.args.place.now (2 ^ c.args.tally.now.height) 0 0 c.start_run-run.new.frames c.merge_text.new.frames (g.S.Station.view c.args.station.now) (g.S.Station.view c.merge_text.new.station)
tried g c =
    let at = (goal.at.After-merge_text g c).After-start_run-run in
    let place = c.args.place.now in
    let a = g.S.Station.view c.args.station.now in
    let z = g.S.Station.view c.merge_text.new.station in
    subst (λ (n : ℕ). Tries place n 0 0 c.start_run-run.new.frames c.merge_text.new.frames a z) (tall g at)
    (subst (λ (w : ℕ). Tries place (2 ^ c.start_run-run.result.ahead.tally.now.height) w 0 c.start_run-run.new.frames c.merge_text.new.frames a z) (written_none g at)
    (subst (λ (n : ℕ). Tries place (2 ^ c.start_run-run.result.ahead.tally.now.height) c.start_run-run.result.taken.written n c.start_run-run.new.frames c.merge_text.new.frames a z) c.start_run-run.ensures.start c.merge_text.ensures.tries))

pub returns-in_err-merge_text-clause-fault : goal.returns-in_err-merge_text-clause-fault
returns-in_err-merge_text-clause-fault g c =
    let p = err_from_is_err_and c.from_residual.result c.from_residual.ensures.1 in
    rw (p.1, p.2) c.in_err-merge_text.ensures.faulty

pub returns-in_err-merge_text-clause-text : goal.returns-in_err-merge_text-clause-text
returns-in_err-merge_text-clause-text g c =
    let p = err_from_is_err_and c.from_residual.result c.from_residual.ensures.1 in
    rw (p.1, p.2)
    (subst (λ (t : TallyView). IsTextFault c.args.place.now.layout.format (most_records c.args.place.now.layout) (sum t.counts) c.args.reader.now (g.I.Source.view c.args.source.now) (g.I.Source.view c.merge_text.new.source) c.in_err-merge_text.field-0.0) c.start_run-run.ensures.tally
    c.in_err-merge_text.ensures.text)

-- a live segment that is damaged
seen : (g : _) (c : After-merge_text g) (fault : LoadFault) → IsLiveDamage c.args.place.now c.start_run-run.result.ahead.reader.next (g.S.Station.view c.args.station.now).travel (g.S.Station.view c.merge_text.new.station).travel c.start_run-run.result.ahead.tally.now fault
    → IsLiveDamage c.args.place.now 0 (g.S.Station.view c.args.station.now).travel (g.S.Station.view c.merge_text.new.station).travel c.args.tally.now fault
seen g c fault is =
    subst (λ (t : TallyView). IsLiveDamage c.args.place.now 0 (g.S.Station.view c.args.station.now).travel (g.S.Station.view c.merge_text.new.station).travel t fault) c.start_run-run.ensures.tally
    (subst (λ (n : ℕ). IsLiveDamage c.args.place.now n (g.S.Station.view c.args.station.now).travel (g.S.Station.view c.merge_text.new.station).travel c.start_run-run.result.ahead.tally.now fault) c.start_run-run.ensures.start is)

pub returns-in_err-merge_text-clause-shown : goal.returns-in_err-merge_text-clause-shown
returns-in_err-merge_text-clause-shown g c =
    let p = err_from_is_err_and c.from_residual.result c.from_residual.ensures.1 in
    let at = (goal.at.returns-in_err-merge_text-clause-shown g c).After-merge_text in
    let fault = c.in_err-merge_text.field-0.0 in
    rw (p.1, p.2) (live_shown c.args.place.now 0 (g.S.Station.view c.args.station.now).travel (g.S.Station.view c.merge_text.new.station).travel c.args.tally.now c.merge_text.new.frames fault (seen g at fault c.in_err-merge_text.ensures.damage))

pub returns-in_err-merge_text-clause-last : goal.returns-in_err-merge_text-clause-last
returns-in_err-merge_text-clause-last g c =
    let p = err_from_is_err_and c.from_residual.result c.from_residual.ensures.1 in
    let at = (goal.at.returns-in_err-merge_text-clause-last g c).After-merge_text in
    let fault = c.in_err-merge_text.field-0.0 in
    rw (p.1, p.2) (live_last c.args.place.now (g.S.Station.view c.args.station.now).travel (g.S.Station.view c.merge_text.new.station).travel c.args.tally.now c.merge_text.new.frames fault (seen g at fault c.in_err-merge_text.ensures.damage))

pub returns-in_err-merge_text-clause-steps : goal.returns-in_err-merge_text-clause-steps
returns-in_err-merge_text-clause-steps g c = c.merge_text.ensures.tries.steps

pub returns-in_err-merge_text-clause-journal : goal.returns-in_err-merge_text-clause-journal
returns-in_err-merge_text-clause-journal g c = c.merge_text.ensures.tries.journal ∙ c.start_run-run.ensures.journal

pub returns-in_err-merge_text-clause-turn : goal.returns-in_err-merge_text-clause-turn
returns-in_err-merge_text-clause-turn g c = c.merge_text.ensures.tries.turn ∙ c.start_run-run.ensures.turn

pub returns-in_err-merge_text-clause-most_cost : goal.returns-in_err-merge_text-clause-most_cost
returns-in_err-merge_text-clause-most_cost g c =
    let l = c.args.place.now.layout in
    let none : 2 ^ height_limit l - 0 ≡ 2 ^ height_limit l = omega arith in
    omega (arith, (tried g (goal.at.returns-in_err-merge_text-clause-most_cost g c).After-merge_text).cost, ap (λ (n : ℕ). segment_size l * n) none)

pub returns-in_err-merge_text-clause-most_calls : goal.returns-in_err-merge_text-clause-most_calls
returns-in_err-merge_text-clause-most_calls g c =
    tries_calls c.args.place.now c.requires.can.layout (2 ^ c.args.tally.now.height) c.start_run-run.new.frames c.merge_text.new.frames (g.S.Station.view c.args.station.now) (g.S.Station.view c.merge_text.new.station) (tried g (goal.at.returns-in_err-merge_text-clause-most_calls g c).After-merge_text)

-- It was read, and all that results is packed.

pub spread_taken-requires-clause-can : goal.spread_taken-requires-clause-can
spread_taken-requires-clause-can g c =
    let at = (goal.at.spread_taken-requires-clause-can g c).After-start_run-run in
    let tries = c.merge_text.ensures.tries in
    fill_on c.args.place.now c.start_run-run.new.frames c.merge_text.new.frames (started g at) tries.journal tries.steps

pub spread_taken-requires-clause-taken : goal.spread_taken-requires-clause-taken
spread_taken-requires-clause-taken g c = let t = c.in_ok-merge_text.ensures.taking in (t.rows, t.taken)

pub spread_taken-requires-clause-behind : goal.spread_taken-requires-clause-behind
spread_taken-requires-clause-behind g c = c.in_ok-merge_text.ensures.taking.place.behind

pub spread_taken-requires-clause-few : goal.spread_taken-requires-clause-few
spread_taken-requires-clause-few g c = c.in_ok-merge_text.ensures.taking.few

module _ (g : _) (c : After-spread_taken g) where
  abbrev a : View
  a = g.S.Station.view c.args.station.now

  abbrev b : View
  b = g.S.Station.view c.merge_text.new.station

  picked : Chosen c.args.place.now c.args.reader.now (g.I.Source.view c.args.source.now) a c.merge_text.new.run c.merge_text.new.frames b
  picked = chosen c.args.place.now c.args.reader.now (g.I.Source.view c.args.source.now) a c.merge_text.new.run c.merge_text.new.frames b c.in_ok-merge_text.ensures.all c.in_ok-merge_text.ensures.taking

  gone : Goes c.args.place.now 0 c.merge_text.new.run.taken.written 0 c.merge_text.new.run.ahead.reader.next c.start_run-run.new.frames c.merge_text.new.frames a b
  gone =
      let at = (goal.at.After-spread_taken g c).After-start_run-run in
      subst (λ (w : ℕ). Goes c.args.place.now w c.merge_text.new.run.taken.written 0 c.merge_text.new.run.ahead.reader.next c.start_run-run.new.frames c.merge_text.new.frames a b) (written_none g at)
      (subst (λ (n : ℕ). Goes c.args.place.now c.start_run-run.result.taken.written c.merge_text.new.run.taken.written n c.merge_text.new.run.ahead.reader.next c.start_run-run.new.frames c.merge_text.new.frames a b) c.start_run-run.ensures.start c.in_ok-merge_text.ensures.goes)

  all_read : c.merge_text.new.run.ahead.reader.next ≤ 2 ^ c.args.tally.now.height
  all_read = let at = (goal.at.After-spread_taken g c).After-start_run-run in omega (arith, c.in_ok-merge_text.ensures.end, tall g at)

  cost_start : b.travel.written ≤ a.travel.written + segment_size c.args.place.now.layout * c.merge_text.new.run.taken.written
  cost_start = let none : c.merge_text.new.run.taken.written - 0 ≡ c.merge_text.new.run.taken.written = omega arith in omega (arith, gone.cost, ap (λ (n : ℕ). segment_size c.args.place.now.layout * n) none)

  both_steps : Steps (Spares c.args.place.now.layout c.args.place.now.region) a (g.S.Station.view c.spread_taken.new.station)
  both_steps = spares_on c.args.place.now gone.steps c.spread_taken.ensures.steps

pub returns-clause-written : goal.returns-clause-written
returns-clause-written g c =
    let at = (goal.at.returns-clause-written g c).After-spread_taken in
    let x = picked g at in (
      x.rows,
      record {
        text = x.out;
        are_rows = x.taken.rows_are;
        count = x.taken.count;
        least = subst (λ (n : ℕ). IsLeastHeight n c.in_ok-height.height) x.taken.count c.in_ok-height.ensures.least;
        limit = c.in_ok-height.ensures.limit;
        written = λ told_z.
            let told_b = told_back c.spread_taken.ensures.steps.frame told_z in
            c.in_ok-height.ensures.written told_b x.rows x.taken (x.packed (told_back (gone g at).steps.frame told_b));
      },
    )

pub returns-clause-count : goal.returns-clause-count
returns-clause-count g c = omega (arith, c.in_ok-merge_text.ensures.count, ap (λ (t : TallyView). sum t.counts) c.start_run-run.ensures.tally)

pub returns-clause-steps : goal.returns-clause-steps
returns-clause-steps g c = both_steps g (goal.at.returns-clause-steps g c).After-spread_taken

pub returns-clause-journal : goal.returns-clause-journal
returns-clause-journal g c = c.spread_taken.ensures.journal ∙ c.merge_text.ensures.tries.journal ∙ c.start_run-run.ensures.journal

pub returns-clause-turn : goal.returns-clause-turn
returns-clause-turn g c = c.spread_taken.ensures.turn ∙ c.merge_text.ensures.tries.turn ∙ c.start_run-run.ensures.turn

pub returns-clause-cost : goal.returns-clause-cost
returns-clause-cost g c = let at = (goal.at.returns-clause-cost g c).After-spread_taken in c.in_ok-height.ensures.cost (a g at).travel.written (cost_start g at)

pub returns-clause-calls : goal.returns-clause-calls
returns-clause-calls g c =
    let at = (goal.at.returns-clause-calls g c).After-spread_taken in
    let n = 2 ^ c.args.tally.now.height in
    omega (arith, c.in_ok-height.ensures.calls ((a g at).calls + n) (goes_runs c.args.place.now c.requires.can.layout n c.start_run-run.new.frames c.merge_text.new.frames (a g at) (b g at) c.merge_text.new.run.taken.written c.merge_text.new.run.ahead.reader.next (all_read g at) (gone g at)))

pub returns-clause-most_cost : goal.returns-clause-most_cost
returns-clause-most_cost g c = let at = (goal.at.returns-clause-most_cost g c).After-spread_taken in c.spread_taken.ensures.most_cost (a g at).travel.written (cost_start g at)

pub returns-clause-most_calls : goal.returns-clause-most_calls
returns-clause-most_calls g c =
    let at = (goal.at.returns-clause-most_calls g c).After-spread_taken in
    let n = 2 ^ c.args.tally.now.height in
    omega (arith, c.spread_taken.ensures.most_calls ((a g at).calls + n) (goes_runs c.args.place.now c.requires.can.layout n c.start_run-run.new.frames c.merge_text.new.frames (a g at) (b g at) c.merge_text.new.run.taken.written c.merge_text.new.run.ahead.reader.next (all_read g at) (gone g at)))

-- A fault of the spreading.

pub returns-in_err-height-clause-fault : goal.returns-in_err-height-clause-fault
returns-in_err-height-clause-fault g c =
    let p = err_from_is_err_and c.from_residual-in_err-height.result c.from_residual-in_err-height.ensures.1 in
    let at = (goal.at.returns-in_err-height-clause-fault g c).After-spread_taken in
    let x = picked g at in
    rw (p.1, p.2) (file_merge_fault c.args.place.now.layout.format (most_records c.args.place.now.layout) (a g at) c.args.reader.now (g.I.Source.view c.args.source.now) (g.I.Source.view c.merge_text.new.source) c.in_err-height.field-0.0 c.in_err-height.ensures.fault
    (λ told. c.in_err-height.ensures.damaged (told_on (gone g at).steps.frame told) x.rows x.taken (x.packed told)))

pub returns-in_err-height-clause-text : goal.returns-in_err-height-clause-text
returns-in_err-height-clause-text g c =
    let p = err_from_is_err_and c.from_residual-in_err-height.result c.from_residual-in_err-height.ensures.1 in
    rw (p.1, p.2) (file_text c.args.place.now.layout.format (most_records c.args.place.now.layout) (sum c.args.tally.now.counts) c.args.reader.now (g.I.Source.view c.args.source.now) (g.I.Source.view c.merge_text.new.source) c.in_err-height.field-0.0 c.in_err-height.ensures.fault)

pub returns-in_err-height-clause-shown : goal.returns-in_err-height-clause-shown
returns-in_err-height-clause-shown g c =
    let p = err_from_is_err_and c.from_residual-in_err-height.result c.from_residual-in_err-height.ensures.1 in
    rw (p.1, p.2) (packed_shown c.args.place.now.layout.format c.args.tally.now c.spread_taken.new.frames c.in_err-height.field-0.0 c.in_err-height.ensures.shown)

pub returns-in_err-height-clause-last : goal.returns-in_err-height-clause-last
returns-in_err-height-clause-last g c =
    let p = err_from_is_err_and c.from_residual-in_err-height.result c.from_residual-in_err-height.ensures.1 in
    rw (p.1, p.2) (packed_last c.args.place.now (g.S.Station.view c.args.station.now).travel (g.S.Station.view c.spread_taken.new.station).travel c.args.tally.now c.spread_taken.new.frames c.in_err-height.field-0.0 c.in_err-height.ensures.shown)

pub returns-in_err-height-clause-steps : goal.returns-in_err-height-clause-steps
returns-in_err-height-clause-steps g c = both_steps g (goal.at.returns-in_err-height-clause-steps g c).After-spread_taken

pub returns-in_err-height-clause-journal : goal.returns-in_err-height-clause-journal
returns-in_err-height-clause-journal g c = c.spread_taken.ensures.journal ∙ c.merge_text.ensures.tries.journal ∙ c.start_run-run.ensures.journal

pub returns-in_err-height-clause-turn : goal.returns-in_err-height-clause-turn
returns-in_err-height-clause-turn g c = c.spread_taken.ensures.turn ∙ c.merge_text.ensures.tries.turn ∙ c.start_run-run.ensures.turn

pub returns-in_err-height-clause-most_cost : goal.returns-in_err-height-clause-most_cost
returns-in_err-height-clause-most_cost g c = let at = (goal.at.returns-in_err-height-clause-most_cost g c).After-spread_taken in c.spread_taken.ensures.most_cost (a g at).travel.written (cost_start g at)

pub returns-in_err-height-clause-most_calls : goal.returns-in_err-height-clause-most_calls
returns-in_err-height-clause-most_calls g c =
    let at = (goal.at.returns-in_err-height-clause-most_calls g c).After-spread_taken in
    let n = 2 ^ c.args.tally.now.height in
    omega (arith, c.spread_taken.ensures.most_calls ((a g at).calls + n) (goes_runs c.args.place.now c.requires.can.layout n c.start_run-run.new.frames c.merge_text.new.frames (a g at) (b g at) c.merge_text.new.run.taken.written c.merge_text.new.run.ahead.reader.next (all_read g at) (gone g at)))

-- What is read.

pub returns-in_err-merge_text-clause-reads : goal.returns-in_err-merge_text-clause-reads
returns-in_err-merge_text-clause-reads g c =
    let reads = (tried g (goal.at.returns-in_err-merge_text-clause-reads g c).After-merge_text).reads in
    (reads.0, reads.2, record { between = (g.S.Station.view c.merge_text.new.station).travel; walks = reads.3; bytes_are = omega arith })

-- those of the packed records, and of the most that there may be
most_read : (g : _) (c : After-spread_taken g) → ReadsBeside c.args.place.now (2 ^ c.args.tally.now.height) (segment_size c.args.place.now.layout * used_by c.merge_text.new.run.taken.records) (g.S.Station.view c.args.station.now).travel (g.S.Station.view c.spread_taken.new.station).travel
most_read g c =
    let at = (goal.at.After-spread_taken g c).After-start_run-run in
    record {
      between = (b g c).travel;
      walks = subst (λ (n : ℕ). Walks c.args.place.now 0 n (a g c).travel (b g c).travel) (c.in_ok-merge_text.ensures.end ∙ tall g at) (gone g c).reads;
      bytes_are = c.spread_taken.ensures.read_bytes;
    }

reads_all : (g : _) (c : After-spread_taken g) → (n : ℕ) × (n ≤ 2 ^ c.args.tally.now.height) × ReadsBeside c.args.place.now n (segment_size c.args.place.now.layout * used_by (most_records c.args.place.now.layout)) (g.S.Station.view c.args.station.now).travel (g.S.Station.view c.spread_taken.new.station).travel
reads_all g c =
    let l = c.args.place.now.layout in
    let t = c.merge_text.new.run.taken in
    let reads = most_read g c in
    let few : used_by t.records ≤ used_by (most_records l) = omega (arith, c.in_ok-merge_text.ensures.taking.few) in
    (2 ^ c.args.tally.now.height, omega arith, record { between = reads.between; walks = reads.walks; bytes_are = omega (arith, reads.bytes_are, times_up (segment_size l) (used_by t.records) (used_by (most_records l)) few) })

pub returns-clause-reads : goal.returns-clause-reads
returns-clause-reads g c = reads_all g (goal.at.returns-clause-reads g c).After-spread_taken

pub returns-in_err-height-clause-reads : goal.returns-in_err-height-clause-reads
returns-in_err-height-clause-reads g c = reads_all g (goal.at.returns-in_err-height-clause-reads g c).After-spread_taken

pub returns-clause-whole_reads : goal.returns-clause-whole_reads
returns-clause-whole_reads g c = most_read g (goal.at.returns-clause-whole_reads g c).After-spread_taken

pub returns-in_err-merge_text-clause-reading : goal.returns-in_err-merge_text-clause-reading
returns-in_err-merge_text-clause-reading g c =
    let p = err_from_is_err_and c.from_residual.result c.from_residual.ensures.1 in
    let reading = c.in_err-merge_text.ensures.reading in
    let fault = c.in_err-merge_text.field-0.0 in
    rw (p.1, p.2) (record { whole = tt; takes = reading.takes; failed = λ is. reading.failed (disk_as {T = Unit {0}} fault (disk_is {T = Merged} fault is)); went = reading.went })

pub returns-in_err-height-clause-reading : goal.returns-in_err-height-clause-reading
returns-in_err-height-clause-reading g c =
    let p = err_from_is_err_and c.from_residual-in_err-height.result c.from_residual-in_err-height.ensures.1 in
    let at = (goal.at.returns-in_err-height-clause-reading g c).After-spread_taken in
    let reading = c.in_ok-merge_text.ensures.reading in
    rw (p.1, p.2) (record {
      whole = tt;
      takes = reading.takes;
      failed = λ is. rose_on (a g at) (b g at) (g.S.Station.view c.spread_taken.new.station).disk_faults (gone g at).steps.frame.disk_faults (c.in_err-height.ensures.failed (disk_as {T = ℕ} c.in_err-height.field-0.0 (disk_is {T = Merged} c.in_err-height.field-0.0 is)));
      went = reading.went;
    })

pub returns-clause-reading : goal.returns-clause-reading
returns-clause-reading g c =
    let reading = c.in_ok-merge_text.ensures.reading in
    record { whole = reading.whole; takes = reading.takes; failed = λ is. absurd cc; went = reading.went }

use Rattle.std.proofs.Common.{arith, ◌≡◌, ℕ, ◌+◌, ◌<◌, List, [], ◌∷◌, ◌++◌, length, drop, sum, slice_get, Some, sym, ap, subst, ◌∙◌}
use Rattle.std.proofs.lemmas.List.{length-append}
use Rattle.std.proofs.lemmas.Result.{err_from_is_err_and}
use Rattle.station.specs.View.{Fixed}
use Rattle.station.proofs.Composition.{each_on, same_on, told_on}
use Rattle.key_slot.specs.Format.{wide}
use Rattle.key_slot.specs.Record.{Record}
use Rattle.key_slot.specs.Row.{record_of}
use Rattle.map_model.specs.Array.{rows}
use Rattle.map_model.specs.Image.{array_of}
use Rattle.redo_journal.specs.Frames.{Batch}
use Rattle.resize_region.specs.Shares.{StandsBare}
use Rattle.resize_region.specs.OldRows.{IsInOrder, rows_ahead}
use Rattle.resize_region.specs.Shares.{places, share_in}
use Rattle.resize_region.proofs.OldRowLaws.{walked_on, reads_err, ahead_taken}
use Rattle.resize_region.proofs.StreamLaws.{one_left}
use Rattle.resize_region.proofs.old_rows.gather.Goals as goal
use Rattle.resize_region.proofs.old_rows.gather.Goals.{In_ok-read_on}

-- there was a segment more
more : (g : _) (c : In_ok-read_on g) → c.read_on.new.rows.reader.next ≡ c.loop-have.rows.reader.next + 1
more g c =
    let inv = c.loop-have.invariant in
    let rows = c.loop-have.rows in
    let used : rows.index ≡ length rows.page.rows = omega (arith, c.if-rows-len.true, c.len.ensures.len, ap length c.rows.ensures) in
    let left : 0 < sum (drop rows.reader.next c.args.tally.now.counts) = omega (arith, inv.left, c.loop-have-test.true, c.requires.enough, used) in
    let below = one_left c.args.tally.now.counts rows.reader.next left in
    c.in_ok-read_on.ensures.next (c.in_ok-read_on.ensures.more.1 (omega (arith, below, inv.among.counts)))

pub loop-have-smaller-in_ok-read_on : goal.loop-have-smaller-in_ok-read_on
loop-have-smaller-in_ok-read_on g c =
    omega (arith, more g (goal.at.loop-have-smaller-in_ok-read_on g c).In_ok-read_on, c.in_ok-read_on.ensures.among.end_is, c.in_ok-read_on.ensures.among.within, c.loop-have.invariant.among.end_is)

pub loop-have-preserved-in_ok-read_on : goal.loop-have-preserved-in_ok-read_on
loop-have-preserved-in_ok-read_on g c =
    let inv = c.loop-have.invariant in
    let done = c.in_ok-read_on.ensures in
    let a = g.S.Station.view c.args.station.now in
    let Stands = StandsBare c.args.place.now c.args.tally.now in
    let share = share_in wide c.args.wanted.f c.loop-have.frames in
    record {
      within = inv.within;
      shares = inv.shares;
      filled = inv.filled;
      others = inv.others;
      rest = inv.rest;
      among = done.among;
      left = omega (arith, inv.left, done.left);
      order = λ told. subst (λ (held : List ℕ). IsInOrder (array_of held) c.read_on.new.rows) (inv.steps.held told) (done.order (told_on inv.steps.frame told));
      same = λ told.
          ap (λ (l : List Record). share ++ l)
          (subst (λ (held : List ℕ). rows_ahead (array_of held) c.read_on.new.rows ≡ rows_ahead (array_of held) c.loop-have.rows) (inv.steps.held told) (done.same (told_on inv.steps.frame told)))
          ∙ inv.same told;
      steps = same_on inv.steps c.read_on.ensures.reads.steps;
      reads = walked_on c.args.place.now c.args.tally.now c.args.rows.now c.loop-have.rows c.read_on.new.rows a (g.S.Station.view c.loop-have.station) (g.S.Station.view c.read_on.new.station) inv.steps inv.reads inv.onward inv.calls
          c.read_on.ensures.reads.onward c.read_on.ensures.reads.reads;
      calls = omega (arith, inv.calls, c.read_on.ensures.reads.calls, inv.onward, c.read_on.ensures.reads.onward);
      onward = omega (arith, inv.onward, c.read_on.ensures.reads.onward);
      reach = omega (arith, inv.reach, ap (λ (f : Fixed). f.reach) c.read_on.ensures.reads.steps.frame.fixed);
      stands = each_on Stands Stands c.read_on.ensures.reads.steps inv.stands (λ d i is step. subst Stands (sym step) is);
    }

pub returns-in_err-read_on-clause-reads : goal.returns-in_err-read_on-clause-reads
returns-in_err-read_on-clause-reads g c =
    let p = err_from_is_err_and c.from_residual.result c.from_residual.ensures.1 in
    let inv = c.loop-have.invariant in
    reads_err c.args.place.now c.args.tally.now c.args.rows.now c.loop-have.rows c.read_on.new.rows (g.S.Station.view c.args.station.now) (g.S.Station.view c.loop-have.station) (g.S.Station.view c.read_on.new.station) inv.steps inv.reads inv.onward inv.calls
    c.from_residual.result c.in_err-read_on.field-0.0 (rw p.2 at p.1) c.in_err-read_on.ensures.reads

pub loop-have-preserved : goal.loop-have-preserved
loop-have-preserved g c =
    let inv = c.loop-have.invariant in
    let held = c.loop-have.rows in
    let r = record_of c.row-row.result in
    let share = share_in wide c.args.wanted.f c.loop-have.frames in
    let there : slice_get held.page.rows held.index ≡ Some r = ap (λ (l : List Record). slice_get l held.index) (sym c.rows-else-rows-len.ensures) ∙ c.row-row.ensures in
    let few : held.index < length held.page.rows = omega (arith, inv.among.taken, c.if-rows-len.false, c.len.ensures.len, ap length c.rows.ensures) in
    let all : places wide c.loop-have.frames ≡ places wide c.args.frames.now = ap (λ (b : Batch). places wide b) inv.rest in
    record {
      within = omega (arith, c.loop-have-test.true);
      shares = c.put_row.ensures.shares;
      filled = ap length c.put_row.ensures.share ∙ omega (arith, length-append share (r ∷ []), inv.filled);
      others = λ i other lt. c.put_row.ensures.others i other (omega (arith, lt, all)) ∙ inv.others i other lt;
      rest = c.put_row.ensures.rest ∙ ap (λ (b : Batch). record b { slots = c.put_row.new.frames.slots }) inv.rest;
      among = record {
        counts = inv.among.counts;
        layout_is = inv.among.layout_is;
        region_is = inv.among.region_is;
        end_is = inv.among.end_is;
        within = inv.among.within;
        unfaulted = inv.among.unfaulted;
        taken = omega (arith, few);
        fits = inv.among.fits;
      };
      left = omega (arith, inv.left, few);
      order = inv.order;
      same = λ told.
          let behind = rows (drop held.reader.next (array_of (g.S.Station.view c.args.station.now).held)) in
          ap (λ (l : List Record). l ++ (drop (held.index + 1) held.page.rows ++ behind)) c.put_row.ensures.share ∙ ahead_taken share held.page.rows behind held.index r there ∙ inv.same told;
      steps = inv.steps;
      reads = inv.reads;
      calls = inv.calls;
      onward = inv.onward;
      reach = inv.reach;
      stands = inv.stands;
    }

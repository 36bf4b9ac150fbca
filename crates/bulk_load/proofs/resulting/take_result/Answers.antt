use Rattle.std.proofs.Common.{arith, inl, inr, ◌≡◌, ◌+◌, refl, [], ◌∷◌, ◌++◌, sym, ap, subst, ◌∙◌}
use Rattle.std.proofs.lemmas.Result.{err_from_is_err_and}
use Rattle.density_rule.specs.Bounds.{upper_of}
use Rattle.header_gate.specs.Places.{height_limit}
use Rattle.key_slot.specs.Row.{record_of}
use Rattle.bulk_load.specs.LoadFaults.{load_fault_of}
use Rattle.bulk_load.specs.Loads.{most_records}
use Rattle.bulk_load.specs.Resulting.{IsPackingFault}
use Rattle.resize_region.proofs.OldRowLaws.{failed_as}
use Rattle.bulk_load.proofs.Calls.{none_spares}
use Rattle.bulk_load.proofs.LineLaws.{room_for}
use Rattle.bulk_load.proofs.LoadLaws.{few_records}
use Rattle.bulk_load.proofs.CauseLaws.{no_disk}
use Rattle.bulk_load.proofs.PackLaws.{last_key-more}
use Rattle.bulk_load.proofs.resulting.take_result.Goals as goal

pub returns-then-taken-most : goal.returns-then-taken-most
returns-then-taken-most g c =
    let same : c.upper-most.result ≡ most_records c.args.place.now.layout = c.upper-most.ensures ∙ ap upper_of c.height_limit.ensures.limit in
    record {
      taken = tt;
      packed = tt;
      taking = tt;
      few = tt;
      ended = tt;
      fault = (same, c.if-taken-most.true ∙ same);
      onward = tt;
      journal = refl;
      turn = refl;
      steps = none_spares c.args.place.now (g.S.Station.view c.args.station.now) c.requires.can.live;
      cost = tt;
      calls = tt;
      most_cost = omega arith;
      tried = inl (omega arith);
      no_reads = refl;
      last = tt;
      count = tt;
      failed = λ e. absurd cc;
    }

pub pack-requires-clause-room : goal.pack-requires-clause-room
pack-requires-clause-room g c =
    let l = c.args.place.now.layout in
    let less = room_for l c.args.taken.now.records c.upper-most.result (c.upper-most.ensures ∙ ap upper_of c.height_limit.ensures.limit) c.if-taken-most.false c.requires.taking.few in
    omega (arith, less, few_records (height_limit l) (c.args.taken.now.records + 1) less)

pub pack-requires-clause-taken : goal.pack-requires-clause-taken
pack-requires-clause-taken g c = (c.requires.taking.rows, c.requires.taking.taken)

pub returns : goal.returns
returns g c =
    let l = c.args.place.now.layout in
    let same : c.upper-most.result ≡ most_records l = c.upper-most.ensures ∙ ap upper_of c.height_limit.ensures.limit in
    let less = room_for l c.args.taken.now.records c.upper-most.result same c.if-taken-most.false c.requires.taking.few in
    record {
      taken = c.in_ok-pack.ensures.taken;
      packed = c.in_ok-pack.ensures.packed;
      taking = record {
        rows = c.requires.taking.rows ++ record_of c.args.row.now ∷ [];
        taken = c.in_ok-pack.ensures.taken c.requires.taking.rows c.requires.taking.taken;
        place = c.in_ok-pack.ensures.place;
        few = omega (arith, c.in_ok-pack.ensures.count, less);
      };
      few = omega (arith, c.in_ok-pack.ensures.count, less);
      ended = c.pack.ensures.ended;
      fault = tt;
      onward = c.in_ok-pack.ensures.onward;
      journal = c.pack.ensures.journal;
      turn = c.pack.ensures.turn;
      steps = c.pack.ensures.steps;
      cost = c.in_ok-pack.ensures.cost;
      calls = c.in_ok-pack.ensures.calls;
      most_cost = c.pack.ensures.most_cost;
      tried = elim c.pack.ensures.tried [ inl none ↦ inl none | inr one ↦ inr (one.0, omega (arith, one.1, less)) ];
      no_reads = c.pack.ensures.no_reads;
      last = (c.in_ok-pack.ensures.taken c.requires.taking.rows c.requires.taking.taken).last ∙ last_key-more c.requires.taking.rows (record_of c.args.row.now);
      count = c.in_ok-pack.ensures.count;
      failed = λ e. absurd (no_disk tt e);
    }

pub returns-in_err-pack : goal.returns-in_err-pack
returns-in_err-pack g c =
    let p = err_from_is_err_and c.from_residual.result c.from_residual.ensures.1 in
    let l = c.args.place.now.layout in
    let disk = ap load_fault_of c.in_err-pack.ensures.fault in
    let less = room_for l c.args.taken.now.records c.upper-most.result (c.upper-most.ensures ∙ ap upper_of c.height_limit.ensures.limit) c.if-taken-most.false c.requires.taking.few in
    rw (p.1, p.2) (record {
      taken = tt;
      packed = tt;
      taking = tt;
      few = tt;
      ended = tt;
      fault = subst (IsPackingFault (most_records l) c.args.taken.now.records) (sym disk) (record {});
      onward = tt;
      journal = c.pack.ensures.journal;
      turn = c.pack.ensures.turn;
      steps = c.pack.ensures.steps;
      cost = tt;
      calls = tt;
      most_cost = c.pack.ensures.most_cost;
      tried = elim c.pack.ensures.tried [ inl none ↦ inl none | inr one ↦ inr (one.0, omega (arith, one.1, less)) ];
      no_reads = c.pack.ensures.no_reads;
      last = tt;
      count = tt;
      failed = λ e. c.in_err-pack.ensures.failed (failed_as {T = Unit {0}} c.in_err-pack.field-0.0 c.in_err-pack.ensures.fault);
    })

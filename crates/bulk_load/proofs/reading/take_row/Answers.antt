use Rattle.std.proofs.Common.{arith, [], ◌∷◌, ◌++◌, sym, ap, ◌∙◌}
use Rattle.std.proofs.lemmas.Result.{err_from_is_err_and}
use Rattle.key_slot.specs.Row.{record_of}
use Rattle.map_model.specs.FileReasons.{begins_above}
use Rattle.bulk_load.specs.LoadLines.{reads}
use Rattle.bulk_load.specs.Loads.{most_records}
use Rattle.bulk_load.proofs.CauseLaws.{no_disk}
use Rattle.bulk_load.proofs.LineLaws.{both_true, pack_line_fault, row_goes}
use Rattle.bulk_load.proofs.reading.take_row.Goals as goal

pub take_result-requires-clause-above : goal.take_result-requires-clause-above
take_result-requires-clause-above g c = (both_true c.args.taken.now.ended (begins_above c.args.taken.now.last (record_of c.args.row.now ∷ [])) c.requires.goes_on).1

pub returns : goal.returns
returns g c k =
    let r = record_of c.args.row.now in
    let l = c.args.place.now.layout in
    let packs = c.in_ok-take_result.ensures in
    let not_ended = (both_true c.args.taken.now.ended (begins_above c.args.taken.now.last (r ∷ [])) c.requires.goes_on).0 in
    record {
      takes = λ rows is. record {
        now = rows ++ r ∷ [];
        after = row_goes (most_records l) k rows l c.args.taken.now c.args.frames.now is c.args.row.now c.requires.goes_on (λ e. omega (arith, e, packs.count, packs.few)) ∙ ap (reads (rows ++ r ∷ [])) (sym (packs.ended ∙ not_ended));
        taken = packs.taken rows is;
        packed = λ told. packs.packed told rows is;
      };
      taking = packs.taking;
      faulty = tt;
      onward = packs.onward;
      journal = packs.journal;
      turn = packs.turn;
      steps = packs.steps;
      cost = packs.cost;
      calls = packs.calls;
      most_cost = packs.most_cost;
      most_calls = packs.tried;
      failed = λ e. absurd (no_disk tt e);
    }

pub returns-in_err-take_result : goal.returns-in_err-take_result
returns-in_err-take_result g c =
    let p = err_from_is_err_and c.from_residual.result c.from_residual.ensures.1 in
    rw (p.1, p.2) (λ k. let l = c.args.place.now.layout in let packs = c.take_result.ensures in record {
      takes = tt;
      taking = tt;
      faulty = λ rows is. pack_line_fault (most_records l) k rows l c.args.taken.now c.args.frames.now is c.args.row.now c.requires.goes_on c.in_err-take_result.field-0.0 c.in_err-take_result.ensures.fault;
      onward = tt;
      journal = packs.journal;
      turn = packs.turn;
      steps = packs.steps;
      cost = tt;
      calls = tt;
      most_cost = packs.most_cost;
      most_calls = packs.tried;
      failed = c.in_err-take_result.ensures.failed;
    })

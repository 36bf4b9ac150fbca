use Rattle.std.proofs.Common.{◌≡◌, Some, IfOk, is_ok, ap, subst, ◌∙◌}
use Rattle.map_model.specs.Array.{segment_at}
use Rattle.map_model.specs.Store.{key_of}
use Rattle.segment.specs.Rows.{key_at}
use Rattle.one_commit.specs.Fitting.{change_before}
use Rattle.one_commit.proofs.Finding.{taken_change}
use Rattle.one_commit.proofs.changes.change_of.Goals as goal

pub returns-in-false-Ok-clause-change : goal.returns-in-false-Ok-clause-change
returns-in-false-Ok-clause-change c = λ segments u more puts at ascends found.
    let there : key_at (segment_at segments c.args.segment) c.in-false-Ok.place ≡ Some (key_of u) = subst (λ r. IfOk r (λ place. key_at (segment_at segments c.args.segment) place ≡ Some (key_of u))) c.in-false-Ok.is-1 found in
    ap (λ r. change_before (is_ok r) segments u more) c.in-false-Ok.is-1
    ∙ taken_change segments u more c.in-false-Ok.place c.args.segment (puts ∙ c.in-false-Ok.is-0) at ascends there

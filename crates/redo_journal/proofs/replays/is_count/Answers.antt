use Rattle.std.proofs.Common.{◌≡◌, inl, inr, arith}
use Rattle.header_gate.specs.declared.layout.TheConstants.{PAIRED}
use Rattle.redo_journal.proofs.Validating.{some_named, single_named}
use Rattle.redo_journal.proofs.replays.is_count.Goals as goal

pub returns-then-count-eq0-clause-right : goal.returns-then-count-eq0-clause-right
returns-then-count-eq0-clause-right c is =
    let paired : c.args.layout.version ≡ PAIRED = c.is_paired.ensures.0 is in
    (omega (arith, c.if-count-eq0.true), λ isnt. absurd (isnt paired))

pub returns-then-count-eq0-clause-wrong : goal.returns-then-count-eq0-clause-wrong
returns-then-count-eq0-clause-wrong c is =
    let single : c.args.layout.version ≡ PAIRED → ⊥ = λ e. absurd (grind (arith, c.is_paired.ensures.1 e, is)) in
    (single_named c.args.layout c.args.count single, inl c.if-count-eq0.true)

pub returns-else-count-eq0-clause-wrong : goal.returns-else-count-eq0-clause-wrong
returns-else-count-eq0-clause-wrong c is = (some_named c.args.layout c.args.count (omega (arith, c.if-count-eq0.false)), inr (grind (arith, is)))

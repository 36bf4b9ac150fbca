use Rattle.std.proofs.Common.{◌≡◌, ◌-◌, ℕ, length, ap, subst, sym, arith}
use Rattle.std.proofs.lemmas.Bool.Decides.{nat_tests}
use Rattle.header_gate.specs.declared.layout.TheConstants.{PAIRED}
use Rattle.station.proofs.Composition.{told_back}
use Rattle.redo_journal.specs.Frames.{Batch}
use Rattle.redo_journal.specs.Commit.{next_gate}
use Rattle.redo_journal.specs.Rest.{RestsAt}
use Rattle.redo_journal.proofs.Live.{rests_by, rest_nothing, rest_settled, done_empty, next_small, next_single}
use Rattle.redo_journal.proofs.commits.clear.Goals as goal

pub returns-in_ok-clear_pair-clause-rests : goal.returns-in_ok-clear_pair-clause-rests
returns-in_ok-clear_pair-clause-rests g c =
    let l = c.args.place.now.layout in
    let turn = c.args.frames.now.turn in
    let b = g.S.Station.view c.clear_pair.new.station in
    let frame = c.clear_pair.ensures.steps.frame in
    let paired : l.version ≡ PAIRED = c.is_paired.ensures.0 c.if-is_paired.true in
    let next : next_gate l turn ≡ 1 - turn = grind (arith, nat_tests, paired) in
    subst (λ (t : ℕ). RestsAt l t b) (sym (ap (λ (x : Batch). x.turn) c.turn_over.ensures.after))
    (rests_by l (next_gate l turn) (g.met.S.Station.lawful c.clear_pair.new.station) frame
    (rest_nothing l b c.in_ok-clear_pair.ensures.settled (λ told laid. done_empty l b.held (ap length (c.in_ok-clear_pair.ensures.bare (told_back frame told) laid).1) laid))
    (next_single l turn)
    (λ told. omega (arith, c.in_ok-clear_pair.ensures.gate told, c.turn.ensures.value, next, next_small l turn)))

pub returns-else-is_paired-clause-settled : goal.returns-else-is_paired-clause-settled
returns-else-is_paired-clause-settled g c =
    let single : c.args.place.now.layout.version ≡ PAIRED → ⊥ = λ e. absurd (grind (arith, c.is_paired.ensures.1 e, c.if-is_paired.false)) in
    rest_settled c.args.place.now.layout (g.S.Station.view c.args.station.now) single c.requires.rest

pub returns-in_ok-clear_pair-clause-untouched : goal.returns-in_ok-clear_pair-clause-untouched
returns-in_ok-clear_pair-clause-untouched g c single = absurd (single (c.is_paired.ensures.0 c.if-is_paired.true))

pub returns-in_err-clear_pair-clause-untouched : goal.returns-in_err-clear_pair-clause-untouched
returns-in_err-clear_pair-clause-untouched g c single = absurd (single (c.is_paired.ensures.0 c.if-is_paired.true))

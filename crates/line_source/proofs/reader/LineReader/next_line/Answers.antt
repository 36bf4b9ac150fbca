-- Each answer, by what was found so far.
use Rattle.std.proofs.Common.{◌<◌, length, refl, sym, ap, subst, ◌∙◌, arith}
use Rattle.line_source.specs.Lines.{NoFeed}
use Rattle.line_source.specs.LineReaderView.{IsFirstFeed, rest}
use Rattle.line_source.specs.LineStep.{Gives}
use Rattle.line_source.proofs.Reading.{ready_is, let_go, fill, is_cut}
use Rattle.line_source.proofs.Giving.{gives_line, gives_last}
use Rattle.line_source.proofs.Spending.{exact_line, exact_last, exact_spent}
use Rattle.line_source.proofs.reader.LineReader.next_line.Goals as goal

pub returns-in-Some-clause-gives : goal.returns-in-Some-clause-gives
returns-in-Some-clause-gives g c told =
    gives_line c.args.self.now (g.I.Source.view c.args.source.now) c.pieces.long c.pieces.self (g.I.Source.view c.pieces.source) c.pieces.invariant.here c.give.new.self c.give.result c.in-Some.at (subst (λ bytes. IsFirstFeed bytes c.in-Some.at) c.held.ensures c.in-Some.ensures) c.give.ensures.held c.give.ensures.kept c.give.ensures.line told

pub returns-in-Some-clause-exact : goal.returns-in-Some-clause-exact
returns-in-Some-clause-exact g c told =
    exact_line c.args.self.now (g.I.Source.view c.args.source.now) c.pieces.long c.pieces.self (g.I.Source.view c.pieces.source) c.pieces.invariant.here c.in-Some.at (subst (λ bytes. IsFirstFeed bytes c.in-Some.at) c.held.ensures c.in-Some.ensures) c.give.result _ c.give.new.self.line c.give.ensures.line told

pub returns-then-self-clause-gives : goal.returns-then-self-clause-gives
returns-then-self-clause-gives g c told =
    gives_last c.args.self.now (g.I.Source.view c.args.source.now) c.pieces.long c.pieces.self (g.I.Source.view c.pieces.source) c.pieces.invariant.here c.give_last.new.self c.give_last.result (subst NoFeed c.held.ensures c.in_default.ensures) (ap (λ v. v.ended) (sym c.self.view_is) ∙ c.if-self.true) c.give_last.ensures.last told

pub returns-then-self-clause-exact : goal.returns-then-self-clause-exact
returns-then-self-clause-exact g c told =
    exact_last c.args.self.now (g.I.Source.view c.args.source.now) c.pieces.long c.pieces.self (g.I.Source.view c.pieces.source) c.pieces.invariant.here (ap (λ v. v.ended) (sym c.self.view_is) ∙ c.if-self.true) c.give_last.result c.give_last.new.self c.give_last.ensures.last told

pub returns-then-self-eq0-clause-gives : goal.returns-then-self-eq0-clause-gives
returns-then-self-eq0-clause-gives g c told =
    let ready = ready_is c.args.self.now (g.I.Source.view c.args.source.now) c.pieces.long c.pieces.seen c.pieces.self (g.I.Source.view c.pieces.source) c.pieces.invariant (subst NoFeed c.held.ensures c.in_default.ensures) (ap (λ v. v.ended) (sym c.self.view_is) ∙ c.if-self.false) in
    subst (λ x. Gives x (rest c.args.self.now (g.I.Source.view c.args.source.now)) c.stop.new.self (g.I.Source.view c.pieces.source)) (sym c.stop.ensures.step) (is_cut c.args.self.now (g.I.Source.view c.args.source.now) c.pieces.long c.pieces.self (g.I.Source.view c.pieces.source) ready (g.I.Source.view c.pieces.source) (λ _. refl) told)

pub returns-then-self-eq0-clause-exact : goal.returns-then-self-eq0-clause-exact
returns-then-self-eq0-clause-exact g c told =
    let ready = ready_is c.args.self.now (g.I.Source.view c.args.source.now) c.pieces.long c.pieces.seen c.pieces.self (g.I.Source.view c.pieces.source) c.pieces.invariant (subst NoFeed c.held.ensures c.in_default.ensures) (ap (λ v. v.ended) (sym c.self.view_is) ∙ c.if-self.false) in
    exact_spent c.args.self.now (g.I.Source.view c.args.source.now) c.pieces.long c.pieces.self (g.I.Source.view c.pieces.source) ready (ap (λ v. v.room) (sym c.self.view_is) ∙ c.if-self-eq0.true) c.stop.result c.stop.ensures.step told

pub returns-in_default-fill-clause-gives : goal.returns-in_default-fill-clause-gives
returns-in_default-fill-clause-gives g c told =
    let ready = ready_is c.args.self.now (g.I.Source.view c.args.source.now) c.pieces.long c.pieces.seen c.pieces.self (g.I.Source.view c.pieces.source) c.pieces.invariant (subst NoFeed c.held.ensures c.in_default.ensures) (ap (λ v. v.ended) (sym c.self.view_is) ∙ c.if-self.false) in
    let going = let_go c.args.self.now (g.I.Source.view c.args.source.now) c.pieces.long c.pieces.self (g.I.Source.view c.pieces.source) ready c.let_go-long.result c.let_go-long.new.self c.let_go-long.ensures.lets_go c.let_go-long.ensures.kept in
    subst (λ x. Gives x (rest c.args.self.now (g.I.Source.view c.args.source.now)) c.stop-in_default-fill.new.self (g.I.Source.view c.fill.new.source)) (sym c.stop-in_default-fill.ensures.step) (is_cut c.args.self.now (g.I.Source.view c.args.source.now) c.let_go-long.result c.let_go-long.new.self (g.I.Source.view c.pieces.source) going (g.I.Source.view c.fill.new.source) c.in_default-fill.ensures.failed.left told)

pub pieces-preserved : goal.pieces-preserved
pieces-preserved g c =
    let ready = ready_is c.args.self.now (g.I.Source.view c.args.source.now) c.pieces.long c.pieces.seen c.pieces.self (g.I.Source.view c.pieces.source) c.pieces.invariant (subst NoFeed c.held.ensures c.in_default.ensures) (ap (λ v. v.ended) (sym c.self.view_is) ∙ c.if-self.false) in
    let going = let_go c.args.self.now (g.I.Source.view c.args.source.now) c.pieces.long c.pieces.self (g.I.Source.view c.pieces.source) ready c.let_go-long.result c.let_go-long.new.self c.let_go-long.ensures.lets_go c.let_go-long.ensures.kept in
    let room : 0 < c.let_go-long.new.self.room = omega (arith, c.let_go-long.ensures.kept.room, c.if-self-eq0.false, ap (λ v. v.room) c.self.view_is) in
    fill c.args.self.now (g.I.Source.view c.args.source.now) c.let_go-long.result c.let_go-long.new.self (g.I.Source.view c.pieces.source) going c.fill.new.self (g.I.Source.view c.fill.new.source) (length c.held-seen.result.now) (ap length c.held-seen.ensures) room c.in-Ok.ensures.took c.fill.ensures.went c.fill.ensures.done

use Rattle.std.proofs.Common.{◌≡◌, ◌≤◌, true, subst, arith}
use Rattle.std.proofs.lemmas.Result.{err_from_is_err_and}
use Rattle.header_gate.specs.declared.layout.TheConstants.{INDEXED}
use Rattle.header_gate.specs.declared.layout.Layout.{Layout}
use Rattle.index_file.specs.IndexOpening.{is_quick}
use Rattle.index_file.proofs.QuickLaws.{quick_header}
use Rattle.index_file.proofs.quick.open_left.Goals as goal

pub load_parts-requires-clause-left : goal.load_parts-requires-clause-left
load_parts-requires-clause-left g c told =
    let may : is_quick c.args.header.now ≡ true = grind (arith, c.may_open.ensures, c.if-not-may_open.false) in
    let header = quick_header c.args.header.now may in
    let is = c.requires.known.header_is told in
    c.requires.clean told (subst (λ (l : Layout). INDEXED ≤ l.version) is.layout_is header.0, (c.requires.known.sound told).version) (is.clean_is.0 header.1)

pub returns-in_err-parts-clause-stops : goal.returns-in_err-parts-clause-stops
returns-in_err-parts-clause-stops g c =
    let p = err_from_is_err_and c.from_residual.result c.from_residual.ensures.1 in
    rw (p.1, p.2) c.in_err-parts.ensures.stops

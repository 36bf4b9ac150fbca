-- A piece stands behind what was held.
use Rattle.std.proofs.Common.{◌≡◌, ℕ, ◌+◌, ◌-◌, List, ◌++◌, length, take, drop, ap, ◌∙◌, arith, length-drop}
use Rattle.std.proofs.lemmas.List.{length-take-le}
use Rattle.line_source.proofs.Parts.{slice_range-behind}
use Rattle.line_source.proofs.Reading.{piece_kind}
use Rattle.line_source.proofs.reader.LineReader.fill.Goals as goal

pub returns-clause-took : goal.returns-clause-took
returns-clause-took g c =
    let start = c.make_space-self-inside.result in
    let end = c.make_space-self-inside.result + (c.self.inside.end - c.self.inside.start) in
    let new = c.take_behind.new.buffer in
    let n = c.in-Ok.n in
    let piece : List ℕ = take c.in-Ok.n (drop (c.make_space-self-inside.result + (c.self.inside.end - c.self.inside.start)) c.take_behind.new.buffer) in
    let size : length piece ≡ c.in-Ok.n = length-take-le n (drop end new) (omega (arith, length-drop end new, c.in-Ok.ensures.fits, c.take_behind.auto.buffer)) in
    record {
      piece = piece;
      kind = piece_kind piece n (g.I.Source.view c.args.source.now) (g.I.Source.view c.take_behind.new.source) size c.in-Ok.ensures.end;
      held = slice_range-behind c.make_space-self-inside.new.buffer new start end n (omega arith) (omega (arith, c.take_behind.auto.buffer, c.make_space-self-inside.auto.buffer)) c.take_behind.ensures.kept ∙ ap (λ (l : List ℕ). l ++ piece) (c.make_space-self-inside.ensures.bytes ∙ ap (λ v. v.held) c.self.view_is);
      room = omega (arith, size, c.in-Ok.ensures.most, ap (λ v. v.room) c.self.view_is);
      left = c.in-Ok.ensures.taken;
    }

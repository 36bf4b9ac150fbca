-- The front of a field that was copied as a whole.
use Rattle.std.proofs.Common.{◌≡◌, ℕ, ◌+◌, ◌-◌, ◌≤◌, List, ◌++◌, take, length, sym, ap, ◌∙◌, arith}
use Rattle.std.proofs.lemmas.List.{take-take, length-take-le}
use Rattle.std.proofs.lemmas.Slice.{take-put_mid}
use Rattle.std.proofs.Math.Seq.{take-append-add}
use borrow.Rule.Slice.PartMut.{put_mid}
use Rattle.pma_engine.proofs.output_buffer.copy_whole.Goals as goal

-- what stands in front of the end of a part of it that was written over the middle
front : (at size used : ℕ) (old field : List ℕ) → length field ≡ size → used ≤ size → at + size ≤ length old → take (at + used) (put_mid at (at + size - at) old field) ≡ take at old ++ take used field
front at size used old field whole few room =
    let all = put_mid at (at + size - at) old field in
    let start = take at old in
    sym (take-take (at + used) (at + size) all (omega (arith, few)))
    ∙ ap (take (at + used)) (take-put_mid at (at + size - at) old field (at + size) (omega (arith, whole)) (omega (arith, room)))
    ∙ ap (λ (n : ℕ). take n (start ++ field)) {x = at + used} {y = length start + used} (omega (arith, length-take-le at old (omega (arith, room))))
    ∙ take-append-add start field used

pub returns-clause-behind : goal.returns-clause-behind
returns-clause-behind g c =
    let is = c.write_whole.ensures in
    front c.args.len g.row.SIZE c.args.used c.args.bytes.now _ (ap length is ∙ c.requires.size) c.requires.used c.requires.room
    ∙ ap (λ (l : List ℕ). take c.args.len c.args.bytes.now ++ take c.args.used l) is

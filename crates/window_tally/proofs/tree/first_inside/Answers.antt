use Rattle.std.proofs.Common.{◌≡◌, ◌≤◌, ◌-◌, ◌*◌, ◌%◌, ◌^◌, arith, sym, subst}
use Rattle.std.proofs.lemmas.Nat.{shl_whole}
use Rattle.density_rule.specs.Windows.{IsWindow}
use Rattle.window_tally.proofs.PlaceLaws.{inside_places, level_in_tree}
use Rattle.window_tally.proofs.tree.first_inside.Goals as goal

-- the number fits, since there are no more windows of height h than segments
pub place_of-requires-clause-window : goal.place_of-requires-clause-window
place_of-requires-clause-window c =
    let h = c.args.h in
    let j = c.args.window.height in
    let w = c.args.window.number in
    let low : j ≤ c.args.height = c.requires.window.low in
    let whole : w * 2 ^ (j - h) % 2 ^ 32 ≡ w * 2 ^ (j - h) = shl_whole w (c.args.height - j) (j - h) 32 c.requires.window.in_store (omega arith) in
    subst (λ k. IsWindow c.args.height h k) (sym whole) (inside_places c.args.height h j w (omega arith) c.requires.window).0

pub returns-clause-room : goal.returns-clause-room
returns-clause-room c =
    let h = c.args.h in
    let j = c.args.window.height in
    let w = c.args.window.number in
    let low : j ≤ c.args.height = c.requires.window.low in
    let whole : w * 2 ^ (j - h) % 2 ^ 32 ≡ w * 2 ^ (j - h) = shl_whole w (c.args.height - j) (j - h) 32 c.requires.window.in_store (omega arith) in
    omega (arith, c.place_of.ensures, whole, (inside_places c.args.height h j w (omega arith) c.requires.window).1, level_in_tree c.args.height h)

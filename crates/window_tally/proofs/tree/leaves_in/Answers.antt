use Rattle.std.proofs.Common.{◌≡◌, ◌≤◌, ◌+◌, ◌-◌, ◌*◌, ◌%◌, ◌^◌, take, drop, ap, ◌∙◌, arith}
use Rattle.std.proofs.lemmas.Nat.{one_shl}
use Rattle.std.proofs.Math.Nat.{add-mul}
use Rattle.density_rule.proofs.Places.{window_end}
use Rattle.window_tally.proofs.PlaceLaws.{part_of_leaves}
use Rattle.window_tally.proofs.tree.leaves_in.Goals as goal

pub returns : goal.returns
returns c =
    let h = c.args.window.height in
    let a = c.args.window.number * 2 ^ h in
    let b = (c.args.window.number + 1) * 2 ^ h in
    let low : h ≤ 16 = omega (arith, c.requires.window.low) in
    let one : 1 * 2 ^ h % 2 ^ 64 ≡ 2 ^ h = one_shl h 64 (omega arith) in
    let next : b ≡ a + 2 ^ h = add-mul c.args.window.number 1 (2 ^ h) ∙ omega arith in
    let len : c.first_inside-first.result + 1 * 2 ^ h % 2 ^ 64 - c.first_inside-first.result ≡ b - a = omega arith in
    let first : c.first_inside-first.result ≡ 2 ^ c.args.height + a =
    c.first_inside-first.ensures.place ∙ ap (λ n. 2 ^ n + c.args.window.number * 2 ^ (h - 0)) {x = c.args.height - 0} {y = c.args.height} (omega arith)
    ∙ ap (λ n. 2 ^ c.args.height + c.args.window.number * 2 ^ n) {x = h - 0} {y = h} (omega arith) in
    ap (λ n. take n (drop c.first_inside-first.result c.args.counts.now)) len ∙ ap (λ n. take (b - a) (drop n c.args.counts.now)) first
    ∙ part_of_leaves c.args.height a b c.args.counts.now (omega arith) (omega (arith, window_end c.args.height h c.args.window.number c.requires.window))

use Rattle.std.proofs.Common.{None, get_or, ap, ◌∙◌, ◌/◌, ◌^◌, ◌≤◌, arith, ◌≡◌}
use Rattle.std.specs.Option.{option_map}
use Rattle.density_rule.specs.Marks.{one_more}
use Rattle.window_tally.specs.TallyPlaces.{place}
use Rattle.window_tally.proofs.PathLaws.{path_at, path_more_at}
use Rattle.window_tally.proofs.RestLaws.{marks_in-updated}
use Rattle.window_tally.proofs.tree.count_update.Goals as goal

pub loop-h-preserved : goal.loop-h-preserved
loop-h-preserved c =
    let inside : c.loop-h.h ≤ c.args.height = omega arith in
    let here : get_or c.loop-h.marks c.place_over-at.result None ≡ get_or c.args.marks.now (place c.args.height c.loop-h.h (c.args.segment / 2 ^ c.loop-h.h)) None =
    ap (λ p. get_or c.loop-h.marks p None) c.place_over-at.ensures.place ∙ path_at None _ c.args.height c.args.segment c.loop-h.h c.args.marks.now c.loop-h.marks inside c.requires.in_store c.requires.size c.loop-h.invariant in
    path_more_at None _ c.args.height c.args.segment c.loop-h.h c.args.marks.now c.loop-h.marks c.place_over-at.result _ inside c.requires.in_store c.requires.size c.place_over-at.ensures.place (c.counted.ensures ∙ ap (option_map one_more) here) c.loop-h.invariant

pub returns : goal.returns
returns c = marks_in-updated c.args.height c.args.segment c.loop-h.h c.args.marks.now c.loop-h.marks (omega arith) c.loop-h.invariant

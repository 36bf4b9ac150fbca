use Rattle.std.proofs.Common.{arith}
use Rattle.density_rule.proofs.Places.{over_in_store}
use Rattle.window_tally.proofs.PlaceLaws.{place_in_tree}
use Rattle.window_tally.proofs.tree.place_over.Goals as goal

pub place_of-requires-clause-window : goal.place_of-requires-clause-window
place_of-requires-clause-window c = over_in_store c.args.height c.args.h c.args.segment c.requires.inside c.requires.in_store

pub returns-clause-in_tree : goal.returns-clause-in_tree
returns-clause-in_tree c = omega (arith, place_in_tree c.args.height c.args.h _ (over_in_store c.args.height c.args.h c.args.segment c.requires.inside c.requires.in_store))

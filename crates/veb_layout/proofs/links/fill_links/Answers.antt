use Rattle.std.proofs.Common.{rules, ℕ, List, inr, arith}
use Rattle.veb_layout.specs.declared.links.Part.{Part}
use Rattle.veb_layout.specs.Links.{AreLinks}
use Rattle.veb_layout.specs.TreeParts.{ArePartLinks}
use Rattle.veb_layout.proofs.links.fill_links.Goals as goal

-- the whole tree as a part, which is left at the segments
tree : ℕ → Part
tree h = record { levels = h; first = 0; exit = 2147483648; step = 1 }

links_of_tree : (h side : ℕ) (links : List ℕ) → ArePartLinks side (tree h) links → AreLinks h side links
unfolding tree
links_of_tree h side links are = search rules

pub returns-then-h-gt0-clause-left : goal.returns-then-h-gt0-clause-left
unfolding tree
returns-then-h-gt0-clause-left c = links_of_tree c.args.h 0 c.fill_part.new.left c.fill_part.ensures.left

pub returns-then-h-gt0-clause-right : goal.returns-then-h-gt0-clause-right
unfolding tree
returns-then-h-gt0-clause-right c = links_of_tree c.args.h 1 c.fill_part.new.right c.fill_part.ensures.right

pub returns-then-h-gt0-clause-left_rest : goal.returns-then-h-gt0-clause-left_rest
returns-then-h-gt0-clause-left_rest c k behind = c.fill_part.ensures.left_rest k (inr (omega arith))

pub returns-then-h-gt0-clause-right_rest : goal.returns-then-h-gt0-clause-right_rest
returns-then-h-gt0-clause-right_rest c k behind = c.fill_part.ensures.right_rest k (inr (omega arith))

use Rattle.std.proofs.Common.{arith}
use Rattle.std.proofs.Math.Pow.{pow_pos}
use Rattle.window_tally.specs.TallyView.{empty_tally}
use Rattle.window_tally.proofs.KeptLaws.{Becomes, empty_becomes}
use Rattle.window_tally.proofs.PlaceLaws.{doubled, twice}
use Rattle.window_tally.proofs.Tally.new.Goals as goal
use Rattle.window_tally.proofs.Tally.new.Goals.{In_ok-no_marks_yet}

pub no_counts-requires : goal.no_counts-requires
no_counts-requires c = omega (arith, pow_pos c.args.hmax, doubled c.args.hmax c.requires, twice c.args.hmax)

pub no_marks_yet-requires : goal.no_marks_yet-requires
no_marks_yet-requires c = omega (arith, pow_pos c.args.hmax, doubled c.args.hmax c.requires, twice c.args.hmax)

emptied : (c : In_ok-no_marks_yet) → Becomes c.args.hmax 0 c.in_ok-no_counts.field-0.items c.in_ok-no_marks_yet.field-0.items (empty_tally c.args.hmax 0)
emptied c = empty_becomes c.args.hmax 0 c.in_ok-no_counts.field-0.items c.in_ok-no_marks_yet.field-0.items 2 c.requires (omega arith) (omega arith) c.in_ok-no_counts.ensures.size c.in_ok-no_marks_yet.ensures.size c.in_ok-no_counts.ensures.each c.in_ok-no_marks_yet.ensures.each

pub invariant_of-result : goal.invariant_of-result
invariant_of-result c = record {
  by = (emptied c).kept;
  counts_room = omega (arith, c.in_ok-no_counts.ensures.room, doubled c.args.hmax c.requires);
  marks_room = omega (arith, c.in_ok-no_marks_yet.ensures.room, doubled c.args.hmax c.requires);
}

pub returns-clause-ok : goal.returns-clause-ok
returns-clause-ok c = (emptied c).view_is

pub returns-clause-tally : goal.returns-clause-tally
returns-clause-tally c = (emptied c).kept.sound

use Rattle.std.proofs.Common.{arith, ◌≡◌, ℕ, ◌+◌, ◌-◌, ◌*◌, ◌/◌, ◌<◌, ◌≤◌, length, refl, sym, ap, ◌∙◌}
use Rattle.key_slot.specs.declared.sizes.TheConstants.{SEGMENT_SLOTS}
use Rattle.redo_journal.specs.Frames.{Batch}
use Rattle.resize_region.specs.Shares.{places, HasShares, share_in}
use Rattle.resize_region.proofs.ShareFrames.{long_shares, all_with}
use Rattle.bulk_load.proofs.PackedLaws as laws
use Rattle.bulk_load.proofs.packed.take_last.Goals as goal
use Rattle.bulk_load.proofs.packed.take_last.Goals.{After-min-count, After-make_move}

-- the place of the last segment that has some, and how many it has
from : (c : After-min-count) → (c.args.packed.now.rest - 1) / 64 - c.args.packed.now.unread < c.args.packed.now.room
from c = laws.from_in c.args.format c.args.frames.now c.args.packed.now ((c.args.packed.now.rest - 1) / 64) refl c.requires.at_hand c.requires.packed.1.all

has : (c : After-min-count) → length (share_in c.args.format ((c.args.packed.now.rest - 1) / 64 - c.args.packed.now.unread) c.args.frames.now) ≡ c.args.packed.now.rest - SEGMENT_SLOTS * ((c.args.packed.now.rest - 1) / 64)
has c = laws.from_count c.args.format c.args.frames.now c.args.packed.now ((c.args.packed.now.rest - 1) / 64) refl c.requires.at_hand c.requires.packed.1.all c.requires.packed.1.counts

there : (c : After-min-count) → c.min-count.result ≤ c.args.packed.now.rest - SEGMENT_SLOTS * ((c.args.packed.now.rest - 1) / 64)
there c = omega (arith, c.min-count.ensures)

one : (c : After-min-count) → 1 ≤ c.min-count.result
one c = omega (arith, c.min-count.ensures, c.requires.some, laws.below c.args.format c.args.frames.now c.args.packed.now ((c.args.packed.now.rest - 1) / 64) refl c.requires.at_hand c.requires.packed.1.all)

pub make_move-requires-clause-held : goal.make_move-requires-clause-held
make_move-requires-clause-held c = c.requires.packed.1.shares.held

pub make_move-requires-clause-can : goal.make_move-requires-clause-can
make_move-requires-clause-can c =
    let at = (goal.at.make_move-requires-clause-can c).After-min-count in
    let b = c.args.frames.now in
    let long = long_shares c.args.format b c.requires.packed.1.shares.all in
    record {
      from_in = omega (arith, long, from at, c.requires.packed.1.room);
      to_in = omega (arith, long, c.requires.frame);
      some = one at;
      there = omega (arith, there at, has at);
      room = omega (arith, c.requires.have, c.requires.room, c.min-count.ensures);
    }

pub make_move-requires-clause-apart : goal.make_move-requires-clause-apart
make_move-requires-clause-apart c e = omega (arith, e, from (goal.at.make_move-requires-clause-apart c).After-min-count, c.requires.behind)

pub make_move-requires-clause-had : goal.make_move-requires-clause-had
make_move-requires-clause-had c = sym (has (goal.at.make_move-requires-clause-had c).After-min-count)

pub make_move-requires-clause-gets : goal.make_move-requires-clause-gets
make_move-requires-clause-gets c = c.requires.have

shares : (c : After-make_move) → HasShares c.args.format c.make_move.new.frames
shares c = record { held = c.make_move.ensures.held; all = all_with c.args.format c.args.frames.now c.make_move.new.frames _ c.make_move.ensures.rest c.requires.packed.1.shares.all }

pub returns-clause-packed : goal.returns-clause-packed
returns-clause-packed c n is =
    let at = (goal.at.returns-clause-packed c).After-min-count in
    laws.take_packed c.args.format c.args.frames.now c.make_move.new.frames c.args.packed.now c.args.f c.min-count.result ((c.args.packed.now.rest - 1) / 64) refl c.requires.at_hand is.all (there at) is.room c.requires.behind c.requires.frame is.shares.all c.make_move.ensures.after
    is.counts n is (shares (goal.at.returns-clause-packed c).After-make_move) (ap (λ (b : Batch). places c.args.format b) c.make_move.ensures.rest)

pub returns-clause-some : goal.returns-clause-some
returns-clause-some c = one (goal.at.returns-clause-some c).After-min-count

pub returns-clause-taken : goal.returns-clause-taken
returns-clause-taken c = omega (arith, there (goal.at.returns-clause-taken c).After-min-count)

pub returns-clause-held : goal.returns-clause-held
returns-clause-held c rows inside held =
    let at = (goal.at.returns-clause-held c).After-min-count in
    let is = c.requires.packed.1 in
    laws.take_held c.args.format c.args.frames.now c.make_move.new.frames c.args.packed.now c.args.f c.min-count.result ((c.args.packed.now.rest - 1) / 64) refl c.requires.at_hand is.all (there at) is.room c.requires.behind c.requires.frame is.shares.all c.make_move.ensures.after
    is.counts rows inside held

pub returns-clause-share : goal.returns-clause-share
returns-clause-share c rows inside held =
    let at = (goal.at.returns-clause-share c).After-min-count in
    let is = c.requires.packed.1 in
    laws.take_share c.args.format c.args.frames.now c.make_move.new.frames c.args.packed.now c.args.f c.min-count.result ((c.args.packed.now.rest - 1) / 64) refl c.requires.at_hand is.all (there at) is.room c.requires.behind c.requires.frame is.shares.all c.make_move.ensures.after
    is.counts rows inside held

pub returns-clause-long : goal.returns-clause-long
returns-clause-long c =
    let at = (goal.at.returns-clause-long c).After-min-count in
    let is = c.requires.packed.1 in
    laws.take_long c.args.format c.args.frames.now c.make_move.new.frames c.args.packed.now c.args.f c.min-count.result ((c.args.packed.now.rest - 1) / 64) refl c.requires.at_hand is.all (there at) is.room c.requires.behind c.requires.frame is.shares.all c.make_move.ensures.after
    is.counts ∙ ap (λ (n : ℕ). n + c.min-count.result) (sym c.requires.have)

pub returns-clause-others : goal.returns-clause-others
returns-clause-others c i le other =
    let at = (goal.at.returns-clause-others c).After-min-count in
    let is = c.requires.packed.1 in
    laws.take_other c.args.format c.args.frames.now c.make_move.new.frames c.args.packed.now c.args.f c.min-count.result ((c.args.packed.now.rest - 1) / 64) refl c.requires.at_hand is.all (there at) is.room c.requires.behind c.requires.frame is.shares.all c.make_move.ensures.after
    i le other

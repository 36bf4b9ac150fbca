use Rattle.std.proofs.Common.{arith, ◌≡◌, ℕ, List, Some, refl, sym, subst}
use Rattle.key_slot.specs.Format.{narrow, wide}
use Rattle.key_slot.specs.Record.{Record}
use Rattle.key_slot.specs.Row.{record_of}
use Rattle.key_slot.specs.Slot.{IsSlot}
use Rattle.resize_region.proofs.PutLaws.{put_shares, put_share, put_other}
use Rattle.resize_region.proofs.putting.put_row.Goals as goal
use Rattle.resize_region.proofs.putting.put_row.Goals.{After-copy_from_slice, After-copy_from_slice-else-format-eq1}

-- what was written is the slot of the record
one_slot : (format f : ℕ) (r : Record) (bytes written : List ℕ) → format ≡ f → IsSlot f (Some r) bytes → written ≡ bytes → IsSlot format (Some r) written
one_slot format f r bytes written same is written_is = subst (λ (k : ℕ). IsSlot k (Some r) written) (sym same) (subst (IsSlot f (Some r)) (sym written_is) is)

narrow_slot : (c : After-copy_from_slice) → IsSlot c.args.format (Some (record_of c.args.row.now)) c.copy_from_slice.new.self
narrow_slot c = one_slot c.args.format narrow (record_of c.args.row.now) c.encode_slot.result c.copy_from_slice.new.self c.if-format-eq1.true c.encode_slot.ensures c.copy_from_slice.ensures.after

wide_slot : (c : After-copy_from_slice-else-format-eq1) → IsSlot c.args.format (Some (record_of c.args.row.now)) c.copy_from_slice-else-format-eq1.new.self
wide_slot c =
    let two : c.args.format ≡ wide = omega (arith, c.requires.shares.held.known.least, c.requires.shares.held.known.most, c.if-format-eq1.false) in
    one_slot c.args.format wide (record_of c.args.row.now) c.encode_wide.result c.copy_from_slice-else-format-eq1.new.self two c.encode_wide.ensures c.copy_from_slice-else-format-eq1.ensures.after

pub returns-then-format-eq1-clause-shares : goal.returns-then-format-eq1-clause-shares
returns-then-format-eq1-clause-shares c =
    put_shares c.args.format c.args.frames.now _ c.args.f c.args.count (record_of c.args.row.now) c.copy_from_slice.new.self c.requires.shares c.requires.frame c.requires.count c.requires.room
    (narrow_slot (goal.at.returns-then-format-eq1-clause-shares c).After-copy_from_slice) refl

pub returns-then-format-eq1-clause-share : goal.returns-then-format-eq1-clause-share
returns-then-format-eq1-clause-share c =
    put_share c.args.format c.args.frames.now _ c.args.f c.args.count (record_of c.args.row.now) c.copy_from_slice.new.self c.requires.shares c.requires.frame c.requires.count c.requires.room
    (narrow_slot (goal.at.returns-then-format-eq1-clause-share c).After-copy_from_slice) refl

pub returns-then-format-eq1-clause-others : goal.returns-then-format-eq1-clause-others
returns-then-format-eq1-clause-others c i other lt =
    put_other c.args.format c.args.frames.now _ c.args.f c.args.count (record_of c.args.row.now) c.copy_from_slice.new.self c.requires.shares c.requires.frame c.requires.count c.requires.room
    (narrow_slot (goal.at.returns-then-format-eq1-clause-others c).After-copy_from_slice) refl i other lt

pub returns-else-format-eq1-clause-shares : goal.returns-else-format-eq1-clause-shares
returns-else-format-eq1-clause-shares c =
    put_shares c.args.format c.args.frames.now _ c.args.f c.args.count (record_of c.args.row.now) c.copy_from_slice-else-format-eq1.new.self c.requires.shares c.requires.frame c.requires.count c.requires.room
    (wide_slot (goal.at.returns-else-format-eq1-clause-shares c).After-copy_from_slice-else-format-eq1) refl

pub returns-else-format-eq1-clause-share : goal.returns-else-format-eq1-clause-share
returns-else-format-eq1-clause-share c =
    put_share c.args.format c.args.frames.now _ c.args.f c.args.count (record_of c.args.row.now) c.copy_from_slice-else-format-eq1.new.self c.requires.shares c.requires.frame c.requires.count c.requires.room
    (wide_slot (goal.at.returns-else-format-eq1-clause-share c).After-copy_from_slice-else-format-eq1) refl

pub returns-else-format-eq1-clause-others : goal.returns-else-format-eq1-clause-others
returns-else-format-eq1-clause-others c i other lt =
    put_other c.args.format c.args.frames.now _ c.args.f c.args.count (record_of c.args.row.now) c.copy_from_slice-else-format-eq1.new.self c.requires.shares c.requires.frame c.requires.count c.requires.room
    (wide_slot (goal.at.returns-else-format-eq1-clause-others c).After-copy_from_slice-else-format-eq1) refl i other lt

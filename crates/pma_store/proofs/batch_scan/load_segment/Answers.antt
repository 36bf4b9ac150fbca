use Rattle.std.proofs.Common.{ℕ, ◌+◌, ◌*◌, List, sym, subst, ap, ◌∙◌, ◌≡◌, length, arith}
use Rattle.std.specs.List.{splice}
use Rattle.raw_slots.specs.Slots.{slots_in}
use Rattle.header_gate.proofs.PagedSegments.{length-pages_of_all}
use Rattle.key_slot.specs.Segment.{IsSegment}
use Rattle.key_slot.specs.declared.sizes.TheConstants.{SEGMENT_SLOTS}
use Rattle.redo_journal.specs.Frames.{Batch, IsFrames}
use Rattle.segment_frames.proofs.ReadLaws.{format_is}
use Rattle.segment_frames.specs.Lists.{held_lists, segments_in, IsHeld}
use Rattle.pma_store.proofs.Loaded.{still_held, numbers_are, lists_are}
use Rattle.pma_store.proofs.batch_scan.load_segment.Goals as goal
use Rattle.pma_store.proofs.batch_scan.load_segment.Goals.{After-encode_into}

pub push_pages-requires-clause-room : goal.push_pages-requires-clause-room
push_pages-requires-clause-room c =
    let more : c.args.format * (c.args.f + 1) ≡ c.args.format * c.args.f + c.args.format = omega arith in
    omega (arith, ap length c.requires.held.pages, length-pages_of_all c.args.format (segments_in c.args.format c.args.frames.now.numbers), ap (λ (n : ℕ). c.args.format * n) c.requires.last, more, c.requires.room)

-- the batch with these slots
abbrev put : (format f : ℕ) → List ℕ → Batch → Batch
put format f written x = record { journal = x.journal; turn = x.turn; numbers = x.numbers; slots = splice x.slots (SEGMENT_SLOTS * format * f) (SEGMENT_SLOTS * format * f + SEGMENT_SLOTS * format) (slots_in (SEGMENT_SLOTS * format) written) }

written : (c : After-encode_into) → IsSegment c.args.format c.args.rows.now c.encode_into.new.bytes
written c = subst (λ (f : ℕ). IsSegment f c.args.rows.now c.encode_into.new.bytes) (format_is c.args.format c.bytes_mut.result.now c.requires.held.known c.bytes_mut.ensures.len).1 c.encode_into.ensures

pub returns-clause-held : goal.returns-clause-held
returns-clause-held c =
    subst (λ (x : Batch). IsHeld c.args.format (put c.args.format c.args.f c.encode_into.new.bytes x)) (sym c.push_pages.ensures.after)
    (still_held c.args.format c.args.frames.now c.args.f c.args.segment c.args.rows.now c.encode_into.new.bytes c.requires.held c.requires.last c.requires.room (written (goal.at.returns-clause-held c).After-encode_into) (subst IsFrames c.push_pages.ensures.after c.push_pages.ensures.frames))

pub returns-clause-fitted : goal.returns-clause-fitted
returns-clause-fitted c = (written (goal.at.returns-clause-fitted c).After-encode_into).fits

pub returns-clause-numbers : goal.returns-clause-numbers
returns-clause-numbers c =
    ap (λ (x : Batch). segments_in c.args.format x.numbers) c.push_pages.ensures.after
    ∙ numbers_are c.args.format c.args.frames.now c.args.f c.args.segment c.args.rows.now c.encode_into.new.bytes c.requires.held c.requires.last c.requires.room (written (goal.at.returns-clause-numbers c).After-encode_into)

pub returns-clause-lists : goal.returns-clause-lists
returns-clause-lists c =
    ap (λ (x : Batch). held_lists c.args.format (put c.args.format c.args.f c.encode_into.new.bytes x)) c.push_pages.ensures.after
    ∙ lists_are c.args.format c.args.frames.now c.args.f c.args.segment c.args.rows.now c.encode_into.new.bytes c.requires.held c.requires.last c.requires.room (written (goal.at.returns-clause-lists c).After-encode_into)

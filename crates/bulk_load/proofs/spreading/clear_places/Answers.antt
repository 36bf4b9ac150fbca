use Rattle.std.proofs.Common.{arith, ◌≡◌, inl, inr, ℕ, ◌+◌, ◌-◌, ◌*◌, ◌<◌, ◌≤◌, [], length, ap, ◌∙◌, subst}
use Rattle.std.proofs.lemmas.Bool.{cases_lt}
use Rattle.key_slot.specs.declared.sizes.TheConstants.{SEGMENT_SLOTS}
use Rattle.key_slot.specs.Slot.{empty_slot}
use Rattle.raw_slots.specs.Slots.{empty_slot as raw_empty}
use Rattle.header_gate.specs.Paged.{pages_of_all}
use Rattle.redo_journal.specs.Frames.{Batch, IsFrames}
use Rattle.segment_frames.specs.HeldRecords.{grouped, HoldsRows}
use Rattle.segment_frames.specs.Lists.{segments_in}
use Rattle.segment_frames.specs.Shifts.{Cleared}
use Rattle.segment_frames.proofs.Grouped.{grouped_cleared}
use Rattle.segment_frames.proofs.Slots.{cleared_run}
use Rattle.resize_region.specs.Shares.{places, share_in}
use Rattle.resize_region.proofs.ShareFrames.{places_room, pages_with, frames_with, all_with, none_held, still_there, share_holds, has_shares, share_is, holds_read}
use Rattle.bulk_load.proofs.spreading.clear_places.Goals as goal
use Rattle.bulk_load.proofs.spreading.clear_places.Goals.{After-clear_run}

journal : (c : After-clear_run) → places c.args.format c.clear_run.new.self ≡ places c.args.format c.args.frames.now
journal c = ap (λ (b : Batch). places c.args.format b) c.clear_run.ensures.cleared

inside : (c : After-clear_run) → SEGMENT_SLOTS * c.args.format * c.args.first + SEGMENT_SLOTS * c.args.format * c.args.count ≤ length c.args.frames.now.slots
inside c = omega (arith, c.requires.shares.held.frames.frames, places_room c.args.format c.args.frames.now (c.args.first + c.args.count) c.requires.room)

pub clear_run-requires : goal.clear_run-requires
clear_run-requires c = omega (arith, c.requires.shares.held.frames.frames, places_room c.args.format c.args.frames.now (c.args.first + c.args.count) c.requires.room)

cleared : (c : After-clear_run) → Cleared raw_empty (SEGMENT_SLOTS * c.args.format * c.args.first) (SEGMENT_SLOTS * c.args.format * c.args.count) c.args.frames.now.slots c.clear_run.new.self.slots
cleared c = cleared_run (SEGMENT_SLOTS * c.args.format * c.args.first) (SEGMENT_SLOTS * c.args.format * c.args.count) c.args.frames.now.slots c.clear_run.new.self.slots
    (inside c) (ap (λ (b : Batch). b.slots) c.clear_run.ensures.cleared) c.clear_run.ensures.len

emptied : (c : After-clear_run) → Cleared (empty_slot c.args.format) (SEGMENT_SLOTS * c.args.first) (SEGMENT_SLOTS * c.args.count) (grouped c.args.format c.args.frames.now.slots) (grouped c.args.format c.clear_run.new.self.slots)
emptied c = grouped_cleared c.args.format (SEGMENT_SLOTS * c.args.first) (SEGMENT_SLOTS * c.args.count) (SEGMENT_SLOTS * c.args.format * c.args.first) (SEGMENT_SLOTS * c.args.format * c.args.count) c.args.frames.now.slots c.clear_run.new.self.slots c.requires.shares.held.known.least (omega arith) (omega arith) (inside c) (cleared c)

pages : (c : After-clear_run) → c.clear_run.new.self.numbers ≡ pages_of_all c.args.format (segments_in c.args.format c.clear_run.new.self.numbers)
pages c = pages_with c.args.format c.args.frames.now c.clear_run.new.self _ c.clear_run.ensures.cleared c.requires.shares.held.pages

is : (c : After-clear_run) → IsFrames c.clear_run.new.self
is c = frames_with c.args.frames.now c.clear_run.new.self _ c.clear_run.ensures.cleared c.clear_run.ensures.len c.requires.shares.held.frames

all : (c : After-clear_run) → length (segments_in c.args.format c.clear_run.new.self.numbers) ≡ places c.args.format c.clear_run.new.self
all c = all_with c.args.format c.args.frames.now c.clear_run.new.self _ c.clear_run.ensures.cleared c.requires.shares.all

none : (c : After-clear_run) (i : ℕ) → i < c.args.count → HoldsRows c.args.format [] (c.args.first + i) (grouped c.args.format c.clear_run.new.self.slots)
none c i lt = none_held c.args.format (c.args.first + i) (SEGMENT_SLOTS * c.args.first) (SEGMENT_SLOTS * c.args.count) (grouped c.args.format c.args.frames.now.slots) (grouped c.args.format c.clear_run.new.self.slots) (emptied c) (omega arith) (omega (arith, lt))

before : (c : After-clear_run) (f : ℕ) → f < c.args.first → HoldsRows c.args.format (share_in c.args.format f c.args.frames.now) f (grouped c.args.format c.clear_run.new.self.slots)
before c f lt =
    let same = share_holds c.args.format c.args.frames.now f c.requires.shares (omega (arith, lt, c.requires.room)) in
    record { most = same.most; records = same.records; slots_are = λ j small. (emptied c).outside (SEGMENT_SLOTS * f + j) (inl (omega (arith, small, lt))) ∙ same.slots_are j small }

behind : (c : After-clear_run) (f : ℕ) → c.args.first + c.args.count ≤ f → f < places c.args.format c.args.frames.now → HoldsRows c.args.format (share_in c.args.format f c.args.frames.now) f (grouped c.args.format c.clear_run.new.self.slots)
behind c f le lt =
    still_there c.args.format f (SEGMENT_SLOTS * c.args.first) (SEGMENT_SLOTS * c.args.count) (share_in c.args.format f c.args.frames.now) (grouped c.args.format c.args.frames.now.slots) (grouped c.args.format c.clear_run.new.self.slots) (emptied c) (omega (arith, le))
    (share_holds c.args.format c.args.frames.now f c.requires.shares lt)

pub returns-clause-shares : goal.returns-clause-shares
returns-clause-shares c =
    let at = (goal.at.returns-clause-shares c).After-clear_run in
    let format = c.args.format in
    let b = c.clear_run.new.self in
    let some = c.requires.shares.held.known.least in
    has_shares format b c.requires.shares.held.known (is at) (pages at) (all at) (λ f lt. elim (cases_lt f c.args.first) [
      | inl low ↦ holds_read format b f (share_in format f c.args.frames.now) some (is at) lt (before at f low)
      | inr high ↦ elim (cases_lt f (c.args.first + c.args.count)) [
        | inl amid ↦
            let here : c.args.first + (f - c.args.first) ≡ f = omega (arith, high) in
            holds_read format b f [] some (is at) lt (subst (λ (k : ℕ). HoldsRows format [] k (grouped format b.slots)) here (none at (f - c.args.first) (omega (arith, high, amid))))
        | inr past ↦ holds_read format b f (share_in format f c.args.frames.now) some (is at) lt (behind at f past (omega (arith, lt, journal at)))
      ]
    ])

pub returns-clause-empty : goal.returns-clause-empty
returns-clause-empty c i lt =
    let at = (goal.at.returns-clause-empty c).After-clear_run in
    share_is c.args.format c.clear_run.new.self (c.args.first + i) [] c.requires.shares.held.known.least (is at) (all at) (omega (arith, lt, c.requires.room, journal at)) (none at i lt)

pub returns-clause-others : goal.returns-clause-others
returns-clause-others c i lt =
    let at = (goal.at.returns-clause-others c).After-clear_run in
    share_is c.args.format c.clear_run.new.self i (share_in c.args.format i c.args.frames.now) c.requires.shares.held.known.least (is at) (all at) (omega (arith, lt, c.requires.room, journal at)) (before at i lt)

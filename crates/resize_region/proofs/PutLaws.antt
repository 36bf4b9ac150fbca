-- A record is put behind those that a place holds.
use Rattle.std.proofs.Common.{rules, ◌≡◌, ◌≢◌, ◌⊎◌, inl, inr, ℕ, suc, ◌+◌, ◌*◌, ◌/◌, ◌<◌, ◌≤◌, List, [], ◌∷◌, ◌++◌, T, length, take, drop, get_or, Some, sym, ap, subst, ◌∙◌, arith}
use Rattle.std.specs.List.{list_all, splice}
use Rattle.std.proofs.lemmas.Bool.{cases_eq, cases_lt}
use Rattle.std.proofs.lemmas.List.{length-append, length-take-le}
use Rattle.std.proofs.Math.Seq.{take-append_seam, drop-append_seam}
use Rattle.key_slot.specs.Record.{Record, is_record}
use Rattle.key_slot.specs.Slot.{IsSlot}
use Rattle.key_slot.specs.declared.sizes.TheConstants.{SEGMENT_SLOTS}
use Rattle.key_slot.proofs.SegmentLaws.{times_up}
use Rattle.key_slot.proofs.SlotBytes.{length-slot}
use Rattle.header_gate.specs.Paged.{pages_of_all}
use Rattle.header_gate.proofs.PagedSegments.{page_of_segment}
use Rattle.raw_slots.specs.Slots.{bytes_of, slots_in}
use Rattle.raw_slots.specs.declared.TheConstants.{SLOT_SIZE}
use Rattle.raw_slots.proofs.Grouping.{group_at}
use Rattle.raw_slots.proofs.Runs.{length-splice}
use Rattle.raw_slots.proofs.SlotLists.{length-slots_in, bytes_of-slots_in_all}
use Rattle.redo_journal.specs.Frames.{Batch, IsFrames}
use Rattle.segment_frames.specs.HeldRecords.{grouped, HoldsRows, slot_in}
use Rattle.segment_frames.specs.Lists.{rows_at, segments_in}
use Rattle.segment_frames.proofs.Grouped.{grouped_same, groups_room, length-grouped, within_groups}
use Rattle.segment_frames.proofs.Rows.{slot_in-left, slot_in-right, slot_in-past, records-append}
use Rattle.segment_frames.proofs.Slots.{splice_outside}
use Rattle.resize_region.specs.Shares.{places, HasShares, share_in}
use Rattle.resize_region.proofs.ShareFrames.{frames_with, all_with, pages_with, share_holds, has_shares, share_is, holds_read, room_of}

-- A slot of a format is written over the slots of the frames that it takes.
module _ (f p : ℕ) (old : List (List ℕ)) (written : List ℕ) (some : 1 ≤ f) (within : f * suc p ≤ length old) (long : length written ≡ f * SLOT_SIZE) where
  abbrev new : List (List ℕ)
  new = splice old (f * p) (f * p + f) (slots_in f written)

  room : f * p + f ≤ length old
  room = omega (arith, within)

  pub put_size : length new ≡ length old
  put_size = length-splice old (f * p) f (slots_in f written) room (length-slots_in f written)

  front : length (take (f * p) old) ≡ f * p
  front = length-take-le (f * p) old (omega (arith, room))

  -- the slots behind the first ones begin with it
  behind : drop (f * p) new ≡ slots_in f written ++ drop (f * p + f) old
  behind = ap (λ (n : ℕ). drop n new) (sym front) ∙ drop-append_seam (take (f * p) old) (slots_in f written ++ drop (f * p + f) old)

  own : take f (drop (f * p) new) ≡ slots_in f written
  own = ap (take f) behind ∙ ap (λ (n : ℕ). take n (slots_in f written ++ drop (f * p + f) old)) (sym (length-slots_in f written)) ∙ take-append_seam (slots_in f written) (drop (f * p + f) old)

  pub put_here : get_or (grouped f new) p [] ≡ written
  put_here = group_at f (length new / f) p new (within_groups f p (length new) some (omega (arith, put_size, within))) ∙ ap bytes_of own ∙ bytes_of-slots_in_all f written long

  pub put_there : (q : ℕ) → q ≢ p → get_or (grouped f new) q [] ≡ get_or (grouped f old) q []
  put_there q other = grouped_same f q old new put_size (λ r small. splice_outside old (f * p) f (slots_in f written) [] room (length-slots_in f written) (f * q + r) (apart r small (cases_lt q p)))
    where
      apart : (r : ℕ) → r < f → (q < p) ⊎ (p ≤ q) → (f * q + r < f * p) ⊎ (f * p + f ≤ f * q + r)
      apart r small (inl less) = inl (page_of_segment f p q r less small)
      apart r small (inr le) = let more : suc p ≤ q = omega (arith, le, other) in inr (omega (arith, times_up f (suc p) q more))

module _ (format : ℕ) (old new : Batch) (f count : ℕ) (r : Record) (written : List ℕ) (shares : HasShares format old) (lt : f < places format old) (n : count ≡ length (share_in format f old)) (small : count < SEGMENT_SLOTS) (is : IsSlot format (Some r) written)
    (put_is : new ≡ record old { slots = splice old.slots (format * (SEGMENT_SLOTS * f + count)) (format * (SEGMENT_SLOTS * f + count) + format) (slots_in format written) }) where
  abbrev at : ℕ
  at = SEGMENT_SLOTS * f + count

  abbrev after : List (List ℕ)
  after = splice old.slots (format * at) (format * at + format) (slots_in format written)

  least : 1 ≤ format
  least = shares.held.known.least

  slots_are : new.slots ≡ after
  slots_are = ap (λ (b : Batch). b.slots) put_is

  -- the slot lies within the frames
  inside : format * suc at ≤ length old.slots
  inside = groups_room format at (length old.slots) (omega (arith, room_of format old f least shares.held.frames lt, length-grouped format old.slots, small))

  size_is : length written ≡ format * SLOT_SIZE
  size_is = length-slot format (Some r) written is ∙ omega (arith, least)

  size : length new.slots ≡ length old.slots
  size = ap length slots_are ∙ put_size format at old.slots written least inside size_is

  journal : places format new ≡ places format old
  journal = ap (λ (b : Batch). places format b) put_is

  here : get_or (grouped format new.slots) at [] ≡ written
  here = ap (λ (l : List (List ℕ)). get_or (grouped format l) at []) slots_are ∙ put_here format at old.slots written least inside size_is

  there : (q : ℕ) → q ≢ at → get_or (grouped format new.slots) q [] ≡ get_or (grouped format old.slots) q []
  there q other = ap (λ (l : List (List ℕ)). get_or (grouped format l) q []) slots_are ∙ put_there format at old.slots written least inside size_is q other

  before : HoldsRows format (share_in format f old) f (grouped format old.slots)
  before = share_holds format old f shares lt

  abbrev rows : List Record
  rows = share_in format f old

  one : T (list_all (is_record format) (r ∷ []))
  one = search (is.fits, rules)

  in_slot : (j : ℕ) → j < SEGMENT_SLOTS → get_or (grouped format new.slots) (SEGMENT_SLOTS * f + j) [] ≡ slot_in format (rows ++ r ∷ []) j
  in_slot j below = elim (cases_eq j count) [
    | inl same ↦
        let place : SEGMENT_SLOTS * f + j ≡ at = omega (arith, same) in
        let last : j ≡ length rows + 0 = omega (arith, same, n) in
        ap (λ (p : ℕ). get_or (grouped format new.slots) p []) place ∙ here ∙ is.spelling ∙ sym (ap (slot_in format (rows ++ r ∷ [])) last ∙ slot_in-right format rows (r ∷ []) 0)
    | inr other ↦
        there (SEGMENT_SLOTS * f + j) (λ e. other (omega (arith, e))) ∙ before.slots_are j below ∙ elim (cases_lt j count) [
          | inl low ↦ sym (slot_in-left format rows (r ∷ []) j (omega (arith, low, n)))
          | inr high ↦ slot_in-past format rows j (omega (arith, high, n)) ∙ sym (slot_in-past format (rows ++ r ∷ []) j (past high other))
        ]
  ]
    where
      past : count ≤ j → j ≢ count → length (rows ++ r ∷ []) ≤ j
      past high other = let more : count < j = omega (arith, high, other) in omega (arith, more, n, length-append rows (r ∷ []))

  holds : HoldsRows format (rows ++ r ∷ []) f (grouped format new.slots)
  holds = record {
    most = omega (arith, length-append rows (r ∷ []), n, small);
    records = records-append format rows (r ∷ []) before.records one;
    slots_are = in_slot;
  }

  other_holds : (i : ℕ) → i < places format old → i ≢ f → HoldsRows format (share_in format i old) i (grouped format new.slots)
  other_holds i low other =
      let same = share_holds format old i shares low in
      record {
        most = same.most;
        records = same.records;
        slots_are = λ j below. there (SEGMENT_SLOTS * i + j) (apart j below) ∙ same.slots_are j below;
      }
    where
      apart : (j : ℕ) → j < SEGMENT_SLOTS → SEGMENT_SLOTS * i + j ≢ at
      apart j below e = elim (cases_lt i f) [
        | inl less ↦ omega (arith, e, less, below)
        | inr le ↦ let more : f < i = omega (arith, le, other) in omega (arith, e, more, small)
      ]

  frames_new : IsFrames new
  frames_new = frames_with old new _ put_is size shares.held.frames

  all_new : length (segments_in format new.numbers) ≡ places format new
  all_new = all_with format old new _ put_is shares.all

  pages_new : new.numbers ≡ pages_of_all format (segments_in format new.numbers)
  pages_new = pages_with format old new _ put_is shares.held.pages

  pub put_share : share_in format f new ≡ rows ++ r ∷ []
  put_share = share_is format new f (rows ++ r ∷ []) least frames_new all_new (omega (arith, lt, journal)) holds

  pub put_other : (i : ℕ) → i ≢ f → i < places format old → share_in format i new ≡ share_in format i old
  put_other i other low = share_is format new i (share_in format i old) least frames_new all_new (omega (arith, low, journal)) (other_holds i low other)

  pub put_shares : HasShares format new
  put_shares = has_shares format new shares.held.known frames_new pages_new all_new (λ i low. elim (cases_eq i f) [
    | inl same ↦ subst (λ (k : ℕ). HoldsRows format (rows_at format new.slots k) k (grouped format new.slots)) (sym same) (holds_read format new f (rows ++ r ∷ []) least frames_new (omega (arith, lt, journal)) holds)
    | inr other ↦ holds_read format new i (share_in format i old) least frames_new low (other_holds i (omega (arith, low, journal)) other)
  ])

-- Packed segments are read from the last one down, and their records are taken.
use Rattle.std.proofs.Common.{◌≡◌, ◌≢◌, ◌⊎◌, inl, inr, ℕ, ◌+◌, ◌-◌, ◌*◌, ◌/◌, ◌<◌, ◌≤◌, min, List, [], ◌++◌, length, take, drop, get_or, slice_range, slice_set, sym, ap, subst, ◌∙◌, arith}
use Rattle.std.specs.Prelude.{Result, Err}
use Rattle.std.proofs.lemmas.Bool.{cases_lt, cases_eq}
use Rattle.station.specs.Bytes.{Same}
use Rattle.station.specs.View.{View, Told}
use Rattle.station.specs.Steps.{Steps}
use Rattle.station.proofs.Composition.{same_on, told_on}
use Rattle.std.proofs.lemmas.List.{length-take-le, length-append, length-drop}
use Rattle.header_gate.specs.Places.{segment_size}
use Rattle.key_slot.specs.Record.{Record}
use Rattle.key_slot.specs.Segment.{IsSegment}
use Rattle.key_slot.specs.declared.sizes.TheConstants.{SEGMENT_SLOTS}
use Rattle.key_slot.proofs.SegmentLaws.{times_up, segment_rows, segment_sound}
use Rattle.map_model.specs.Array.{Array, segment_at}
use Rattle.redo_journal.specs.Frames.{Batch, IsFrames}
use Rattle.redo_journal.specs.declared.place.Place.{Place}
use Rattle.segment.specs.declared.fault.Damage.{Damage}
use Rattle.segment.specs.declared.fault.StoreFault.{StoreFault}
use Rattle.segment.specs.declared.fault.StoreFault.TheVariants.{Damaged, Failed}
use Rattle.segment_frames.specs.HeldRecords.{grouped, HoldsRows}
use Rattle.segment_frames.specs.Lists.{segments_in, held_lists, page_at, rows_at}
use Rattle.segment_frames.specs.FrameReading.{IsPageFault}
use Rattle.segment_frames.proofs.Grouped.{grouped_same}
use Rattle.segment_frames.proofs.LoadLaws.{good_page}
use Rattle.segment_frames.proofs.Moves.{set_from, set_to, set_other}
use Rattle.spread_plan.specs.declared.Move.{Move}
use Rattle.spread_plan.specs.Moves.{after_move}
use Rattle.spread_plan.proofs.Making.{after_move-right}
use Rattle.resize_region.specs.Spare.{spare_bytes}
use Rattle.resize_region.specs.Shares.{places, HasShares, share_in}
use Rattle.resize_region.proofs.ShareFrames.{long_shares, all_with, pages_with, share_holds, has_shares, share_is, share_rows, holds_read}
use Rattle.resize_region.proofs.OldRowLaws.{rose_on, failed_as, failed_is}
use Rattle.bulk_load.specs.Packing.{packed_at}
use Rattle.bulk_load.specs.Spreading.{packed_count, left_at, IsPacked, HoldsPacked, ArePacked, ReadsPacked}
use Rattle.bulk_load.specs.declared.packed.Packed.{Packed}
use Rattle.bulk_load.proofs.PackLaws.{length-packed_at}
use Rattle.bulk_load.proofs.Slices.{slice_front, slice_back, left_none, left_last, left_other, left_whole}

-- The first places were read into.

module _ (format : ℕ) (old new : Batch) (count : ℕ) (slots : List (List ℕ)) (shares : HasShares format old) (few : count ≤ places format old) (rest : new ≡ record old { slots = slots }) (is : IsFrames new)
    (behind : (p : ℕ) → SEGMENT_SLOTS * format * count ≤ p → get_or new.slots p [] ≡ get_or old.slots p []) where
  all : length (segments_in format new.numbers) ≡ places format new
  all = all_with format old new slots rest shares.all

  journal : places format new ≡ places format old
  journal = ap (λ (b : Batch). places format b) rest

  size : length new.slots ≡ length old.slots
  size = is.frames ∙ ap (λ (b : Batch). SEGMENT_SLOTS * b.journal) rest ∙ sym shares.held.frames.frames

  still : (f : ℕ) → count ≤ f → f < places format old → HoldsRows format (share_in format f old) f (grouped format new.slots)
  still f le lt =
      let same = share_holds format old f shares lt in
      record {
        most = same.most;
        records = same.records;
        slots_are = λ j small.
            grouped_same format (SEGMENT_SLOTS * f + j) old.slots new.slots size (λ r below. behind (format * (SEGMENT_SLOTS * f + j) + r) (omega (arith, times_up format (SEGMENT_SLOTS * count) (SEGMENT_SLOTS * f + j) (omega (arith, le)))))
            ∙ same.slots_are j small;
      }

  module _ (held : (i : ℕ) → i < count → HoldsRows format (rows_at format new.slots i) i (grouped format new.slots)) where
    pub read_shares : HasShares format new
    read_shares = has_shares format new shares.held.known is (pages_with format old new slots rest shares.held.pages) all (λ f lt. elim (cases_lt f count) [
      | inl low ↦ held f low
      | inr high ↦ holds_read format new f (share_in format f old) shares.held.known.least is lt (still f high (omega (arith, lt, journal)))
    ])

    pub read_share : (i : ℕ) → i < count → share_in format i new ≡ rows_at format new.slots i
    read_share i lt = share_rows format new i all (omega (arith, lt, few, journal))

    pub read_other : (f : ℕ) → count ≤ f → f < places format old → share_in format f new ≡ share_in format f old
    read_other f le lt = share_is format new f (share_in format f old) shares.held.known.least is all (omega (arith, lt, journal)) (still f le lt)

-- Where nothing of the rest is at hand, the last segments are read.

module _ (format n : ℕ) (old new : Batch) (s : Packed) (count : ℕ) (is : IsPacked format n old s) (none : s.rest ≤ SEGMENT_SLOTS * s.unread) (some : 0 < s.rest) (count_is : count ≡ min s.room s.unread) where
  abbrev first : ℕ
  first = s.unread - count

  abbrev after : Packed
  after = record s { unread = s.unread - count }

  pub read_some : 1 ≤ count
  read_some = let unread : 1 ≤ s.unread = omega (arith, some, none) in omega (arith, count_is, is.some, unread)

  -- segment i has that many of n records, and all are among the rest
  pub count_same : (i : ℕ) → i < s.unread → packed_count n i ≡ packed_count s.rest i
  count_same i lt = by is.whole
    where
      by : (s.rest ≡ n) ⊎ (SEGMENT_SLOTS * s.unread ≤ s.rest) → packed_count n i ≡ packed_count s.rest i
      by (inl e) = ap (λ (k : ℕ). packed_count k i) (sym e)
      by (inr whole) = omega (arith, whole, lt, is.within)

  pub read_there : (i : ℕ) → i < s.unread → SEGMENT_SLOTS * i < n
  read_there i lt = omega (arith, is.few, lt, is.within, some)

  pub read_packed : HasShares format new → places format new ≡ places format old → ((i : ℕ) → i < count → length (share_in format i new) ≡ packed_count n (s.unread - count + i)) → ((i : ℕ) → count ≤ i → i < places format old → share_in format i new ≡ share_in format i old) → IsPacked format n new after
  read_packed shares same validated others = record {
    shares = shares;
    some = is.some;
    room = omega (arith, is.room, same);
    within = is.within;
    whole = whole is.whole;
    few = omega (arith, is.few);
    all = omega (arith, count_is, none, is.some);
    counts = λ i lt. elim (cases_lt i count) [
      | inl low ↦ validated i low ∙ count_same (s.unread - count + i) (omega (arith, low, count_is))
      | inr high ↦
          ap length (others i high (omega (arith, lt, is.room))) ∙ is.counts i lt ∙ omega (arith, none, high, count_is)
    ];
  }
    where
      whole : (s.rest ≡ n) ⊎ (SEGMENT_SLOTS * s.unread ≤ s.rest) → (s.rest ≡ n) ⊎ (SEGMENT_SLOTS * (s.unread - count) ≤ s.rest)
      whole (inl e) = inl e
      whole (inr le) = inr (omega (arith, le))

  -- and hold the records
  module _ (place : Place) (rows : List Record) (file : List ℕ) (format_is : place.layout.format ≡ format) (are : ArePacked place n rows s old file) (pages : (i : ℕ) → i < count → page_at format new.slots i ≡ spare_bytes place (s.unread - count + i) file) where
    whole_rows : (s.rest ≡ length rows) ⊎ (SEGMENT_SLOTS * s.unread ≤ s.rest)
    whole_rows = by is.whole
      where
        by : (s.rest ≡ n) ⊎ (SEGMENT_SLOTS * s.unread ≤ s.rest) → (s.rest ≡ length rows) ⊎ (SEGMENT_SLOTS * s.unread ≤ s.rest)
        by (inl e) = inl (e ∙ sym are.count)
        by (inr le) = inr le

    segment : (i : ℕ) → i < count → IsSegment format (packed_at rows (s.unread - count + i)) (page_at format new.slots i)
    segment i lt =
        let here = are.unread (s.unread - count + i) (omega (arith, lt, count_is)) in
        subst (IsSegment format (packed_at rows (s.unread - count + i))) (sym (pages i lt)) (subst (λ (f : ℕ). IsSegment f (packed_at rows (s.unread - count + i)) (spare_bytes place (s.unread - count + i) file)) format_is here)

    decoded : (i : ℕ) → i < count → rows_at format new.slots i ≡ packed_at rows (s.unread - count + i)
    decoded i lt = segment_rows format (packed_at rows (s.unread - count + i)) (page_at format new.slots i) (segment i lt)

    pub read_holds : ((i : ℕ) → i < count → share_in format i new ≡ rows_at format new.slots i) → ((i : ℕ) → count ≤ i → i < places format old → share_in format i new ≡ share_in format i old) → HoldsPacked format rows new after
    read_holds shares others i lt = elim (cases_lt i count) [
      | inl low ↦ shares i low ∙ decoded i low ∙ sym (left_whole rows s.rest s.unread (s.unread - count + i) (omega (arith, low, count_is)) whole_rows)
      | inr high ↦
          others i high (omega (arith, lt, is.room)) ∙ subst (λ (f : ℕ). share_in f i old ≡ left_at rows s.rest (s.unread + i)) format_is (are.held i lt) ∙ left_none rows s.rest (s.unread + i) (omega (arith, none))
          ∙ sym (left_none rows s.rest (s.unread - count + i) (omega (arith, none, high, count_is)))
    ]

    -- nothing is wrong with them
    pub read_good : (i : ℕ) → i < count → (fault : StoreFault) → IsPageFault format (page_at format new.slots i) (s.unread - count + i) (packed_count n (s.unread - count + i)) fault → ⊥
    read_good i lt = good_page format (page_at format new.slots i) (s.unread - count + i) (packed_count n (s.unread - count + i)) (segment_sound format (packed_at rows (s.unread - count + i)) (page_at format new.slots i) (segment i lt))
        (ap length (decoded i lt) ∙ length-packed_at rows (s.unread - count + i) ∙ ap (λ (k : ℕ). packed_count k (s.unread - count + i)) are.count)

-- The last records are taken out of the last segment that has some.

module _ (format : ℕ) (old : Batch) (s : Packed) (segment : ℕ) (segment_is : segment ≡ (s.rest - 1) / SEGMENT_SLOTS) (at_hand : SEGMENT_SLOTS * s.unread < s.rest) (all_in : s.rest ≤ SEGMENT_SLOTS * (s.unread + s.room)) where
  pub from_in : segment - s.unread < s.room
  from_in = omega (arith, segment_is, all_in, at_hand)

  pub at_segment : s.unread + (segment - s.unread) ≡ segment
  at_segment = omega (arith, segment_is, at_hand)

  pub high : s.rest ≤ SEGMENT_SLOTS * segment + SEGMENT_SLOTS
  high = omega (arith, segment_is)

  pub unread_low : s.unread ≤ segment
  unread_low = omega (arith, segment_is, at_hand)

  pub below : SEGMENT_SLOTS * segment < s.rest
  below = omega (arith, segment_is, at_hand)

  pub from_count : ((i : ℕ) → i < s.room → length (share_in format i old) ≡ packed_count s.rest (s.unread + i)) → length (share_in format (segment - s.unread) old) ≡ s.rest - SEGMENT_SLOTS * segment
  from_count counts = counts (segment - s.unread) from_in ∙ ap (packed_count s.rest) at_segment ∙ omega (arith, high)

module _ (format : ℕ) (old new : Batch) (s : Packed) (f count segment : ℕ) (segment_is : segment ≡ (s.rest - 1) / SEGMENT_SLOTS) (at_hand : SEGMENT_SLOTS * s.unread < s.rest) (all_in : s.rest ≤ SEGMENT_SLOTS * (s.unread + s.room))
    (there : count ≤ s.rest - SEGMENT_SLOTS * segment) (room : s.room ≤ places format old) (behind : s.room ≤ f) (frame : f < places format old) (long : length (segments_in format old.numbers) ≡ places format old)
    (moved : held_lists format new ≡ after_move (record { from = segment - s.unread; to = f; count = count }) (held_lists format old)) where
  abbrev from : ℕ
  from = segment - s.unread

  abbrev step : Move
  step = record { from = segment - s.unread; to = f; count = count }

  inside : segment - s.unread < s.room
  inside = from_in format old s segment segment_is at_hand all_in

  here : s.unread + (segment - s.unread) ≡ segment
  here = at_segment format old s segment segment_is at_hand all_in

  most : s.rest ≤ SEGMENT_SLOTS * segment + SEGMENT_SLOTS
  most = high format old s segment segment_is at_hand all_in

  start : s.unread ≤ segment
  start = unread_low format old s segment segment_is at_hand all_in

  low : SEGMENT_SLOTS * segment ≤ s.rest - count
  low = omega (arith, there, below format old s segment segment_is at_hand all_in)

  lists_long : length (held_lists format old) ≡ places format old
  lists_long = long_shares format old long

  abbrev kept : ℕ
  kept = length (share_in format (segment - s.unread) old) - count

  abbrev x : List Record
  x = drop kept (share_in format from old) ++ share_in format f old

  abbrev y : List Record
  y = take kept (share_in format from old)

  right : held_lists format new ≡ slice_set (slice_set (held_lists format old) f x) from y
  right = moved ∙ after_move-right step (held_lists format old) (omega (arith, inside, behind))

  taken_to : share_in format f new ≡ drop kept (share_in format from old) ++ share_in format f old
  taken_to = ap (λ (l : Array). segment_at l f) right ∙ set_to (held_lists format old) f from x y (omega (arith, lists_long, frame)) (omega (arith, lists_long, inside, room)) (λ e. omega (arith, e, inside, behind))

  taken_from : share_in format from new ≡ take kept (share_in format from old)
  taken_from = ap (λ (l : Array). segment_at l from) right ∙ set_from (held_lists format old) f from x y (omega (arith, lists_long, frame)) (omega (arith, lists_long, inside, room)) (λ e. omega (arith, e, inside, behind))

  taken_other : (i : ℕ) → i ≢ from → i ≢ f → share_in format i new ≡ share_in format i old
  taken_other i not_from not_to =
      ap (λ (l : Array). segment_at l i) right ∙ set_other (held_lists format old) f from x y (omega (arith, lists_long, frame)) (omega (arith, lists_long, inside, room)) (λ e. omega (arith, e, inside, behind)) i not_from not_to

  -- the places of other shares stay
  pub take_other : (i : ℕ) → s.room ≤ i → i ≢ f → share_in format i new ≡ share_in format i old
  take_other i le other = taken_other i (λ e. omega (arith, e, le, inside)) other

  module _ (counts : (i : ℕ) → i < s.room → length (share_in format i old) ≡ packed_count s.rest (s.unread + i)) where
    had : length (share_in format from old) ≡ s.rest - SEGMENT_SLOTS * segment
    had = from_count format old s segment segment_is at_hand all_in counts

    count_other : (i : ℕ) → i ≢ segment → packed_count s.rest i ≡ packed_count (s.rest - count) i
    count_other i other = elim (cases_lt i segment) [
      | inl lt ↦ omega (arith, lt, low)
      | inr le ↦ more (omega (arith, le, other))
    ]
      where
        more : segment < i → packed_count s.rest i ≡ packed_count (s.rest - count) i
        more lt = omega (arith, lt, most)

    count_after : (i : ℕ) → i < s.room → length (share_in format i new) ≡ packed_count (s.rest - count) (s.unread + i)
    count_after i lt = elim (cases_eq i from) [
      | inl e ↦
          ap (λ (k : ℕ). length (share_in format k new)) e ∙ ap length taken_from ∙ length-take-le kept (share_in format from old) (omega arith) ∙ last_count
          ∙ ap (packed_count (s.rest - count)) (sym here) ∙ ap (λ (k : ℕ). packed_count (s.rest - count) (s.unread + k)) (sym e)
      | inr other ↦ ap length (taken_other i other (λ e. omega (arith, e, lt, behind))) ∙ counts i lt ∙ count_other (s.unread + i) (λ e. other (omega (arith, e, start)))
    ]
      where
        last_count : length (share_in format from old) - count ≡ packed_count (s.rest - count) segment
        last_count = omega (arith, had, low, most)

    pub take_packed : (n : ℕ) → IsPacked format n old s → HasShares format new → places format new ≡ places format old → IsPacked format n new (record s { rest = s.rest - count })
    take_packed n is shares same = record {
      shares = shares;
      some = is.some;
      room = omega (arith, is.room, same);
      within = omega (arith, is.within);
      whole = inr (omega (arith, low, start));
      few = omega (arith, low, start);
      all = omega (arith, is.all);
      counts = count_after;
    }

    module _ (rows : List Record) (fits : s.rest ≤ length rows) (held : HoldsPacked format rows old s) where
      last : share_in format (segment - s.unread) old ≡ slice_range rows (SEGMENT_SLOTS * segment) s.rest
      last = held from inside ∙ ap (left_at rows s.rest) here ∙ left_last rows s.rest segment most

      kept_is : SEGMENT_SLOTS * segment + (length (share_in format (segment - s.unread) old) - count) ≡ s.rest - count
      kept_is = omega (arith, had, low, there)

      pub take_held : HoldsPacked format rows new (record s { rest = s.rest - count })
      take_held i lt = elim (cases_eq i from) [
        | inl e ↦
            ap (λ (k : ℕ). share_in format k new) e ∙ taken_from ∙ ap (take kept) last
            ∙ slice_front rows (SEGMENT_SLOTS * segment) s.rest kept (omega (arith, kept_is)) ∙ ap (slice_range rows (SEGMENT_SLOTS * segment)) kept_is
            ∙ sym (left_last rows (s.rest - count) segment (omega (arith, most))) ∙ ap (left_at rows (s.rest - count)) (sym here) ∙ ap (λ (k : ℕ). left_at rows (s.rest - count) (s.unread + k)) (sym e)
        | inr other ↦
            taken_other i other (λ e. omega (arith, e, lt, behind)) ∙ held i lt
            ∙ sym (left_other rows s.rest segment count (s.unread + i) (λ e. other (omega (arith, e, start))) (omega (arith, there)) low most)
      ]

      pub take_share : share_in format f new ≡ slice_range rows (s.rest - count) s.rest ++ share_in format f old
      take_share =
          taken_to ∙ ap (λ (l : List Record). drop kept l ++ share_in format f old) last
          ∙ ap (λ (l : List Record). l ++ share_in format f old) (slice_back rows (SEGMENT_SLOTS * segment) s.rest kept ∙ ap (λ (k : ℕ). slice_range rows k s.rest) kept_is)

    pub take_long : length (share_in format f new) ≡ length (share_in format f old) + count
    take_long =
        ap length taken_to ∙ length-append (drop kept (share_in format from old)) (share_in format f old) ∙ omega (arith, length-drop kept (share_in format from old), had, there)

-- what a page shows is no disk fault
pub shown_is_damage : (format : ℕ) (page : List ℕ) (segment count : ℕ) (fault : StoreFault) → IsPageFault format page segment count fault → fault ≡ Failed → ⊥
shown_is_damage format page segment count fault shows failed = other shows.why (sym shows.fault_is ∙ failed)
  where
    other : (why : Damage) → Damaged segment why ≡ Failed → ⊥
    other why e = cc

-- the same of an answer by another name
packed_as : {T : Type 0} (place : Place) (n : ℕ) (s t : Packed) (f g : Batch) (a b : View) (result : Result T StoreFault) (fault : StoreFault) → result ≡ Err fault → ReadsPacked {T = T} place n (Err fault) s t f g a b → ReadsPacked {T = T} place n result s t f g a b
packed_as {T = T} place n s t f g a b result fault same reads = subst (λ (x : Result T StoreFault). ReadsPacked {T = T} place n x s t f g a b) (sym same) reads

-- up to a fault
pub packed_on_err : {T U : Type 0} (place : Place) (n : ℕ) (s m t : Packed) (f g h : Batch) (a b c : View) → (Told a → (rows : List Record) → ArePacked place n rows s f a.held → ArePacked place n rows m g b.held) → m.room ≡ s.room → m.unread ≤ s.unread
    → g ≡ record f { slots = g.slots } → Steps Same a b → b.travel.written ≡ a.travel.written → b.travel.read + segment_size place.layout * m.unread ≤ a.travel.read + segment_size place.layout * s.unread → (result : Result U StoreFault) (fault : StoreFault) → result ≡ Err fault → ReadsPacked {T = T} place n (Err fault) m t g h b c → ReadsPacked {T = U} place n result s t f h a c
packed_on_err {T = T} {U = U} place n s m t f g h a b c are room unread rest steps unwritten read result fault same last =
    packed_as place n s t f h a c result fault same (record {
      packed = tt;
      are = tt;
      room = last.room ∙ room;
      unread = omega (arith, last.unread, unread);
      rest = last.rest ∙ ap (λ (x : Batch). record x { slots = h.slots }) rest;
      steps = same_on steps last.steps;
      unwritten = last.unwritten ∙ unwritten;
      read = tt;
      most_read = omega (arith, read, last.most_read);
      damaged = λ told rows is. last.damaged (told_on steps.frame told) rows (are told rows is);
      cause = last.cause;
      failed = λ is. rose_on a b c.disk_faults steps.frame.disk_faults (last.failed (failed_as {T = T} fault (failed_is {T = U} fault is)));
    })

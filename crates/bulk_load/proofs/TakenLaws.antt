-- What was taken, when a record is put into a frame, and when frames are written.
use Rattle.std.proofs.Common.{◌≡◌, ◌≢◌, inl, inr, ℕ, ◌+◌, ◌-◌, ◌*◌, ◌/◌, ◌%◌, ◌<◌, ◌≤◌, true, List, [], ◌∷◌, ◌++◌, T, length, Some, None, sym, ap, subst, ◌∙◌, arith}
use Rattle.std.proofs.lemmas.Bool.{cases_eq, cases_lt}
use Rattle.std.proofs.lemmas.List.{length-append}
use Rattle.key_slot.specs.Record.{Record, is_record}
use Rattle.key_slot.specs.Segment.{FitsSegment, IsSegment}
use Rattle.key_slot.specs.declared.sizes.TheConstants.{SEGMENT_SLOTS}
use Rattle.map_model.specs.FileReasons.{begins_above}
use Rattle.header_gate.specs.declared.layout.Layout.{Layout}
use Rattle.redo_journal.specs.declared.place.Place.{Place}
use Rattle.redo_journal.specs.Frames.{Batch}
use Rattle.resize_region.specs.Spare.{spare_bytes}
use Rattle.resize_region.specs.Shares.{places, HasShares, share_in}
use Rattle.bulk_load.specs.declared.packing.Taken.{Taken}
use Rattle.bulk_load.specs.Packing.{room_in, AreRows, IsTaken, HasPlace, HasPacked, packed_at}
use Rattle.bulk_load.proofs.PackLaws.{packed_before, packed_here, packed_none, packed_fits, length-packed_at, last_key-more, rows_more, rows_none}

-- how many records the place of the next one holds
pub next_count : (l : Layout) (t : Taken) (b : Batch) (rows : List Record) → room_in l ≤ places l.format b → IsTaken l t b rows → HasPlace l t → (t.records - SEGMENT_SLOTS * t.written) % SEGMENT_SLOTS ≡ length (share_in l.format ((t.records - SEGMENT_SLOTS * t.written) / SEGMENT_SLOTS) b)
next_count l t b rows room is place =
    let f = (t.records - SEGMENT_SLOTS * t.written) / SEGMENT_SLOTS in
    let low : f < room_in l = omega (arith, place.behind, place.within) in
    omega (arith, ap length (is.held f (omega (arith, low, room))), length-packed_at rows (t.written + f), is.count, place.behind)

-- a record is put into its place
module _ (l : Layout) (t : Taken) (b c : Batch) (rows : List Record) (r : Record) (f : ℕ) (room : room_in l ≤ places l.format b) (is : IsTaken l t b rows) (place : HasPlace l t) (f_is : f ≡ (t.records - SEGMENT_SLOTS * t.written) / SEGMENT_SLOTS) (fits : T (is_record l.format r)) (above : begins_above t.last (r ∷ []) ≡ true)
    (shares : HasShares l.format c) (same : places l.format c ≡ places l.format b) (put : share_in l.format f c ≡ share_in l.format f b ++ r ∷ []) (others : (i : ℕ) → i ≢ f → i < places l.format b → share_in l.format i c ≡ share_in l.format i b) where
  low : f < room_in l
  low = omega (arith, f_is, place.behind, place.within)

  starts : SEGMENT_SLOTS * (t.written + f) ≤ length rows
  starts = omega (arith, f_is, is.count, place.behind)

  ends : length rows < SEGMENT_SLOTS * (t.written + f) + SEGMENT_SLOTS
  ends = omega (arith, f_is, is.count, place.behind)

  held : (i : ℕ) → i < places l.format b → share_in l.format i c ≡ packed_at (rows ++ r ∷ []) (t.written + i)
  held i lt = elim (cases_eq i f) [
    | inl e ↦
        ap (λ (k : ℕ). share_in l.format k c) e ∙ put ∙ ap (λ (x : List Record). x ++ r ∷ []) (is.held f (omega (arith, low, room))) ∙ sym (packed_here rows r (t.written + f) starts ends)
        ∙ ap (λ (k : ℕ). packed_at (rows ++ r ∷ []) (t.written + k)) (sym e)
    | inr other ↦ others i other lt ∙ is.held i lt ∙ elim (cases_lt i f) [
      | inl less ↦ sym (packed_before rows r (t.written + i) (omega (arith, starts, less)))
      | inr le ↦ behind other le
    ]
  ]
    where
      behind : i ≢ f → f ≤ i → packed_at rows (t.written + i) ≡ packed_at (rows ++ r ∷ []) (t.written + i)
      behind other le =
          let more : f < i = omega (arith, le, other) in
          packed_none rows (t.written + i) (omega (arith, ends, more)) ∙ sym (packed_none (rows ++ r ∷ []) (t.written + i) (omega (arith, ends, more, length-append rows (r ∷ []))))

  pub put_taken : (u : Taken) → u.records ≡ t.records + 1 → u.written ≡ t.written → u.last ≡ Some r.0 → IsTaken l u c (rows ++ r ∷ [])
  put_taken u count written last = record {
    rows_are = rows_more l.format rows r is.rows_are fits (ap (λ k. begins_above k (r ∷ [])) (sym is.last) ∙ above);
    count = omega (arith, count, is.count, length-append rows (r ∷ []));
    last = last ∙ sym (last_key-more rows r);
    within = omega (arith, length-append rows (r ∷ []), is.count, place.within, written);
    shares = shares;
    held = λ i lt. held i (omega (arith, lt, same)) ∙ ap (λ (w : ℕ). packed_at (rows ++ r ∷ []) (w + i)) (sym written);
  }

-- places are written behind the segments that are
pub flush_packed : (place : Place) (rows : List Record) (w count : ℕ) (b : Batch) (old new : List ℕ) → AreRows place.layout.format rows → ((i : ℕ) → i < count → share_in place.layout.format i b ≡ packed_at rows (w + i))
    → ((i : ℕ) → i < count → FitsSegment place.layout.format (share_in place.layout.format i b) → IsSegment place.layout.format (share_in place.layout.format i b) (spare_bytes place (w + i) new)) → ((i : ℕ) → i < w → spare_bytes place i new ≡ spare_bytes place i old) → HasPacked place rows w old → HasPacked place rows (w + count) new
flush_packed place rows w count b old new are held written others packed i lt = elim (cases_lt i w) [
  | inl low ↦ subst (IsSegment place.layout.format (packed_at rows i)) (sym (others i low)) (packed i low)
  | inr high ↦
      let k = i - w in
      let at : w + k ≡ i = omega (arith, high) in
      let k_low : k < count = omega (arith, at, lt) in
      let same = held k k_low in
      subst (λ (j : ℕ). IsSegment place.layout.format (packed_at rows j) (spare_bytes place j new)) at
      (subst (λ (x : List Record). IsSegment place.layout.format x (spare_bytes place (w + k) new)) same (written k k_low (subst (FitsSegment place.layout.format) (sym same) (packed_fits place.layout.format rows (w + k) are))))
]

-- and all places are empty then
pub flush_taken : (l : Layout) (t u : Taken) (b c : Batch) (rows : List Record) (count : ℕ) → IsTaken l t b rows → t.records ≤ SEGMENT_SLOTS * (t.written + count) → u ≡ record t { written = t.written + count } → HasShares l.format c → places l.format c ≡ places l.format b
    → ((f : ℕ) → f < count → share_in l.format f c ≡ []) → ((f : ℕ) → count ≤ f → f < places l.format b → share_in l.format f c ≡ share_in l.format f b) → IsTaken l u c rows
flush_taken l t u b c rows count is all u_is shares same empty others =
    let written : u.written ≡ t.written + count = ap (λ (x : Taken). x.written) u_is in
    record {
      rows_are = is.rows_are;
      count = ap (λ (x : Taken). x.records) u_is ∙ is.count;
      last = ap (λ (x : Taken). x.last) u_is ∙ is.last;
      within = omega (arith, is.count, all, written);
      shares = shares;
      held = λ i lt. none i (omega (arith, lt, same)) ∙ sym (packed_none rows (u.written + i) (omega (arith, is.count, all, written)));
    }
  where
    none : (i : ℕ) → i < places l.format b → share_in l.format i c ≡ []
    none i lt = elim (cases_lt i count) [
      | inl low ↦ empty i low
      | inr high ↦ others i high lt ∙ is.held i lt ∙ packed_none rows (t.written + i) (omega (arith, is.count, all, high))
    ]

-- nothing was taken yet
pub none_taken : (l : Layout) (t : Taken) (b : Batch) → t.records ≡ 0 → t.written ≡ 0 → t.last ≡ None → HasShares l.format b → ((f : ℕ) → f < places l.format b → share_in l.format f b ≡ []) → IsTaken l t b []
none_taken l t b records written last shares empty = record {
  rows_are = rows_none l.format;
  count = records;
  last = last;
  within = omega arith;
  shares = shares;
  held = λ i lt. empty i lt ∙ sym (packed_none [] (t.written + i) (omega arith));
}

-- what is written stays packed when a record more is taken
pub put_packed : (place : Place) (rows : List Record) (r : Record) (w : ℕ) (file : List ℕ) → SEGMENT_SLOTS * w ≤ length rows → HasPacked place rows w file → HasPacked place (rows ++ r ∷ []) w file
put_packed place rows r w file behind packed i lt = subst (λ (x : List Record). IsSegment place.layout.format x (spare_bytes place i file)) (sym (packed_before rows r i (omega (arith, behind, lt)))) (packed i lt)

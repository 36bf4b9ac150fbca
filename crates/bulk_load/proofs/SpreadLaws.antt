-- The shares of packed records that are spread, by where they begin and end.
use Rattle.std.proofs.Common.{◌≡◌, inl, ℕ, ◌+◌, ◌*◌, ◌/◌, ◌<◌, ◌≤◌, List, [], T, length, slice_range, sym, ap, subst, ◌∙◌, arith}
use Rattle.std.specs.List.{list_all}
use Rattle.std.proofs.Math.Nat.{mul-le-mul_right, mul-le-mul_left, mul-div_cancel}
use Rattle.density_rule.proofs.Quotients.{div_rises}
use Rattle.density_rule.specs.Spread.{share}
use Rattle.header_gate.specs.declared.layout.Layout.{Layout}
use Rattle.key_slot.specs.Record.{Record, is_record, IsAscending}
use Rattle.key_slot.specs.Segment.{FitsSegment, IsSegment}
use Rattle.key_slot.specs.declared.sizes.TheConstants.{SEGMENT_SLOTS}
use Rattle.map_model.specs.Array.{rows, segment_at, spread_over}
use Rattle.map_model.proofs.Replacing.{segments_fit}
use Rattle.map_model.proofs.Spreading.{segment_spread_over, rows-spread_over}
use Rattle.redo_journal.specs.Frames.{Batch}
use Rattle.redo_journal.specs.declared.place.Place.{Place}
use Rattle.spread_plan.proofs.Spreads.{share-le}
use Rattle.resize_region.specs.Spare.{spare_bytes}
use Rattle.resize_region.specs.Shares.{places, HasShares, share_in}
use Rattle.resize_region.proofs.ShareParts.{length-share}
use Rattle.bulk_load.specs.Packing.{AreRows, HasPacked, packed_at}
use Rattle.bulk_load.specs.Spreading.{used_by, IsPacked, ArePacked}
use Rattle.bulk_load.specs.declared.packed.Packed.{Packed}
use Rattle.bulk_load.proofs.Slices.{left_none}

module _ (n m t : ℕ) (some : 0 < m) where
  -- they begin in order
  rises : t * n / m ≤ (t + 1) * n / m
  rises = div_rises (t * n) ((t + 1) * n) m some (mul-le-mul_right n (omega arith))

  -- a share ends where the next one begins
  pub share_ends : share n m t + t * n / m ≡ (t + 1) * n / m
  share_ends = omega (arith, rises)

  -- it begins at no more than 64 records for each segment before it
  pub begins_early : n ≤ SEGMENT_SLOTS * m → t * n / m ≤ SEGMENT_SLOTS * t
  begins_early few =
      let up : t * n ≤ SEGMENT_SLOTS * t * m = omega (arith, mul-le-mul_left t few) in
      omega (arith, div_rises (t * n) (SEGMENT_SLOTS * t * m) m some up, mul-div_cancel (SEGMENT_SLOTS * t) some)

-- the share is these records
pub share_run : (n m t from to : ℕ) (rs : List Record) → t < m → length rs ≡ n → from ≡ t * n / m → to ≡ (t + 1) * n / m → slice_range rs from to ≡ segment_at (spread_over m rs) t
share_run n m t from to rs lt long begins ends =
    ap (λ (a : ℕ). slice_range rs a to) begins ∙ ap (slice_range rs (t * n / m)) ends ∙ ap (λ (k : ℕ). slice_range rs (t * k / m) ((t + 1) * k / m)) (sym long) ∙ sym (segment_spread_over m rs t lt)

-- and it is one that a segment has room for
pub spread_fits : (format n m t : ℕ) (rs : List Record) → AreRows format rs → length rs ≡ n → 0 < m → t < m → n ≤ SEGMENT_SLOTS * m → FitsSegment format (segment_at (spread_over m rs) t)
spread_fits format n m t rs are long pos lt few =
    let same : rows (spread_over m rs) ≡ rs = rows-spread_over m rs pos in
    segments_fit format (spread_over m rs) t (subst IsAscending (sym same) are.ascending) (subst (λ (r : List Record). T (list_all (is_record format) r)) (sym same) are.fit) (omega (arith, length-share n m t pos lt rs long, share-le n m t pos few))

-- what is written, where the next segments are
pub spent : (size low count end before now all : ℕ) → low + count ≡ end → now ≤ before + size * count → before + size * end ≤ all → now + size * low ≤ all
spent size low count end before now all same more had =
    let parts : size * end ≡ size * low + size * count = ap (λ (k : ℕ). size * k) (sym same) ∙ omega arith in
    omega (arith, parts, more, had)

-- The places of packed segments stay, when others change.
pub packed_beside : (format n : ℕ) (b d : Batch) (s : Packed) → IsPacked format n b s → HasShares format d → places format d ≡ places format b → ((i : ℕ) → i < s.room → share_in format i d ≡ share_in format i b) → IsPacked format n d s
packed_beside format n b d s is shares same others = record {
  shares = shares;
  some = is.some;
  room = omega (arith, is.room, same);
  within = is.within;
  whole = is.whole;
  few = is.few;
  all = is.all;
  counts = λ i lt. ap length (others i lt) ∙ is.counts i lt;
}

pub are_beside : (place : Place) (n : ℕ) (rs : List Record) (s : Packed) (b d : Batch) (old new : List ℕ) → ArePacked place n rs s b old → ((i : ℕ) → i < s.room → share_in place.layout.format i d ≡ share_in place.layout.format i b) → ((i : ℕ) → i < s.unread → spare_bytes place i new ≡ spare_bytes place i old) → ArePacked place n rs s d new
are_beside place n rs s b d old new are others same = record {
  are_rows = are.are_rows;
  count = are.count;
  unread = λ i lt. subst (IsSegment place.layout.format (packed_at rs i)) (sym (same i lt)) (are.unread i lt);
  held = λ i lt. others i lt ∙ are.held i lt;
}

-- Nothing is read yet, and no place holds anything.
pub packed_first : (l : Layout) (n : ℕ) (b : Batch) (s : Packed) → HasShares l.format b → 1 ≤ s.room → s.room ≤ places l.format b → s.rest ≡ n → s.unread ≡ used_by n → ((i : ℕ) → i < places l.format b → share_in l.format i b ≡ []) → IsPacked l.format n b s
packed_first l n b s shares some room rest unread empty = record {
  shares = shares;
  some = some;
  room = room;
  within = omega (arith, rest);
  whole = inl rest;
  few = omega (arith, rest, unread);
  all = omega (arith, rest, unread);
  counts = λ i lt. ap length (empty i (omega (arith, lt, room))) ∙ omega (arith, rest, unread);
}

pub are_first : (place : Place) (n : ℕ) (rs : List Record) (b : Batch) (s : Packed) (file : List ℕ) → AreRows place.layout.format rs → length rs ≡ n → s.room ≤ places place.layout.format b → s.rest ≡ n → s.unread ≡ used_by n → HasPacked place rs (used_by n) file → ((i : ℕ) → i < places place.layout.format b → share_in place.layout.format i b ≡ []) → ArePacked place n rs s b file
are_first place n rs b s file are long room rest unread packed empty = record {
  are_rows = are;
  count = long;
  unread = λ i lt. packed i (omega (arith, lt, unread));
  held = λ i lt. empty i (omega (arith, lt, room)) ∙ sym (left_none rs s.rest (s.unread + i) (omega (arith, rest, unread)));
}

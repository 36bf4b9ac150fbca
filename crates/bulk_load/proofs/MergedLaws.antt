-- A line of a merge text is taken, beside the records of a map.
use Rattle.std.proofs.Common.{◌≡◌, ℕ, ◌+◌, ◌^◌, ◌<◌, ◌≤◌, nat_lt, ◌&&◌, not, Bool, true, false, cond, List, [], ◌∷◌, ◌++◌, if◌then◌else◌, map, length, Option, Some, None, refl, sym, ap, subst, ◌∙◌, arith}
use Rattle.std.proofs.lemmas.Bool.{lt-ltb, le-ltb}
use Rattle.std.proofs.lemmas.Bool.Decides.{nat_tests}
use Rattle.std.proofs.lemmas.List.{length-append}
use Rattle.std.specs.Ordering.{is_lt}
use Rattle.std.specs.FinMap.{contains_key, entries, entries_sorted}
use Rattle.std.specs.FinMap.Entries.{is_sorted-where_key}
use Rattle.station.specs.View.{View, Told}
use Rattle.key_slot.specs.Record.{Bytes, Record, key_cmp, IsAscending}
use Rattle.map_model.specs.Array.{Array}
use Rattle.map_model.specs.Image.{array_of}
use Rattle.map_model.specs.ItemWords.{effect_count}
use Rattle.map_model.specs.FileReasons.{last_key, begins_above}
use Rattle.map_model.specs.Store.{Map, Update, bind, unbind, key_of, effect_by}
use Rattle.map_model.proofs.Ends.{joined}
use Rattle.redo_journal.specs.declared.place.Place.{Place}
use Rattle.redo_journal.specs.Frames.{Batch}
use Rattle.command_text.specs.declared.merge.MergeLine.{MergeLine}
use Rattle.bulk_load.specs.declared.fault.LoadFault.{LoadFault}
use Rattle.bulk_load.specs.declared.fault.LoadFault.TheVariants as fault
use Rattle.bulk_load.specs.declared.run.Found.{Found}
use Rattle.bulk_load.specs.declared.run.MergeRun.{MergeRun}
use Rattle.bulk_load.specs.Ahead.{begins_under, begins_with, left_in, over, under}
use Rattle.bulk_load.specs.Amid.{HasMerged, IsCopyFault, IsUpdateFault, MayStop, counts_in, goes_behind}
use Rattle.bulk_load.specs.Loads.{most_records}
use Rattle.bulk_load.specs.MergeText.{above, below, bound_by, front_rows, mark_of, rest_rows}
use Rattle.bulk_load.specs.MergeLines.{reads, wrong, full, may_follow, after_edit, after_merge_line}
use Rattle.bulk_load.specs.Packing.{IsTaken, HasPacked}
use Rattle.bulk_load.specs.Resulting.{IsPackingFault}
use Rattle.key_slot.proofs.Truth.{less, passes}
use Rattle.bulk_load.proofs.AheadLaws.{above_on}
use Rattle.bulk_load.proofs.LineLaws.{both_true}
use Rattle.bulk_load.proofs.MergeLaws.{front_more, rest_more}
use Rattle.bulk_load.proofs.MergeReading.{follows, marks_more}
use Rattle.bulk_load.proofs.PackLaws.{last_key-more}
use Rattle.bulk_load.proofs.UpdateLaws.{count_more, has_key}

-- Records behind updates, and those over a key.

pub rest_ascends : (edits : List Update) (rows : List Record) → IsAscending rows → IsAscending (rest_rows edits rows)
rest_ascends [] rows up = up
rest_ascends (u ∷ edits) rows up = rest_ascends edits (above (key_of u) rows) (is_sorted-where_key key_cmp (λ (other : Bytes). is_lt (key_cmp (key_of u) other)) rows up)

over_ascends : (k : Bytes) (rows : List Record) → IsAscending rows → IsAscending (over (Some k) rows)
over_ascends k rows up = is_sorted-where_key key_cmp (λ (other : Bytes). not (is_lt (key_cmp other k))) rows up

over_none : (k : Bytes) (rows : List Record) → begins_under (Some k) (over (Some k) rows) ≡ false
over_none k [] = refl
over_none k (r ∷ rows) =
    elim (is_lt (key_cmp r.0 k)) as (λ b. is_lt (key_cmp r.0 k) ≡ b → begins_under (Some k) (cond (not b) (r ∷ over (Some k) rows) (over (Some k) rows)) ≡ false) [
      | true ↦ λ p. over_none k rows
      | false ↦ λ p. p
    ] refl

-- Whether an update may follow.

module _ (place : Place) (m : Map) (edits : List Update) (s : MergeRun) (b : Batch) (v : View) (has : HasMerged place m edits s b v) (u : Update) where
  same_tests : (nat_lt (s.edits + 1) (2 ^ 32) && begins_above s.last ((key_of u, []) ∷ [])) ≡ may_follow edits u
  same_tests = ap (λ (n : ℕ). nat_lt (n + 1) (2 ^ 32) && begins_above s.last ((key_of u, []) ∷ [])) has.edits_are ∙ ap (λ l. nat_lt (length edits + 1) (2 ^ 32) && begins_above l ((key_of u, []) ∷ [])) has.last

  pub may_is : goes_behind s (key_of u) ≡ true → (s.taken.ended ≡ false) × (may_follow edits u ≡ true)
  may_is goes =
      let both = both_true s.taken.ended (nat_lt (s.edits + 1) (2 ^ 32) && begins_above s.last ((key_of u, []) ∷ [])) goes in
      (both.0, sym same_tests ∙ both.1)

  -- what comes of a line with it
  module _ (most k : ℕ) (line : MergeLine) (line_is : after_merge_line most (entries m) k edits false line ≡ after_edit most (entries m) k edits u) where
    by_ended : (ended : Bool) → s.taken.ended ≡ ended → after_merge_line most (entries m) k edits s.taken.ended line ≡ after_merge_line most (entries m) k edits ended line
    by_ended ended is = ap (λ (e : Bool). after_merge_line most (entries m) k edits e line) is

    pub edit_goes : goes_behind s (key_of u) ≡ true → length (front_rows (edits ++ u ∷ []) (entries m)) ≤ most → after_merge_line most (entries m) k edits s.taken.ended line ≡ reads (edits ++ u ∷ []) false
    edit_goes goes few =
        let may = may_is goes in
        by_ended false may.0 ∙ line_is
        ∙ ap (λ (g : Bool). cond (not g) (wrong k) (cond (nat_lt most (length (front_rows (edits ++ u ∷ []) (entries m)))) full (reads (edits ++ u ∷ []) false))) may.1
        ∙ ap (λ (g : Bool). cond g full (reads (edits ++ u ∷ []) false)) (le-ltb most (length (front_rows (edits ++ u ∷ []) (entries m))) few)

    pub edit_full : goes_behind s (key_of u) ≡ true → most < length (front_rows (edits ++ u ∷ []) (entries m)) → after_merge_line most (entries m) k edits s.taken.ended line ≡ full
    edit_full goes more =
        let may = may_is goes in
        by_ended false may.0 ∙ line_is
        ∙ ap (λ (g : Bool). cond (not g) (wrong k) (cond (nat_lt most (length (front_rows (edits ++ u ∷ []) (entries m)))) full (reads (edits ++ u ∷ []) false))) may.1
        ∙ ap (λ (g : Bool). cond g full (reads (edits ++ u ∷ []) false)) (lt-ltb most (length (front_rows (edits ++ u ∷ []) (entries m))) more)

  -- how many records result with it
  pub front_size : length (front_rows (edits ++ u ∷ []) (entries m)) ≡ s.taken.records + length (under (Some (key_of u)) (left_in (array_of v.held) s.ahead)) + length (bound_by u)
  front_size =
      let front = front_rows edits (entries m) in
      let low = below (key_of u) (rest_rows edits (entries m)) in
      let same : length (under (Some (key_of u)) (left_in (array_of v.held) s.ahead)) ≡ length low = ap (λ (l : List Record). length (under (Some (key_of u)) l)) has.left in
      omega (arith, ap (λ (l : List Record). length l) (front_more edits u (entries m)), length-append (front ++ low) (bound_by u), length-append front low, has.taken.count, same)

  -- a fault on the way to its key
  pub copy_update_fault : (k : ℕ) (line : MergeLine) (line_is : after_merge_line (most_records place.layout) (entries m) k edits false line ≡ after_edit (most_records place.layout) (entries m) k edits u) → goes_behind s (key_of u) ≡ true
      → (f : LoadFault) → IsCopyFault place (Some (key_of u)) s v f → Told v → IsUpdateFault (most_records place.layout) (after_merge_line (most_records place.layout) (entries m) k edits s.taken.ended line) f
  copy_update_fault k line line_is goes (fault.Full n) is told = (edit_full (most_records place.layout) k line line_is goes (omega (arith, is.1 told, front_size)), is.0)
  copy_update_fault k line line_is goes fault.Disk is told = record {}
  copy_update_fault k line line_is goes (fault.Damaged segment why) is told = absurd (is told)
  copy_update_fault k line line_is goes (fault.NotEmpty n) is told = is
  copy_update_fault k line line_is goes (fault.Line n) is told = absurd is
  copy_update_fault k line line_is goes fault.Script is told = is
  copy_update_fault k line line_is goes fault.Spent is told = is

  -- and of the packing of its record
  pub pack_update_fault : (k records : ℕ) (line : MergeLine) (line_is : after_merge_line (most_records place.layout) (entries m) k edits false line ≡ after_edit (most_records place.layout) (entries m) k edits u) → goes_behind s (key_of u) ≡ true
      → length (front_rows (edits ++ u ∷ []) (entries m)) ≡ records + 1 → (f : LoadFault) → IsPackingFault (most_records place.layout) records f
      → IsUpdateFault (most_records place.layout) (after_merge_line (most_records place.layout) (entries m) k edits s.taken.ended line) f
  pack_update_fault k records line line_is goes size (fault.Full n) is = (edit_full (most_records place.layout) k line line_is goes (omega (arith, is.1, size)), is.0)
  pack_update_fault k records line line_is goes size fault.Disk is = record {}
  pack_update_fault k records line line_is goes size (fault.Damaged segment why) is = is
  pack_update_fault k records line line_is goes size (fault.NotEmpty n) is = is
  pack_update_fault k records line line_is goes size (fault.Line n) is = absurd is
  pack_update_fault k records line line_is goes size fault.Script is = is
  pack_update_fault k records line line_is goes size fault.Spent is = is

  -- One update more.
  module _ (new : MergeRun) (g : Batch) (w : View) (goes : goes_behind s (key_of u) ≡ true) (met : Bool)
      (taken : IsTaken place.layout new.taken g ((front_rows edits (entries m) ++ under (Some (key_of u)) (left_in (array_of v.held) s.ahead)) ++ bound_by u))
      (packed : HasPacked place ((front_rows edits (entries m) ++ under (Some (key_of u)) (left_in (array_of v.held) s.ahead)) ++ bound_by u) new.taken.written w.held)
      (left : left_in (array_of v.held) new.ahead ≡ above (key_of u) (left_in (array_of v.held) s.ahead)) (same : array_of w.held ≡ array_of v.held)
      (found : counts_in new.found ≡ effect_count (effect_by met true u) (counts_in s.found)) (met_is : met ≡ begins_with (key_of u) (over (Some (key_of u)) (left_in (array_of v.held) s.ahead)))
      (count : new.edits ≡ s.edits + 1) (last : new.last ≡ Some (key_of u)) where
    may : may_follow edits u ≡ true
    may = (may_is goes).1

    marks_up : IsAscending (map mark_of edits ++ mark_of u ∷ [])
    marks_up = joined (map mark_of edits) (mark_of u ∷ []) has.ascending tt (follows edits u may).1

    front_is : (front_rows edits (entries m) ++ under (Some (key_of u)) (left_in (array_of v.held) s.ahead)) ++ bound_by u ≡ front_rows (edits ++ u ∷ []) (entries m)
    front_is = ap (λ (l : List Record). (front_rows edits (entries m) ++ under (Some (key_of u)) l) ++ bound_by u) has.left ∙ sym (front_more edits u (entries m))

    present : met ≡ contains_key m (key_of u)
    present =
        met_is ∙ ap (λ (l : List Record). begins_with (key_of u) (over (Some (key_of u)) l)) has.left
        ∙ sym (has_key m edits (key_of u) [] marks_up (over_ascends (key_of u) (rest_rows edits (entries m)) (rest_ascends edits (entries m) (entries_sorted m))) (over_none (key_of u) (rest_rows edits (entries m))))

    pub merged_edit : HasMerged place m (edits ++ u ∷ []) new g w
    merged_edit = record {
      taken = subst (IsTaken place.layout new.taken g) front_is taken;
      packed = subst (λ (l : List Record). HasPacked place l new.taken.written w.held) front_is packed;
      left = ap (λ (x : Array). left_in x new.ahead) same ∙ left ∙ ap (above (key_of u)) has.left ∙ sym (rest_more edits u (entries m));
      found = found ∙ ap (λ (b : Bool). effect_count (effect_by b true u) (counts_in s.found)) present ∙ ap (effect_count (effect_by (contains_key m (key_of u)) true u)) has.found ∙ sym (count_more m edits u _);
      edits_are = count ∙ ap (λ (n : ℕ). n + 1) has.edits_are ∙ sym (length-append edits (u ∷ []));
      last = last ∙ sym (ap last_key (marks_more edits u) ∙ last_key-more (map mark_of edits) (mark_of u));
      ascending = subst IsAscending (sym (marks_more edits u)) marks_up;
    }

-- What is behind an update.

pub any_value : (last : Option Bytes) (k x y : Bytes) → begins_above last ((k, x) ∷ []) ≡ begins_above last ((k, y) ∷ [])
any_value None k x y = refl
any_value (Some l) k x y = refl

lt_of : (a b : ℕ) → nat_lt a b ≡ true → a < b
lt_of a b h = grind (arith, nat_tests)

pub goes_parts : (s : MergeRun) (k : Bytes) → goes_behind s k ≡ true → (s.taken.ended ≡ false) × (s.edits + 1 < 2 ^ 32) × (begins_above s.last ((k, []) ∷ []) ≡ true)
goes_parts s k goes =
    let both = both_true s.taken.ended (nat_lt (s.edits + 1) (2 ^ 32) && begins_above s.last ((k, []) ∷ [])) goes in
    let two = and_true (nat_lt (s.edits + 1) (2 ^ 32)) (begins_above s.last ((k, []) ∷ [])) both.1 in
    (both.0, lt_of (s.edits + 1) (2 ^ 32) two.0, two.1)
  where
    and_true : (x y : Bool) → (x && y) ≡ true → (x ≡ true) × (y ≡ true)
    and_true true y e = (refl, e)
    and_true false y e = absurd cc

-- Counts.

pub bound_sum : (met : Bool) (f : Found) → (let g = (if met then record f { replaced = f.replaced + 1 } else record f { stored = f.stored + 1 }) in g.stored + g.replaced + g.removed + g.absent) ≡ f.stored + f.replaced + f.removed + f.absent + 1
bound_sum true f = omega arith
bound_sum false f = omega arith

pub removed_sum : (met : Bool) (f : Found) → (let g = (if met then record f { removed = f.removed + 1 } else record f { absent = f.absent + 1 }) in g.stored + g.replaced + g.removed + g.absent) ≡ f.stored + f.replaced + f.removed + f.absent + 1
removed_sum true f = omega arith
removed_sum false f = omega arith

pub bound_counts : (met : Bool) (f : Found) (k v : Bytes) → counts_in (if met then record f { replaced = f.replaced + 1 } else record f { stored = f.stored + 1 }) ≡ effect_count (effect_by met true (bind k v)) (counts_in f)
bound_counts true f k v = refl
bound_counts false f k v = refl

pub removed_counts : (met : Bool) (f : Found) (k : Bytes) → counts_in (if met then record f { removed = f.removed + 1 } else record f { absent = f.absent + 1 }) ≡ effect_count (effect_by met true (unbind k)) (counts_in f)
removed_counts true f k = refl
removed_counts false f k = refl

-- what is above a key is above what that is above
pub above_key : (last : Option Bytes) (k : Bytes) (r : Record) → begins_above last ((k, []) ∷ []) ≡ true → begins_above (Some k) (r ∷ []) ≡ true → begins_above last (r ∷ []) ≡ true
above_key None k r low high = refl
above_key (Some l) k r low high = above_on l k (r ∷ []) (less _ (passes _ low)) high

-- Faults on any station.

pub copy_may_stop : (place : Place) (key : Option Bytes) (s : MergeRun) (v : View) (f : LoadFault) → IsCopyFault place key s v f → MayStop (most_records place.layout) f
copy_may_stop place key s v (fault.Full n) is = is.0
copy_may_stop place key s v fault.Disk is = record {}
copy_may_stop place key s v (fault.Damaged segment why) is = record {}
copy_may_stop place key s v (fault.NotEmpty n) is = is
copy_may_stop place key s v (fault.Line n) is = absurd is
copy_may_stop place key s v fault.Script is = is
copy_may_stop place key s v fault.Spent is = is

pub pack_may_stop : (most records : ℕ) (f : LoadFault) → IsPackingFault most records f → MayStop most f
pack_may_stop most records (fault.Full n) is = is.0
pack_may_stop most records fault.Disk is = record {}
pack_may_stop most records (fault.Damaged segment why) is = record {}
pack_may_stop most records (fault.NotEmpty n) is = is
pack_may_stop most records (fault.Line n) is = absurd is
pack_may_stop most records fault.Script is = is
pack_may_stop most records fault.Spent is = is

-- A look for keys at each segment of a live region.
use Rattle.std.proofs.Common.{◌≡◌, ℕ, ◌+◌, ◌^◌, ◌<◌, Bool, true, false, cond, ◌||◌, List, [], ◌∷◌, ◌++◌, get_or, refl, sym, ap, subst, ◌∙◌, Option, Some, None, is_some, sum, eq-eqb}
use Rattle.std.specs.FinMap.{contains_key, entries, find, len}
use Rattle.std.specs.Ordering.{eq_by_cmp}
use Rattle.density_rule.specs.Windows.{count_in}
use Rattle.header_gate.specs.InPlace.{IsRecovered}
use Rattle.header_gate.specs.declared.layout.Layout.{Layout}
use Rattle.key_slot.specs.Record.{Bytes, Record, key_cmp}
use Rattle.key_slot.specs.Segment.{IsSegment, segment_of}
use Rattle.key_slot.proofs.SegmentLaws.{segment_sound}
use Rattle.map_model.specs.Array.{rows}
use Rattle.map_model.specs.Image.{array_in, array_from, live_segment, map_of}
use Rattle.map_model.specs.Standing.{StandsWith}
use Rattle.map_model.specs.Store.{Update, key_of}
use Rattle.map_model.proofs.ArrayReasons.{rows_more}
use Rattle.map_model.proofs.Entries.{find-rows, length-rows}
use Rattle.map_model.proofs.Reasonings.{array_is, own_rows, own_segments}
use Rattle.range_scan.proofs.Checks as checks
use Rattle.range_scan.proofs.Standing.{own, format_is, page_is, count_kept}
use Rattle.range_scan.specs.RegionReading.{page_in}
use Rattle.segment.specs.Validated.{damage_by, damage_of}
use Rattle.segment.specs.declared.fault.Damage.TheVariants.{OtherCount}
use Rattle.segment.specs.Rows.{value_of}
use Rattle.recovery.specs.Intents.{AreThere, AlsoIn}
use Rattle.recovery.proofs.SameArrays.{same_arrays}

-- a key is among joined records where it is among the ones or the others
found_first : {V : Type 0} (t : Bool) (v : V) (all ones others : Option V) → is_some all ≡ (is_some ones || is_some others) → is_some (cond t (Some v) all) ≡ (is_some (cond t (Some v) ones) || is_some others)
found_first true v all ones others rest = refl
found_first false v all ones others rest = rest

found_in_both : (key : Bytes) (a b : List Record) → is_some (find key_cmp key (a ++ b)) ≡ (is_some (find key_cmp key a) || is_some (find key_cmp key b))
found_in_both key [] b = refl
found_in_both key (r ∷ a) b = found_first (eq_by_cmp key_cmp key r.0) r.1 (find key_cmp key (a ++ b)) (find key_cmp key a) (find key_cmp key b) (found_in_both key a b)

-- whether a key is among the records of the first n segments
abbrev pub in_front : ℕ → (ℕ → List ℕ) → ℕ → Bytes → Bool
in_front format page n key = is_some (value_of key (rows (array_from format page n)))

pub more_there : (items : List Update) (format : ℕ) (page : ℕ → List ℕ) (i : ℕ) (old new : List Bool) → AreThere items old (in_front format page i) → AlsoIn items (segment_of format (page i)) old new → AreThere items new (in_front format page (i + 1))
more_there items format page i old new there also = record {
  each = λ k d lt.
      let key = key_of (get_or items k d) in
      also.each k d lt
      ∙ ap (λ (b : Bool). b || is_some (value_of key (segment_of format (page i)))) (there.each k d lt)
      ∙ sym (found_in_both key (rows (array_from format page i)) (segment_of format (page i)))
      ∙ ap (λ (rs : List Record). is_some (value_of key rs)) (sym (rows_more format page i));
}

module _ (layout : Layout) (region height : ℕ) (counts image : List ℕ) (stands : StandsWith layout region height counts image) where
  rows_are : IsRecovered layout image → rows (array_from layout.format (page_in layout region image) (2 ^ height)) ≡ entries (map_of image)
  rows_are readable =
      ap rows (same_arrays layout.format (page_in layout region image) (live_segment image) (2 ^ height) (λ i lt. page_is layout region height counts image stands readable i lt))
      ∙ ap (λ (f : ℕ). rows (array_from f (live_segment image) (2 ^ height))) (sym (format_is layout region height counts image stands))
      ∙ ap rows (sym (array_is image height))
      ∙ own_rows image (map_of image) height (own layout region height counts image stands)

  -- behind the last segment the keys that were found are those of the map
  pub all_there : IsRecovered layout image → (items : List Update) (there : List Bool) → AreThere items there (in_front layout.format (page_in layout region image) (2 ^ height)) → AreThere items there (contains_key (map_of image))
  all_there readable items there are = record { each = λ k d lt. are.each k d lt ∙ find-rows (rows (array_from layout.format (page_in layout region image) (2 ^ height))) (map_of image) (rows_are readable) (key_of (get_or items k d)) }

  -- a segment that is read again isn't damaged
  pub undamaged : IsRecovered layout image → (i : ℕ) → i < 2 ^ height → damage_of layout.format (page_in layout region image i) (count_in counts 0 i) ≡ None
  undamaged readable i lt =
      let f = layout.format in
      let rows = segment_of f (live_segment image i) in
      let there : IsSegment f rows (live_segment image i) =
      subst (λ (g : ℕ). IsSegment g (segment_of g (live_segment image i)) (live_segment image i)) (format_is layout region height counts image stands) (own_segments image (map_of image) height (own layout region height counts image stands) i lt) in
      let live : IsSegment f rows (page_in layout region image i) = subst (IsSegment f rows) (sym (page_is layout region height counts image stands readable i lt)) there in
      (λ t. damage_by (segment_sound f rows (page_in layout region image i) live t) (count_kept layout region height counts image stands readable i lt t) (count_in counts 0 i))
      ∙ ap (λ (b : Bool). cond b None (Some (OtherCount (count_in counts 0 i) (count_in counts 0 i)))) (eq-eqb (count_in counts 0 i) (count_in counts 0 i) refl)

  -- the map has as many records as the segments have
  pub records_are : len (map_of image) ≡ sum counts
  records_are =
      sym (length-rows (rows (array_in image height)) (map_of image) (own_rows image (map_of image) height (own layout region height counts image stands)))
      ∙ checks.length-rows (array_in image height)
      ∙ ap sum stands.counts_are

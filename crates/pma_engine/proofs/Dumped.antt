-- The records of the map that a file means may be printed, where the file is one of bytes: they fit its slot format, and their keys
-- and values are bytes.
use Rattle.std.proofs.Common.{◌≡◌, inl, inr, ℕ, suc, ◌+◌, ◌-◌, ◌*◌, ◌^◌, ◌<◌, ◌≤◌, Bool, true, false, cond, ◌&&◌, List, [], ◌∷◌, ◌++◌, T, length, replicate, refl, sym, ap, ◌∙◌, subst, arith, nat_le}
use Rattle.std.specs.List.{All, flat_map, list_all, range_with_len}
use Rattle.std.specs.FinMap.{entries, entries-insert, insert, len, put, remove}
use Rattle.std.specs.FinMap.Entries.{by_order}
use Rattle.std.specs.Cmp.Lexicographic.{nat_list_cmp_total}
use Rattle.std.specs.declared.cmp.Ordering.TheVariants.{Less, Equal, Greater}
use Rattle.std.proofs.lemmas.Bool.{cases_lt}
use Rattle.std.proofs.lemmas.List.{drop_at, get_or_past, take_at}
use Rattle.std.proofs.lemmas.List.Elements.{All-append, All-cons, All-drop, All-filter, All-from_get_or, All-get_or, All-head, All-map, All-nil, All-tail, All-take, All-weaker}
use Rattle.station.specs.Bytes.{AreBytes, byte}
use Rattle.density_rule.specs.Bounds.{upper_of}
use Rattle.density_rule.proofs.Bounding.{upper_of-small}
use Rattle.header_gate.specs.Header.{layout_in, live_copy, segment_in}
use Rattle.header_gate.specs.Places.{height_limit, image_place, page_size, region_place}
use Rattle.header_gate.specs.Recovered.{is_in_page, is_journal, is_laid, laid_byte, live_shift, live_table, recovered, recovered_byte}
use Rattle.header_gate.specs.declared.layout.Layout.{Layout}
use Rattle.header_gate.proofs.RecoveredBytes.{byte-recovered, length-recovered}
use Rattle.key_slot.specs.Format.{key_room, value_room, wide}
use Rattle.key_slot.specs.Padded.{padded}
use Rattle.key_slot.specs.Record.{Bytes, Record, is_record, key_cmp}
use Rattle.key_slot.specs.Segment.{IsSegment, segment_bytes}
use Rattle.key_slot.specs.Slot.{record_slot}
use Rattle.key_slot.specs.declared.sizes.TheConstants.{KEY_AT}
use Rattle.key_slot.proofs.Truth.{both, first, second}
use Rattle.map_model.specs.Array.{Array, rows, segment_at}
use Rattle.map_model.specs.Image.{Represents, live_segment, slot_format}
use Rattle.map_model.specs.Items.{state_after_items}
use Rattle.map_model.specs.After.{map_after_items, map_after}
use Rattle.map_model.specs.Store.{Effect, FindsFull, FindsNone, Adds, IsWithin, Map, Replaces, State, Takes, Update, bind, effect_map, effect_of, key_of, unbind}
use Rattle.map_model.proofs.Effects.{most_held}
use Rattle.map_model.proofs.Entries.{entries-remove}
use Rattle.map_model.proofs.Resuming.{items_within}
use Rattle.batch_intent.specs.Gate.{intent_area}
use Rattle.batch_intent.specs.Means.{Means, has_waiting}
use Rattle.batch_intent.specs.Spelling.{Spells, bound_value, fits_item, intent_bytes, item_bytes}
use Rattle.batch_intent.specs.declared.places.TheConstants.{INTENT, INTENT_SIZE}
use Rattle.batch_intent.proofs.Meanings.{map_made}
use Rattle.command_text.specs.ReadsBack.{AllBytes, MayBeRecord}

-- Bytes and parts of them.

abbrev IsByte : ℕ → Type 0
IsByte b = b < 2 ^ 8

front : (xs ys : List ℕ) → AllBytes (xs ++ ys) → AllBytes xs
front xs ys all = subst AllBytes (take_at xs ys (length xs) refl) (All-take IsByte (length xs) (xs ++ ys) all)

behind : (xs ys : List ℕ) → AllBytes (xs ++ ys) → AllBytes ys
behind xs ys all = subst AllBytes (drop_at xs ys (length xs) refl) (All-drop IsByte (length xs) (xs ++ ys) all)

-- The live segments.

laid_small : (region : ℕ) (image : ℕ → ℕ → ℕ) (under p k : ℕ) (ns : List ℕ) → ((j o : ℕ) → image j o < 256) → under < 256 → laid_byte region image under p k ns < 256
laid_small region image under p k [] each low = low
laid_small region image under p k (n ∷ ns) each low = by (is_in_page region n p) (laid_small region image under p (suc k) ns each low)
  where
    by : (b : Bool) → laid_byte region image under p (suc k) ns < 256 → cond b (image k (p - (region + page_size * n))) (laid_byte region image under p (suc k) ns) < 256
    by true next = each k (p - (region + page_size * n))
    by false next = next

recovered_small : (l : Layout) (file : List ℕ) → AreBytes file → (p : ℕ) → recovered_byte l file p < 256
recovered_small l file are p = by (is_journal l p) (is_laid l file)
  where
    image : ℕ → ℕ → ℕ
    image k o = byte file (image_place l k + live_shift l file + o)

    by : (a b : Bool) → cond a 0 (cond b (laid_byte (region_place l (live_copy file)) image (byte file p) p 0 (live_table l file)) (byte file p)) < 256
    by true b = omega arith
    by false true = laid_small (region_place l (live_copy file)) image (byte file p) p 0 (live_table l file) (λ k o. are (image_place l k + live_shift l file + o)) (are p)
    by false false = are p

recovered_bytes : (l : Layout) (file : List ℕ) → AreBytes file → AreBytes (recovered l file)
recovered_bytes l file are p = elim (cases_lt p (length file)) [
  | inl lt ↦ subst (λ (n : ℕ). n < 256) (sym (byte-recovered l file p lt)) (recovered_small l file are p)
  | inr past ↦ subst (λ (n : ℕ). n < 256) (sym (get_or_past (recovered l file) p 0 (omega (arith, past, length-recovered l file)))) (omega arith)
]

all_bytes : (xs : List ℕ) → AreBytes xs → AllBytes xs
all_bytes xs are = All-from_get_or IsByte xs 0 (λ i lt. are i)

live_bytes : (image : List ℕ) → AreBytes image → (i : ℕ) → AllBytes (live_segment image i)
unfolding segment_in
live_bytes image are i = All-take IsByte _ _ (All-drop IsByte _ _ (all_bytes (recovered (layout_in image) image) (recovered_bytes (layout_in image) image are)))

-- Keys and values that fit a slot format.

record IsKey (f : ℕ) (key : Bytes) : Type 0 where
  bytes : AllBytes key
  some : T (nat_le 1 (length key))
  most : T (nat_le (length key) (key_room f))

record IsValue (f : ℕ) (value : Bytes) : Type 0 where
  bytes : AllBytes value
  most : T (nat_le (length value) (value_room f))

abbrev Fits : ℕ → Record → Type 0
Fits f r = IsKey f r.0 × IsValue f r.1

fits_of : (f : ℕ) (r : Record) → AllBytes r.0 → AllBytes r.1 → T (is_record f r) → Fits f r
fits_of f r key value is =
    let rest = second (nat_le 1 (length r.0)) (nat_le (length r.0) (key_room f) && nat_le (length r.1) (value_room f)) is in (
      record {
        bytes = key;
        some = first (nat_le 1 (length r.0)) (nat_le (length r.0) (key_room f) && nat_le (length r.1) (value_room f)) is;
        most = first (nat_le (length r.0) (key_room f)) (nat_le (length r.1) (value_room f)) rest;
      },
      record { bytes = value; most = second (nat_le (length r.0) (key_room f)) (nat_le (length r.1) (value_room f)) rest },
    )

may_be : (f : ℕ) (r : Record) → Fits f r → MayBeRecord f r.0 r.1
may_be f r is = record {
  key_bytes = is.0.bytes;
  value_bytes = is.1.bytes;
  fits = both (nat_le 1 (length r.0)) (nat_le (length r.0) (key_room f) && nat_le (length r.1) (value_room f)) is.0.some (both (nat_le (length r.0) (key_room f)) (nat_le (length r.1) (value_room f)) is.0.most is.1.most);
}

-- The records of an array.

slot_fits : (f : ℕ) (r : Record) → AllBytes (record_slot f r) → T (is_record f r) → Fits f r
unfolding record_slot
slot_fits f r all is =
    let fields = behind (1 ∷ length r.0 ∷ length r.1 ∷ replicate (KEY_AT - 3) 0) (padded (key_room f) r.0 ++ padded (value_room f) r.1) all in
    fits_of f r
    (front r.0 (replicate (key_room f - length r.0) 0) (front (padded (key_room f) r.0) (padded (value_room f) r.1) fields))
    (front r.1 (replicate (value_room f - length r.1) 0) (behind (padded (key_room f) r.0) (padded (value_room f) r.1) fields))
    is

slots_fit : (f : ℕ) (rs : List Record) → AllBytes (flat_map (record_slot f) rs) → T (list_all (is_record f) rs) → All (Fits f) rs
slots_fit f [] all are = All-nil (Fits f)
slots_fit f (r ∷ rs) all are =
    All-cons (Fits f) r rs (slot_fits f r (front (record_slot f r) (flat_map (record_slot f) rs) all) (first (is_record f r) (list_all (is_record f) rs) are))
    (slots_fit f rs (behind (record_slot f r) (flat_map (record_slot f) rs) all) (second (is_record f r) (list_all (is_record f) rs) are))

segment_fits : (f : ℕ) (rs : List Record) (bytes : Bytes) → IsSegment f rs bytes → AllBytes bytes → All (Fits f) rs
unfolding segment_bytes
segment_fits f rs bytes is all = slots_fit f rs (front (flat_map (record_slot f) rs) _ (subst AllBytes is.spelling all)) is.fits.records

array_fits : (f : ℕ) (array : Array) → ((i : ℕ) → i < length array → All (Fits f) (segment_at array i)) → All (Fits f) (rows array)
array_fits f [] each = All-nil (Fits f)
array_fits f (s ∷ array) each = All-append (Fits f) s (rows array) (each 0 (omega arith)) (array_fits f array (λ i lt. each (suc i) (omega (arith, lt))))

represented_fit : (image : List ℕ) (m : Map) (height : ℕ) → AreBytes image → Represents image m height → All (Fits (slot_format image)) (entries m)
represented_fit image m height are is =
    subst (All (Fits (slot_format image))) is.rows_are (array_fits (slot_format image) is.array (λ i lt. segment_fits (slot_format image) (segment_at is.array i) (live_segment image i) (is.segments i (omega (arith, lt, is.size))) (live_bytes image are i)))

-- The items of an intent.

abbrev ItemFits : ℕ → Update → Type 0
ItemFits f u = Fits f (key_of u, bound_value u)

item_fits : (f : ℕ) (u : Update) → AllBytes (item_bytes u) → T (fits_item f u) → ItemFits f u
item_fits f (bind key value) all is =
    let fields = behind (1 ∷ length key ∷ length value ∷ []) (key ++ value) all in
    fits_of f (key, value) (front key value fields) (behind key value fields) is
item_fits f (unbind key) all is = fits_of f (key, []) (behind (2 ∷ length key ∷ 0 ∷ []) key all) (All-nil IsByte) is

items_fit : (f : ℕ) (us : List Update) → AllBytes (flat_map item_bytes us) → T (list_all (fits_item f) us) → All (ItemFits f) us
items_fit f [] all are = All-nil (ItemFits f)
items_fit f (u ∷ us) all are =
    All-cons (ItemFits f) u us (item_fits f u (front (item_bytes u) (flat_map item_bytes us) all) (first (fits_item f u) (list_all (fits_item f) us) are))
    (items_fit f us (behind (item_bytes u) (flat_map item_bytes us) all) (second (fits_item f u) (list_all (fits_item f) us) are))

area_bytes : (file : List ℕ) → AreBytes file → AllBytes (intent_area file)
unfolding intent_area
area_bytes file are = All-map IsByte (λ k. byte file (INTENT + k)) (range_with_len 0 INTENT_SIZE) (λ k d lt. are _)

area_small : (area : List ℕ) → AllBytes area → AreBytes area
area_small area all k = elim (cases_lt k (length area)) [
  | inl lt ↦ All-get_or IsByte area k 0 lt all
  | inr past ↦ subst (λ (n : ℕ). n < 256) (sym (get_or_past area k 0 past)) (omega arith)
]

spelled_fit : (f : ℕ) (us : List Update) (area : List ℕ) → AreBytes area → Spells f us area → All (ItemFits f) us
spelled_fit f us area are spells =
    let all : AllBytes (intent_bytes us) = All-from_get_or IsByte (intent_bytes us) 0 (λ i lt. subst (λ (n : ℕ). n < 256) (spells.spelled i lt) (are i)) in
    items_fit f us (All-tail IsByte (length us) (flat_map item_bytes us) all) spells.fit

-- The map after them.

put_fits : (f : ℕ) (key value : Bytes) (rs : List Record) → Fits f (key, value) → All (Fits f) rs → All (Fits f) (put key_cmp key value rs)
put_fits f key value [] is all = All-cons (Fits f) (key, value) [] is all
put_fits f key value (r ∷ rs) is all =
    let here : Fits f r = All-head (Fits f) r rs all in
    let rest : All (Fits f) rs = All-tail (Fits f) r rs all in
    elim (key_cmp key r.0) as (λ o. All (Fits f) (by_order o ((key, value) ∷ r ∷ rs) ((r.0, value) ∷ rs) (r ∷ put key_cmp key value rs))) [
      | Less ↦ All-cons (Fits f) (key, value) (r ∷ rs) is all
      | Equal ↦ All-cons (Fits f) (r.0, value) rs (here.0, is.1) rest
      | Greater ↦ All-cons (Fits f) r (put key_cmp key value rs) here (put_fits f key value rs is rest)
    ]

module _ (f : ℕ) (m : Map) (all : All (Fits f) (entries m)) where
  bound_fits : (key value : Bytes) → Fits f (key, value) → All (Fits f) (entries (insert m key value))
  bound_fits key value is = subst (All (Fits f)) (sym (entries-insert nat_list_cmp_total m key value)) (put_fits f key value (entries m) is all)

  removed_fits : (key : Bytes) → All (Fits f) (entries (remove m key))
  removed_fits key = subst (All (Fits f)) (sym (entries-remove m key)) (All-filter _ (Fits f) (entries m) all)

  update_fits : (u : Update) (effect : Effect) → ItemFits f u → All (Fits f) (entries (effect_map effect m u))
  update_fits (bind key value) Replaces is = bound_fits key value is
  update_fits (bind key value) Adds is = bound_fits key value is
  update_fits (bind key value) FindsFull is = all
  update_fits (bind key value) Takes is = bound_fits key value is
  update_fits (bind key value) FindsNone is = all
  update_fits (unbind key) Replaces is = removed_fits key
  update_fits (unbind key) Adds is = removed_fits key
  update_fits (unbind key) FindsFull is = all
  update_fits (unbind key) Takes is = removed_fits key
  update_fits (unbind key) FindsNone is = all

after_items_fit : (f hmax : ℕ) (m : Map) (us : List Update) → All (Fits f) (entries m) → All (ItemFits f) us → All (Fits f) (entries (map_after_items hmax m us))
after_items_fit f hmax m [] all are = all
after_items_fit f hmax m (u ∷ us) all are =
    after_items_fit f hmax (map_after hmax m u) us (update_fits f m all u (effect_of hmax m u) (All-head (ItemFits f) u us are)) (All-tail (ItemFits f) u us are)

-- The map that a file means.

module _ (image : List ℕ) (m : Map) (means : Means (layout_in image) image m) where
  abbrev layout : Layout
  layout = layout_in image

  means_items_fit : AreBytes image → All (ItemFits layout.format) means.items
  means_items_fit are = by (has_waiting image) refl
    where
      by : (b : Bool) → has_waiting image ≡ b → All (ItemFits layout.format) means.items
      by true some = spelled_fit layout.format means.items (intent_area image) (area_small (intent_area image) (area_bytes image are)) (means.form some)
      by false none = subst (All (ItemFits layout.format)) (sym (means.idle none)) (All-nil (ItemFits layout.format))

  -- its records may be printed
  pub means_printed : AreBytes image → All (λ r. MayBeRecord layout.format r.0 r.1) (entries m)
  means_printed are =
      All-weaker (Fits layout.format) (λ r. MayBeRecord layout.format r.0 r.1) (may_be layout.format) (entries m)
      (subst (λ (n : Map). All (Fits layout.format) (entries n)) (map_made image m means)
      (after_items_fit layout.format (height_limit layout) means.base means.items (represented_fit image means.base means.height are means.represents) (means_items_fit are)))

  -- and a store in the file has room for them
  pub means_few : len m ≤ upper_of (height_limit layout)
  means_few =
      let header = means.represents.header in
      let before : State = record { map = means.base; height = means.height } in
      let limit : height_limit layout ≤ 16 = omega (arith, header.layout.hmax, header.layout.format.least) in
      let within : IsWithin (height_limit layout) means.height (len means.base) = record {
        least_is = means.represents.least_is;
        most_is = means.represents.most_is;
        height_is = omega (arith, header.height, means.represents.height_is);
        hmax_is = limit;
      } in
      subst (λ (n : Map). len n ≤ upper_of (height_limit layout)) (ap (λ (x : State). x.map) means.begins_is ∙ means.map_is)
      (most_held (height_limit layout) (state_after_items (height_limit layout) before means.items).height (len (state_after_items (height_limit layout) before means.items).map) (items_within (height_limit layout) before means.items within))

  pub means_narrow : (layout.format ≤ wide) × (len m < 2 ^ 32)
  means_narrow =
      let header = means.represents.header in
      (omega (arith, header.layout.format.most), omega (arith, means_few, upper_of-small (height_limit layout) (omega (arith, header.layout.hmax, header.layout.format.least))))

-- A batch that was looked over and then committed, or was validated alone.
use Rattle.std.proofs.Common.{◌+◌, ◌≡◌, ◌⊎◌, inl, inr, ℕ, zero, suc, ◌*◌, ◌^◌, ◌<◌, ◌≤◌, true, false, List, [], ◌∷◌, length, sum, get_or, Option, Some, None, is_some, Ok, Err, refl, sym, ap, subst, ◌∙◌, arith}
use Rattle.std.specs.Prelude.{is_ok, IfSome}
use Rattle.std.specs.FinMap.{len}
use Rattle.std.proofs.Math.Pow.{pow_mono}
use Rattle.batch_intent.specs.Means.{Means, has_waiting}
use Rattle.density_rule.specs.Windows.{IsBalanced}
use Rattle.key_slot.specs.Record.{Record}
use Rattle.key_slot.proofs.SegmentLaws.{segment_len}
use Rattle.std.proofs.lemmas.Bool.{cases_eq}
use Rattle.std.proofs.lemmas.List.{get_or_default}
use Rattle.std.proofs.lemmas.Nat.{pow_pos}
use Rattle.pma_store.specs.Touching.{IsUpdatePlace}
use Rattle.pma_store.proofs.ItemsMade.{states_map}
use Rattle.pma_store.proofs.Loaded.{pages_below}
use Rattle.batch_intent.specs.Spelling.{IsIntent}
use Rattle.batch_intent.proofs.Meanings.{update_keeps}
use Rattle.density_rule.specs.Bounds.{upper_of}
use Rattle.header_gate.specs.declared.layout.Layout.{Layout}
use Rattle.header_gate.specs.Header.{layout_in, IsGatePlace}
use Rattle.header_gate.specs.Paged.{pages_of_all, segment_image}
use Rattle.header_gate.specs.Places.{height_limit, pages_at, region_place}
use Rattle.header_gate.specs.Recovered.{Ascends, IsBatch, IsJournalSound, is_laid, replayed_over, live_table, recovered}
use Rattle.header_gate.proofs.Journals.{sound_alike, sound_on}
use Rattle.header_gate.proofs.PagedSegments.{length-pages_of_all, pages_batch, pages_fit}
use Rattle.key_slot.specs.Segment.{segment_bytes}
use Rattle.key_slot.proofs.SegmentLaws.{times_up}
use Rattle.map_model.specs.Array.{Array, counts_of, segment_at}
use Rattle.map_model.specs.ArrayState.{ArrayState, HasState, next_states}
use Rattle.map_model.specs.Batches.{IsNone, IsSegmentImage, LaysBatch}
use Rattle.map_model.specs.Holding.{HoldsMap, IsBalancedArray}
use Rattle.map_model.specs.Image.{Represents, array_of, height_of, map_of, slot_format}
use Rattle.map_model.specs.After.{map_after_items}
use Rattle.map_model.specs.Store.{Map, Update, key_of}
use Rattle.map_model.proofs.Recovering.{kept}
use Rattle.map_model.proofs.SessionLaws.{holds_of}
use Rattle.one_commit.specs.declared.changes.ItemChange.{ItemChange}
use Rattle.one_commit.specs.Editing.{AreEdits, LaysEdits}
use Rattle.one_commit.specs.Fitting.{changes_in, fit_one_commit}
use Rattle.one_commit.proofs.Edits.{are_edits}
use Rattle.one_commit.proofs.Reaching.{state_reached}
use Rattle.recovery.specs.Intents.{puts_in}
use Rattle.redo_journal.specs.Commit.{IsJournalPlace, IsNamed, frame_byte}
use Rattle.redo_journal.specs.Frames.{Batch}
use Rattle.redo_journal.specs.declared.place.Place.{Place}
use Rattle.redistribute.specs.Rearranged.{IsMovePlace}
use Rattle.segment.specs.Rows.{value_of}
use Rattle.segment.specs.declared.fault.StoreFault.{StoreFault}
use Rattle.segment_frames.specs.Lists.{held_lists, segments_in}
use Rattle.segment_frames.proofs.FrameLaws.{held_byte}
use Rattle.segment_frames.proofs.PageNumbers.{segments_ascend}
use Rattle.station.specs.Bytes.{Touched}
use Rattle.redo_journal.proofs.Live.{rest_live, rest_recovers}
use Rattle.station.specs.View.{View, Told, MayHold, EachHeld, Lawful}
use Rattle.station.specs.Steps.{Steps}
use Rattle.station.proofs.Composition.{told_of, weaken, each_on}
use Rattle.pma_store.specs.declared.validation.Validated.{Validated}
use Rattle.pma_store.specs.declared.batch_scan.BatchScan.{BatchScan}
use Rattle.pma_store.specs.AtOnce.{CommitsPages, FitsCommit}
use Rattle.pma_store.specs.StoreAnswers.{state_in}
use Rattle.pma_store.specs.Batching.{IsBatchPlace}
use Rattle.pma_store.specs.ItemEffects.{AreAllFound, AreFoundAt, ValidatesItems, counts_in, found_in, validated_of}
use Rattle.pma_store.specs.Looked.{AreLoaded, BelongThere, HasLooked, LoadsEdits, LooksOver}
use Rattle.pma_store.specs.Meaning.{BecomesMeant}
use Rattle.pma_store.specs.Once.{AreUsed}
use Rattle.pma_store.specs.StoreView.{StoreView, IsStore, Stands, StandsOn, IsOpenOn, limit_of}
use Rattle.pma_store.proofs.BatchScanLaws.{count_lists}
use Rattle.pma_store.proofs.Making.{no_fault, same_fault, stands_there, found_within}
use Rattle.pma_store.proofs.Moments.{keeps_idle, meant_idle, update_apart}
use Rattle.pma_store.proofs.Outcomes.{records_are}
use Rattle.pma_store.proofs.Rewriting.{named_inside}
use Rattle.pma_store.proofs.Standing.{array_is, rows_ascend, value_there, size_is}
use Rattle.pma_store.proofs.Touching.{moves_layout, moves_touch, wider}

-- Validated alone.

-- a key is found in its segment as the map has it
pub found_at : (s : StoreView) (image : List ℕ) (numbers : List ℕ) (items : List Update) (b : Batch) (look : BatchScan) (from : ℕ) → Stands s image → length numbers ≡ length items → BelongThere (array_of image) numbers items → ((k : ℕ) → k < length numbers → get_or numbers k 0 < from)
    → HasLooked s.place.layout.format (array_of image) numbers items b look from → AreFoundAt look.found items (map_of image)
found_at s image numbers items b look from stands size belong within looked k d lt =
    (looked.found k d lt (within k (omega (arith, lt, size)))).present
    ∙ ap (λ (i : ℕ). is_some (value_of (key_of (get_or items k d)) (segment_at (array_of image) i))) (belong k d lt)
    ∙ ap is_some (value_there s image stands (key_of (get_or items k d)))

-- what a look and its validation come to
module _ {a c : View} (items : List Update) (s : StoreView) (numbers : List ℕ) (b : Batch) (look : BatchScan) (on : StandsOn s a) (size : length numbers ≡ length items) (belong : Told a → BelongThere (array_of a.held) numbers items)
    (within : (k : ℕ) → k < length numbers → get_or numbers k 0 < 2 ^ s.tally.height) (looks : LooksOver s.place s.tally numbers items (Ok tt) b look a c) where
  pub found_before : Told a → AreFoundAt look.found items (map_of a.held)
  found_before told = found_at s a.held numbers items b look (2 ^ s.tally.height) (stands_there s on told) size (belong told) within (looks.looked told)

  pub validates : (records most : ℕ) (o : Option Validated) → most ≡ upper_of (limit_of s) → records ≡ sum s.tally.counts
      → ((hmax : ℕ) (m : Map) → most ≡ upper_of hmax → records ≡ len m → AreFoundAt look.found items m → counts_in o ≡ validated_of hmax m items)
      → IfSome o (λ validated. (k : ℕ) → k < length items → get_or validated.found k false ≡ is_ok (get_or look.found k (Err 0))) → (o ≡ None → most < records + puts_in items) → ValidatesItems items (Ok o) s s a c
  validates records most o most_is records_is validated found full = record {
    validated = λ told. validated (limit_of s) (map_of a.held) most_is (records_is ∙ records_are s a.held (stands_there s on told)) (found_before told);
    found = λ told. all_found o found told;
    full = λ none. omega (arith, full none, most_is, records_is);
    store = refl;
    steps = looks.steps;
    unwritten = looks.unwritten;
    looks = looks.looks;
    met = tt;
    damaged = tt;
    counted = tt;
    failed = no_fault o;
  }
    where
      all_found : (o : Option Validated) → IfSome o (λ validated. (k : ℕ) → k < length items → get_or validated.found k false ≡ is_ok (get_or look.found k (Err 0))) → Told a → AreAllFound (found_in o) items (map_of a.held)
      all_found None found told = tt
      all_found (Some j) found told = λ k lt d. found k lt ∙ found_before told k d lt

-- the disk failed, or a segment was found damaged
pub looks_fail : {a c : View} (items : List Update) (fault : StoreFault) (s : StoreView) (numbers : List ℕ) (b : Batch) (look : BatchScan) → s.tally.height ≤ limit_of s → LooksOver s.place s.tally numbers items (Err fault) b look a c → ValidatesItems items (Err fault) s s a c
looks_fail items fault s numbers b look tall looks = record {
  validated = tt;
  found = tt;
  full = tt;
  store = refl;
  steps = looks.steps;
  unwritten = looks.unwritten;
  looks = looks.looks;
  met = looks.met;
  damaged = looks.damaged;
  counted = found_within s looks.met.at tall looks.met.within fault looks.met.damage;
  failed = λ is. looks.failed (same_fault fault (λ e. e) is);
}

-- Committed.

-- A file that was looked over for items which fit one commit. The view is that before the commit.
pub record IsReadyAtOnce (items : List Update) (s : StoreView) (numbers : List ℕ) (b : Batch) (look : BatchScan) (validated : Validated) (changes : List ItemChange) (a : View) : Type 0 where
  pub is : IsOpenOn s a
  pub store : IsStore s
  pub intent : IsIntent items
  pub loaded : AreLoaded s.place.layout.format b look (2 ^ s.tally.height)
  pub looked : Told a → HasLooked s.place.layout.format (array_of a.held) numbers items b look (2 ^ s.tally.height)
  pub used : Told a → AreUsed s.place.layout (array_of a.held) items b look.whole
  pub belong : Told a → BelongThere (array_of a.held) numbers items
  pub journal : b.journal ≡ s.place.layout.journal
  pub fits : FitsCommit numbers items look validated s.tally changes

-- a store stands for an image without an intent
abbrev Stood : StoreView → List ℕ → Type 0
Stood s image = Stands s image × (has_waiting image ≡ false)

-- a number stands in a list, or in none of its places
pub member : (ns : List ℕ) (i : ℕ) → ((k : ℕ) × (k < length ns) × (get_or ns k 0 ≡ i)) ⊎ IsNone ns i
member [] i = inr (λ k lt. absurd (omega (arith, lt)))
member (n ∷ ns) i = elim (cases_eq n i) [
  | inl here ↦ inl (0, omega arith, here)
  | inr other ↦ elim (member ns i) [
    | inl there ↦ inl (suc there.0, omega (arith, there.1), there.2)
    | inr none ↦ inr (none_of other none)
  ]
]
  where
    none_of : (n ≡ i → ⊥) → IsNone ns i → IsNone (n ∷ ns) i
    none_of other none zero lt same = other same
    none_of other none (suc k) lt same = none k (omega (arith, lt)) same

-- the frames' segments, with the images that they hold, are the edits of the items
lays_edits : (format : ℕ) (segments : Array) (items : List Update) (b : Batch) (look : BatchScan) (from : ℕ) → AreLoaded format b look from → length segments ≡ from → LoadsEdits format segments items b from → LaysEdits format segments items (segments_in format b.numbers) (frame_byte b.slots)
lays_edits format segments items b look from loaded size loads = record {
  inside = λ k lt. omega (arith, loaded.below k (omega (arith, lt, loaded.count_is)), size);
  named = λ k lt.
      let fits = loaded.fits k (omega (arith, lt, loaded.count_is)) in
      subst (λ (own : List Record). IsSegmentImage format own (segment_image format (frame_byte b.slots) k)) (loads.named k lt) (record {
        bytes = segment_bytes format (segment_at (held_lists format b) k);
        is = record { fits = fits; spelling = refl };
        same = λ o low.
            held_byte format (held_lists format b) b.slots loaded.held.known.least loaded.held.lists k o (omega (arith, lt, count_lists format b))
            (omega (arith, low, segment_len format (segment_at (held_lists format b) k) (segment_bytes format (segment_at (held_lists format b) k)) (record { fits = fits; spelling = refl }))) fits;
      });
  unnamed = λ i lt none. loads.unnamed i (omega (arith, lt, size)) none;
}

-- What the commit of the pages of that many segments leaves of an image: it recovers to all of the batch or to nothing of it, and
-- a journal that is to be laid is that of the batch, or what it was; where there are none, it is what it was.
pub record LeavesBy (place : Place) (count : ℕ) (b : Batch) (start image : List ℕ) : Type 0 where
  pub whole : (recovered place.layout image ≡ recovered place.layout start) ⊎ (recovered place.layout image ≡ replayed_over place.layout place.region b.numbers (frame_byte b.slots) (recovered place.layout start))
  pub table : is_laid place.layout image ≡ true → (live_table place.layout image ≡ b.numbers) ⊎ ((is_laid place.layout start ≡ true) × (live_table place.layout image ≡ live_table place.layout start))
  pub none : count ≡ 0 → is_laid place.layout image ≡ true → (is_laid place.layout start ≡ true) × (live_table place.layout image ≡ live_table place.layout start)

module _ {a : View} (items : List Update) (s : StoreView) (numbers : List ℕ) (b : Batch) (look : BatchScan) (validated : Validated) (changes : List ItemChange) (ready : IsReadyAtOnce items s numbers b look validated changes a) where
  abbrev l : Layout
  l = s.place.layout

  abbrev ns : List ℕ
  ns = segments_in s.place.layout.format b.numbers

  low : s.tally.height ≤ limit_of s
  low = omega (arith, ready.store.tally.height_is, ready.store.hmax)

  ascends : Ascends (segments_in s.place.layout.format b.numbers)
  ascends = segments_ascend l.format ns ready.loaded.held.known.least (subst Ascends ready.loaded.held.pages ready.loaded.held.frames.ascends)

  -- whatever is told
  pages_below_region : (k : ℕ) → k < length b.numbers → get_or b.numbers k 0 < 2 ^ s.place.layout.hmax
  pages_below_region k lt = omega (
    arith,
    pages_below l.format b (2 ^ s.tally.height) ready.loaded.held (λ j small. ready.loaded.below j (omega (arith, small, ready.loaded.count_is))) k lt,
    times_up l.format (2 ^ s.tally.height) (2 ^ height_limit l) (pow_mono {i = s.tally.height} {j = height_limit l} low),
    pages_fit l.hmax l.format (height_limit l) ready.store.layout.format (omega arith),
  )

  moves : (d i : List ℕ) → CommitsPages s.place look.count b d i → Touched (IsMovePlace s.place) d i
  moves d i step = wider d i inside step.commits.touched
    where
      inside : (k : ℕ) → IsJournalPlace l k ⊎ (IsGatePlace k ⊎ IsNamed (region_place l s.place.region) b.numbers k) → IsMovePlace s.place k
      inside k (inl journal) = inr (inl journal)
      inside k (inr (inl gate)) = inl gate
      inside k (inr (inr named)) = inr (inr (named_inside (region_place l s.place.region) (2 ^ l.hmax) k b.numbers pages_below_region named))

  updates : (d i : List ℕ) → Stands s d → CommitsPages s.place look.count b d i → Touched (IsUpdatePlace (layout_in d)) d i
  updates d i stands step = moves_touch s d i stands (moves d i step)

  idle : (d i : List ℕ) → Stands s d → CommitsPages s.place look.count b d i → has_waiting d ≡ false → has_waiting i ≡ false
  idle d i stands step none =
      keeps_idle d i (update_keeps d i (ap (λ (l : Layout). l.format) (moves_layout s.place d i (moves d i step))) (wider d i (update_apart (layout_in d)) (updates d i stands step))) ∙ none

  pub commit_updates : {c : View} → Steps (CommitsPages s.place look.count b) a c → Steps (Touched (IsUpdatePlace s.place.layout)) a c
  commit_updates steps = weaken steps (λ d i left step.
      let stands = ready.is.on.stands d left in
      subst (λ (l : Layout). Touched (IsUpdatePlace l) d i) stands.balanced.stands.settled.layout_is (updates d i stands step))

  pub commit_touches : {c : View} → Steps (CommitsPages s.place look.count b) a c → Steps (Touched (IsBatchPlace s.place.layout)) a c
  commit_touches steps = weaken steps (λ d i left step.
      let stands = ready.is.on.stands d left in
      wider d i (λ p there. inl there) (subst (λ (l : Layout). Touched (IsUpdatePlace l) d i) stands.balanced.stands.settled.layout_is (updates d i stands step)))

  pub commit_idle : {c : View} → Steps (CommitsPages s.place look.count b) a c → EachHeld (λ image. has_waiting image ≡ false) c
  commit_idle steps = each_on (Stood s) (λ image. has_waiting image ≡ false) steps (λ d left. (ready.is.on.stands d left, ready.is.no_intent d left)) (λ d i was step. idle d i was.0 step was.1)

  -- what is left of an image that the station may hold is left of the held bytes, too
  pub leaves_held : Lawful a → (d : List ℕ) → MayHold a d → (i : List ℕ) → CommitsPages s.place look.count b d i → LeavesBy s.place look.count b a.held i
  leaves_held law d left i step =
      let rest = ready.is.on.rests.rest in
      let recovers : recovered s.place.layout d ≡ recovered s.place.layout a.held = rest_recovers s.place.layout a law rest d left in
      let live = λ (laid : is_laid s.place.layout d ≡ true). rest_live s.place.layout a law rest d left laid in
      record {
        whole = elim step.commits.whole [
          | inl same ↦ inl (same ∙ recovers)
          | inr laid ↦ inr (laid ∙ ap (replayed_over s.place.layout s.place.region b.numbers (frame_byte b.slots)) recovers)
        ];
        table = λ laid. elim (step.commits.table laid) [
          | inl is ↦ inl is
          | inr was ↦ inr ((live was.0).0, was.1 ∙ (live was.0).1)
        ];
        none = λ zero laid.
            let same : i ≡ d = step.none zero in
            let was = live (ap (is_laid s.place.layout) (sym same) ∙ laid) in
            (was.0, ap (live_table s.place.layout) same ∙ was.1);
      }

  module _ (told : Told a) where
    abbrev A : Array
    A = array_of a.held

    abbrev st : ArrayState
    st = state_in s a.held

    abbrev next : ArrayState
    next = next_states (limit_of s) (state_in s a.held) items

    pub stands : Stands s a.held
    stands = stands_there s ready.is.on told

    pub same_layout : layout_in a.held ≡ s.place.layout
    same_layout = stands.balanced.stands.settled.layout_is

    pub tall : height_of a.held ≡ s.tally.height
    tall = stands.balanced.stands.height_is

    pub counts_are : counts_of (array_of a.held) ≡ s.tally.counts
    counts_are = ap counts_of (array_is s.place.layout s.place.region s.tally.height s.tally.counts a.held stands.balanced.stands) ∙ stands.balanced.stands.counts_are

    pub size : length (array_of a.held) ≡ 2 ^ s.tally.height
    size = size_is s a.held stands

    has : HasState a.held (state_in s a.held)
    has = record { represents = stands.balanced.stands.settled.represents; array_is = refl }

    pub balanced : IsBalancedArray (height_of a.held) (array_of a.held)
    balanced = subst (λ (h : ℕ). IsBalancedArray h (array_of a.held)) (sym tall) (subst (IsBalanced s.tally.height) (sym counts_are) ready.store.balanced)

    pub changes_are : changes ≡ changes_in (array_of a.held) items
    changes_are = ready.fits.changes_are (array_of a.held) (omega (arith, size, pow_pos s.tally.height)) (rows_ascend s.place.layout s.place.region s.tally.height s.tally.counts a.held stands.balanced.stands) (ready.belong told) (ready.looked told).found

    fit : fit_one_commit (height_of a.held) (counts_of (array_of a.held)) (changes_in (array_of a.held) items) ≡ true
    fit = (λ τ. fit_one_commit (tall τ) (counts_are τ) (sym changes_are τ)) ∙ ready.fits.fit

    pub holds : HoldsMap (limit_of s) (map_of a.held) (height_of a.held) (array_of a.held)
    holds = subst (λ (l : Layout). HoldsMap (height_limit l) (map_of a.held) (height_of a.held) (array_of a.held)) same_layout (holds_of a.held (map_of a.held) (height_of a.held) stands.balanced.stands.settled.represents)

    pub are : AreEdits (limit_of s) (state_in s a.held) items (next_states (limit_of s) (state_in s a.held) items)
    are = are_edits (limit_of s) (state_in s a.held) items holds balanced ready.intent.distinct fit

    pub loads : LoadsEdits s.place.layout.format (array_of a.held) items b (2 ^ s.tally.height)
    loads = (ready.looked told).edits ready.fits.whole

    edits : LaysEdits (slot_format a.held) (array_of a.held) items (segments_in s.place.layout.format b.numbers) (frame_byte b.slots)
    edits = subst (λ (l : Layout). LaysEdits l.format (array_of a.held) items (segments_in s.place.layout.format b.numbers) (frame_byte b.slots)) (sym same_layout) (lays_edits s.place.layout.format (array_of a.held) items b look (2 ^ s.tally.height) ready.loaded size loads)

    -- what the journal held before
    journal_before : IsJournalSound s.place.layout s.tally.height a.held
    journal_before =
        subst (λ (h : ℕ). IsJournalSound s.place.layout h a.held) tall
        (subst (λ (l : Layout). IsJournalSound l (height_of a.held) a.held) same_layout stands.balanced.stands.settled.represents.journal)

    module _ (i : List ℕ) (step : LeavesBy s.place look.count b a.held i) where
      -- what the journal holds, where it is to be laid, is the batch, or what it held before
      journal : IsJournalSound (layout_in a.held) (height_of a.held) i
      journal =
          let own : IsJournalSound s.place.layout s.tally.height i = elim (cases_eq look.count 0) [
            | inl none ↦ sound_alike s.place.layout s.tally.height a.held i (step.none none) journal_before
            | inr some ↦
                let count = ready.loaded.count_is in
                let batch : IsBatch (length ns) (2 ^ s.tally.height) ns = record {
                  least_is = omega (arith, some, count);
                  most_is = omega arith;
                  ascends = ascends;
                  below = λ k d lt. omega (arith, get_or_default ns k d 0 lt, ready.loaded.below k (omega (arith, lt, count)));
                } in
                let few : l.format * length ns ≤ l.journal = omega (arith, ap length ready.loaded.held.pages, length-pages_of_all l.format ns, ready.loaded.held.frames.few, ready.journal) in
                let paged = pages_batch l.journal (2 ^ s.tally.height) l.format ns ready.loaded.held.known.least few batch in
                sound_on s.place.layout s.tally.height b.numbers a.held i step.table (subst (IsBatch l.journal (pages_at l s.tally.height)) (sym ready.loaded.held.pages) paged) journal_before
          ] in
          subst (λ (l : Layout). IsJournalSound l (height_of a.held) i) (sym same_layout) (subst (λ (h : ℕ). IsJournalSound s.place.layout h i) (sym tall) own)

      module _ (laid : recovered s.place.layout i ≡ replayed_over s.place.layout s.place.region b.numbers (frame_byte b.slots) (recovered s.place.layout a.held)) where
        pub lays : LaysBatch (segments_in s.place.layout.format b.numbers) (frame_byte b.slots) a.held i
        lays = record {
          ascends = ascends;
          below = λ k d lt. omega (arith, get_or_default ns k d 0 lt, ready.loaded.below k (omega (arith, lt, ready.loaded.count_is)), pow_mono {i = s.tally.height} {j = height_limit l} low, ap (λ (l : Layout). 2 ^ height_limit l) same_layout);
          recovers =
              ap (λ (l : Layout). recovered l i) same_layout
              ∙ laid
              ∙ ap (λ (pages : List ℕ). replayed_over s.place.layout s.place.region pages (frame_byte b.slots) (recovered s.place.layout a.held)) ready.loaded.held.pages
              ∙ sym (λ t. replayed_over (same_layout t) (stands.balanced.stands.settled.region_is t) (pages_of_all (same_layout t).format ns) (frame_byte b.slots) (recovered (same_layout t) a.held));
        }

        pub reached : HasState i (next_states (limit_of s) (state_in s a.held) items)
        reached = subst (λ (l : Layout). HasState i (next_states (height_limit l) (state_in s a.held) items)) same_layout
            (state_reached (state_in s a.held) items a.held i ns (frame_byte b.slots) has balanced ready.intent.distinct fit lays edits journal)

      becomes : Represents i (map_of a.held) (height_of a.held) ⊎ HasState i (next_states (limit_of s) (state_in s a.held) items)
      becomes = elim step.whole [
        | inl same ↦ inl (kept a.held i (map_of a.held) (height_of a.held) stands.balanced.stands.settled.represents (subst (λ (l : Layout). recovered l i ≡ recovered l a.held) (sym same_layout) same) journal)
        | inr laid ↦ inr (reached laid)
      ]

    -- at each moment the file means the map before the items or after them
    moment : (i : List ℕ) → LeavesBy s.place look.count b a.held i → layout_in i ≡ s.place.layout → has_waiting i ≡ false → Means s.place.layout i (map_of a.held) ⊎ Means s.place.layout i (map_after_items (limit_of s) (map_of a.held) items)
    moment i step laid none =
        elim (becomes i step) [
          | inl same ↦ inl (meant_idle s.place.layout i (map_of a.held) laid (height_of a.held, same) none)
          | inr reached ↦ inr (meant_idle s.place.layout i (map_after_items (limit_of s) (map_of a.held) items) laid (next.height, subst (λ (m : Map). Represents i m next.height) (states_map (limit_of s) st items) reached.represents) none)
        ]

  pub commit_means : {c : View} → Lawful a → Steps (CommitsPages s.place look.count b) a c → (m : Map) → (Told a → m ≡ map_after_items (limit_of s) (map_of a.held) items) → Steps (BecomesMeant s.place.layout (map_of a.held) m) a c
  commit_means law steps m after = weaken steps (λ d i left step.
      let told = told_of law d left in
      elim (moment told i (leaves_held law d left i step) (moves_layout s.place d i (moves d i step) ∙ (ready.is.on.stands d left).balanced.stands.settled.layout_is) (idle d i (ready.is.on.stands d left) step (ready.is.no_intent d left))) [
        | inl same ↦ inl same
        | inr next ↦ inr (subst (Means s.place.layout i) (sym (after told)) next)
      ])

-- The outcome of a batch that was committed at once.
use Rattle.std.proofs.Common.{◌≡◌, inl, inr, ℕ, ◌+◌, ◌-◌, ◌*◌, ◌^◌, ◌<◌, ◌≤◌, ◌&&◌, nat_le, cond, Bool, true, List, [], length, Option, Some, None, is_some, is_none, Ok, Err, refl, sym, ap, subst, ◌∙◌, arith, is_ok, get_or}
use Rattle.std.proofs.lemmas.Bool.Decides.{nat_tests}
use Rattle.std.proofs.lemmas.List.{take_all}
use Rattle.std.proofs.lemmas.Nat.{pow_pos}
use Rattle.station.specs.declared.station.Failed as disk
use Rattle.station.specs.View.{View, Told, Lawful}
use Rattle.station.specs.Steps.{Steps}
use Rattle.station.proofs.Composition.{told_back, told_on}
use Rattle.density_rule.specs.Bounds.{upper_of}
use Rattle.header_gate.specs.declared.layout.Layout.{Layout}
use Rattle.header_gate.specs.declared.layout.TheConstants.{INTENT_VERSION}
use Rattle.key_slot.specs.Record.{Record}
use Rattle.key_slot.proofs.SegmentLaws.{times_up}
use Rattle.map_model.specs.Array.{counts_of, segment_at}
use Rattle.map_model.specs.ArrayState.{ArrayState, HasState, next_states}
use Rattle.map_model.specs.Image.{array_in, array_of, height_of, map_of}
use Rattle.map_model.specs.Items.{accepts, first_full}
use Rattle.map_model.specs.ItemWords.{charge_after_items, count_items, no_items}
use Rattle.map_model.specs.After.{map_after_items}
use Rattle.map_model.specs.Store.{Update}
use Rattle.map_model.proofs.ItemEffects.{accepts_by}
use Rattle.map_model.specs.Batches.{KeepsHeader}
use Rattle.map_model.proofs.Batches.{batch_header}
use Rattle.map_model.proofs.Recovering.{determined, represents_own}
use Rattle.one_commit.specs.declared.changes.ItemChange.{ItemChange}
use Rattle.one_commit.specs.Editing.{AreEdits, counts_by, edited_by, items_for, marks_by_changes}
use Rattle.redo_journal.specs.Commit.{frame_byte}
use Rattle.redo_journal.specs.Frames.{Batch}
use Rattle.redo_journal.specs.Neighbours.{run_count}
use Rattle.segment.specs.Rows.{key_at}
use Rattle.segment.specs.declared.fault.StoreFault.TheVariants.{Failed}
use Rattle.segment_frames.specs.Lists.{segments_in}
use Rattle.veb_index.specs.Arrays.{IsIndexOf}
use Rattle.veb_index.specs.IndexView.{IndexView, fence_of}
use Rattle.window_tally.specs.TallyView.{TallyView}
use Rattle.pma_store.specs.declared.answers.Batch.TheVariants.{Full, NoBatch}
use Rattle.pma_store.specs.declared.validation.Validated.{Validated}
use Rattle.pma_store.specs.declared.batch_scan.BatchScan.{BatchScan}
use Rattle.pma_store.specs.StoreAnswers.{state_in}
use Rattle.pma_store.specs.AtOnce.{CommitsEdits, CommitsFrames, CommitsPages}
use Rattle.pma_store.specs.Batching.{AppliesBatch, MakesAtOnce, done_by, items_made, map_after_batch, version_of}
use Rattle.pma_store.specs.BatchCalls.{CallsBatch, LooksOnce}
use Rattle.pma_store.specs.UpdateCalls.{runs_calls}
use Rattle.pma_store.specs.Changing.{most_written}
use Rattle.pma_store.specs.Costing.{updates_cost, WritesSome}
use Rattle.pma_store.specs.ItemEffects.{counts_of as counts_validated, edits_of, validated_of, total}
use Rattle.pma_store.specs.Once.{edited_segments}
use Rattle.pma_store.specs.Rewrites.{spared_bytes}
use Rattle.pma_store.specs.StoreView.{StoreView, Stands, limit_of}
use Rattle.pma_store.proofs.BatchCalls.{commit_behind, runs_few}
use Rattle.pma_store.proofs.Batched.{fault_batch}
use Rattle.pma_store.proofs.Resting.{each_rest}
use Rattle.redo_journal.proofs.Live.{rests_settled}
use Rattle.pma_store.proofs.Committed.{IsReadyAtOnce, LeavesBy, leaves_held, member, commit_touches, commit_updates, commit_idle, commit_means, balanced, holds, are, lays, reached, loads, counts_are, changes_are, size, stands, same_layout, tall}
use Rattle.pma_store.proofs.Effects.{charges_edits, costs_edits, edits_in}
use Rattle.pma_store.proofs.Making.{no_fault, stands_again}
use Rattle.pma_store.proofs.OnceLaws.{used_few}
use Rattle.pma_store.proofs.Outcomes.{has_is}
use Rattle.pma_store.proofs.FoundItems.{AreThere, each_once, kinds_counted}
use Rattle.pma_store.proofs.Sums.{counts_once}

-- Products, and sums with them.

swap : (x y : ℕ) → x * y ≡ y * x
swap x y = grind arith

images_cover : (f count e : ℕ) → count ≤ e → 8196 * f * count + 6 ≤ 4101 * f * (2 * e) + 514
images_cover f count e le =
    let split : 4101 * f * (2 * e) ≡ 8196 * f * e + 6 * f * e = grind arith in
    omega (arith, times_up (8196 * f) count e le, split)

most_covers : (l : Layout) (height count n : ℕ) → count ≤ n → 8196 * l.format * count ≤ most_written l height * n
most_covers l height count n le =
    let some = pow_pos height in
    let one : 8196 * l.format ≤ most_written l height = omega (arith, times_up (65568 * l.format + 24) 1 (2 ^ height) some) in
    omega (arith, times_up (8196 * l.format) count n le, times_up n (8196 * l.format) (most_written l height) one, swap (8196 * l.format) n, swap (most_written l height) n)

le_true : (m n : ℕ) → m ≤ n → nat_le m n ≡ true
le_true m n le = grind (arith, nat_tests)

module _ {a : View} (items : List Update) (s : StoreView) (numbers : List ℕ) (b : Batch) (look : BatchScan) (validated : Validated) (changes : List ItemChange) (ready : IsReadyAtOnce items s numbers b look validated changes a)
    (law : Lawful a) (version : INTENT_VERSION ≤ version_of s) (validated_is : Told a → Some (counts_validated validated) ≡ validated_of (limit_of s) (map_of a.held) items) (total_is : total validated ≡ length items) where
  few : look.count ≤ edits_of validated
  few = ready.fits.few

  all : edits_of validated ≤ length items
  all = omega (arith, total_is)

  module _ (told : Told a) where
    room : first_full (limit_of s) (map_of a.held) items ≡ None
    room = (are items s numbers b look validated changes ready told).admitted

    counts_is : counts_validated validated ≡ count_items (limit_of s) (map_of a.held) items no_items
    counts_is = some_is (validated_is told ∙ ap (λ (o : Option ℕ). cond (is_some o) None (Some (count_items (limit_of s) (map_of a.held) items no_items))) room)
      where
        some_is : Some (counts_validated validated) ≡ Some (count_items (limit_of s) (map_of a.held) items no_items) → counts_validated validated ≡ count_items (limit_of s) (map_of a.held) items no_items
        some_is e = cc

    accepted : accepts (version_of s) (limit_of s) (map_of a.held) items ≡ true
    accepted = accepts_by (version_of s) (limit_of s) (map_of a.held) items ∙ (λ τ. le_true INTENT_VERSION (version_of s) version τ && is_none (room τ))

    all_items : items_made (version_of s) (limit_of s) (map_of a.held) items ≡ items
    all_items = ap (λ (b : Bool). cond b items []) accepted

    mapped : map_after_batch (version_of s) (limit_of s) (map_of a.held) items ≡ map_after_items (limit_of s) (map_of a.held) items
    mapped = ap (map_after_items (limit_of s) (map_of a.held)) all_items

    charge_is : 2 * edits_of validated ≡ charge_after_items (limit_of s) (state_in s a.held) items
    charge_is =
        let edits : edits_of validated ≡ edits_in (count_items (limit_of s) (map_of a.held) items no_items) = ap edits_in counts_is in
        let own = charges_edits (array_of a.held) (limit_of s) (map_of a.held) items no_items ready.intent.distinct (λ k d lt. sym (has_is s a.held (stands items s numbers b look validated changes ready told) _)) in
        omega (arith, edits, own) ∙ sym (are items s numbers b look validated changes ready told).charge_is

    cost_covers : 8196 * s.place.layout.format * look.count ≤ updates_cost s.place.layout (state_in s a.held) items
    cost_covers =
        let edits : edits_of validated ≡ edits_in (count_items (limit_of s) (map_of a.held) items no_items) = ap edits_in counts_is in
        let own = costs_edits s.place.layout (state_in s a.held) items no_items (holds items s numbers b look validated changes ready told) (balanced items s numbers b look validated changes ready told) room in
        omega (arith, times_up (8196 * s.place.layout.format) look.count (edits_of validated) few, own, ap (λ (n : ℕ). 8196 * s.place.layout.format * n) edits)

    writes : (c : View) → c.travel.written ≤ a.travel.written + (8196 * s.place.layout.format * look.count + 6 - spared_bytes s.place.layout) → WritesSome s.place.layout (state_in s a.held) (items_made (version_of s) (limit_of s) (map_of a.held) items) (a.travel.written + 514) c.travel.written
    writes c cost = subst (λ (us : List Update). WritesSome s.place.layout (state_in s a.held) us (a.travel.written + 514) c.travel.written) (sym all_items) (record {
      made = length items;
      some = omega arith;
      bytes = omega (arith, cost, cost_covers, ap (updates_cost s.place.layout (state_in s a.held)) (take_all (length items) items (omega arith)));
    })

  -- the calls of a commit, behind a look
  few_runs : run_count b.numbers ≤ look.count
  few_runs = omega (arith, ap run_count ready.loaded.held.pages, runs_few s.place.layout.format (segments_in s.place.layout.format b.numbers), ready.loaded.count_is)

  pub once_looked : {start c : View} (looked : LooksOnce items s.tally.height start a) → look.count ≤ length looked.looked → (Told start → look.count ≤ length (edited_segments (array_of start.held) items)) → c.calls ≤ a.calls + runs_calls s.place.layout (run_count b.numbers) → CallsBatch items s start c
  once_looked looked few_looked used calls = commit_behind items s (run_count b.numbers) looked (omega (arith, few_runs, few_looked)) (λ told. omega (arith, few_runs, used told)) calls

  -- no more segments than the items edit
  pub few_used : Told a → look.count ≤ length (edited_segments (array_of a.held) items)
  few_used told = omega (arith, ready.loaded.count_is, used_few s.place.layout (array_of a.held) items b look.whole ready.loaded.held (ready.used told))

  once_made : {c : View} → Steps (CommitsPages s.place look.count b) a c → c.travel.written ≤ a.travel.written + (8196 * s.place.layout.format * look.count + 6 - spared_bytes s.place.layout) → (look.count ≡ 0 → c.travel.written ≡ a.travel.written) → Told a → MakesAtOnce items s a c
  once_made steps cost none told =
      let edited = edited_segments (array_of a.held) items in
      record {
        touched = commit_updates items s numbers b look validated changes ready steps;
        written = omega (arith, cost, times_up (8196 * s.place.layout.format) look.count (length edited) (few_used told));
        unwritten = λ empty. none (omega (arith, few_used told, ap (length {A = ℕ}) empty));
      }

  pub not_committed : {c : View} → (fault : disk.Failed) (looked : LooksOnce items s.tally.height a a) → look.count ≤ length looked.looked → (turn : ℕ) → (frames : CommitsFrames s.place look.count (Err fault) b turn a c) → AppliesBatch items (Err Failed) s (record s { turn = turn }) a c
  not_committed {c} fault looked few_looked turn frames = fault_batch items Failed s (record s { turn = turn })
      (commit_means items s numbers b look validated changes ready law frames.steps (map_after_batch (version_of s) (limit_of s) (map_of a.held) items) mapped)
      (commit_touches items s numbers b look validated changes ready frames.steps)
      refl refl
      (λ told. writes told c frames.cost)
      (omega (arith, frames.cost, most_covers s.place.layout (limit_of s) look.count (length items) (omega (arith, few, all)))) (once_looked looked few_looked few_used frames.calls) (λ told are. once_made frames.steps frames.cost frames.none told)
      (λ told. refl) tt (inl refl) (λ failed. frames.cause)

  module _ {c : View} (looked : LooksOnce items s.tally.height a a) (few_looked : look.count ≤ length looked.looked) (law_c : Lawful c) (turn : ℕ) (index : IndexView) (tally : TallyView) (commits : CommitsEdits s.place look changes (Ok tt) b turn s.index index s.tally tally a c) where
    abbrev t : StoreView
    t = record s { tally = tally; index = index; turn = turn }

    left : Told a → LeavesBy s.place look.count b a.held c.held
    left told = leaves_held items s numbers b look validated changes ready law a.held (inl (told, refl)) c.held (commits.frames.steps.held told)

    module _ (told : Told a) where
      abbrev next : ArrayState
      next = next_states (limit_of s) (state_in s a.held) items

      has : HasState c.held (next_states (limit_of s) (state_in s a.held) items)
      has = reached items s numbers b look validated changes ready told c.held (left told) (commits.frames.laid told)

      header : KeepsHeader a.held c.held
      header = batch_header a.held c.held (segments_in s.place.layout.format b.numbers) (frame_byte b.slots) (stands items s numbers b look validated changes ready told).balanced.stands.settled.represents.header
          (lays items s numbers b look validated changes ready told c.held (left told) (commits.frames.laid told))

      edited : AreEdits (limit_of s) (state_in s a.held) items (next_states (limit_of s) (state_in s a.held) items)
      edited = are items s numbers b look validated changes ready told

      map_is : map_of c.held ≡ next.map
      map_is = sym (determined c.held next.map next.height has.represents).0

      height_is : height_of c.held ≡ next.height
      height_is = sym (determined c.held next.map next.height has.represents).1

      array_after : array_of c.held ≡ next.array
      array_after = ap (array_in c.held) height_is ∙ has.array_is

      marks_are : tally.marks ≡ next.marks
      marks_are =
          ap (λ (t : TallyView). t.marks) commits.counted
          ∙ (λ τ. marks_by_changes (sym (tall items s numbers b look validated changes ready told) τ) (changes_are items s numbers b look validated changes ready told τ) s.tally.marks)
          ∙ sym edited.marks_are

      state_is : state_in t c.held ≡ next
      state_is = λ τ. record { map = map_is τ; height = height_is τ; array = array_after τ; marks = marks_are τ }

      counts_after_is : counts_of next.array ≡ tally.counts
      counts_after_is =
          edited.counts_are
          ∙ (λ τ. counts_by (sym (changes_are items s numbers b look validated changes ready told) τ) (counts_are items s numbers b look validated changes ready told τ))
          ∙ sym (ap (λ (t : TallyView). t.counts) commits.counted)

      tall_after : next.height ≡ tally.height
      tall_after = edited.height_is ∙ tall items s numbers b look validated changes ready told ∙ sym commits.sizes.1

      -- the fences are those of the new array
      fences_are : IsIndexOf index next.array
      fences_are = record {
        size = edited.size ∙ size items s numbers b look validated changes ready told ∙ ap (λ (h : ℕ). 2 ^ h) (sym ready.store.index_height ∙ sym commits.index_sizes.1);
        fences = λ i some lt.
            let old = (stands items s numbers b look validated changes ready told).index in
            let inside : i < 2 ^ s.index.height = subst (λ (h : ℕ). i < 2 ^ h) commits.index_sizes.1 lt in
            let there : i < length (array_of a.held) = omega (arith, inside, old.size) in
            elim (member (segments_in s.place.layout.format b.numbers) i) [
              | inl named ↦
                  let k = named.0 in
                  ap (fence_of index) (sym named.2)
                  ∙ commits.fences.set k (omega (arith, named.1, ready.loaded.count_is)) (omega (arith, named.2, some))
                  ∙ ap (λ (own : List Record). key_at own 0) ((loads items s numbers b look validated changes ready told).named k named.1 ∙ ap (λ (n : ℕ). edited_by (items_for (array_of a.held) n items) (segment_at (array_of a.held) n)) named.2 ∙ sym (edited.segments_are i there))
              | inr none ↦
                  commits.fences.others i (λ k low same. none k (omega (arith, low, ready.loaded.count_is)) same)
                  ∙ old.fences i some inside
                  ∙ ap (λ (own : List Record). key_at own 0) (sym (edited.segments_are i there ∙ ap (λ (us : List Update). edited_by us (segment_at (array_of a.held) i)) ((loads items s numbers b look validated changes ready told).unnamed i (omega (arith, there, size items s numbers b look validated changes ready told)) none)))
            ];
      }

      stands_after : Stands t c.held
      stands_after = record {
        balanced = record {
          stands = record {
            settled = record {
              represents = represents_own c.held next.map next.height has.represents;
              gate_even = λ single. (rests_settled s.place.layout turn c single commits.frames.rests).1 c.held (inl (told_on commits.frames.steps.frame told, refl));
              layout_is = header.layout_is ∙ same_layout items s numbers b look validated changes ready told;
              region_is = header.live_is ∙ (stands items s numbers b look validated changes ready told).balanced.stands.settled.region_is;
            };
            height_is = height_is ∙ tall_after;
            counts_are = ap (λ (h : ℕ). counts_of (array_in c.held h)) (sym tall_after) ∙ ap counts_of has.array_is ∙ counts_after_is;
          };
          balanced = commits.balanced;
        };
        index = subst (IsIndexOf index) (sym array_after) fences_are;
      }

    pub committed : (Told a → AreThere (λ k. is_ok (get_or look.found k (Err 0))) items (map_of a.held)) → AppliesBatch items (Ok (done_by (counts_validated validated) (2 * edits_of validated))) s (record s { tally = tally; index = index; turn = turn }) a c
    committed keys = record {
      batch = record {
        answer = λ told.
            (λ τ. done_by (counts_is told τ) (charge_is told τ))
            ∙ sym (λ τ. cond (le_true INTENT_VERSION (version_of s) version τ) (cond (is_some (room told τ)) (Full (upper_of (limit_of s))) (done_by (count_items (limit_of s) (map_of a.held) items no_items) (charge_after_items (limit_of s) (state_in s a.held) items))) NoBatch);
        state = λ told. state_is told ∙ sym (ap (λ (b : Bool). cond b (next_states (limit_of s) (state_in s a.held) items) (state_in s a.held)) (accepted told));
        refused = λ refusal. absurd refusal;
        unread = λ e. absurd cc;
        meant = commit_means items s numbers b look validated changes ready law commits.frames.steps (map_after_batch (version_of s) (limit_of s) (map_of a.held) items) mapped;
        touched = commit_touches items s numbers b look validated changes ready commits.frames.steps;
        layout = refl;
        images = omega (arith, commits.frames.cost, images_cover s.place.layout.format look.count (edits_of validated) few);
        cost = λ told. omega (arith, commits.frames.cost, cost_covers told, ap (updates_cost s.place.layout (state_in s a.held)) (all_items told));
        most = λ told. writes told c commits.frames.cost;
        spent = omega (arith, commits.frames.cost, most_covers s.place.layout (limit_of s) look.count (length items) (omega (arith, few, all)));
        looks = λ refusal. absurd refusal;
        calls = once_looked looked few_looked few_used commits.frames.calls;
        at_once = λ told are. once_made commits.frames.steps commits.frames.cost commits.frames.none told;
        paid = omega (arith, commits.paid, ready.fits.listed, all);
        counted =
            let kinds = kinds_counted items (λ k. is_ok (get_or look.found k (Err 0))) changes (counts_validated validated) ready.fits.counts_are ready.fits.kinds in
            counts_once items _ s.tally.height (2 * edits_of validated) changes s.tally.counts tally.counts (counts_validated validated)
            (λ k d lt. omega (arith, ready.fits.in_store k d lt, ready.store.tally.size)) ready.fits.fit kinds.0 kinds.1 ready.fits.counts_are (ap (λ (t : TallyView). t.counts) commits.counted);
        found = each_once items (λ k. is_ok (get_or look.found k (Err 0))) (counts_validated validated) changes s (record s { tally = tally; index = index; turn = turn }) ready.fits.counts_are ready.fits.kinds ready.fits.in_store ready.fits.fit commits.counted keys;
        met = tt;
        complete = λ told calm. refl;
      };
      store = stands_again s (record s { tally = tally; index = index; turn = turn }) ready.is.on refl commits.frames.steps.frame
          (each_rest (record s { tally = tally; index = index; turn = turn }) law_c commits.frames.rests (λ told_c. stands_after (told_back commits.frames.steps.frame told_c))) commits.frames.rests;
      no_intent = commit_idle items s numbers b look validated changes ready commits.frames.steps;
      closed = refl;
      damaged = tt;
      counted = tt;
      failed = no_fault (done_by (counts_validated validated) (2 * edits_of validated));
    }

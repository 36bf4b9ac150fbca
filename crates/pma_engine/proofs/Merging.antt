-- What comes of a merge, from the map that its file means at the entry.
use Rattle.std.proofs.Common.{◌≡◌, ◌⊎◌, inl, inr, ℕ, ◌+◌, ◌-◌, ◌*◌, ◌^◌, ◌<◌, ◌≤◌, Bool, List, [], ◌++◌, false, length, take, Some, None, Result, Ok, Err, refl, sym, ◌∙◌, ap, subst, arith, sum}
use Rattle.std.specs.Prelude.{OnOk, IfOk, IfErr, IsErrOf}
use Rattle.std.specs.FinMap.{entries, from_sorted, len, len-entries}
use Rattle.std.proofs.lemmas.List.{append-nil}
use Rattle.station.specs.View.{View, Told, SaidTold, NothingPending, EachHeld, MayHold, Rose, Lawful, attached_by}
use Rattle.station.specs.Steps.{Steps, Says, Run}
use Rattle.station.specs.declared.travel.Travel.{Travel}
use Rattle.station.proofs.Composition.{each_on, only_held, told_of}
use Rattle.station.proofs.Sayings.{each_says, run_of_steps, run_of_says, run_on}
use Rattle.line_source.specs.Lines.{raw_lines}
use Rattle.line_source.specs.LineReaderView.{ReaderView, rest}
use Rattle.line_source.specs.SourceView.{SourceView, SourceTold, SourceRose}
use Rattle.header_gate.specs.Header.{layout_in}
use Rattle.header_gate.specs.InPlace.{IsBare}
use Rattle.header_gate.specs.Places.{height_limit, page_size, segment_size}
use Rattle.header_gate.specs.Recovered.{recovered}
use Rattle.header_gate.specs.declared.layout.Layout.{Layout}
use Rattle.header_gate.specs.declared.reason.Reason.{Reason}
use Rattle.key_slot.specs.Record.{Record}
use Rattle.key_slot.proofs.SegmentLaws.{times_up}
use Rattle.map_model.specs.Array.{Array, rows, spread_over}
use Rattle.map_model.specs.ArrayState.{ArrayState}
use Rattle.map_model.specs.Holding.{IsBalancedArray}
use Rattle.map_model.specs.Image.{Represents, height_of, map_of}
use Rattle.map_model.specs.ItemWords.{ItemCounts}
use Rattle.map_model.specs.Regions.{Spares}
use Rattle.map_model.specs.Standing.{StandsWith}
use Rattle.map_model.specs.Store.{Map, Update}
use Rattle.map_model.proofs.Recovering.{determined}
use Rattle.batch_intent.specs.Means.{Means, has_waiting, meant_map}
use Rattle.batch_intent.proofs.Meanings.{meant_one, means_idle, in_layout, in_own}
use Rattle.batch_intent.proofs.OpeningReasons.{means_of_none}
use Rattle.range_scan.proofs.Walks.{walk_read}
use Rattle.recovery.specs.OpeningCosts.{opening_reads}
use Rattle.recovery.specs.declared.fault.OpenFault.{OpenFault}
use Rattle.recovery.specs.declared.fault.OpenFault.TheVariants as opening
use Rattle.resize_region.proofs.SettledLaws.{array_kept}
use Rattle.segment_frames.specs.FrameStanding.{StandsFor}
use Rattle.bulk_load.specs.LoadFaults.{IsNoDisk, IsOutsideFault}
use Rattle.bulk_load.specs.LoadLines.{TakesAtMost}
use Rattle.bulk_load.specs.Loads.{IsLeastHeight, IsLoaded, Loads, most_records}
use Rattle.bulk_load.specs.MergeCauses.{IsMergeCut, IsMergeFault, IsTextFault, IsUpdatingFault}
use Rattle.bulk_load.specs.MergeText.{map_after_edits}
use Rattle.bulk_load.specs.Spreading.{load_calls, used_by}
use Rattle.bulk_load.specs.MergeUpdates.{CountsText, MergeFor, MergeTo, ReadsBeside, counts_by}
use Rattle.bulk_load.specs.declared.fault.LoadFault.{LoadFault}
use Rattle.bulk_load.specs.declared.fault.LoadFault.TheVariants as load
use Rattle.bulk_load.specs.declared.merged.Merged.{Merged}
use Rattle.bulk_load.proofs.MergeAdmitted.{admitted}
use Rattle.bulk_load.proofs.MergeLaws.{merged_are, merged_map}
use Rattle.bulk_load.proofs.MergeReading.{text_of}
use Rattle.bulk_load.proofs.ReadLaws.{takes_none}
use Rattle.command_text.specs.Reply.{reply_text}
use Rattle.command_text.specs.declared.reply.Reply.{Reply}
use Rattle.command_text.specs.declared.reply.Reply.TheVariants as reply
use Rattle.pma_store.specs.UpdateCalls.{clear_calls}
use Rattle.pma_store.specs.Opens.{CallsOpening, IsAllAtRest}
use Rattle.pma_store.specs.Readying.{clear_cost}
use Rattle.pma_store.specs.StoreView.{StoreView, IsOpenOn}
use Rattle.pma_engine.specs.Closing.{IsButClosed, StaysShut}
use Rattle.pma_engine.specs.LoadOutcome.{IsCutText, line_of_load, load_cost, text_cost}
use Rattle.pma_engine.specs.MergeOutcome.{AnswersMerge, BeginsLine, EndsMerge, HasEdits, IsFileMerged, IsMergeAnswer, IsMergeCutEarly, IsMergeDone, IsMergeRefused, IsMerged, MayMerge, MayMergeOn, MeansMerged, MergesFile, MergesOpened, SaysMerged, line_of_merge, merge_calls, merge_reads, merged_line}
use Rattle.pma_engine.specs.RunOpening.{IsOpened, IsUnopened, Reopens, reopening_calls, reopening_cost}
use Rattle.pma_engine.specs.Outcome.{IsRunStatus}
use Rattle.pma_engine.specs.Jobs.{TakesNothing}
use Rattle.pma_engine.specs.Refusing.{IsRefusal, SaysLine, line_text, line_of_opening, status_of_opening}
use Rattle.pma_engine.specs.Serving.{fresh_reader}
use Rattle.pma_engine.specs.Headline.{IsPartSaid}
use Rattle.pma_engine.specs.Upgrading.{KeepsMeaning, opened_height}
use Rattle.pma_engine.specs.declared.status.TheConstants.{DONE, REFUSED, DISK_FAULT, SCRIPT_FAULT, REPLY_FAULT, OUT_OF_MEMORY, TOO_LONG}
use Rattle.pma_engine.specs.declared.words.Job.TheVariants as asked
use Rattle.pma_engine.proofs.Calling.{opening_more}
use Rattle.pma_engine.proofs.Dumped.{means_few}
use Rattle.pma_engine.proofs.Meant.{opened_map}
use Rattle.pma_engine.proofs.MergeDue.{may_go_on, refused_at, results_in_more}
use Rattle.pma_engine.proofs.OutcomeLaws.{no_map}
use Rattle.pma_engine.proofs.Upgrading.{keeps_opened, keeps_on, none_told, said_since, spared_none, stands_told, represents_idle}

-- What may be left.

-- nothing of a line was said
pub none_begun : (said_before said : List ℕ) → said ≡ said_before → (line : Reply) → BeginsLine said_before said line
none_begun said_before said same line = record { count = 0; within = omega arith; said_is = same ∙ sym (append-nil said_before) }

-- a front of a line was said behind what was said before
pub front_begun : (said_before mid said : List ℕ) (line : Reply) → mid ≡ said_before → (n : ℕ) → n ≤ length (reply_text line) → said ≡ mid ++ take n (reply_text line) → BeginsLine said_before said line
front_begun said_before mid said line same n within is = record { count = n; within = within; said_is = is ∙ ap (λ (x : List ℕ). x ++ take n (reply_text line)) same }

-- what keeps the map, with a line that refuses something
pub may_keep : (s : SourceView) (IsSaid : Reply → Type 0) (line : Reply) → IsRefusal line → IsSaid line → {old new : List ℕ} → KeepsMeaning old new → MayMerge s IsSaid old new
may_keep s IsSaid line refuses said keeps m here = inl (keeps m here, (line, refuses, said))

pub may_tell : (s : SourceView) (IsSaid Tells : Reply → Type 0) → ((line : Reply) → IsSaid line → Tells line) → {old new : List ℕ} → MayMerge s IsSaid old new → MayMerge s Tells old new
may_tell s IsSaid Tells more moved m here = elim (moved m here) [
  | inl keeps ↦ inl (keeps.0, (keeps.1.0, keeps.1.1, more keeps.1.0 keeps.1.2))
  | inr text ↦ inr (text.0, text.1, more (merged_line text.0) text.2)
]

-- from an image that means what an earlier one does, in its layout
pub may_since : (s : SourceView) (IsSaid : Reply → Type 0) {old mid new : List ℕ} → KeepsMeaning old mid → layout_in mid ≡ layout_in old → MayMerge s IsSaid mid new → MayMerge s IsSaid old new
may_since s IsSaid {old} {mid} {new} keeps same moved m here = elim (moved m (in_own mid m (keeps m here))) [
  | inl stays ↦ inl (in_layout new m same stays.0, stays.1)
  | inr text ↦ inr (text.0, subst (λ (x : Layout). MeansMerged x m s text.0 new) same text.1, text.2)
]

-- The merge into an open store.

-- what `merge_rows` says of a store, where it answered r
pub record FactsBy (reader : ReaderView) (r : Result Merged LoadFault) (s : StoreView) (s0 s1 : SourceView) (a b : View) : Type 0 where
  pub merged : IfOk r (λ merged. (rows : List Record) × IsLoaded s.place rows merged.records merged.height (MergeFor s.place.layout reader s0 a (counts_by merged)) b)
  pub counted : IfOk r (λ merged. SourceTold s0 → CountsText s.place.layout.format (raw_lines (rest reader s0)) (counts_by merged))
  pub whole : OnOk r (SourceTold s0 → (s1.left ≡ []) × (length s0.left < reader.room))
  pub takes : SourceTold s0 → TakesAtMost reader.room s0 s1
  pub settled : OnOk r (NothingPending b)
  pub steps : Steps (Loads s.place (MergeTo s.place.layout reader s0 a)) a b
  pub cost : IfOk r (λ merged. b.travel.written ≤ a.travel.written + (2 * segment_size s.place.layout * 2 ^ merged.height + 9))
  pub most_cost : b.travel.written ≤ a.travel.written + (2 * segment_size s.place.layout * 2 ^ height_limit s.place.layout + 9)
  pub most_calls : b.calls ≤ a.calls + (2 ^ s.tally.height + load_calls s.place.layout (most_records s.place.layout) (2 ^ height_limit s.place.layout))
  pub reads : (n : ℕ) × (n ≤ 2 ^ s.tally.height) × ReadsBeside s.place n (segment_size s.place.layout * used_by (most_records s.place.layout)) a.travel b.travel
  pub fault : IfErr r (IsMergeFault s.place.layout.format (most_records s.place.layout) a reader s0 s1)
  pub text : IfErr r (IsTextFault s.place.layout.format (most_records s.place.layout) (sum s.tally.counts) reader s0 s1)
  pub kept : IfErr r (λ fault. IsNoDisk fault → EachHeld (StandsFor s.place s.tally) b)
  pub failed : IsErrOf r load.Disk → Rose a.disk_faults b.disk_faults

-- from a fresh reader on
abbrev pub Facts : ℕ → Result Merged LoadFault → StoreView → SourceView → SourceView → View → View → Type 0
Facts most r s s0 s1 a b = FactsBy (fresh_reader most) r s s0 s1 a b

pub facts_from : (most : ℕ) (reader : ReaderView) → reader ≡ fresh_reader most → (r : Result Merged LoadFault) (s : StoreView) (s0 s1 : SourceView) (a b : View) → FactsBy reader r s s0 s1 a b → Facts most r s s0 s1 a b
facts_from most reader fresh r s s0 s1 a b facts = subst (λ (x : ReaderView). FactsBy x r s s0 s1 a b) fresh facts

module _ (most : ℕ) (s : StoreView) (s0 s1 : SourceView) (a : View) (law : Lawful a) (opened : IsOpenOn s a) (nothing : NothingPending a) (bare : Told a → IsBare s.place.layout a.held) where
  -- the store's own map
  own_map : Told a → (m : Map) → Means (layout_in a.held) a.held m → m ≡ map_of a.held
  own_map told m here = (determined a.held m here.height (represents_idle a.held m here (none_told a s opened told))).0

  layout_told : Told a → layout_in a.held ≡ s.place.layout
  layout_told told = (stands_told a s opened told).settled.layout_is

  -- an image that represents what results
  abbrev means_merged : (image : List ℕ) → Told a → (found : ItemCounts) (rs : List Record) (height : ℕ) → MergeFor s.place.layout (fresh_reader most) s0 a found rs → IsLeastHeight (length rs) height → Represents image (from_sorted rs) height
      → has_waiting image ≡ false → layout_in image ≡ s.place.layout → MeansMerged s.place.layout (map_of a.held) s0 found image
  means_merged image told found rs height out least represents none same =
      let m = map_of a.held in
      let edits = (out told).edits in
      let up = (out told).ascending in
      let count : length rs ≡ len (map_after_edits m edits) = ap length (out told).rows_are ∙ sym (ap length (merged_are m edits up)) ∙ sym (len-entries (map_after_edits m edits)) in
      let means : Means (layout_in image) image (map_after_edits m edits) =
      means_idle image (map_after_edits m edits) height (subst (λ (x : Map). Represents image x height) (ap from_sorted (out told).rows_are ∙ merged_map m edits up) represents) none in
      record {
        edits = edits;
        text = λ told_s. (text_of s.place.layout.format (most_records s.place.layout) (entries m) (raw_lines s0.left) edits ((out told).text told_s), subst (λ (x : Layout). len (map_after_edits m edits) ≤ most_records x) same (means_few image (map_after_edits m edits) means));
        found_is = (out told).found_is;
        least = subst (λ (n : ℕ). IsLeastHeight n height) count least;
        means = in_layout image (map_after_edits m edits) same means;
      }

  -- for each map that the file means
  merged_for : (told : Told a) (m : Map) (here : Means (layout_in a.held) a.held m) (found : ItemCounts) (image : List ℕ) → MeansMerged s.place.layout (map_of a.held) s0 found image → MeansMerged (layout_in a.held) m s0 found image
  merged_for told m here found image is = subst (λ (x : Layout × Map). MeansMerged x.0 x.1 s0 found image) (λ i. (sym (layout_told told) i, sym (own_map told m here) i)) is

  module _ (image : List ℕ) (told : Told a) (moved : Loads s.place (MergeTo s.place.layout (fresh_reader most) s0 a) a.held image) where
    no_intent : has_waiting image ≡ false
    no_intent = spared_none s.place.layout (1 - s.place.region) a.held image (ap (λ (x : Layout). x.version) moved.layout_is) moved.touched (none_told a s opened told)

    same_layout : layout_in image ≡ s.place.layout
    same_layout = moved.layout_is ∙ layout_told told

    -- whatever is said
    may : (IsSaid : Reply → Type 0) → ((line : Reply) → IsSaid line) → MayMerge s0 IsSaid a.held image
    may IsSaid all m here = elim (moved.map_is m here.height (represents_idle a.held m here (none_told a s opened told))) [
      | inl same ↦ inl (in_layout image m moved.layout_is (means_idle image m here.height same no_intent), (reply.OneSegment, tt, all reply.OneSegment))
      | inr text ↦ inr (
        text.text.0,
        merged_for told m here text.text.0 image (means_merged image told text.text.0 text.rows text.height text.text.1 text.least text.represents no_intent same_layout),
        all (merged_line text.text.0),
      )
    ]

    -- where it stands for the counts of before
    keeps : StandsFor s.place s.tally image → KeepsMeaning a.held image
    unfolding map_of
    keeps stands m here =
        let spares : Spares s.place.layout s.place.region a.held image = record { live_is = stands.settled.region_is; touched = moved.touched } in
        let same : map_of image ≡ m = ap (λ (x : Array). from_sorted (rows x)) (array_kept s.place a.held image (stands_told a s opened told).settled (bare told) spares) ∙ sym (own_map told m here) in
        in_layout image m moved.layout_is (means_idle image m (height_of image) (subst (λ (n : Map). Represents image n (height_of image)) same stands.settled.represents) no_intent)

  module _ (r : Result Merged LoadFault) (b : View) (facts : Facts most r s s0 s1 a b) where
    -- all that the station may hold then was made of what it held
    each_moved : EachHeld (λ image. Told a × Loads s.place (MergeTo s.place.layout (fresh_reader most) s0 a) a.held image) b
    each_moved =
        each_on (λ d. Told a × (d ≡ a.held)) (λ i. Told a × Loads s.place (MergeTo s.place.layout (fresh_reader most) s0 a) a.held i) facts.steps
        (λ image left. (told_of law image left, only_held a nothing image left))
        (λ d i p step. (p.0, subst (λ (x : List ℕ). Loads s.place (MergeTo s.place.layout (fresh_reader most) s0 a) x i) p.1 step))

    told_on : Told a → Told b
    told_on told = ap (λ f. f.tells_held) facts.steps.frame.fixed ∙ told

    said_on : SaidTold a → SaidTold b
    said_on told = ap (λ f. f.tells_said) facts.steps.frame.fixed ∙ told

    runs : Run (λ image said. MayMerge s0 (BeginsLine a.said said) a.held image) a b
    runs = run_of_steps (λ image said. MayMerge s0 (BeginsLine a.said said) a.held image) facts.steps
        (λ honest start image left step. may image (law.tells honest).0 (subst (λ (x : List ℕ). Loads s.place (MergeTo s.place.layout (fresh_reader most) s0 a) x image) (nothing honest start left) step)
        (BeginsLine a.said a.said) (none_begun a.said a.said refl))

    still : Told a → MayMerge s0 (λ line. SaidTold a → BeginsLine a.said b.said line) a.held b.held
    still told = let p = each_moved b.held (inl (told_on told, refl)) in may b.held p.0 p.1 (λ line. SaidTold a → BeginsLine a.said b.said line) (λ line said. none_begun a.said b.said facts.steps.frame.said line)

    read : b.travel.read ≤ a.travel.read + merge_reads s.place.layout s.tally.height
    read =
        let size = segment_size s.place.layout in
        let n = facts.reads.0 in
        omega (
          arith,
          facts.reads.2.bytes_are,
          ap (λ (x : Travel). x.read) facts.reads.2.walks,
          walk_read s.place.layout s.place.region 0 n a.travel,
          times_up size (n - 0) (2 ^ s.tally.height) (omega (arith, facts.reads.1)),
        )

  -- where it answered a fault
  module _ (fault : LoadFault) (b : View) (facts : Facts most (Err fault) s s0 s1 a b) where
    each_kept : IsNoDisk fault → EachHeld (KeepsMeaning a.held) b
    each_kept no_disk image left = let p = each_moved (Err fault) b facts image left in keeps image p.0 p.1 (facts.kept no_disk image left)

    outside : SourceTold s0 → Told a → (edits : List Update) → HasEdits s.place.layout (map_of a.held) s0 edits → length s0.left < most → IsOutsideFault s0 s1 fault
    outside told_s told edits text short =
        admitted s.place.layout.format (most_records s.place.layout) (map_of a.held) (fresh_reader most) s0 s1 edits fault (text told_s).0 (text told_s).1 told_s short
        (subst (λ (t : Bool). IsUpdatingFault s.place.layout.format (most_records s.place.layout) t (map_of a.held) (fresh_reader most) s0 s1 fault) told facts.fault)

    -- a text that is admitted isn't met by it, where no count rose
    abbrev NoText : View → Type 0
    NoText d = SourceTold s0 → Told a → (edits : List Update) → HasEdits s.place.layout (map_of a.held) s0 edits → length s0.left < most → (Rose a.disk_faults d.disk_faults → ⊥) → (SourceRose s0 s1 → ⊥) → ⊥

    -- a refusal
    refused_by : (d : View) (line : Reply) → IsRefusal line → Says (reply_text line) b d → (SaidTold b → SaysLine line b.said b d) → d.calls ≤ b.calls + 512 → (Told a → AnswersMerge s.place.layout (map_of a.held) s0 line) → IsNoDisk fault → NoText d
        → MergesOpened REFUSED most s.place.layout s.tally.height 0 0 s0 s1 a d
    refused_by d line refuses says whole few answers no_disk no_text = record {
      status_is = inr (inl refl);
      run =
          run_on (λ image said. MayMerge s0 (BeginsLine a.said said) a.held image) (runs (Err fault) b facts)
          (run_of_says (λ image said. MayMerge s0 (BeginsLine a.said said) a.held image) says
          (λ honest image n left within. may_keep s0 (BeginsLine a.said (b.said ++ take n (reply_text line))) line refuses (front_begun a.said b.said (b.said ++ take n (reply_text line)) line facts.steps.frame.said n within refl) (each_kept no_disk image (inr (honest, left)))))
          (λ honest image said moved. moved) (λ honest image said moved. moved);
      held = λ told.
          may_keep s0 (λ x. SaidTold a → BeginsLine a.said d.said x) line refuses
          (λ said_told. let t = says.taken (said_on (Err fault) b facts said_told) in front_begun a.said b.said d.said line facts.steps.frame.said t.0 t.1 t.2)
          (each_says (KeepsMeaning a.held) says (each_kept no_disk) d.held (inl (ap (λ f. f.tells_held) says.fixed ∙ told_on (Err fault) b facts told, refl)));
      merged = λ e. absurd (elim e [ inl x ↦ omega (arith, x) | inr x ↦ omega (arith, x) ]);
      whole = λ e. absurd (elim e [ inl x ↦ omega (arith, x) | inr x ↦ omega (arith, x) ]);
      counted = λ e. absurd (elim e [ inl x ↦ omega (arith, x) | inr x ↦ omega (arith, x) ]);
      settled = λ e. absurd (elim e [ inl x ↦ omega (arith, x) | inr x ↦ omega (arith, x) ]);
      kept = λ not_done not_disk. each_says (KeepsMeaning a.held) says (each_kept no_disk);
      silent = λ not_done other. absurd (other refl);
      line = λ e told. (line, refuses, from told);
      why = λ e told. (line, answers told, from);
      takes = facts.takes;
      too_long = λ e. absurd (omega (arith, e));
      early = λ e. absurd (elim e [ inl x ↦ omega (arith, x) | inr x ↦ omega (arith, x) ]);
      admitted = λ told_s told edits text short calm_disk calm_say calm_script. absurd (no_text told_s told edits text short calm_disk calm_script);
      written = λ e. absurd (elim e [ inl x ↦ omega (arith, x) | inr x ↦ omega (arith, x) ]);
      most_written = omega (arith, facts.most_cost, ap (λ (t : Travel). t.written) says.travel);
      read = omega (arith, read (Err fault) b facts, ap (λ (t : Travel). t.read) says.travel);
      calls = omega (arith, facts.most_calls, few);
      disk = λ e. absurd (omega (arith, e));
      script = λ e. absurd (omega (arith, e));
      reply = λ e. absurd (omega (arith, e));
    }
      where
        from : SaidTold a → SaysLine line a.said a d
        from told = said_since a b d line facts.steps.frame.said (sym facts.steps.frame.say_faults) (whole (said_on (Err fault) b facts told))

    -- a fault of which nothing is said
    stopped_by : (status : ℕ) → (status ≡ DISK_FAULT) ⊎ IsCutText status → ((status ≡ DISK_FAULT → ⊥) → IsNoDisk fault) → (status ≡ DISK_FAULT → fault ≡ load.Disk) → (status ≡ SCRIPT_FAULT → SourceRose s0 s1)
        → (status ≡ TOO_LONG → SourceTold s0 → length s0.left ≡ length s1.left + most) → (IsCutText status → SourceTold s0 → Told a → IsMergeCutEarly s.place.layout (map_of a.held) s0 s1) → NoText b → MergesOpened status most s.place.layout s.tally.height 0 0 s0 s1 a b
    stopped_by status is no_disk disk_is script_is spent early no_text = record {
      status_is = elim is [ inl e ↦ inr (inr e) | inr (inl e) ↦ inl (inl (inr (inl e))) | inr (inr e) ↦ inl (inl (inr (inr e))) ];
      run = runs (Err fault) b facts;
      held = still (Err fault) b facts;
      merged = λ e. absurd (not_done e);
      whole = λ e. absurd (not_done e);
      counted = λ e. absurd (not_done e);
      settled = λ e. absurd (not_done e);
      kept = λ never not_disk. each_kept (no_disk not_disk);
      silent = λ never other. facts.steps.frame.said;
      line = λ e. absurd (other REFUSED e ((λ x. omega (arith, x)), (λ x. omega (arith, x)), (λ x. omega (arith, x))));
      why = λ e. absurd (other REFUSED e ((λ x. omega (arith, x)), (λ x. omega (arith, x)), (λ x. omega (arith, x))));
      takes = facts.takes;
      too_long = spent;
      early = early;
      admitted = λ told_s told edits text short calm_disk calm_say calm_script. absurd (no_text told_s told edits text short calm_disk calm_script);
      written = λ e. absurd (not_done e);
      most_written = omega (arith, facts.most_cost);
      read = read (Err fault) b facts;
      calls = omega (arith, facts.most_calls);
      disk = λ e. facts.failed (ap Err (disk_is e));
      script = script_is;
      reply = λ e. absurd (other REPLY_FAULT e ((λ x. omega (arith, x)), (λ x. omega (arith, x)), (λ x. omega (arith, x))));
    }
      where
        other : (n : ℕ) → status ≡ n → (n ≡ 4 → ⊥) × (n ≡ 5 → ⊥) × (n ≡ 8 → ⊥) → ⊥
        other n e never = elim is [ inl x ↦ never.0 (sym e ∙ x) | inr (inl x) ↦ never.1 (sym e ∙ x) | inr (inr x) ↦ never.2 (sym e ∙ x) ]

        not_done : IsMergeDone status → ⊥
        not_done (inl e) = other DONE e ((λ x. omega (arith, x)), (λ x. omega (arith, x)), (λ x. omega (arith, x)))
        not_done (inr e) = other REPLY_FAULT e ((λ x. omega (arith, x)), (λ x. omega (arith, x)), (λ x. omega (arith, x)))

  -- what was read so far makes no refusal due
  cut_early : IsMergeCut s.place.layout.format (most_records s.place.layout) (map_of a.held) (fresh_reader most) s0 s1 → IsMergeCutEarly s.place.layout (map_of a.held) s0 s1
  cut_early is = record {
    taken = is.cut.taken;
    is = is.cut.is;
    lines = subst (MayMergeOn s.place.layout.format (most_records s.place.layout) (map_of a.held)) (sym is.cut.complete) (may_go_on s.place.layout.format (most_records s.place.layout) (map_of a.held) is.given is.edits is.ended is.reading);
  }

  -- a merged text
  module _ (done : Merged) (b : View) (facts : Facts most (Ok done) s s0 s1 a b) where
    -- each image that a crash leaves then, and the held bytes, mean what results
    each_merged : EachHeld (λ image. Told a × MeansMerged s.place.layout (map_of a.held) s0 (counts_by done) image) b
    each_merged image left =
        let p = each_moved (Ok done) b facts image left in
        let is = facts.merged.1 in
        (p.0, means_merged image p.0 (counts_by done) facts.merged.0 done.height is.text is.least (is.represents image left) (no_intent image p.0 p.1) (same_layout image p.0 p.1))

    is_merged : Told a → IsFileMerged s.place.layout (map_of a.held) s0 (counts_by done) b.held
    is_merged told =
        let is = facts.merged.1 in
        let told_b : Told b = told_on (Ok done) b facts told in
        let moved = (each_moved (Ok done) b facts b.held (inl (told_b, refl))).1 in
        let none = no_intent b.held told moved in
        let out = is.text told in
        record {
          text = means_merged b.held told (counts_by done) facts.merged.0 done.height is.text is.least (is.represents b.held (inl (told_b, refl))) none (same_layout b.held told moved);
          no_intent = none;
          array = is.array told_b ∙ ap (spread_over (2 ^ done.height)) (out.rows_are ∙ sym (merged_are (map_of a.held) out.edits out.ascending));
          balanced = subst (IsBalancedArray done.height) (sym (is.array told_b)) is.balanced;
        }

    -- with a front of a line, whatever is said
    may_merged : (IsSaid : Reply → Type 0) → IsSaid (merged_line (counts_by done)) → (image : List ℕ) → MayHold b image → MayMerge s0 IsSaid a.held image
    may_merged IsSaid said image left m here = let p = each_merged image left in inr (counts_by done, merged_for p.0 m here (counts_by done) image p.1, said)

    done_by : (status : ℕ) → IsMergeDone status → (d : View) → Says (reply_text (merged_line (counts_by done))) b d → (SaidTold b → SaysMerged status b.said d.said (merged_line (counts_by done)))
        → (status ≡ REPLY_FAULT → Rose b.say_faults d.say_faults) → d.calls ≤ b.calls + 512 → MergesOpened status most s.place.layout s.tally.height 0 0 s0 s1 a d
    done_by status is d says made fails few = record {
      status_is = elim is [ inl e ↦ inl (inl (inl e)) | inr e ↦ inl (inr e) ];
      run =
          run_on (λ image said. MayMerge s0 (BeginsLine a.said said) a.held image) (runs (Ok done) b facts)
          (run_of_says (λ image said. MayMerge s0 (BeginsLine a.said said) a.held image) says
          (λ honest image n left within. may_merged (BeginsLine a.said (b.said ++ take n (reply_text line))) (front_begun a.said b.said (b.said ++ take n (reply_text line)) line facts.steps.frame.said n within refl) image (inr (honest, left))))
          (λ honest image said moved. moved) (λ honest image said moved. moved);
      held = λ told.
          subst (MayMerge s0 (λ x. SaidTold a → BeginsLine a.said d.said x) a.held) (sym says.held)
          (may_merged (λ x. SaidTold a → BeginsLine a.said d.said x)
          (λ said_told. let t = says.taken (said_on (Ok done) b facts said_told) in front_begun a.said b.said d.said line facts.steps.frame.said t.0 t.1 t.2) b.held (inl (told_on (Ok done) b facts told, refl)));
      merged = λ e told. (
        counts_by done,
        subst (IsFileMerged s.place.layout (map_of a.held) s0 (counts_by done)) (sym says.held) (is_merged told),
        (λ said_told. subst (λ (x : List ℕ). SaysMerged status x d.said line) facts.steps.frame.said (made (said_on (Ok done) b facts said_told))),
      );
      whole = λ e told. let text = facts.counted told in record { format = s.place.layout.format; edits = text.edits; text = text.text; all = (facts.whole told).0; short = (facts.whole told).1 };
      counted = λ e told said_told. record {
        format = s.place.layout.format;
        found = counts_by done;
        text = facts.counted told;
        line = subst (λ (x : List ℕ). SaysMerged status x d.said line) facts.steps.frame.said (made (said_on (Ok done) b facts said_told));
      };
      settled = λ e honest image left.
          let honest_b = ap (λ f. f.honest) (sym says.fixed) ∙ honest in
          facts.settled honest_b image (says.images honest_b image left) ∙ sym says.held;
      kept = λ never. absurd (never is);
      silent = λ never. absurd (never is);
      line = λ e. absurd (other REFUSED e ((λ x. omega (arith, x)), (λ x. omega (arith, x))));
      why = λ e. absurd (other REFUSED e ((λ x. omega (arith, x)), (λ x. omega (arith, x))));
      takes = facts.takes;
      too_long = λ e. absurd (other TOO_LONG e ((λ x. omega (arith, x)), (λ x. omega (arith, x))));
      early = λ e. absurd (elim e [ inl x ↦ other SCRIPT_FAULT x ((λ y. omega (arith, y)), (λ y. omega (arith, y))) | inr x ↦ other TOO_LONG x ((λ y. omega (arith, y)), (λ y. omega (arith, y))) ]);
      admitted = λ told_s told edits text short calm_disk calm_say calm_script. elim is [ inl e ↦ e | inr e ↦ absurd (calm_say (omega (arith, fails e, facts.steps.frame.say_faults))) ];
      written = λ e told.
          let spent : b.travel.written ≤ a.travel.written + text_cost s.place.layout (height_of b.held) =
          subst (λ (h : ℕ). b.travel.written ≤ a.travel.written + text_cost s.place.layout h) (sym (facts.merged.1.represents b.held (inl (told_on (Ok done) b facts told, refl))).height_is) facts.cost in
          omega (arith, spent, ap (λ (t : Travel). t.written) says.travel, ap (λ (x : List ℕ). text_cost s.place.layout (height_of x)) says.held);
      most_written = omega (arith, facts.most_cost, ap (λ (t : Travel). t.written) says.travel);
      read = omega (arith, read (Ok done) b facts, ap (λ (t : Travel). t.read) says.travel);
      calls = omega (arith, facts.most_calls, few);
      disk = λ e. absurd (other DISK_FAULT e ((λ x. omega (arith, x)), (λ x. omega (arith, x))));
      script = λ e. absurd (other SCRIPT_FAULT e ((λ x. omega (arith, x)), (λ x. omega (arith, x))));
      reply = λ e. omega (arith, fails e, facts.steps.frame.say_faults);
    }
      where
        line : Reply
        line = merged_line (counts_by done)

        other : (n : ℕ) → status ≡ n → (n ≡ 0 → ⊥) × (n ≡ 6 → ⊥) → ⊥
        other n e never = elim is [ inl x ↦ never.0 (sym e ∙ x) | inr x ↦ never.1 (sym e ∙ x) ]

  module _ (b d : View) (few : d.calls ≤ b.calls + 512) where
    -- what `end_merged` says, by what was answered
    abbrev Ends : Result Merged LoadFault → ℕ → Type 0
    Ends r status = IfOk r (λ found. SaidTold b → SaysMerged status b.said d.said (merged_line (counts_by found)))
        × OnOk r (status ≡ REPLY_FAULT → Rose b.say_faults d.say_faults)
        × IfErr r (λ fault. (line : Reply) → line_of_load (Err fault) ≡ Some line → SaidTold b → SaysLine line b.said b d)

    pub merged_of : (r : Result Merged LoadFault) (status : ℕ) → EndsMerge r status → Facts most r s s0 s1 a b → Says (line_text (line_of_merge r)) b d → (line_of_merge r ≡ None → d ≡ b) → Ends r status → MergesOpened status most s.place.layout s.tally.height 0 0 s0 s1 a d
    merged_of (Ok done) status is facts says silent ends = done_by done b facts status is d says ends.0 ends.1 few
    merged_of (Err (load.NotEmpty n)) status is facts says silent ends = absurd facts.fault
    merged_of (Err (load.Line n)) status is facts says silent ends = subst (λ k. MergesOpened k most s.place.layout s.tally.height 0 0 s0 s1 a d) (sym is)
        (refused_by (load.Line n) b facts d (reply.LoadLine n) tt says (ends.2 (reply.LoadLine n) refl) few
        (λ told. inl (n, refl, (λ told_s. refused_at s.place.layout.format (most_records s.place.layout) (map_of a.held) (raw_lines s0.left) n (facts.fault told_s told)))) tt
        (λ told_s told edits text short calm_disk calm_script. outside (load.Line n) b facts told_s told edits text short))
    merged_of (Err (load.Full n)) status is facts says silent ends = subst (λ k. MergesOpened k most s.place.layout s.tally.height 0 0 s0 s1 a d) (sym is)
        (refused_by (load.Full n) b facts d (reply.LoadFull n) tt says (ends.2 (reply.LoadFull n) refl) few
        (λ told. inr (ap reply.LoadFull facts.fault.0, (λ told_s. results_in_more s.place.layout.format (most_records s.place.layout) (map_of a.held) (raw_lines s0.left) (facts.fault.1 told_s told)))) tt
        (λ told_s told edits text short calm_disk calm_script. outside (load.Full n) b facts told_s told edits text short))
    merged_of (Err load.Disk) status is facts says silent ends =
        subst (λ k. MergesOpened k most s.place.layout s.tally.height 0 0 s0 s1 a d) (sym is) (subst (MergesOpened DISK_FAULT most s.place.layout s.tally.height 0 0 s0 s1 a) (sym (silent refl))
        (stopped_by load.Disk b facts DISK_FAULT (inl refl) (λ never. absurd (never refl)) (λ e. refl) (λ e. absurd (omega (arith, e))) (λ e. absurd (omega (arith, e))) (λ e. absurd (elim e [ inl x ↦ omega (arith, x) | inr x ↦ omega (arith, x) ]))
        (λ told_s told edits text short calm_disk calm_script. calm_disk (facts.failed refl))))
    merged_of (Err (load.Damaged segment why)) status is facts says silent ends = subst (λ k. MergesOpened k most s.place.layout s.tally.height 0 0 s0 s1 a d) (sym is)
        (refused_by (load.Damaged segment why) b facts d (reply.Damaged segment why) tt says (ends.2 (reply.Damaged segment why) refl) few (λ told. absurd (facts.fault told)) tt
        (λ told_s told edits text short calm_disk calm_script. facts.fault told))
    merged_of (Err load.Script) status is facts says silent ends =
        subst (λ k. MergesOpened k most s.place.layout s.tally.height 0 0 s0 s1 a d) (sym is) (subst (MergesOpened SCRIPT_FAULT most s.place.layout s.tally.height 0 0 s0 s1 a) (sym (silent refl))
        (stopped_by load.Script b facts SCRIPT_FAULT (inr (inl refl)) (λ never. tt) (λ e. absurd (omega (arith, e))) (λ e. facts.fault.0) (λ e. absurd (omega (arith, e))) (λ e told_s told. cut_early (facts.fault.1 told_s told))
        (λ told_s told edits text short calm_disk calm_script. calm_script facts.fault.0)))
    merged_of (Err load.Spent) status is facts says silent ends =
        subst (λ k. MergesOpened k most s.place.layout s.tally.height 0 0 s0 s1 a d) (sym is) (subst (MergesOpened TOO_LONG most s.place.layout s.tally.height 0 0 s0 s1 a) (sym (silent refl))
        (stopped_by load.Spent b facts TOO_LONG (inr (inr refl)) (λ never. tt) (λ e. absurd (omega (arith, e))) (λ e. absurd (omega (arith, e))) (λ e told_s. (facts.text told_s).1) (λ e told_s told. cut_early (facts.fault told_s told).read)
        (λ told_s told edits text short calm_disk calm_script. outside load.Spent b facts told_s told edits text short)))

-- The outcome of the whole job.

pub record Comes (status most : ℕ) (s0 s1 : SourceView) (a b : View) : Type 0 where
  pub status_is : IsRunStatus status
  pub attached : b.attached ≡ Some false
  pub merged : MergesFile status most s0 s1 a b
  pub disk : status ≡ DISK_FAULT → Rose a.disk_faults b.disk_faults
  pub script : status ≡ SCRIPT_FAULT → SourceRose s0 s1
  pub reply : status ≡ REPLY_FAULT → Rose a.say_faults b.say_faults

-- a file that an opening left is kept in all that may be held, where nothing was pending
each_opened : (a : View) {b : View} → Steps Reopens (attached_by false a) b → NothingPending a → EachHeld (KeepsMeaning a.held) b
each_opened a {b} ab nothing = each_on (λ d. d ≡ a.held) (KeepsMeaning a.held) ab (only_held (attached_by false a) nothing) (λ d i same step. subst (λ (x : List ℕ). KeepsMeaning x i) same (keeps_opened step))

-- at every moment of the opening
opening_run : (s : SourceView) (a : View) {b : View} → Steps Reopens (attached_by false a) b → NothingPending a → Run (λ image said. MayMerge s (BeginsLine a.said said) a.held image) (attached_by false a) b
opening_run s a {b} ab nothing = run_of_steps (λ image said. MayMerge s (BeginsLine a.said said) a.held image) ab
    (λ honest start image left step. may_keep s (BeginsLine a.said a.said) reply.OneSegment tt (none_begun a.said a.said refl reply.OneSegment) (subst (λ (x : List ℕ). KeepsMeaning x image) (nothing honest start left) (keeps_opened step)))

abbrev Asked : View → View → Type 0
Asked a b = Told a → CallsOpening (reopening_calls a.held) (attached_by false a) b

abbrev Looked : View → View → Type 0
Looked a b = Told a → IsAllAtRest a.held → b.travel.read ≤ a.travel.read + (page_size + opening_reads a.held)

module _ (most : ℕ) (s : SourceView) (a b : View) (law : Lawful a) (ab : Steps Reopens (attached_by false a) b) (called : Asked a b) (looked : Looked a b) (d : View) where
  -- at most that many calls are made behind
  calls_on : (c : View) → c.calls ≤ b.calls + 512 → Told a → CallsOpening (reopening_calls a.held + (clear_calls (layout_in a.held) + merge_calls (layout_in a.held) (opened_height a.held))) (attached_by false a) c
  calls_on c few told = opening_more (reopening_calls a.held) (clear_calls (layout_in a.held) + merge_calls (layout_in a.held) (opened_height a.held)) (attached_by false a) b c (omega (arith, few)) (called told)

  -- of a file that was not opened, and isn't refused
  quiet_file : (fault : OpenFault) → IsUnopened fault (attached_by false a) b → (status : ℕ) → (status ≡ DISK_FAULT) ⊎ (status ≡ OUT_OF_MEMORY) → (status ≡ DISK_FAULT → fault ≡ opening.Failed) → (status ≡ OUT_OF_MEMORY → fault ≡ opening.Memory) → Comes status most s s a b
  quiet_file fault unopened status is failed memory = record {
    status_is = elim is [ inl e ↦ inr (inr (inl e)) | inr e ↦ inr (inr (inr (inr e))) ];
    attached = ab.frame.attached;
    merged = record {
      steps = opening_run s a ab;
      held = λ told. may_keep s (λ line. SaidTold a → BeginsLine a.said b.said line) reply.OneSegment tt (λ said. none_begun a.said b.said ab.frame.said reply.OneSegment) (keeps_opened (ab.held told));
      done = λ e. absurd (other DONE e ((λ x. omega (arith, x)), (λ x. omega (arith, x))));
      cut = λ e. absurd (other REPLY_FAULT e ((λ x. omega (arith, x)), (λ x. omega (arith, x))));
      whole = λ e. absurd (not_done e);
      counted = λ e. absurd (not_done e);
      settled = λ e. absurd (not_done e);
      shut = λ e. absurd (elim e [
        | inl (inl x) ↦ other DONE x ((λ y. omega (arith, y)), (λ y. omega (arith, y)))
        | inl (inr (inl x)) ↦ other SCRIPT_FAULT x ((λ y. omega (arith, y)), (λ y. omega (arith, y)))
        | inl (inr (inr x)) ↦ other TOO_LONG x ((λ y. omega (arith, y)), (λ y. omega (arith, y)))
        | inr x ↦ other REPLY_FAULT x ((λ y. omega (arith, y)), (λ y. omega (arith, y)))
      ]);
      kept = λ never not_disk nothing. each_opened a ab nothing;
      silent = λ never quiet. ab.frame.said;
      refused = λ e. absurd (other REFUSED e ((λ x. omega (arith, x)), (λ x. omega (arith, x))));
      memory = λ e. unopened.memory (memory e);
      takes = λ told. takes_none most s;
      too_long = λ e. absurd (other TOO_LONG e ((λ x. omega (arith, x)), (λ x. omega (arith, x))));
      early = λ e. absurd (elim e [ inl x ↦ other SCRIPT_FAULT x ((λ y. omega (arith, y)), (λ y. omega (arith, y))) | inr x ↦ other TOO_LONG x ((λ y. omega (arith, y)), (λ y. omega (arith, y))) ]);
      complete = λ told m here calm calm_say. inr (inl (ends calm));
      admitted = λ told_s told m here edits text short calm calm_say calm_script. inr (ends calm);
      written = λ e. absurd (not_done e);
      most_written = λ told. omega (arith, unopened.cost told);
      read = λ told rest. omega (arith, looked told rest);
      calls = calls_on b (omega arith);
    };
    disk = λ e. unopened.failed (failed e);
    script = λ e. absurd (other SCRIPT_FAULT e ((λ x. omega (arith, x)), (λ x. omega (arith, x))));
    reply = λ e. absurd (other REPLY_FAULT e ((λ x. omega (arith, x)), (λ x. omega (arith, x))));
  }
    where
      other : (n : ℕ) → status ≡ n → (n ≡ 4 → ⊥) × (n ≡ 7 → ⊥) → ⊥
      other n e none = elim is [ inl x ↦ none.0 (sym e ∙ x) | inr x ↦ none.1 (sym e ∙ x) ]

      not_done : IsMergeDone status → ⊥
      not_done (inl e) = other DONE e ((λ x. omega (arith, x)), (λ x. omega (arith, x)))
      not_done (inr e) = other REPLY_FAULT e ((λ x. omega (arith, x)), (λ x. omega (arith, x)))

      ends : (Rose a.disk_faults b.disk_faults → ⊥) → status ≡ OUT_OF_MEMORY
      ends calm = elim is [ inl e ↦ absurd (calm (unopened.failed (failed e))) | inr e ↦ e ]

  -- it is refused, and means no map
  refused_file : IsMergeRefused s a d → (line : Reply) → IsRefusal line → Says (reply_text line) b d → d.calls ≤ b.calls + 512 → (Told a → b.travel.written ≤ a.travel.written + reopening_cost a.held) → (Told a → (m : Map) → Means (layout_in a.held) a.held m → ⊥) → Comes REFUSED most s s a d
  refused_file refused line refuses says few cost never = record {
    status_is = inr (inl refl);
    attached = says.attached ∙ ab.frame.attached;
    merged = record {
      steps = λ nothing. run_on (λ image said. MayMerge s (BeginsLine a.said said) a.held image) (opening_run s a ab nothing)
          (run_of_says (λ image said. MayMerge s (BeginsLine a.said said) a.held image) says
          (λ honest image n left within. may_keep s (BeginsLine a.said (b.said ++ take n (reply_text line))) line refuses (front_begun a.said b.said (b.said ++ take n (reply_text line)) line ab.frame.said n within refl) (each_opened a ab nothing image (inr (honest, left)))))
          (λ honest image said moved. moved) (λ honest image said moved. moved);
      held = λ told. may_keep s (λ x. SaidTold a → BeginsLine a.said d.said x) line refuses
          (λ said. let t = says.taken (ap (λ f. f.tells_said) ab.frame.fixed ∙ said) in front_begun a.said b.said d.said line ab.frame.said t.0 t.1 t.2)
          (subst (KeepsMeaning a.held) (sym says.held) (keeps_opened (ab.held told)));
      done = λ e. absurd (omega (arith, e));
      cut = λ e. absurd (omega (arith, e));
      whole = λ e. absurd (elim e [ inl x ↦ omega (arith, x) | inr x ↦ omega (arith, x) ]);
      counted = λ e. absurd (elim e [ inl x ↦ omega (arith, x) | inr x ↦ omega (arith, x) ]);
      settled = λ e. absurd (elim e [ inl x ↦ omega (arith, x) | inr x ↦ omega (arith, x) ]);
      shut = λ e. absurd (elim e [ inl (inl x) ↦ omega (arith, x) | inl (inr (inl x)) ↦ omega (arith, x) | inl (inr (inr x)) ↦ omega (arith, x) | inr x ↦ omega (arith, x) ]);
      kept = λ not_done not_disk nothing. each_says (KeepsMeaning a.held) says (each_opened a ab nothing);
      silent = λ not_done other. absurd (other refl);
      refused = λ e. refused;
      memory = λ e. absurd (omega (arith, e));
      takes = λ told. takes_none most s;
      too_long = λ e. absurd (omega (arith, e));
      early = λ e. absurd (elim e [ inl x ↦ omega (arith, x) | inr x ↦ omega (arith, x) ]);
      complete = λ told m here. absurd (never told m here);
      admitted = λ told_s told m here. absurd (never told m here);
      written = λ e. absurd (elim e [ inl x ↦ omega (arith, x) | inr x ↦ omega (arith, x) ]);
      most_written = λ told. omega (arith, cost told, ap (λ (t : Travel). t.written) says.travel);
      read = λ told rest. omega (arith, looked told rest, ap (λ (t : Travel). t.read) says.travel);
      calls = calls_on d few;
    };
    disk = λ e. absurd (omega (arith, e));
    script = λ e. absurd (omega (arith, e));
    reply = λ e. absurd (omega (arith, e));
  }

  pub comes_unopened : (fault : OpenFault) → IsUnopened fault (attached_by false a) b → (line_of_opening fault ≡ None → d ≡ b) → Says (line_text (line_of_opening fault)) b d → ((line : Reply) → line_of_opening fault ≡ Some line → SaidTold b → SaysLine line b.said b d) → d.calls ≤ b.calls + 512
      → Comes (status_of_opening fault) most s s a d
  comes_unopened opening.Memory unopened silent says line few = subst (Comes OUT_OF_MEMORY most s s a) (sym (silent refl)) (quiet_file opening.Memory unopened OUT_OF_MEMORY (inr refl) (λ e. absurd (omega (arith, e))) (λ e. refl))
  comes_unopened opening.Failed unopened silent says line few = subst (Comes DISK_FAULT most s s a) (sym (silent refl)) (quiet_file opening.Failed unopened DISK_FAULT (inl refl) (λ e. refl) (λ e. absurd (omega (arith, e))))
  comes_unopened (opening.NotStore reason) unopened silent says line few =
      refused_file (record {
        line = λ told. (reply.NotStore reason, tt, from told);
        why = λ told. (reply.NotStore reason, inl (reason, unopened.refused reason refl told, refl), from);
        recovers = λ told r is. subst (λ (x : List ℕ). IsButClosed a.held (recovered (layout_in a.held) a.held) (recovered (layout_in a.held) x)) (sym says.held) (unopened.recovers reason refl told);
        bare = λ told r is bare. subst (IsButClosed a.held a.held) (sym says.held) (unopened.bare reason refl told bare);
      }) (reply.NotStore reason) tt says few unopened.cost (no_map a b ab d reason unopened)
    where
      from : SaidTold a → SaysLine (reply.NotStore reason) a.said a d
      from told = said_since a b d (reply.NotStore reason) ab.frame.said (sym ab.frame.say_faults) (line (reply.NotStore reason) refl (ap (λ f. f.tells_said) ab.frame.fixed ∙ told))
  comes_unopened (opening.Damaged segment why) unopened silent says line few =
      refused_file (record {
        line = λ told. (reply.Damaged segment why, tt, from told);
        why = λ told. absurd (unopened.undamaged told);
        recovers = λ told. absurd (unopened.undamaged told);
        bare = λ told. absurd (unopened.undamaged told);
      }) (reply.Damaged segment why) tt says few unopened.cost (λ told. absurd (unopened.undamaged told))
    where
      from : SaidTold a → SaysLine (reply.Damaged segment why) a.said a d
      from told = said_since a b d (reply.Damaged segment why) ab.frame.said (sym ab.frame.say_faults) (line (reply.Damaged segment why) refl (ap (λ f. f.tells_said) ab.frame.fixed ∙ told))

-- of a file that was opened
module _ (most : ℕ) (s0 s1 : SourceView) (a b : View) (law : Lawful a) (ab : Steps Reopens (attached_by false a) b) (called : Asked a b) (looked : Looked a b) (v : StoreView) (opened : IsOpened v (attached_by false a) b) where
  on : Told a → Told b
  on told = ap (λ f. f.tells_held) ab.frame.fixed ∙ told

  stands_opened : Told a → StandsWith v.place.layout v.place.region v.tally.height v.tally.counts b.held
  stands_opened told = (opened.store.on.stands b.held (inl (on told, refl))).balanced.stands

  same_layout_in : Told a → layout_in b.held ≡ layout_in a.held
  same_layout_in told = (stands_opened told).settled.layout_is ∙ opened.layout told

  -- the height at which the store was opened
  same_height : Told a → v.tally.height ≡ opened_height a.held
  same_height told = sym (stands_opened told).height_is ∙ ap (λ (x : ArrayState). x.height) (opened.state told)

  -- the map that the file meant
  same_map : Told a → map_of b.held ≡ meant_map a.held
  same_map told = ap (λ (x : ArrayState). x.map) (opened.state told) ∙ opened_map a.held

  meant : (m : Map) → Means (layout_in a.held) a.held m → m ≡ meant_map a.held
  meant m here = (meant_one a.held m here).0

  module _ (status : ℕ) (d : View) (merges : MergesOpened status most v.place.layout v.tally.height (clear_cost v.place.layout) (clear_calls v.place.layout) s0 s1 b d) where
    disk_rose : status ≡ DISK_FAULT → Rose a.disk_faults d.disk_faults
    disk_rose e = omega (arith, merges.disk e, ab.frame.disk_faults)

    say_rose : status ≡ REPLY_FAULT → Rose a.say_faults d.say_faults
    say_rose e = omega (arith, merges.reply e, ab.frame.say_faults)

    on_said_told : SaidTold a → SaidTold b
    on_said_told told = ap (λ f. f.tells_said) ab.frame.fixed ∙ told

    since : (line : Reply) → SaysLine line b.said b d → SaysLine line a.said a d
    since line says = said_since a b d line ab.frame.said (sym ab.frame.say_faults) says

    same_answer : Told a → (line : Reply) → AnswersMerge v.place.layout (map_of b.held) s0 line → IsMergeAnswer a.held s0 line
    same_answer told line is = subst (λ (x : Layout × Map). AnswersMerge x.0 x.1 s0 line) (λ i. (opened.layout told i, same_map told i)) is

    was_refused : status ≡ REFUSED → IsMergeRefused s0 a d
    was_refused e = record {
      line = λ told. let last = merges.line e (on_said_told told) in (last.0, last.1, since last.0 last.2);
      why = λ told. let last = merges.why e (on told) in (last.0, inr (opened.sound told, same_answer told last.0 last.1), (λ said. since last.0 (last.2 (on_said_told said))));
      recovers = λ told r is. absurd (none_some (sym (opened.sound told) ∙ is));
      bare = λ told r is. absurd (none_some (sym (opened.sound told) ∙ is));
    }
      where
        none_some : {r : Reason} → None ≡ Some r → ⊥
        none_some is = cc

    -- it was merged, with what the line tells
    was_merged : (IsSaid : Reply → Type 0) → IsMergeDone status → ((line : Reply) → (SaidTold b → SaysMerged status b.said d.said line) → IsSaid line) → Told a → IsMerged s0 IsSaid a.held d.held
    was_merged IsSaid e tells told =
        let is = merges.merged e (on told) in
        (opened.sound told, (is.0, subst (λ (x : Layout × Map). IsFileMerged x.0 x.1 s0 is.0 d.held) (λ i. (opened.layout told i, same_map told i)) is.1, tells (merged_line is.0) is.2))

    -- at every moment
    may_on : Told a → (IsSaid : Reply → Type 0) (image : List ℕ) → MayMerge s0 IsSaid b.held image → MayMerge s0 IsSaid a.held image
    may_on told IsSaid image moved = may_since s0 IsSaid (keeps_opened (ab.held told)) (same_layout_in told) moved

    no_memory : status ≡ OUT_OF_MEMORY → ⊥
    no_memory e = elim merges.status_is [ inl (inl (inl x)) ↦ omega (arith, e, x) | inl (inl (inr (inl x))) ↦ omega (arith, e, x) | inl (inl (inr (inr x))) ↦ omega (arith, e, x) | inl (inr x) ↦ omega (arith, e, x) | inr (inl x) ↦ omega (arith, e, x) | inr (inr x) ↦ omega (arith, e, x) ]

    pub comes_opened : StaysShut b d → Comes status most s0 s1 a d
    comes_opened stays = record {
      status_is = elim merges.status_is [ inl (inl e) ↦ inl e | inl (inr e) ↦ inr (inr (inr (inl e))) | inr (inl e) ↦ inr (inl e) | inr (inr e) ↦ inr (inr (inl e)) ];
      attached = merges.run.attached ∙ ab.frame.attached;
      merged = record {
        steps = λ nothing.
            run_on (λ image said. MayMerge s0 (BeginsLine a.said said) a.held image) (opening_run s0 a ab nothing) merges.run
            (λ honest image said moved. moved)
            (λ honest image said moved. may_on (law.tells honest).0 (BeginsLine a.said said) image (subst (λ (x : List ℕ). MayMerge s0 (BeginsLine x said) b.held image) ab.frame.said moved));
        held = λ told. may_on told (λ line. SaidTold a → BeginsLine a.said d.said line) d.held
            (may_tell s0 (λ line. SaidTold b → BeginsLine b.said d.said line) (λ line. SaidTold a → BeginsLine a.said d.said line)
            (λ line begun said. subst (λ (x : List ℕ). BeginsLine x d.said line) ab.frame.said (begun (on_said_told said))) (merges.held (on told)));
        done = λ e. was_merged (λ line. SaidTold a → d.said ≡ a.said ++ reply_text line) (inl e)
            (λ line made said. (made (on_said_told said)).done e ∙ ap (λ (x : List ℕ). x ++ reply_text line) ab.frame.said);
        cut = λ e. was_merged (λ line. SaidTold a → IsPartSaid (reply_text line) a.said d.said) (inr e)
            (λ line made said. subst (λ (x : List ℕ). IsPartSaid (reply_text line) x d.said) ab.frame.said ((made (on_said_told said)).cut e));
        whole = merges.whole;
        counted = λ e told said.
            let is = merges.counted e told (on_said_told said) in
            record { format = is.format; found = is.found; text = is.text; line = subst (λ (x : List ℕ). SaysMerged status x d.said (merged_line is.found)) ab.frame.said is.line };
        settled = merges.settled;
        shut = λ e told. stays.after opened.shut d.held (inl (ap (λ f. f.tells_held) merges.run.fixed ∙ on told, refl));
        kept = λ not_done not_disk nothing image left. keeps_on (keeps_opened (ab.held (told_back image left))) (merges.kept not_done not_disk image left);
        silent = λ not_done other. merges.silent not_done other ∙ ab.frame.said;
        refused = was_refused;
        memory = λ e. absurd (no_memory e);
        takes = merges.takes;
        too_long = merges.too_long;
        early = λ e told_s told. subst (λ (x : Layout × Map). IsMergeCutEarly x.0 x.1 s0 s1) (λ i. (opened.layout told i, same_map told i)) (merges.early e told_s (on told));
        complete = λ told m here calm calm_say. elim merges.status_is [
          | inl (inl (inl e)) ↦ inl e
          | inl (inl (inr e)) ↦ inr (inr (inr e))
          | inl (inr e) ↦ absurd (calm_say (say_rose e))
          | inr (inl e) ↦ let last = merges.why e (on told) in inr (inr (inl (e, (last.0, same_answer told last.0 last.1))))
          | inr (inr e) ↦ absurd (calm (disk_rose e))
        ];
        admitted = λ told_s told m here edits text short calm calm_say calm_script.
            inl (merges.admitted told_s (on told) edits (subst (λ (x : Layout × Map). HasEdits x.0 x.1 s0 edits) (λ i. (sym (opened.layout told) i, (meant m here ∙ sym (same_map told)) i)) text) short
            (λ rose. calm (omega (arith, rose, ab.frame.disk_faults))) (λ rose. calm_say (omega (arith, rose, ab.frame.say_faults))) calm_script);
        written = λ e told. omega (arith, opened.cost told, merges.written e (on told), ap (λ (x : Layout). load_cost x (height_of d.held)) (opened.layout told));
        most_written = λ told. omega (arith, opened.cost told, merges.most_written, ap (λ (x : Layout). load_cost x (height_limit x)) (opened.layout told));
        read = λ told rest.
            let same : merge_reads v.place.layout v.tally.height ≡ merge_reads (layout_in a.held) (opened_height a.held) = (λ i. merge_reads (opened.layout told i) (same_height told i)) in
            omega (arith, looked told rest, merges.read, same);
        calls = λ told.
            let same : clear_calls v.place.layout + merge_calls v.place.layout v.tally.height ≡ clear_calls (layout_in a.held) + merge_calls (layout_in a.held) (opened_height a.held) = (λ i. clear_calls (opened.layout told i) + merge_calls (opened.layout told i) (same_height told i)) in
            opening_more (reopening_calls a.held) (clear_calls (layout_in a.held) + merge_calls (layout_in a.held) (opened_height a.held)) (attached_by false a) b d (omega (arith, merges.calls, same)) (called told);
      };
      disk = disk_rose;
      script = merges.script;
      reply = say_rose;
    }
      where
        told_back : (image : List ℕ) → MayHold d image → Told a
        told_back image (inl held) = ap (λ f. f.tells_held) (sym (merges.run.fixed ∙ ab.frame.fixed)) ∙ held.0
        told_back image (inr honest) = (law.tells (ap (λ f. f.honest) (sym (merges.run.fixed ∙ ab.frame.fixed)) ∙ honest.0)).0

    -- nothing that takes nothing from the source is such a merge
    pub takes_some : TakesNothing (Some asked.Merge) status a → ⊥
    takes_some none = elim none [
      | inl never ↦ never
      | inr (inl e) ↦ no_memory e
      | inr (inr (inl never)) ↦ never.0
      | inr (inr (inr (inl never))) ↦ never
      | inr (inr (inr (inr (told, no_store)))) ↦ no_store (meant_map a.held) (means_of_none a.held (opened.sound told))
    ]

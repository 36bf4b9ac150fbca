-- What comes of a load, from the map that its file means at the entry.
use Rattle.std.proofs.Common.{◌≡◌, ◌⊎◌, inl, inr, ℕ, zero, suc, ◌+◌, ◌-◌, ◌*◌, ◌^◌, ◌<◌, ◌≤◌, Bool, List, [], true, false, length, Some, None, Result, Ok, Err, refl, sym, ◌∙◌, ap, subst, arith, sum}
use Rattle.std.specs.Prelude.{OnOk, IfOk, IfErr, IsErrOf}
use Rattle.std.specs.FinMap.{empty_of_len, from_sorted, len, len-empty}
use Rattle.station.specs.Bytes.{Same}
use Rattle.station.specs.View.{View, Told, SaidTold, NothingPending, EachHeld, MayHold, Rose, Lawful, attached_by}
use Rattle.station.specs.Steps.{Steps, Says, Run}
use Rattle.station.specs.declared.travel.Travel.{Travel}
use Rattle.station.proofs.Composition.{each_on, only_held, told_of}
use Rattle.station.proofs.Sayings.{each_says, run_in, run_of_steps, run_of_says, run_on}
use Rattle.line_source.specs.Lines.{raw_lines}
use Rattle.line_source.specs.LineReaderView.{ReaderView, rest}
use Rattle.line_source.specs.SourceView.{SourceView, SourceTold, SourceRose}
use Rattle.density_rule.proofs.Bounding.{upper_of-small}
use Rattle.header_gate.specs.Header.{layout_in}
use Rattle.header_gate.specs.Places.{IsLayout, height_limit, segment_size}
use Rattle.header_gate.specs.Recovered.{recovered}
use Rattle.header_gate.specs.declared.layout.Layout.{Layout}
use Rattle.header_gate.specs.declared.reason.Reason.{Reason}
use Rattle.key_slot.specs.Record.{Bytes, Record, key_cmp}
use Rattle.map_model.specs.ArrayState.{ArrayState}
use Rattle.map_model.specs.Holding.{IsBalancedArray}
use Rattle.map_model.specs.Image.{Represents, height_of, map_of}
use Rattle.map_model.specs.Standing.{StandsWith}
use Rattle.map_model.specs.Store.{Map}
use Rattle.map_model.proofs.Recovering.{determined}
use Rattle.batch_intent.specs.Means.{Means, has_waiting, meant_map, opening_reason}
use Rattle.batch_intent.proofs.Meanings.{meant_one, means_idle, in_layout, in_own}
use Rattle.batch_intent.proofs.OpeningReasons.{means_of_none}
use Rattle.range_scan.proofs.Checks.{counted_all}
use Rattle.segment_frames.specs.FrameStanding.{StandsFor}
use Rattle.bulk_load.specs.LoadFaults.{IsCutIn, IsLoadFault, IsNoDamage, IsNoDisk, IsOutsideFault}
use Rattle.bulk_load.specs.LoadText.{IsLoadText, IsOneTooMany, IsRefusedAt, MayGoOn}
use Rattle.bulk_load.specs.LoadLines.{IsWrongLine, TakesAtMost, full, loading, reads}
use Rattle.bulk_load.proofs.ReadLaws.{takes_none}
use Rattle.bulk_load.specs.Loads.{IsLoaded, Loads, TextFor, most_records}
use Rattle.bulk_load.specs.declared.fault.LoadFault.{LoadFault}
use Rattle.bulk_load.specs.declared.fault.LoadFault.TheVariants as load
use Rattle.bulk_load.specs.declared.fault.Loaded.{Loaded}
use Rattle.recovery.specs.declared.fault.OpenFault.{OpenFault}
use Rattle.recovery.specs.declared.fault.OpenFault.TheVariants as opening
use Rattle.command_text.specs.declared.reply.Reply.{Reply}
use Rattle.command_text.specs.declared.reply.Reply.TheVariants as reply
use Rattle.pma_store.specs.Readying.{clear_cost}
use Rattle.pma_store.specs.StoreView.{StoreView, IsOpenOn}
use Rattle.pma_engine.specs.LoadOutcome.{AnswersLoad, HasText, IsCutEarly, IsCutText, IsFileLoaded, IsLoadRefused, IsLoadStatus, IsWrongAt, LoadsFile, LoadsOpened, MayLoad, line_of_load, load_cost, status_of_load, text_cost}
use Rattle.pma_engine.specs.Closing.{IsButClosed, StaysShut, WritesGate}
use Rattle.pma_engine.specs.RunOpening.{IsOpened, IsUnopened, Reopens, reopening_cost}
use Rattle.pma_engine.specs.Jobs.{TakesNothing}
use Rattle.pma_engine.specs.Outcome.{empty_map}
use Rattle.pma_engine.specs.declared.words.Job.TheVariants as asked
use Rattle.pma_engine.specs.Refusing.{IsRefusal, SaysLine, line_text, line_of_opening, status_of_opening}
use Rattle.pma_engine.specs.Serving.{fresh_reader}
use Rattle.pma_engine.specs.Upgrading.{KeepsMeaning}
use Rattle.pma_engine.specs.declared.status.TheConstants.{DONE, REFUSED, DISK_FAULT, SCRIPT_FAULT, OUT_OF_MEMORY, TOO_LONG}
use Rattle.pma_engine.proofs.Meant.{opened_map}
use Rattle.pma_engine.proofs.OutcomeLaws.{no_map}
use Rattle.pma_engine.proofs.Upgrading.{keeps_opened, keeps_on, none_told, said_since, spared_none, stands_told, unopened_run, represents_idle}

zero_or : (n : ℕ) → (n ≡ 0) ⊎ (0 < n)
zero_or zero = inl refl
zero_or (suc n) = inr (omega arith)

-- what holds of load texts
pub record Laws : Type 0 where
  pub text : (format most : ℕ) (lines : List (List ℕ)) (rows : List Record) → loading format most lines ≡ reads rows true → IsLoadText format lines rows
  pub few : (format most : ℕ) (lines : List (List ℕ)) (rows : List Record) → loading format most lines ≡ reads rows true → length rows ≤ most
  pub refused : (format most n : ℕ) (lines : List (List ℕ)) → most < 2 ^ 32 → IsWrongLine format most lines n → IsRefusedAt format most lines n
  pub going : (format most : ℕ) (lines : List (List ℕ)) (rows : List Record) (ended : Bool) → most < 2 ^ 32 → loading format most lines ≡ reads rows ended → MayGoOn format most lines
  pub full_is : (format most : ℕ) (lines : List (List ℕ)) → most + 1 < 2 ^ 32 → loading format most lines ≡ full → IsOneTooMany format most lines
  pub admitted : (format most : ℕ) (reader : ReaderView) (before after : SourceView) (rows : List Record) (fault : LoadFault) → IsLoadText format (raw_lines (rest reader before)) rows → length rows ≤ most → SourceTold before → length before.left < reader.room
      → IsLoadFault format most 0 reader before after fault → IsOutsideFault before after fault

-- The load into an open store.

-- what `load_rows` says of a store, where it answered r
pub record FactsBy (reader : ReaderView) (r : Result Loaded LoadFault) (s : StoreView) (s0 s1 : SourceView) (a b : View) : Type 0 where
  pub loaded : IfOk r (λ loaded. (rows : List Record) × IsLoaded s.place rows loaded.records loaded.height (TextFor s.place.layout reader s0) b)
  pub none_before : OnOk r (sum s.tally.counts ≡ 0)
  pub whole : OnOk r (SourceTold s0 → (s1.left ≡ []) × (length s0.left < reader.room))
  pub takes : SourceTold s0 → TakesAtMost reader.room s0 s1
  pub settled : OnOk r (NothingPending b)
  pub steps : Steps (Loads s.place (TextFor s.place.layout reader s0)) a b
  pub untouched : 0 < sum s.tally.counts → Steps Same a b × (b.travel ≡ a.travel) × (b.held ≡ a.held)
  pub cost : IfOk r (λ loaded. b.travel.written ≤ a.travel.written + (2 * segment_size s.place.layout * 2 ^ loaded.height + 9))
  pub most_cost : b.travel.written ≤ a.travel.written + (2 * segment_size s.place.layout * 2 ^ height_limit s.place.layout + 9)
  pub fault : IfErr r (IsLoadFault s.place.layout.format (most_records s.place.layout) (sum s.tally.counts) reader s0 s1)
  pub kept : IfErr r (λ fault. IsNoDisk fault → EachHeld (StandsFor s.place s.tally) b)
  pub damaged : IfErr r (λ fault. Told a → IsNoDamage fault)
  pub failed : IsErrOf r load.Disk → Rose a.disk_faults b.disk_faults

-- from a fresh reader on
abbrev pub Facts : ℕ → Result Loaded LoadFault → StoreView → SourceView → SourceView → View → View → Type 0
Facts most r s s0 s1 a b = FactsBy (fresh_reader most) r s s0 s1 a b

pub facts_from : (most : ℕ) (reader : ReaderView) → reader ≡ fresh_reader most → (r : Result Loaded LoadFault) (s : StoreView) (s0 s1 : SourceView) (a b : View) → FactsBy reader r s s0 s1 a b → Facts most r s s0 s1 a b
facts_from most reader fresh r s s0 s1 a b facts = subst (λ (x : ReaderView). FactsBy x r s s0 s1 a b) fresh facts

module _ (laws : Laws) (most : ℕ) (s : StoreView) (s0 s1 : SourceView) (layout : IsLayout s.place.layout) (a : View) (law : Lawful a) (opened : IsOpenOn s a) (nothing : NothingPending a) where
  small : most_records s.place.layout + 1 < 2 ^ 32
  small = omega (arith, upper_of-small (height_limit s.place.layout) (omega (arith, layout.hmax, layout.format.least)))

  has_text : (rows : List Record) → TextFor s.place.layout (fresh_reader most) s0 rows → HasText s.place.layout s0 rows
  has_text rows text told =
      (laws.text s.place.layout.format (most_records s.place.layout) (raw_lines s0.left) rows (text told), laws.few s.place.layout.format (most_records s.place.layout) (raw_lines s0.left) rows (text told))

  -- what was read so far makes no refusal due
  cut_early : IsCutIn s.place.layout.format (most_records s.place.layout) (fresh_reader most) s0 s1 → IsCutEarly s.place.layout s0 s1
  cut_early is = record {
    taken = is.cut.taken;
    is = is.cut.is;
    lines = subst (MayGoOn s.place.layout.format (most_records s.place.layout)) (sym is.cut.complete) (laws.going s.place.layout.format (most_records s.place.layout) is.given is.rows is.ended (omega (arith, small)) is.reading);
  }

  -- a store without records means the empty map
  no_records : Told a → sum s.tally.counts ≡ 0 → (m : Map) (here : Means (layout_in a.held) a.held m) → m ≡ empty_map
  no_records told none m here =
      empty_of_len m
      (ap len (determined a.held m here.height (represents_idle a.held m here (none_told a s opened told))).0
      ∙ counted_all s.place.layout s.place.region s.tally.height s.tally.counts a.held (stands_told a s opened told) ∙ none)

  stays : (image : List ℕ) → image ≡ a.held → MayLoad s0 a.held image
  stays image same = subst (MayLoad s0 a.held) (sym same) (λ m here. inl here)

  module _ (image : List ℕ) (told : Told a) (none : sum s.tally.counts ≡ 0) (moved : Loads s.place (TextFor s.place.layout (fresh_reader most) s0) a.held image) where
    no_intent : has_waiting image ≡ false
    no_intent = spared_none s.place.layout (1 - s.place.region) a.held image (ap (λ (x : Layout). x.version) moved.layout_is) moved.touched (none_told a s opened told)

    may_load : MayLoad s0 a.held image
    may_load m here = elim (moved.map_is m here.height (represents_idle a.held m here (none_told a s opened told))) [
      | inl same ↦ inl (in_layout image m moved.layout_is (means_idle image m here.height same no_intent))
      | inr text ↦ inr (
        no_records told none m here,
        record {
          rows = text.rows;
          text = subst (λ (x : Layout). HasText x s0 text.rows) (sym (stands_told a s opened told).settled.layout_is) (has_text text.rows text.text);
          least = text.least;
          means = in_layout image (from_sorted text.rows) moved.layout_is (means_idle image (from_sorted text.rows) text.height text.represents no_intent);
        },
      )
    ]

    -- where it stands for the counts of before
    keeps : StandsFor s.place s.tally image → KeepsMeaning a.held image
    keeps stands m here =
        let none_in : map_of image ≡ m = empty_of_len (map_of image) (counted_all s.place.layout s.place.region s.tally.height s.tally.counts image stands ∙ none) ∙ sym (no_records told none m here) in
        in_layout image m moved.layout_is (means_idle image m (height_of image) (subst (λ (n : Map). Represents image n (height_of image)) none_in stands.settled.represents) no_intent)

  module _ (r : Result Loaded LoadFault) (b : View) (facts : Facts most r s s0 s1 a b) where
    -- all that the station may hold then was made of what it held
    each_moved : EachHeld (λ image. Told a × Loads s.place (TextFor s.place.layout (fresh_reader most) s0) a.held image) b
    each_moved =
        each_on (λ d. Told a × (d ≡ a.held)) (λ i. Told a × Loads s.place (TextFor s.place.layout (fresh_reader most) s0) a.held i) facts.steps
        (λ image left. (told_of law image left, only_held a nothing image left))
        (λ d i p step. (p.0, subst (λ (x : List ℕ). Loads s.place (TextFor s.place.layout (fresh_reader most) s0) x i) p.1 step))

    each_same : 0 < sum s.tally.counts → EachHeld (λ image. image ≡ a.held) b
    each_same some = each_on (λ d. d ≡ a.held) (λ i. i ≡ a.held) (facts.untouched some).0 (only_held a nothing) (λ d i p same. same ∙ p)

    each : EachHeld (MayLoad s0 a.held) b
    each = elim (zero_or (sum s.tally.counts)) [
      | inl none ↦ λ image left. let p = each_moved image left in may_load image p.0 none p.1
      | inr some ↦ λ image left. stays image (each_same some image left)
    ]

    told_on : Told a → Told b
    told_on told = ap (λ f. f.tells_held) facts.steps.frame.fixed ∙ told

    said_on : SaidTold a → SaidTold b
    said_on told = ap (λ f. f.tells_said) facts.steps.frame.fixed ∙ told

    runs : Run (λ image said. MayLoad s0 a.held image) a b
    runs = elim (zero_or (sum s.tally.counts)) [
      | inl none ↦ run_of_steps (λ image said. MayLoad s0 a.held image) facts.steps
          (λ honest start image left step. may_load image (law.tells honest).0 none (subst (λ (x : List ℕ). Loads s.place (TextFor s.place.layout (fresh_reader most) s0) x image) (nothing honest start left) step))
      | inr some ↦ run_of_steps (λ image said. MayLoad s0 a.held image) (facts.untouched some).0
          (λ honest start image left same. stays image (same ∙ nothing honest start left))
    ]

    left_alone : 0 < sum s.tally.counts → (b.held ≡ a.held) × (b.travel.written ≡ a.travel.written)
    left_alone some = ((facts.untouched some).2, ap (λ (t : Travel). t.written) (facts.untouched some).1)

  -- where it answered a fault
  module _ (fault : LoadFault) (b : View) (facts : Facts most (Err fault) s s0 s1 a b) where
    each_kept : IsNoDisk fault → EachHeld (KeepsMeaning a.held) b
    each_kept no_disk = elim (zero_or (sum s.tally.counts)) [
      | inl none ↦ λ image left. let p = each_moved (Err fault) b facts image left in keeps image p.0 none p.1 (facts.kept no_disk image left)
      | inr some ↦ λ image left. subst (KeepsMeaning a.held) (sym (each_same (Err fault) b facts some image left)) (λ m here. here)
    ]

    outside : SourceTold s0 → sum s.tally.counts ≡ 0 → (rows : List Record) → HasText s.place.layout s0 rows → length s0.left < most → IsOutsideFault s0 s1 fault
    outside told none rows text short =
        laws.admitted s.place.layout.format (most_records s.place.layout) (fresh_reader most) s0 s1 rows fault (text told).0 (text told).1 told short
        (subst (λ (n : ℕ). IsLoadFault s.place.layout.format (most_records s.place.layout) n (fresh_reader most) s0 s1 fault) none facts.fault)

    -- a text that is admitted isn't met by it, where no count rose
    abbrev NoText : View → Type 0
    NoText d = SourceTold s0 → Told a → sum s.tally.counts ≡ 0 → (rows : List Record) → HasText s.place.layout s0 rows → length s0.left < most → (Rose a.disk_faults d.disk_faults → ⊥) → (SourceRose s0 s1 → ⊥) → ⊥

    -- a refusal
    refused_by : (d : View) (line : Reply) → IsRefusal line → {text : List ℕ} → Says text b d → (SaidTold b → SaysLine line b.said b d) → (Told a → AnswersLoad s.place.layout (sum s.tally.counts) s0 s1 line) → IsNoDisk fault → NoText d
        → LoadsOpened REFUSED most s.place.layout (sum s.tally.counts) 0 s0 s1 a d
    refused_by d line refuses says whole answers no_disk no_text = record {
      status_is = inr (inl refl);
      run =
          run_on (λ image said. MayLoad s0 a.held image) (runs (Err fault) b facts) (run_of_says (λ image said. MayLoad s0 a.held image) says (λ honest image n left within. each (Err fault) b facts image (inr (honest, left))))
          (λ honest image said moved. moved) (λ honest image said moved. moved);
      held = λ told. each_says (MayLoad s0 a.held) says (each (Err fault) b facts) d.held (inl (ap (λ f. f.tells_held) says.fixed ∙ told_on (Err fault) b facts told, refl));
      empty = λ e. absurd (omega (arith, e));
      loaded = λ e. absurd (omega (arith, e));
      whole = λ e. absurd (omega (arith, e));
      settled = λ e. absurd (omega (arith, e));
      kept = λ not_done not_disk. each_says (KeepsMeaning a.held) says (each_kept no_disk);
      silent = λ other. absurd (other refl);
      line = λ e told. (line, refuses, from told);
      why = λ e told. (line, answers told, from);
      left = λ some. let same = left_alone (Err fault) b facts some in (says.held ∙ same.0, ap (λ (t : Travel). t.written) says.travel ∙ same.1);
      takes = facts.takes;
      too_long = λ e. absurd (omega (arith, e));
      cut = λ e. absurd (elim e [ inl x ↦ omega (arith, x) | inr x ↦ omega (arith, x) ]);
      early = λ e. absurd (elim e [ inl x ↦ omega (arith, x) | inr x ↦ omega (arith, x) ]);
      admitted = λ told_s told none rows text short calm_disk calm_script. absurd (no_text told_s told none rows text short calm_disk calm_script);
      written = λ e. absurd (omega (arith, e));
      most_written = omega (arith, facts.most_cost, ap (λ (t : Travel). t.written) says.travel);
      disk = λ e. absurd (omega (arith, e));
      script = λ e. absurd (omega (arith, e));
    }
      where
        from : SaidTold a → SaysLine line a.said a d
        from told = said_since a b d line facts.steps.frame.said (sym facts.steps.frame.say_faults) (whole (said_on (Err fault) b facts told))

    -- a fault of which nothing is said
    stopped_by : (status : ℕ) → (status ≡ DISK_FAULT) ⊎ IsCutText status → ((status ≡ DISK_FAULT → ⊥) → IsNoDisk fault) → (status ≡ DISK_FAULT → fault ≡ load.Disk) → (status ≡ SCRIPT_FAULT → SourceRose s0 s1)
        → (status ≡ TOO_LONG → SourceTold s0 → length s0.left ≡ length s1.left + most) → (IsCutText status → sum s.tally.counts ≡ 0) → (IsCutText status → SourceTold s0 → IsCutEarly s.place.layout s0 s1) → NoText b → LoadsOpened status most s.place.layout (sum s.tally.counts) 0 s0 s1 a b
    stopped_by status is no_disk disk_is script_is spent none early no_text = record {
      status_is = elim is [ inl e ↦ inr (inr e) | inr (inl e) ↦ inl (inr (inl e)) | inr (inr e) ↦ inl (inr (inr e)) ];
      run = runs (Err fault) b facts;
      held = λ told. each (Err fault) b facts b.held (inl (told_on (Err fault) b facts told, refl));
      empty = λ e. absurd (other DONE e ((λ x. omega (arith, x)), (λ x. omega (arith, x)), (λ x. omega (arith, x))));
      loaded = λ e. absurd (other DONE e ((λ x. omega (arith, x)), (λ x. omega (arith, x)), (λ x. omega (arith, x))));
      whole = λ e. absurd (other DONE e ((λ x. omega (arith, x)), (λ x. omega (arith, x)), (λ x. omega (arith, x))));
      settled = λ e. absurd (other DONE e ((λ x. omega (arith, x)), (λ x. omega (arith, x)), (λ x. omega (arith, x))));
      kept = λ not_done not_disk. each_kept (no_disk not_disk);
      silent = λ quiet. facts.steps.frame.said;
      line = λ e. absurd (other REFUSED e ((λ x. omega (arith, x)), (λ x. omega (arith, x)), (λ x. omega (arith, x))));
      why = λ e. absurd (other REFUSED e ((λ x. omega (arith, x)), (λ x. omega (arith, x)), (λ x. omega (arith, x))));
      left = left_alone (Err fault) b facts;
      takes = facts.takes;
      too_long = spent;
      cut = none;
      early = early;
      admitted = λ told_s told zero_is rows text short calm_disk calm_script. absurd (no_text told_s told zero_is rows text short calm_disk calm_script);
      written = λ e. absurd (other DONE e ((λ x. omega (arith, x)), (λ x. omega (arith, x)), (λ x. omega (arith, x))));
      most_written = omega (arith, facts.most_cost);
      disk = λ e. facts.failed (ap Err (disk_is e));
      script = script_is;
    }
      where
        other : (n : ℕ) → status ≡ n → (n ≡ 4 → ⊥) × (n ≡ 5 → ⊥) × (n ≡ 8 → ⊥) → ⊥
        other n e never = elim is [ inl x ↦ never.0 (sym e ∙ x) | inr (inl x) ↦ never.1 (sym e ∙ x) | inr (inr x) ↦ never.2 (sym e ∙ x) ]

  -- a loaded text
  module _ (done : Loaded) (b : View) (facts : Facts most (Ok done) s s0 s1 a b) where
    is_loaded : Told a → IsFileLoaded s.place.layout s0 b.held
    is_loaded told =
        let is = facts.loaded.1 in
        let told_b : Told b = told_on (Ok done) b facts told in
        let moved = (each_moved (Ok done) b facts b.held (inl (told_b, refl))).1 in
        let none = no_intent b.held told facts.none_before moved in
        record {
          text = record {
            rows = facts.loaded.0;
            text = has_text facts.loaded.0 is.text;
            least = is.least;
            means =
                in_layout b.held (from_sorted facts.loaded.0) (moved.layout_is ∙ (stands_told a s opened told).settled.layout_is)
                (means_idle b.held (from_sorted facts.loaded.0) done.height (is.represents b.held (inl (told_b, refl))) none);
          };
          no_intent = none;
          array = is.array told_b;
          balanced = subst (IsBalancedArray done.height) (sym (is.array told_b)) is.balanced;
        }

    done_by : LoadsOpened DONE most s.place.layout (sum s.tally.counts) 0 s0 s1 a b
    done_by = record {
      status_is = inl (inl refl);
      run = runs (Ok done) b facts;
      held = λ told. each (Ok done) b facts b.held (inl (told_on (Ok done) b facts told, refl));
      empty = λ e. facts.none_before;
      loaded = λ e told. is_loaded told;
      whole = λ e told. record { format = s.place.layout.format; rows = facts.loaded.0; text = (has_text facts.loaded.0 facts.loaded.1.text told).0; all = (facts.whole told).0; short = (facts.whole told).1 };
      settled = λ e. facts.settled;
      kept = λ not_done not_disk. absurd (not_done refl);
      silent = λ quiet. facts.steps.frame.said;
      line = λ e. absurd (omega (arith, e));
      why = λ e. absurd (omega (arith, e));
      left = left_alone (Ok done) b facts;
      takes = facts.takes;
      too_long = λ e. absurd (omega (arith, e));
      cut = λ e. facts.none_before;
      early = λ e. absurd (elim e [ inl x ↦ omega (arith, x) | inr x ↦ omega (arith, x) ]);
      admitted = λ told_s told zero_is text_rows text short calm_disk calm_script. refl;
      written = λ e told.
          let spent : b.travel.written ≤ a.travel.written + text_cost s.place.layout (height_of b.held) =
          subst (λ (h : ℕ). b.travel.written ≤ a.travel.written + text_cost s.place.layout h) (sym (facts.loaded.1.represents b.held (inl (told_on (Ok done) b facts told, refl))).height_is) facts.cost in
          omega (arith, spent);
      most_written = omega (arith, facts.most_cost);
      disk = λ e. absurd (omega (arith, e));
      script = λ e. absurd (omega (arith, e));
    }

  module _ (b d : View) where
    pub loaded_of : (r : Result Loaded LoadFault) → Facts most r s s0 s1 a b → Says (line_text (line_of_load r)) b d → (line_of_load r ≡ None → d ≡ b) → ((line : Reply) → line_of_load r ≡ Some line → SaidTold b → SaysLine line b.said b d)
        → LoadsOpened (status_of_load r) most s.place.layout (sum s.tally.counts) 0 s0 s1 a d
    loaded_of (Ok done) facts says silent line = subst (LoadsOpened DONE most s.place.layout (sum s.tally.counts) 0 s0 s1 a) (sym (silent refl)) (done_by done b facts)
    loaded_of (Err (load.NotEmpty n)) facts says silent line =
        refused_by (load.NotEmpty n) b facts d (reply.NotEmpty n) tt says (line (reply.NotEmpty n) refl) (λ told. inl (facts.fault.1, ap reply.NotEmpty facts.fault.0, facts.fault.2)) tt
        (λ told_s told none rows text short calm_disk calm_script. omega (arith, none, facts.fault.1))
    loaded_of (Err (load.Line n)) facts says silent line =
        refused_by (load.Line n) b facts d (reply.LoadLine n) tt says (line (reply.LoadLine n) refl) (λ told. inr (inl (facts.fault.0, (n, refl, wrong_at)))) tt
        (λ told_s told none rows text short calm_disk calm_script. outside (load.Line n) b facts told_s none rows text short)
      where
        wrong_at : IsWrongAt s.place.layout s0 n
        wrong_at told = laws.refused s.place.layout.format (most_records s.place.layout) n (raw_lines s0.left) (omega (arith, small)) (facts.fault.1 told)
    loaded_of (Err (load.Full n)) facts says silent line =
        refused_by (load.Full n) b facts d (reply.LoadFull n) tt says (line (reply.LoadFull n) refl)
        (λ told. inr (inr (facts.fault.0, ap reply.LoadFull facts.fault.1.0, (λ told_s. laws.full_is s.place.layout.format (most_records s.place.layout) (raw_lines s0.left) small (facts.fault.1.1 told_s))))) tt
        (λ told_s told none rows text short calm_disk calm_script. outside (load.Full n) b facts told_s none rows text short)
    loaded_of (Err load.Disk) facts says silent line = subst (LoadsOpened DISK_FAULT most s.place.layout (sum s.tally.counts) 0 s0 s1 a) (sym (silent refl))
        (stopped_by load.Disk b facts DISK_FAULT (inl refl) (λ never. absurd (never refl)) (λ e. refl) (λ e. absurd (omega (arith, e))) (λ e. absurd (omega (arith, e))) (λ e. absurd (elim e [ inl x ↦ omega (arith, x) | inr x ↦ omega (arith, x) ])) (λ e. absurd (elim e [ inl x ↦ omega (arith, x) | inr x ↦ omega (arith, x) ]))
        (λ told_s told none rows text short calm_disk calm_script. calm_disk (facts.failed refl)))
    loaded_of (Err (load.Damaged segment why)) facts says silent line =
        refused_by (load.Damaged segment why) b facts d (reply.Damaged segment why) tt says (line (reply.Damaged segment why) refl) (λ told. absurd (facts.damaged told)) tt
        (λ told_s told none rows text short calm_disk calm_script. facts.damaged told)
    loaded_of (Err load.Script) facts says silent line = subst (LoadsOpened SCRIPT_FAULT most s.place.layout (sum s.tally.counts) 0 s0 s1 a) (sym (silent refl))
        (stopped_by load.Script b facts SCRIPT_FAULT (inr (inl refl)) (λ never. tt) (λ e. absurd (omega (arith, e))) (λ e. facts.fault.1.0) (λ e. absurd (omega (arith, e))) (λ e. facts.fault.0) (λ e told_s. cut_early (facts.fault.1.1 told_s))
        (λ told_s told none rows text short calm_disk calm_script. calm_script facts.fault.1.0))
    loaded_of (Err load.Spent) facts says silent line = subst (LoadsOpened TOO_LONG most s.place.layout (sum s.tally.counts) 0 s0 s1 a) (sym (silent refl))
        (stopped_by load.Spent b facts TOO_LONG (inr (inr refl)) (λ never. tt) (λ e. absurd (omega (arith, e))) (λ e. absurd (omega (arith, e))) (λ e told. (facts.fault.1 told).all) (λ e. facts.fault.0) (λ e told_s. cut_early (facts.fault.1 told_s).read)
        (λ told_s told none rows text short calm_disk calm_script. outside load.Spent b facts told_s none rows text short))

-- The outcome of the whole job.

pub record Comes (status most : ℕ) (s0 s1 : SourceView) (a b : View) : Type 0 where
  pub status_is : IsLoadStatus status
  pub attached : b.attached ≡ Some false
  pub loaded : LoadsFile status most s0 s1 a b
  pub disk : status ≡ DISK_FAULT → Rose a.disk_faults b.disk_faults
  pub script : status ≡ SCRIPT_FAULT → SourceRose s0 s1

-- a file that an opening left is kept in all that may be held, where nothing was pending
each_opened : (a : View) {b : View} → Steps Reopens (attached_by false a) b → NothingPending a → EachHeld (KeepsMeaning a.held) b
each_opened a {b} ab nothing = each_on (λ d. d ≡ a.held) (KeepsMeaning a.held) ab (only_held (attached_by false a) nothing) (λ d i same step. subst (λ (x : List ℕ). KeepsMeaning x i) same (keeps_opened step))

-- what keeps the map, or has that of the text
pub may_keep : (s : SourceView) {old new : List ℕ} → KeepsMeaning old new → MayLoad s old new
may_keep s keeps m here = inl (keeps m here)

module _ (most : ℕ) (s : SourceView) (a b : View) (law : Lawful a) (ab : Steps Reopens (attached_by false a) b) (d : View) where
  -- of a file that was not opened, and isn't refused
  quiet_file : (fault : OpenFault) → IsUnopened fault (attached_by false a) b → (status : ℕ) → (status ≡ DISK_FAULT) ⊎ (status ≡ OUT_OF_MEMORY) → (status ≡ DISK_FAULT → fault ≡ opening.Failed) → (status ≡ OUT_OF_MEMORY → fault ≡ opening.Memory) → Comes status most s s a b
  quiet_file fault unopened status is failed memory = record {
    status_is = inr (inr is);
    attached = ab.frame.attached;
    loaded = record {
      steps = λ nothing. run_of_steps (λ image said. MayLoad s a.held image) ab (λ honest start image left step. may_keep s (subst (λ (x : List ℕ). KeepsMeaning x image) (nothing honest start left) (keeps_opened step)));
      held = λ told. may_keep s (keeps_opened (ab.held told));
      done = λ e. absurd (other DONE e ((λ x. omega (arith, x)), (λ x. omega (arith, x))));
      whole = λ e. absurd (other DONE e ((λ x. omega (arith, x)), (λ x. omega (arith, x))));
      settled = λ e. absurd (other DONE e ((λ x. omega (arith, x)), (λ x. omega (arith, x))));
      shut = λ e. absurd (elim e [ inl x ↦ other DONE x ((λ y. omega (arith, y)), (λ y. omega (arith, y))) | inr (inl x) ↦ other SCRIPT_FAULT x ((λ y. omega (arith, y)), (λ y. omega (arith, y))) | inr (inr x) ↦ other TOO_LONG x ((λ y. omega (arith, y)), (λ y. omega (arith, y))) ]);
      kept = λ not_done not_disk nothing. each_opened a ab nothing;
      silent = λ quiet. ab.frame.said;
      refused = λ e. absurd (other REFUSED e ((λ x. omega (arith, x)), (λ x. omega (arith, x))));
      memory = λ e. unopened.memory (memory e);
      takes = λ told. takes_none most s;
      too_long = λ e. absurd (other TOO_LONG e ((λ x. omega (arith, x)), (λ x. omega (arith, x))));
      early = λ e. absurd (elim e [ inl x ↦ other SCRIPT_FAULT x ((λ y. omega (arith, y)), (λ y. omega (arith, y))) | inr x ↦ other TOO_LONG x ((λ y. omega (arith, y)), (λ y. omega (arith, y))) ]);
      complete = λ told m here calm. inr (inl (ends calm));
      admitted = λ told_s told here rows text short calm calm_script. inr (ends calm);
      written = λ e. absurd (other DONE e ((λ x. omega (arith, x)), (λ x. omega (arith, x))));
      most_written = λ told. omega (arith, unopened.cost told);
    };
    disk = λ e. unopened.failed (failed e);
    script = λ e. absurd (other SCRIPT_FAULT e ((λ x. omega (arith, x)), (λ x. omega (arith, x))));
  }
    where
      other : (n : ℕ) → status ≡ n → (n ≡ 4 → ⊥) × (n ≡ 7 → ⊥) → ⊥
      other n e none = elim is [ inl x ↦ none.0 (sym e ∙ x) | inr x ↦ none.1 (sym e ∙ x) ]

      ends : (Rose a.disk_faults b.disk_faults → ⊥) → status ≡ OUT_OF_MEMORY
      ends calm = elim is [ inl e ↦ absurd (calm (unopened.failed (failed e))) | inr e ↦ e ]

  -- it is refused, and means no map
  refused_file : IsLoadRefused s s a d → {text : List ℕ} → Says text b d → (Told a → b.travel.written ≤ a.travel.written + reopening_cost a.held) → (Told a → (m : Map) → Means (layout_in a.held) a.held m → ⊥) → Comes REFUSED most s s a d
  refused_file refused says cost never = record {
    status_is = inr (inl refl);
    attached = says.attached ∙ ab.frame.attached;
    loaded = record {
      steps = λ nothing. run_in (λ image said. MayLoad s a.held image) (unopened_run a b law ab nothing says) (λ honest image said keeps. may_keep s keeps);
      held = λ told. may_keep s (subst (KeepsMeaning a.held) (sym says.held) (keeps_opened (ab.held told)));
      done = λ e. absurd (omega (arith, e));
      whole = λ e. absurd (omega (arith, e));
      settled = λ e. absurd (omega (arith, e));
      shut = λ e. absurd (elim e [ inl x ↦ omega (arith, x) | inr (inl x) ↦ omega (arith, x) | inr (inr x) ↦ omega (arith, x) ]);
      kept = λ not_done not_disk nothing. each_says (KeepsMeaning a.held) says (each_opened a ab nothing);
      silent = λ other. absurd (other refl);
      refused = λ e. refused;
      memory = λ e. absurd (omega (arith, e));
      takes = λ told. takes_none most s;
      too_long = λ e. absurd (omega (arith, e));
      early = λ e. absurd (elim e [ inl x ↦ omega (arith, x) | inr x ↦ omega (arith, x) ]);
      complete = λ told m here. absurd (never told m here);
      admitted = λ told_s told here. absurd (never told empty_map here);
      written = λ e. absurd (omega (arith, e));
      most_written = λ told. omega (arith, cost told, ap (λ (t : Travel). t.written) says.travel);
    };
    disk = λ e. absurd (omega (arith, e));
    script = λ e. absurd (omega (arith, e));
  }

  pub comes_unopened : (fault : OpenFault) → IsUnopened fault (attached_by false a) b → (line_of_opening fault ≡ None → d ≡ b) → Says (line_text (line_of_opening fault)) b d → ((line : Reply) → line_of_opening fault ≡ Some line → SaidTold b → SaysLine line b.said b d)
      → Comes (status_of_opening fault) most s s a d
  comes_unopened opening.Memory unopened silent says line = subst (Comes OUT_OF_MEMORY most s s a) (sym (silent refl)) (quiet_file opening.Memory unopened OUT_OF_MEMORY (inr refl) (λ e. absurd (omega (arith, e))) (λ e. refl))
  comes_unopened opening.Failed unopened silent says line = subst (Comes DISK_FAULT most s s a) (sym (silent refl)) (quiet_file opening.Failed unopened DISK_FAULT (inl refl) (λ e. refl) (λ e. absurd (omega (arith, e))))
  comes_unopened (opening.NotStore reason) unopened silent says line =
      refused_file (record {
        line = λ told. (reply.NotStore reason, tt, from told);
        why = λ told. (reply.NotStore reason, inl (reason, unopened.refused reason refl told, refl), from);
        recovers = λ told r is. subst (λ (x : List ℕ). IsButClosed a.held (recovered (layout_in a.held) a.held) (recovered (layout_in a.held) x)) (sym says.held) (unopened.recovers reason refl told);
        bare = λ told r is bare. subst (IsButClosed a.held a.held) (sym says.held) (unopened.bare reason refl told bare);
        kept = λ told rest some. (subst (IsButClosed a.held a.held) (sym says.held) (unopened.bare reason refl told rest.rest.bare), subst (WritesGate a.held a.travel.written) (sym (ap (λ (t : Travel). t.written) says.travel)) (unopened.unwritten told rest));
      }) says unopened.cost (no_map a b ab d reason unopened)
    where
      from : SaidTold a → SaysLine (reply.NotStore reason) a.said a d
      from told = said_since a b d (reply.NotStore reason) ab.frame.said (sym ab.frame.say_faults) (line (reply.NotStore reason) refl (ap (λ f. f.tells_said) ab.frame.fixed ∙ told))
  comes_unopened (opening.Damaged segment why) unopened silent says line =
      refused_file (record {
        line = λ told. (reply.Damaged segment why, tt, from told);
        why = λ told. absurd (unopened.undamaged told);
        recovers = λ told. absurd (unopened.undamaged told);
        bare = λ told. absurd (unopened.undamaged told);
        kept = λ told. absurd (unopened.undamaged told);
      }) says unopened.cost (λ told. absurd (unopened.undamaged told))
    where
      from : SaidTold a → SaysLine (reply.Damaged segment why) a.said a d
      from told = said_since a b d (reply.Damaged segment why) ab.frame.said (sym ab.frame.say_faults) (line (reply.Damaged segment why) refl (ap (λ f. f.tells_said) ab.frame.fixed ∙ told))

-- of a file that was opened
module _ (most : ℕ) (s0 s1 : SourceView) (a b : View) (law : Lawful a) (ab : Steps Reopens (attached_by false a) b) (v : StoreView) (opened : IsOpened v (attached_by false a) b) where
  on : Told a → Told b
  on told = ap (λ f. f.tells_held) ab.frame.fixed ∙ told

  stands_opened : Told a → StandsWith v.place.layout v.place.region v.tally.height v.tally.counts b.held
  stands_opened told = (opened.store.on.stands b.held (inl (on told, refl))).balanced.stands

  same_layout : Told a → layout_in b.held ≡ layout_in a.held
  same_layout told = (stands_opened told).settled.layout_is ∙ opened.layout told

  -- the number of records that the file meant
  same_records : Told a → sum v.tally.counts ≡ len (meant_map a.held)
  same_records told =
      sym (counted_all v.place.layout v.place.region v.tally.height v.tally.counts b.held (stands_opened told))
      ∙ ap len (ap (λ (s : ArrayState). s.map) (opened.state told) ∙ opened_map a.held)

  same_answer : Told a → (line : Reply) → AnswersLoad v.place.layout (sum v.tally.counts) s0 s1 line ≡ AnswersLoad (layout_in a.held) (len (meant_map a.held)) s0 s1 line
  same_answer told line = (λ i. AnswersLoad (opened.layout told i) (same_records told i) s0 s1 line)

  -- a map that the file meant
  same_map : Told a → (m : Map) → Means (layout_in a.held) a.held m → len m ≡ sum v.tally.counts
  same_map told m here = ap len (meant_one a.held m here).0 ∙ sym (same_records told)

  may_since : Told a → (image : List ℕ) → MayLoad s0 b.held image → MayLoad s0 a.held image
  may_since told image moved m here = elim (moved m (in_own b.held m ((ab.held told).means m here))) [
    | inl keeps ↦ inl (in_layout image m ((ab.held told).means m here).layout_is keeps)
    | inr text ↦ inr (
      text.0,
      record {
        rows = text.1.rows;
        text = subst (λ (x : Layout). HasText x s0 text.1.rows) (same_layout told) text.1.text;
        least = text.1.least;
        means = in_layout image (from_sorted text.1.rows) (same_layout told) text.1.means;
      },
    )
  ]

  module _ (status : ℕ) (d : View) (loads : LoadsOpened status most v.place.layout (sum v.tally.counts) (clear_cost v.place.layout) s0 s1 b d) where
    disk : status ≡ DISK_FAULT → Rose a.disk_faults d.disk_faults
    disk e = omega (arith, loads.disk e, ab.frame.disk_faults)

    on_said : SaidTold a → SaidTold b
    on_said told = ap (λ f. f.tells_said) ab.frame.fixed ∙ told

    since : (line : Reply) → SaysLine line b.said b d → SaysLine line a.said a d
    since line says = said_since a b d line ab.frame.said (sym ab.frame.say_faults) says

    was_refused : status ≡ REFUSED → IsLoadRefused s0 s1 a d
    was_refused e = record {
      line = λ told. let last = loads.line e (on_said told) in (last.0, last.1, since last.0 last.2);
      why = λ told.
          let last = loads.why e (on told) in
          (last.0, inr (opened.sound told, subst (λ (x : Type 0). x) (same_answer told last.0) last.1), (λ said. since last.0 (last.2 (on_said said))));
      recovers = λ told r is. absurd (none_some (sym (opened.sound told) ∙ is));
      bare = λ told r is. absurd (none_some (sym (opened.sound told) ∙ is));
      kept = λ told rest some.
          let same = loads.left (omega (arith, some, same_records told)) in
          (subst (IsButClosed a.held a.held) (sym same.0) (opened.kept told rest), subst (WritesGate a.held a.travel.written) (sym same.1) (opened.unwritten told rest));
    }
      where
        none_some : {r : Reason} → None ≡ Some r → ⊥
        none_some is = cc

    -- the map that it meant is empty, where it has no records
    none_is : Told a → sum v.tally.counts ≡ 0 → (m : Map) → Means (layout_in a.held) a.held m → m ≡ empty_map
    none_is told none m here = empty_of_len m (same_map told m here ∙ none)

    was_loaded : status ≡ DONE → Told a → (opening_reason a.held ≡ None) × (meant_map a.held ≡ empty_map) × IsFileLoaded (layout_in a.held) s0 d.held
    was_loaded e told = (
      opened.sound told,
      empty_of_len (meant_map a.held) (sym (same_records told) ∙ loads.empty e),
      subst (λ (x : Layout). IsFileLoaded x s0 d.held) (opened.layout told) (loads.loaded e (on told)),
    )

    pub comes_opened : StaysShut b d → Comes status most s0 s1 a d
    comes_opened stays = record {
      status_is = elim loads.status_is [ inl e ↦ inl e | inr (inl e) ↦ inr (inl e) | inr (inr e) ↦ inr (inr (inl e)) ];
      attached = loads.run.attached ∙ ab.frame.attached;
      loaded = record {
        steps = λ nothing.
            run_on (λ image said. MayLoad s0 a.held image) (run_of_steps (λ image said. KeepsMeaning a.held image) ab (λ honest start image left step. subst (λ (x : List ℕ). KeepsMeaning x image) (nothing honest start left) (keeps_opened step))) loads.run
            (λ honest image said keeps. may_keep s0 keeps)
            (λ honest image said moved. may_since (law.tells honest).0 image moved);
        held = λ told. may_since told d.held (loads.held (on told));
        done = was_loaded;
        whole = loads.whole;
        settled = loads.settled;
        shut = λ e told. stays.after opened.shut d.held (inl (ap (λ f. f.tells_held) loads.run.fixed ∙ on told, refl));
        kept = λ not_done not_disk nothing image left. keeps_on (keeps_opened (ab.held (told_back image left))) (loads.kept not_done not_disk image left);
        silent = λ other. loads.silent other ∙ ab.frame.said;
        refused = was_refused;
        memory = λ e. absurd (elim loads.status_is [ inl (inl x) ↦ omega (arith, e, x) | inl (inr (inl x)) ↦ omega (arith, e, x) | inl (inr (inr x)) ↦ omega (arith, e, x) | inr (inl x) ↦ omega (arith, e, x) | inr (inr x) ↦ omega (arith, e, x) ]);
        takes = loads.takes;
        too_long = loads.too_long;
        early = λ e told_s told. subst (λ (x : Layout). IsCutEarly x s0 s1) (opened.layout told) (loads.early e told_s);
        complete = λ told m here calm. elim loads.status_is [
          | inl (inl e) ↦ inl e
          | inl (inr e) ↦ inr (inr (inr (none_is told (loads.cut e) m here, e)))
          | inr (inl e) ↦ let last = loads.why e (on told) in inr (inr (inl (e, (last.0, subst (λ (x : Type 0). x) (same_answer told last.0) last.1))))
          | inr (inr e) ↦ absurd (calm (disk e))
        ];
        admitted = λ told_s told here rows text short calm calm_script.
            inl (loads.admitted told_s (on told) (sym (same_map told empty_map here) ∙ len_none) rows (subst (λ (x : Layout). HasText x s0 rows) (sym (opened.layout told)) text) short (λ rose. calm (omega (arith, rose, ab.frame.disk_faults))) calm_script);
        written = λ e told. omega (arith, opened.cost told, loads.written e (on told), ap (λ (x : Layout). load_cost x (height_of d.held)) (opened.layout told));
        most_written = λ told. omega (arith, opened.cost told, loads.most_written, ap (λ (x : Layout). load_cost x (height_limit x)) (opened.layout told));
      };
      disk = disk;
      script = loads.script;
    }
      where
        told_back : (image : List ℕ) → MayHold d image → Told a
        told_back image (inl held) = ap (λ f. f.tells_held) (sym (loads.run.fixed ∙ ab.frame.fixed)) ∙ held.0
        told_back image (inr honest) = (law.tells (ap (λ f. f.honest) (sym (loads.run.fixed ∙ ab.frame.fixed)) ∙ honest.0)).0

        len_none : len empty_map ≡ 0
        len_none = len-empty key_cmp Bytes

  -- what takes nothing from the source is a load into a store that has records
  pub untaken_of : (status : ℕ) (d : View) → LoadsOpened status most v.place.layout (sum v.tally.counts) (clear_cost v.place.layout) s0 s1 b d → TakesNothing (Some asked.Load) status a → 0 < sum v.tally.counts
  untaken_of status d loads none = elim none [
    | inl never ↦ absurd never
    | inr (inl e) ↦ absurd (no_memory e)
    | inr (inr (inl never)) ↦ absurd never.0
    | inr (inr (inr (inl over))) ↦ omega (arith, over.1.2, same_map over.0 over.1.0 over.1.1)
    | inr (inr (inr (inr (told, no_store)))) ↦ absurd (no_store (meant_map a.held) (means_of_none a.held (opened.sound told)))
  ]
    where
      no_memory : status ≡ OUT_OF_MEMORY → ⊥
      no_memory e = elim loads.status_is [ inl (inl x) ↦ omega (arith, e, x) | inl (inr (inl x)) ↦ omega (arith, e, x) | inl (inr (inr x)) ↦ omega (arith, e, x) | inr (inl x) ↦ omega (arith, e, x) | inr (inr x) ↦ omega (arith, e, x) ]

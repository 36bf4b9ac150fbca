-- What is known of parts and file behind the laying of the journal, and behind the reading of the live region.
use Rattle.std.proofs.Common.{◌≡◌, inl, ℕ, ◌+◌, ◌*◌, ◌^◌, ◌<◌, ◌≤◌, List, Option, Some, None, Ok, Err, refl, sym, ◌∙◌, ap, subst, arith, sum}
use Rattle.std.specs.Prelude.{Result}
use Rattle.station.specs.Bytes.{Same}
use Rattle.station.specs.View.{View, Lawful, Told, NothingPending}
use Rattle.station.specs.Steps.{Steps}
use Rattle.station.proofs.Composition.{same_on, each_held, nothing_on, told_on, told_back}
use Rattle.density_rule.specs.Bounds.{IsInBounds}
use Rattle.density_rule.specs.Marks.{no_marks}
use Rattle.header_gate.specs.declared.header.Header.{Header}
use Rattle.header_gate.specs.declared.header.HeaderFault.{HeaderFault}
use Rattle.header_gate.specs.declared.header.HeaderFault.TheVariants as header
use Rattle.header_gate.specs.declared.reason.Reason.{Reason}
use Rattle.header_gate.specs.InPlace.{IsBare, IsRecovered}
use Rattle.header_gate.specs.Places.{segment_size}
use Rattle.header_gate.specs.Recovered.{journal_reason}
use Rattle.key_slot.specs.Record.{Bytes}
use Rattle.map_model.specs.Array.{counts_of}
use Rattle.map_model.specs.Image.{array_from, array_of}
use Rattle.map_model.specs.FileReasons.{array_reason, reason_of}
use Rattle.range_scan.specs.RegionReading.{page_in}
use Rattle.redo_journal.specs.Frames.{Batch}
use Rattle.redo_journal.specs.Rest.{RestsAt}
use Rattle.redo_journal.proofs.Live.{rest_held, rests_still}
use Rattle.segment_frames.specs.FrameStanding.{StandsFor}
use Rattle.veb_index.specs.IndexView.{IndexView, fence_of}
use Rattle.window_tally.specs.TallyView.{TallyView, IsTally}
use Rattle.recovery.specs.OpeningCosts.{replay_cost, bare_reads, replay_calls, region_calls, bare_calls, laying_calls}
use Rattle.recovery.specs.OpeningFaults.{IsLateFault, IsIntentFault, IsNoDamage, IsRegionFault, fault_of}
use Rattle.recovery.specs.Intents.{intent_of, intent_reason, intent_calls, intent_reads, IsIntentFor}
use Rattle.recovery.specs.RegionLoading.{first_key_of}
use Rattle.recovery.specs.Opening.{Awaits, IsReadBack}
use Rattle.recovery.specs.StoreParts.{HasHeader, HasFences}
use Rattle.recovery.specs.Restores.{Restores, LeavesFile}
use Rattle.recovery.specs.declared.fault.OpenFault.{OpenFault}
use Rattle.recovery.specs.declared.fault.OpenFault.TheVariants.{Memory, Failed, NotStore, Damaged}
use Rattle.recovery.specs.declared.parts.Parts.{Parts}
use Rattle.recovery.proofs.Opening.{by_journal, reason_restored, array_restored, stands, fenced, refused_back}
use Rattle.recovery.proofs.PartLaws.{parts_kept, same_exponent}
use Rattle.recovery.proofs.ReadBacks.{no_region, no_intent, with_intent}
use Rattle.recovery.proofs.ReadingBack.{ReadsBack}

replay_fault : (fault : HeaderFault) → IsRegionFault (fault_of fault)
replay_fault header.Failed = tt
replay_fault (header.NotStore r) = tt

pub failed_back : {T : Type 0} (fault : HeaderFault) → fault_of fault ≡ Failed → ◌≡◌ {A = Result T HeaderFault} (Err fault) (Err header.Failed)
failed_back header.Failed is = refl
failed_back (header.NotStore r) is = absurd cc

late_fault : (e : OpenFault) → IsLateFault e → IsRegionFault e
late_fault Memory is = absurd is
late_fault Failed is = tt
late_fault (NotStore r) is = tt
late_fault (Damaged segment why) is = absurd is

module _ (head : Header) (old : Parts) (f : Batch) (a m : View) (awaits : Awaits head old a) (law_a : Lawful a) (laid : Steps Restores a m) (kept : Told a → IsBare old.place.layout a.held → LeavesFile a m)
    (reads : Told a → IsBare old.place.layout a.held → m.travel.read ≤ a.travel.read + bare_reads old.place.layout) (cost : m.travel.written ≤ a.travel.written + replay_cost old.place.layout)
    (calls : m.calls ≤ a.calls + replay_calls old.place.layout) (few : Told a → IsBare old.place.layout a.held → m.calls ≤ a.calls + bare_calls old.place.layout) where
  -- the journal is refused, or the disk failed
  pub no_replay : (fault : HeaderFault) → ((r : Reason) → fault ≡ header.NotStore r → Told a → journal_reason old.place.layout head.height a.held ≡ Some r) → ((r : Reason) → fault ≡ header.NotStore r → LeavesFile a m)
      → ReadsBack head (Err (fault_of fault)) old (record old { frames = f }) a m
  no_replay fault refused untouched =
      no_region head old (record old { frames = f }) a m awaits laid refl refl kept (λ told bare. omega (arith, reads told bare)) cost (omega (arith, calls)) (λ told bare. omega (arith, few told bare)) (fault_of fault) (replay_fault fault)
      (λ r is told. by_journal old.place head.height head.gate a.held (awaits.header_is told) r (refused r (refused_back fault r is) told))
      (λ r is early. untouched r (refused_back fault r is))
      (λ r is. nothing_on law_a awaits.nothing (untouched r (refused_back fault r is)).steps)

  -- The region is read.

  module _ (t : TallyView) (i : IndexView) (b : View) (law_m : Lawful m) (law_b : Lawful b) (quiet : NothingPending m) (rests : RestsAt old.place.layout f.turn m) (sound : Told a → journal_reason old.place.layout head.height a.held ≡ None)
      (same_journal : f.journal ≡ old.frames.journal) (read : Steps Same m b) (counted : t ≡ record old.tally { counts = t.counts }) (same_fences : 2 ^ i.height ≡ 2 ^ old.index.height) (same_room : 2 ^ i.hmax ≡ 2 ^ old.index.hmax)
      (unwritten : b.travel.written ≡ m.travel.written) (read_once : b.travel.read ≤ m.travel.read + segment_size old.place.layout * 2 ^ old.tally.height) (called : b.calls ≤ m.calls + region_calls old.place.layout old.tally.height) where
    header_at : Told a → HasHeader old.place old.tally.height head.gate a.held
    header_at told = subst (λ (h : ℕ). HasHeader old.place h head.gate a.held) (sym awaits.height_is) (awaits.header_is told)

    journal_at : Told a → journal_reason old.place.layout old.tally.height a.held ≡ None
    journal_at told = subst (λ (h : ℕ). journal_reason old.place.layout h a.held ≡ None) (sym awaits.height_is) (sound told)

    -- behind a replay the journal lies in place
    readable : Told a → IsRecovered old.place.layout m.held
    readable told = rest_held old.place.layout m rests.rest (told_on laid.frame told)

    -- what is found wrong with it is what is wrong with the file at entry
    answered : Told a → (answer : Option Reason) → array_reason old.place.layout.format (page_in old.place.layout old.place.region m.held) old.tally.height ≡ answer → reason_of a.held ≡ answer
    answered told answer is =
        reason_restored old.place old.tally.height head.gate a.held (header_at told) m.held (laid.held told) (readable told) awaits.parts_are.region awaits.parts_are.height answer (journal_at told) is

    steps : Steps Restores a b
    steps = same_on laid read

    room : i.hmax ≡ old.index.hmax
    room = same_exponent i.hmax old.index.hmax same_room

    kept_on : Told a → IsBare old.place.layout a.held → LeavesFile a b
    kept_on told bare = record { steps = same_on (kept told bare).steps read; unwritten = unwritten ∙ (kept told bare).unwritten }

    reads_on : Told a → IsBare old.place.layout a.held → b.travel.read ≤ a.travel.read + bare_reads old.place.layout + segment_size old.place.layout * 2 ^ head.height
    reads_on told bare = omega (arith, reads told bare, read_once, ap (λ (h : ℕ). segment_size old.place.layout * 2 ^ h) awaits.height_is)

    cost_on : b.travel.written ≤ a.travel.written + replay_cost old.place.layout
    cost_on = omega (arith, cost, unwritten)

    calls_on : b.calls ≤ a.calls + (replay_calls old.place.layout + region_calls old.place.layout head.height)
    calls_on = omega (arith, calls, called, ap (λ (h : ℕ). region_calls old.place.layout h) awaits.height_is)

    few_on : Told a → IsBare old.place.layout a.held → b.calls ≤ a.calls + bare_calls old.place.layout + region_calls old.place.layout head.height
    few_on told bare = omega (arith, few told bare, called, ap (λ (h : ℕ). region_calls old.place.layout h) awaits.height_is)

    -- a segment is refused, or the disk failed
    pub no_load : (e : OpenFault) → IsLateFault e → ((r : Reason) → e ≡ NotStore r → Told m → array_reason old.place.layout.format (page_in old.place.layout old.place.region m.held) old.tally.height ≡ Some r)
        → ReadsBack head (Err e) old (record old { tally = t; index = i; frames = f }) a b
    no_load e late refused =
        no_region head old (record old { tally = t; index = i; frames = f }) a b awaits steps refl room kept_on reads_on cost_on calls_on few_on e (late_fault e late)
        (λ r is told. answered told (Some r) (refused r is (told_on laid.frame told)))
        (λ r is early. absurd (subst IsLateFault is late early)) (λ r is. nothing_on law_m quiet read)

    -- It is sound.

    module _ (is_tally : IsTally t) (root : IsInBounds old.tally.height old.tally.height (sum t.counts)) (whole : Told m → array_reason old.place.layout.format (page_in old.place.layout old.place.region m.held) old.tally.height ≡ None)
        (counts : Told m → t.counts ≡ counts_of (array_from old.place.layout.format (page_in old.place.layout old.place.region m.held) (2 ^ old.tally.height)))
        (set : Told m → (k : ℕ) (key : Bytes) → 0 < k → k < 2 ^ old.tally.height → first_key_of old.place.layout.format (page_in old.place.layout old.place.region m.held k) ≡ Some key → fence_of i k ≡ Some key)
        (asked : Told a → m.calls ≤ a.calls + (laying_calls a.held + bare_calls old.place.layout)) where
      height_is : t.height ≡ old.tally.height
      height_is = ap (λ (u : TallyView). u.height) counted

      is_sound : Told a → reason_of a.held ≡ None
      is_sound told = answered told None (whole (told_on laid.frame told))

      arrays : Told a → array_of b.held ≡ array_of a.held
      arrays told =
          ap array_of (read.held (told_on laid.frame told))
          ∙ array_restored old.place old.tally.height head.gate a.held (header_at told) m.held (laid.held told)

      standing : Told b → StandsFor old.place t b.held
      standing told_b =
          let told_m = told_back read.frame told_b in
          let told = told_back laid.frame told_m in
          subst (StandsFor old.place t) (sym (read.held told_m))
          (subst (λ (h : ℕ). StandsFor old.place (record t { height = h }) m.held) (sym height_is)
          (stands old.place old.tally.height head.gate a.held (header_at told) m.held (laid.held told) (readable told) awaits.parts_are.region awaits.parts_are.height
          (λ single. rests.gates m.held (inl (told_m, refl)) ∙ rests.single single) t.counts (counts told_m) (is_sound told)))

      -- what is known of parts and file
      pub back : IsReadBack old.place t i f.journal f.turn b
      back = record {
        parts_are = parts_kept old.place old.tally t old.index i old.frames.journal f.journal awaits.parts_are is_tally (ap (λ (u : TallyView). u.hmax) counted) height_is same_fences same_room same_journal;
        unrested = ap (λ (u : TallyView). u.marks) counted ∙ awaits.unrested ∙ ap no_marks (sym height_is);
        reach = omega (arith, awaits.reach, ap (λ x. x.reach) steps.frame.fixed);
        root = subst (λ (h : ℕ). IsInBounds h h (sum t.counts)) (sym height_is) root;
        stands = each_held b (StandsFor old.place t) law_b (nothing_on law_m quiet read) standing;
        fenced = λ told_b.
            let told_m = told_back read.frame told_b in
            let told = told_back laid.frame told_m in
            subst (λ (x : List ℕ). HasFences i (array_of x)) (sym (read.held told_m))
            (fenced old.place old.tally.height head.gate a.held (header_at told) m.held (laid.held told) (readable told) awaits.parts_are.region awaits.parts_are.height i (set told_m));
        rests = rests_still old.place.layout f.turn m b law_m rests read;
        nothing = nothing_on law_m quiet read;
      }

      asked_on : Told a → b.calls ≤ a.calls + (laying_calls a.held + bare_calls old.place.layout + region_calls old.place.layout head.height)
      asked_on told = omega (arith, asked told, called, ap (λ (h : ℕ). region_calls old.place.layout h) awaits.height_is)

      -- The intent is read.

      module _ (c : View) (law_c : Lawful c) (bc : Steps Same b c) (written : c.travel.written ≡ b.travel.written) (reads_it : Told b → c.travel.read ≤ b.travel.read + intent_reads b.held)
          (asks : c.calls ≤ b.calls + (2 + 2 ^ t.height)) (asks_told : Told b → c.calls ≤ b.calls + intent_calls b.held) where
        -- it is refused, or the disk failed
        pub no_items : (e : OpenFault) → IsIntentFault e → ((r : Reason) → e ≡ NotStore r → Told b → intent_reason b.held ≡ Some r) → (Told b → IsNoDamage e) → ReadsBack head (Err e) old (record old { tally = t; index = i; frames = f }) a c
        no_items =
            no_intent head old (record old { tally = t; index = i; frames = f }) a b awaits steps refl room kept_on reads_on cost_on calls_on few_on c law_b law_c bc back is_sound arrays written reads_it (height_is ∙ awaits.height_is) asks asks_told

        -- the file is read
        pub all_read : (intent : Option _) → (Told b → intent ≡ intent_of b.held) → IsIntentFor old.place.layout.format intent → (Told b → intent_reason b.held ≡ None) → ReadsBack head (Ok tt) old (record old { tally = t; index = i; frames = f; intent = intent }) a c
        all_read intent waits items none =
            with_intent head old (record old { tally = t; index = i; frames = f }) a b awaits steps refl room kept_on reads_on cost_on calls_on few_on c law_b law_c bc back is_sound arrays written reads_it (height_is ∙ awaits.height_is) asks asks_told
            (record old { tally = t; index = i; frames = f; intent = intent }) refl (height_is ∙ awaits.height_is) waits items none asked_on

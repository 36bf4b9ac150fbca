-- The end of a run, behind the serving of its script.
use Rattle.std.proofs.Common.{◌≡◌, ◌⊎◌, inl, inr, ℕ, ◌+◌, ◌≤◌, Bool, true, false, List, [], ◌∷◌, ◌++◌, length, Result, Ok, Err, refl, sym, ◌∙◌, ap, subst, arith}
use Rattle.std.specs.Prelude.{◌==◌, IsOk}
use Rattle.std.proofs.lemmas.Bool.Decides.{nat_tests}
use Rattle.std.proofs.lemmas.List.{append-nil}
use Rattle.station.specs.Bytes.{byte}
use Rattle.station.specs.View.{View, Fixed, Told, SaidTold, EachHeld, NothingPending, Rose, Lawful}
use Rattle.station.specs.Steps.{Run}
use Rattle.station.specs.declared.travel.Travel.{Travel}
use Rattle.station.proofs.Composition.{andthen, each_held, no_steps, weaken}
use Rattle.station.proofs.Sayings.{leaves_in, leaves_on, run_of_steps, run_on}
use Rattle.line_source.specs.Lines.{raw_lines}
use Rattle.line_source.specs.SourceView.{SourceView, SourceTold}
use Rattle.header_gate.specs.Header.{layout_in}
use Rattle.header_gate.specs.declared.layout.Layout.{Layout}
use Rattle.header_gate.specs.declared.layout.TheConstants.{PAIRED}
use Rattle.header_gate.specs.InPlace.{IsBare}
use Rattle.header_gate.proofs.Journals.{bare_even}
use Rattle.map_model.specs.ArrayState.{ArrayState}
use Rattle.map_model.specs.Image.{height_of, map_of}
use Rattle.map_model.specs.Store.{Map}
use Rattle.map_model.proofs.Recovering.{determined}
use Rattle.batch_intent.specs.Means.{Means}
use Rattle.redo_journal.proofs.Live.{rests_settled}
use Rattle.segment.specs.declared.fault.StoreFault.{StoreFault}
use Rattle.index_file.specs.Clean.{IsClean, IsShut}
use Rattle.index_file.proofs.CleanLaws.{clean_shut}
use Rattle.command_text.specs.Script.{command_of_raw, commands_of, commands_in, complete_commands}
use Rattle.command_text.specs.Session.{Session, session_after, session_reply}
use Rattle.pma_store.specs.StoreAnswers.{state_in}
use Rattle.pma_store.specs.Settling.{SettlesStore}
use Rattle.pma_store.specs.StoreView.{StoreView, IsOpenOn}
use Rattle.pma_engine.specs.Carrying.{layout_on, session_in}
use Rattle.pma_engine.specs.Closing.{LeavesIndex, StaysShut, ending_cost, leaving_calls, leaving_cost}
use Rattle.pma_engine.specs.Ending.{EndsRun, IsSettledStatus}
use Rattle.pma_engine.specs.Outcome.{IsRunStatus, RunsOpened, Serves, ServesScript, fresh_session}
use Rattle.pma_engine.specs.Serving.{AsksNothing, HasLayout, EndsServed, IsAtState, IsStopped, ScriptPair, StopsRun, fresh_reader}
use Rattle.pma_engine.specs.CommandCosts.{session_cost}
use Rattle.pma_engine.specs.Headline.{IsPartSaid, replies_after}
use Rattle.pma_engine.specs.declared.status.TheConstants.{DONE, REFUSED, DISK_FAULT, SCRIPT_FAULT, REPLY_FAULT, OUT_OF_MEMORY, TOO_LONG}
use Rattle.pma_engine.proofs.Closing.{clear_gate, keeps_staying, stays_steps}
use Rattle.pma_engine.proofs.LeftIndexes.{headline_left, map_left, state_left}
use Rattle.pma_engine.proofs.Settling.{state_kept, told_settled}
use Rattle.pma_engine.proofs.StoreLaws.{read_means}
use Rattle.pma_engine.proofs.Upgrading.{represents_idle}

-- A file with one journal has nothing to settle.

pub settles_single : (s : StoreView) (a : View) → Lawful a → (s.place.layout.version ≡ PAIRED → ⊥) → IsOpenOn s a → SettlesStore {T = Unit {0}} (Ok tt) s s a a
settles_single s a law single opened = record {
  nothing = (rests_settled s.place.layout s.turn a single opened.on.rests).0;
  bare = λ told. bare_even s.place.layout a.held single ((opened.on.stands a.held (inl (told, refl))).balanced.stands.settled.gate_even single);
  state = λ told. refl;
  store = λ i. record { place = s.place; tally = s.tally; index = s.index; journal = s.journal; turn = s.turn; closed = opened.opened i };
  meant = read_means s a a law opened (no_steps a);
  touched = weaken (no_steps a) (λ d i left same. record { size = ap length same; rest = λ k out. ap (λ (x : List ℕ). byte x k) same });
  cost = omega arith;
  unread = refl;
  calls = omega arith;
  disk = tt;
}

-- so it can't fail there
pub paired_by : (T : Type 0) (l : Layout) (fault : StoreFault) → ((l.version ≡ PAIRED → ⊥) → IsOk {T = T} (Err fault)) → l.version ≡ PAIRED
paired_by T l fault sure = by (l.version == PAIRED) refl
  where
    by : (b : Bool) → (l.version == PAIRED) ≡ b → l.version ≡ PAIRED
    by true is = grind (arith, nat_tests, is)
    by false is = let never : IsOk {T = T} (Err fault) = sure (λ e. grind (arith, nat_tests, is, e)) in cc

-- a status behind which it is settled is none of a stop
pub not_disk : (n : ℕ) → IsSettledStatus n → n ≡ DISK_FAULT → ⊥
not_disk n is e = elim is [ inl (inl x) ↦ omega (arith, x, e) | inl (inr (inl x)) ↦ omega (arith, x, e) | inl (inr (inr x)) ↦ omega (arith, x, e) | inr x ↦ omega (arith, x, e) ]

pub not_refused : (n : ℕ) → IsSettledStatus n → n ≡ REFUSED → ⊥
not_refused n is e = elim is [ inl (inl x) ↦ omega (arith, x, e) | inl (inr (inl x)) ↦ omega (arith, x, e) | inl (inr (inr x)) ↦ omega (arith, x, e) | inr x ↦ omega (arith, x, e) ]

-- The end itself.

module _ {T : Type 0} {r : Result T StoreFault} (s t : StoreView) (a b : View) (opened : IsOpenOn s a) (shut : EachHeld IsShut a) (settles : SettlesStore r s t a b) where
  stays : StaysShut a b
  stays = stays_steps settles.touched (λ d i touched. clear_gate s.place.layout d i touched)

  on : Told a → Told b
  on = told_settled s t a b opened settles

  shut_held : Told a → IsShut b.held
  shut_held told = stays.after shut b.held (inl (on told, refl))

  -- the settling failed
  pub ends_failed : (n : ℕ) → IsSettledStatus n → Rose a.disk_faults b.disk_faults → s.place.layout.version ≡ PAIRED → EndsRun n DISK_FAULT s a b
  ends_failed n is rose paired = record {
    status_is = inr refl;
    steps = settles.meant;
    stands = λ e. absurd (not_disk n is (sym e));
    settled = λ e. absurd (not_disk n is (sym e));
    left = λ e. absurd (omega (arith, e));
    unleft = λ cut told. shut_held told;
    clean = λ told. clean_shut b.held (shut_held told);
    moments = leaves_in (λ image said. IsClean image) (stays.moments shut) (λ honest image said is. clean_shut image is);
    cost = omega (arith, settles.cost);
    cost_cut = λ cut. settles.cost;
    unread = settles.unread;
    calls = omega (arith, settles.calls);
    disk = λ e. rose;
    paired = λ e. inr paired;
  }

  module _ (nothing : NothingPending b) (state : Told a → state_in t b.held ≡ state_in s a.held) (open_yet : IsOpenOn t b) where
    kept : Told a → (x : ArrayState) → IsAtState s.place.layout x a.held → IsAtState s.place.layout x b.held
    kept = state_kept s t a b opened settles state open_yet

    -- it was done, and no index is left
    pub ends_cut : (n : ℕ) → IsSettledStatus n → (n ≡ DONE → ⊥) → EndsRun n n s a b
    ends_cut n is not_done = record {
      status_is = inl refl;
      steps = settles.meant;
      stands = λ e. kept;
      settled = λ e. nothing;
      left = λ e. absurd (not_done e);
      unleft = λ cut told. shut_held told;
      clean = λ told. clean_shut b.held (shut_held told);
      moments = leaves_in (λ image said. IsClean image) (stays.moments shut) (λ honest image said is. clean_shut image is);
      cost = omega (arith, settles.cost);
      cost_cut = λ cut. settles.cost;
      unread = settles.unread;
      calls = omega (arith, settles.calls);
      disk = λ e. absurd (not_disk n is e);
      paired = λ e. absurd (not_disk n is e);
    }

    -- the index was left behind it, or the leaving failed
    module _ (law_b : Lawful b) (bare : Told b → IsBare t.place.layout b.held) (status : ℕ) (c : View) (leaves : LeavesIndex status t b c) where
      bare_each : EachHeld (IsBare t.place.layout) b
      bare_each = each_held b (IsBare t.place.layout) law_b nothing bare

      same_cost : leaving_cost t.place.layout t.tally.height ≡ leaving_cost s.place.layout s.tally.height
      same_cost = ap (λ (x : StoreView). leaving_cost x.place.layout x.tally.height) settles.store

      same_calls : leaving_calls t.place.layout t.tally.height ≡ leaving_calls s.place.layout s.tally.height
      same_calls = ap (λ (x : StoreView). leaving_calls x.place.layout x.tally.height) settles.store

      pub ends_left : EndsRun DONE status s a c
      ends_left = record {
        status_is = leaves.status_is;
        steps = andthen settles.meant leaves.steps (λ d i left means. means) (λ d e i left first mid second.
            map_left t e i (open_yet.on.stands e mid) (open_yet.no_intent e mid) (bare_each e mid) second s.place.layout (map_of a.held) first);
        stands = λ e told x at.
            let held = inl (on told, refl) in
            state_left t b.held c.held (open_yet.on.stands b.held held) (open_yet.no_intent b.held held) (bare_each b.held held) (leaves.steps.held (on told)) s.place.layout x (kept told x at);
        settled = leaves.settled;
        left = λ e told version. leaves.left e (on told) (omega (arith, version, ap (λ (x : StoreView). x.place.layout.version) settles.store));
        unleft = λ not_done. absurd (not_done refl);
        clean = λ told. (leaves.steps.held (on told)).clean;
        moments =
            leaves_on (λ image said. IsClean image) settles.meant.frame.fixed settles.meant.frame.calls
            (leaves_in (λ image said. IsClean image) (stays.moments shut) (λ honest image said is. clean_shut image is))
            (leaves_in (λ image said. IsClean image) leaves.steps.moments (λ honest image said now. now.1.2.clean))
            (λ honest image said is. is) (λ honest image said is. is);
        cost = omega (arith, settles.cost, leaves.cost, same_cost);
        cost_cut = λ not_done. absurd (not_done refl);
        unread = leaves.unread ∙ settles.unread;
        calls = omega (arith, settles.calls, leaves.calls, same_calls);
        disk = λ e. omega (arith, leaves.disk e, settles.meant.frame.disk_faults);
        paired = λ e. inl refl;
      }

-- Behind the script.

module _ (status served most : ℕ) (x : Session) (s0 s1 : SourceView) (t : StoreView) (a b c : View) (law : Lawful a) (serves : ServesScript served most t.place.layout x s0 s1 a b) (is : IsSettledStatus served) (opened : IsOpenOn t b)
    (ends : EndsRun served status t b c) where
  abbrev l : Layout
  l = t.place.layout

  told_b : Told a → Told b
  told_b told = ap (λ (f : Fixed). f.tells_held) serves.run.fixed ∙ told

  no_refusal : served ≡ REFUSED → ⊥
  no_refusal = not_refused served is

  -- an image that means what the file meant goes on
  pair_on : (image : List ℕ) → Told a → SaidTold a → Means l image (map_of b.held) → ScriptPair l x a (fresh_reader most) s0 image b.said
  pair_on image told said_told means told_s =
      headline_left l x (commands_of l.format s0.left) a.said b.held image b.said
      (λ m here. subst (Means l image) (sym (own m here)) means)
      (serves.pair no_refusal told said_told told_s)
    where
      own : (m : Map) → Means l b.held m → m ≡ map_of b.held
      own m here = (determined b.held m here.height (represents_idle b.held m here (opened.no_intent b.held (inl (told_b told, refl))))).0

  run_on_end : Run (ScriptPair l x a (fresh_reader most) s0) a c
  run_on_end = run_on (ScriptPair l x a (fresh_reader most) s0) serves.run (run_of_steps (ScriptPair l x a (fresh_reader most) s0) ends.steps (λ honest start image may means.
      let tells = law.tells (ap (λ (f : Fixed). f.honest) (sym serves.run.fixed) ∙ honest) in
      pair_on image tells.0 tells.1 means))
      (λ honest image said pair. pair) (λ honest image said pair. pair)

  -- the status of the serving, where no disk call failed
  was : (n : ℕ) → (n ≡ DISK_FAULT → ⊥) → status ≡ n → status ≡ served
  was n other e = elim ends.status_is [ inl same ↦ same | inr disk ↦ absurd (other (sym e ∙ disk)) ]

  served_as : (n : ℕ) → (n ≡ DISK_FAULT → ⊥) → status ≡ n → served ≡ n
  served_as n other e = sym (was n other e) ∙ e

  never : (n : ℕ) → (n ≡ DISK_FAULT → ⊥) → (served ≡ n → ⊥) → status ≡ n → ⊥
  never n other unserved e = unserved (served_as n other e)

  not_memory : served ≡ OUT_OF_MEMORY → ⊥
  not_memory = serves.enough

  said_on : c.said ≡ b.said
  said_on = ends.steps.frame.said

  -- behind the whole script
  height_of_store : Told a → height_of b.held ≡ t.tally.height
  height_of_store told = (opened.on.stands b.held (inl (told_b told, refl))).balanced.stands.height_is

  spent_done : served ≡ DONE → SourceTold s0 → Told a → c.travel.written ≤ a.travel.written + (session_cost l x.store (commands_of l.format s0.left) + ending_cost l (session_after l x (commands_of l.format s0.left)).store.height)
  spent_done e told_s told =
      let done = serves.served e told_s told in
      let height : t.tally.height ≡ (session_after l x (commands_of l.format s0.left)).store.height = sym (height_of_store told) ∙ done.stands.has.represents.height_is in
      omega (arith, done.spent, ends.cost, ap (ending_cost l) height)

  ends_whole : status ≡ DONE → SourceTold s0 → Told a → EndsServed l x a (commands_of l.format s0.left) c
  ends_whole e told_s told =
      let e0 = served_as DONE (λ k. omega (arith, k)) e in
      let done = serves.served e0 told_s told in
      record {
        said = λ said_told. said_on ∙ done.said said_told;
        stands = ends.stands (was DONE (λ k. omega (arith, k)) e) (told_b told) (session_after l x (commands_of l.format s0.left)).store done.stands;
        spent = spent_done e0 told_s told;
      }

  -- all lines were answered
  all_lines : served ≡ DONE → SourceTold s0 → Told a → SaidTold a → IsStopped l x s0.left s1.left a.said c.said
  all_lines e told_s told said_told =
      let all = (serves.whole e told_s).0 in
      record {
        lines = raw_lines s0.left;
        last = [];
        one = omega arith;
        ahead = [];
        are = sym (append-nil (raw_lines s0.left)) ∙ sym (append-nil (raw_lines s0.left ++ [])) ∙ ap (λ (k : List ℕ). (raw_lines s0.left ++ []) ++ raw_lines k) (sym all);
        few = omega arith;
        count = 0;
        within = omega arith;
        said_is = said_on ∙ (serves.served e told_s told).said said_told ∙ sym (append-nil (a.said ++ replies_after l x (commands_of l.format s0.left)));
      }

  -- a script was cut
  abbrev IsCutAt : Type 0
  IsCutAt = (served ≡ SCRIPT_FAULT) ⊎ (served ≡ TOO_LONG)

  cut_not_done : IsCutAt → served ≡ DONE → ⊥
  cut_not_done cut e = elim cut [ inl k ↦ omega (arith, k, e) | inr k ↦ omega (arith, k, e) ]

  cut_stops : IsCutAt → status ≡ DISK_FAULT → SourceTold s0 → Told a → SaidTold a → StopsRun l x s0.left s1.left a.said c.said
  cut_stops cut e told_s told said_told =
      let at = serves.cut cut told_s told in
      elim (ends.paired e) [
        | inl done ↦ absurd (cut_not_done cut done)
        | inr paired ↦ inr (paired, record { taken = at.taken; is = at.is; said_is = said_on ∙ at.served.said said_told })
      ]

  reply_stops : served ≡ REPLY_FAULT → SourceTold s0 → Told a → SaidTold a → IsStopped l x s0.left s1.left a.said c.said
  reply_stops e told_s told said_told = subst (IsStopped l x s0.left s1.left a.said) (sym said_on) (serves.stopped (inr e) told_s told said_told)

  pub serves_ended : Serves status most l x s0 s1 a c
  serves_ended = record {
    status_is = elim ends.status_is [ inl same ↦ subst IsRunStatus (sym same) serves.status_is | inr disk ↦ inr (inr (inl disk)) ];
    enough = never OUT_OF_MEMORY (λ k. omega (arith, k)) not_memory;
    run = run_on_end;
    pair = λ fine told said_told. subst (ScriptPair l x a (fresh_reader most) s0 c.held) (sym said_on) (pair_on c.held told said_told (ends.steps.held (told_b told)));
    served = ends_whole;
    cut = λ e told_s told.
        let same : status ≡ served = elim e [ inl k ↦ was SCRIPT_FAULT (λ i. omega (arith, i)) k | inr k ↦ was TOO_LONG (λ i. omega (arith, i)) k ] in
        let cut : IsCutAt = elim e [ inl k ↦ inl (sym same ∙ k) | inr k ↦ inr (sym same ∙ k) ] in
        let at = serves.cut cut told_s told in
        record {
          taken = at.taken;
          is = at.is;
          ended = record {
            said = λ said_told. said_on ∙ at.served.said said_told;
            stands = ends.stands same (told_b told) (session_after l x (complete_commands l.format at.taken)).store at.served.stands;
            spent = omega (arith, at.served.spent, ends.cost_cut (cut_not_done cut));
          };
        };
    reply_cut = λ e told_s told.
        let same = was REPLY_FAULT (λ k. omega (arith, k)) e in
        let at = serves.reply_cut (sym same ∙ e) told_s told in
        record {
          front = at.front;
          one = at.one;
          ahead = at.ahead;
          are = at.are;
          few = at.few;
          said = λ said_told. subst (IsPartSaid (session_reply l (session_after l x (commands_in l.format at.front)) (command_of_raw l.format at.one)) (a.said ++ replies_after l x (commands_in l.format at.front))) (sym said_on) (at.said said_told);
          stands = ends.stands same (told_b told) (session_after l x (commands_in l.format (at.front ++ at.one ∷ []))).store at.stands;
          spent = omega (arith, at.spent, ends.cost_cut (λ k. omega (arith, k, sym same ∙ e)));
        };
    stopped = λ e told_s told said_told. elim is [
      | inl (inl done) ↦ inl (all_lines done told_s told said_told)
      | inl (inr (inl script)) ↦ cut_stops (inl script) e told_s told said_told
      | inl (inr (inr long)) ↦ cut_stops (inr long) e told_s told said_told
      | inr reply ↦ inl (reply_stops reply told_s told said_told)
    ];
    reply_stopped = λ e told_s told said_told. reply_stops (served_as REPLY_FAULT (λ k. omega (arith, k)) e) told_s told said_told;
    written = λ fine told_s told. elim is [
      | inl (inl done) ↦ omega (arith, spent_done done told_s told)
      | inl (inr (inl script)) ↦ omega (arith, serves.written no_refusal told_s told, ends.cost_cut (λ k. omega (arith, k, script)))
      | inl (inr (inr long)) ↦ omega (arith, serves.written no_refusal told_s told, ends.cost_cut (λ k. omega (arith, k, long)))
      | inr reply ↦ omega (arith, serves.written no_refusal told_s told, ends.cost_cut (λ k. omega (arith, k, reply)))
    ];
    settled = λ e. elim e [
      | inl k ↦ ends.settled (was DONE (λ i. omega (arith, i)) k)
      | inr (inl k) ↦ ends.settled (was SCRIPT_FAULT (λ i. omega (arith, i)) k)
      | inr (inr k) ↦ ends.settled (was TOO_LONG (λ i. omega (arith, i)) k)
    ];
    reply_settled = λ e. ends.settled (was REPLY_FAULT (λ i. omega (arith, i)) e);
    refused = λ e. absurd (never REFUSED (λ k. omega (arith, k)) no_refusal e);
    line = λ e. absurd (never REFUSED (λ k. omega (arith, k)) no_refusal e);
    disk = λ e. omega (arith, ends.disk e, serves.run.disk_faults);
    reply = λ e. omega (arith, serves.reply (served_as REPLY_FAULT (λ k. omega (arith, k)) e), ends.steps.frame.say_faults);
    script = λ e. serves.script (served_as SCRIPT_FAULT (λ k. omega (arith, k)) e);
    long = λ e. serves.long (served_as TOO_LONG (λ k. omega (arith, k)) e);
    whole = λ e. serves.whole (served_as DONE (λ k. omega (arith, k)) e);
    takes = serves.takes;
    went = serves.went;
  }

-- The outcome of a run from an open store on.

-- one that was stopped
serves_stopped : {status most : ℕ} {l : Layout} {x : Session} {s0 s1 : SourceView} {a b : View} → (status ≡ REFUSED) ⊎ (status ≡ DISK_FAULT) → ServesScript status most l x s0 s1 a b → Serves status most l x s0 s1 a b
serves_stopped {status} {most} {l} {x} {s0} {s1} {a} {b} is serves = record {
  status_is = serves.status_is;
  enough = serves.enough;
  run = serves.run;
  pair = serves.pair;
  served = λ e. absurd (other DONE (λ k. omega (arith, k)) (λ k. omega (arith, k)) e);
  cut = λ e. absurd (elim e [ inl k ↦ other SCRIPT_FAULT (λ i. omega (arith, i)) (λ i. omega (arith, i)) k | inr k ↦ other TOO_LONG (λ i. omega (arith, i)) (λ i. omega (arith, i)) k ]);
  reply_cut = λ e. absurd (other REPLY_FAULT (λ k. omega (arith, k)) (λ k. omega (arith, k)) e);
  stopped = λ e told_s told said_told. inl (serves.stopped (inl e) told_s told said_told);
  reply_stopped = λ e. absurd (other REPLY_FAULT (λ k. omega (arith, k)) (λ k. omega (arith, k)) e);
  written = λ fine told_s told. omega (arith, serves.written fine told_s told);
  settled = λ e. absurd (elim e [ inl k ↦ other DONE (λ i. omega (arith, i)) (λ i. omega (arith, i)) k | inr (inl k) ↦ other SCRIPT_FAULT (λ i. omega (arith, i)) (λ i. omega (arith, i)) k | inr (inr k) ↦ other TOO_LONG (λ i. omega (arith, i)) (λ i. omega (arith, i)) k ]);
  reply_settled = λ e. absurd (other REPLY_FAULT (λ k. omega (arith, k)) (λ k. omega (arith, k)) e);
  refused = serves.refused;
  line = serves.line;
  disk = serves.disk;
  reply = serves.reply;
  script = serves.script;
  long = serves.long;
  whole = serves.whole;
  takes = serves.takes;
  went = serves.went;
}
  where
    other : (n : ℕ) → (n ≡ REFUSED → ⊥) → (n ≡ DISK_FAULT → ⊥) → status ≡ n → ⊥
    other n refused disk e = elim is [ inl k ↦ refused (sym e ∙ k) | inr k ↦ disk (sym e ∙ k) ]

pub runs_stopped : (status most : ℕ) (s : StoreView) (s0 s1 : SourceView) (a b : View) → (status ≡ REFUSED) ⊎ (status ≡ DISK_FAULT) → EachHeld IsShut a → ServesScript status most (layout_on s) (session_in (fresh_session s) a.held) s0 s1 a b → StaysShut a b
    → (AsksNothing (layout_on s).format s0 → b.travel ≡ a.travel) → HasLayout (layout_on s) a b → RunsOpened status most s s0 s1 a b
runs_stopped status most s s0 s1 a b is shut serves stays unread kept = record {
  serves = serves_stopped is serves;
  clean = keeps_staying (λ told. ap (λ (f : Fixed). f.tells_held) serves.run.fixed ∙ told) shut stays;
  left = λ e. absurd (elim is [ inl k ↦ omega (arith, e, k) | inr k ↦ omega (arith, e, k) ]);
  unleft = λ cut. absurd (elim is [
    | inl k ↦ elim cut [ inl i ↦ omega (arith, i, k) | inr (inl i) ↦ omega (arith, i, k) | inr (inr i) ↦ omega (arith, i, k) ]
    | inr k ↦ elim cut [ inl i ↦ omega (arith, i, k) | inr (inl i) ↦ omega (arith, i, k) | inr (inr i) ↦ omega (arith, i, k) ]
  ]);
  unread = λ asks. ap (λ (t : Travel). t.read) (unread asks);
  kept = kept;
}

-- and one that was ended
module _ (status served most : ℕ) (s t : StoreView) (s0 s1 : SourceView) (a b c : View) (law : Lawful a) (shut : EachHeld IsShut a) (serves : ServesScript served most (layout_on s) (session_in (fresh_session s) a.held) s0 s1 a b) (is : IsSettledStatus served) (opened : IsOpenOn t b)
    (layout : t.place.layout ≡ layout_on s) (stays : StaysShut a b) (unread : AsksNothing (layout_on s).format s0 → b.travel ≡ a.travel) (kept : HasLayout (layout_on s) a b) (ends : EndsRun served status t b c) where
  on_end : Told a → Told b
  on_end told = ap (λ (f : Fixed). f.tells_held) serves.run.fixed ∙ told

  cut_is : (n : ℕ) → (n ≡ DISK_FAULT → ⊥) → (n ≡ DONE → ⊥) → status ≡ n → served ≡ DONE → ⊥
  cut_is n other not_done e done = elim ends.status_is [ inl same ↦ not_done (sym e ∙ same ∙ done) | inr disk ↦ other (sym e ∙ disk) ]

  pub runs_ended : RunsOpened status most s s0 s1 a c
  runs_ended = record {
    serves =
        subst (λ (l : Layout). Serves status most l (session_in (fresh_session s) a.held) s0 s1 a c) layout
        (serves_ended status served most (session_in (fresh_session s) a.held) s0 s1 t a b c law (subst (λ (l : Layout). ServesScript served most l (session_in (fresh_session s) a.held) s0 s1 a b) (sym layout) serves) is opened ends);
    clean = record {
      held = λ told was. ends.clean (on_end told);
      moments = λ nothing was.
          leaves_on (λ image said. IsClean image) serves.run.fixed serves.run.calls
          (leaves_in (λ image said. IsClean image) (stays.moments shut) (λ honest image said is. clean_shut image is))
          ends.moments (λ honest image said is. is) (λ honest image said is. is);
    };
    left = λ e told version. ends.left e (on_end told) (omega (arith, version, ap (λ (l : Layout). l.version) layout));
    unleft = λ cut told. ends.unleft (elim cut [
      | inl k ↦ cut_is SCRIPT_FAULT (λ i. omega (arith, i)) (λ i. omega (arith, i)) k
      | inr (inl k) ↦ cut_is TOO_LONG (λ i. omega (arith, i)) (λ i. omega (arith, i)) k
      | inr (inr k) ↦ cut_is REPLY_FAULT (λ i. omega (arith, i)) (λ i. omega (arith, i)) k
    ]) (on_end told);
    unread = λ asks. ends.unread ∙ ap (λ (t : Travel). t.read) (unread asks);
    kept = record {
      held = λ told. (ends.steps.held (on_end told)).layout_is ∙ layout;
      moments = leaves_on (λ image said. layout_in image ≡ layout_on s) serves.run.fixed serves.run.calls kept.moments ends.steps.moments (λ honest image said is. is) (λ honest image said now. now.1.2.layout_is ∙ layout);
    };
  }

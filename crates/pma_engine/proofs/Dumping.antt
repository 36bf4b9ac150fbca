-- What comes of a dump, from the map that its file means at the entry.
use Rattle.std.proofs.Common.{◌≡◌, ◌⊎◌, inl, inr, ℕ, ◌+◌, ◌-◌, ◌*◌, ◌^◌, ◌≤◌, List, ◌++◌, length, take, false, Some, None, Result, Ok, Err, refl, sym, ◌∙◌, ap, subst, arith, length-append}
use Rattle.std.specs.List.{flat_map}
use Rattle.std.specs.FinMap.{entries}
use Rattle.std.proofs.lemmas.List.{append-nil, take-append-le}
use Rattle.station.specs.View.{View, Told, SaidTold, NothingPending, Rose, Lawful, attached_by}
use Rattle.station.specs.Steps.{Steps, Says}
use Rattle.station.specs.declared.travel.Travel.{Travel}
use Rattle.station.proofs.Sayings.{run_of_steps, run_in, run_on}
use Rattle.key_slot.specs.Record.{Record}
use Rattle.header_gate.specs.Header.{layout_in}
use Rattle.index_file.specs.Clean.{IsShut}
use Rattle.map_model.specs.ArrayState.{ArrayState}
use Rattle.map_model.specs.Image.{map_of}
use Rattle.map_model.specs.Store.{Map}
use Rattle.batch_intent.specs.Means.{Means, meant_map}
use Rattle.range_scan.specs.SweepView.{SweepView}
use Rattle.range_scan.specs.Sweeping.{scan_of}
use Rattle.range_scan.specs.Walk.{after_walk}
use Rattle.range_scan.proofs.Walks.{walk_read, walk_written}
use Rattle.recovery.specs.OpeningCosts.{opening_reads}
use Rattle.header_gate.specs.Places.{page_size, segment_size}
use Rattle.key_slot.proofs.SegmentLaws.{times_up}
use Rattle.window_tally.specs.TallyView.{TallyView}
use Rattle.segment.specs.declared.fault.Damage.{Damage}
use Rattle.recovery.specs.declared.fault.OpenFault.{OpenFault}
use Rattle.recovery.specs.declared.fault.OpenFault.TheVariants as opening
use Rattle.command_text.specs.Answers.{range_lines}
use Rattle.command_text.specs.Reply.{reply_text}
use Rattle.command_text.specs.declared.reply.Reply.{Reply}
use Rattle.command_text.specs.declared.reply.Reply.TheVariants as reply
use Rattle.pma_store.specs.Opens.{CallsOpening, IsAllAtRest}
use Rattle.pma_store.specs.StoreView.{StoreView}
use Rattle.pma_engine.specs.Carrying.{Looks}
use Rattle.pma_engine.specs.CommandCosts.{Walks}
use Rattle.pma_engine.specs.Dumping.{DumpsFile, DumpsOpened, IsDumpStatus, SaidFront, dump_text}
use Rattle.pma_engine.specs.Closing.{IsButClosed, WritesGate}
use Rattle.pma_engine.specs.RunOpening.{IsOpened, IsUnopened, Reopens, reopening_calls}
use Rattle.pma_engine.specs.Outcome.{IsRefused}
use Rattle.pma_engine.specs.Ranging.{SaysSweep, scan_text}
use Rattle.pma_engine.specs.Refusing.{SaysLine, SaysLastLine, line_text, line_of_opening, line_of_serving, status_of_opening, status_of_serving}
use Rattle.pma_engine.specs.Upgrading.{KeepsMeaning, opened_height}
use Rattle.pma_engine.specs.declared.fault.ServeFault.{ServeFault}
use Rattle.pma_engine.specs.declared.fault.ServeFault.TheVariants as serving
use Rattle.pma_engine.specs.declared.status.TheConstants.{DONE, REFUSED, DISK_FAULT, REPLY_FAULT, OUT_OF_MEMORY}
use Rattle.pma_engine.proofs.Calling.{opening_more}
use Rattle.pma_engine.proofs.Closing.{but_of}
use Rattle.pma_engine.proofs.Ending.{run_damaged, last_line, on_done, of_disk, of_reply, no_line}
use Rattle.pma_engine.proofs.Meant.{opened_map}
use Rattle.pma_engine.proofs.OutcomeLaws.{damaged_refused, no_map, not_store_refused}
use Rattle.pma_engine.proofs.RangeAnswers.{left_front}
use Rattle.pma_engine.proofs.StoreLaws.{left_says}
use Rattle.pma_engine.proofs.Upgrading.{keeps_opened, unopened_run}

-- The dump of an open store.

-- the sweep goes over all segments of a store
pub record SweepsStore (s : SweepView) (v : StoreView) : Type 0 where
  pub layout : s.reader.layout ≡ v.place.layout
  pub region : s.reader.region ≡ v.place.region
  pub first : s.reader.next ≡ 0
  pub height : s.tally.height ≡ v.tally.height

module _ (v : StoreView) (s t : SweepView) (of : SweepsStore s v) (a b : View) (law : Lawful a) (law_b : Lawful b) (nothing : NothingPending a) (all : Told a → scan_of s a.held ≡ entries (map_of a.held)) where
  text_is : Told a → scan_text s a.held ≡ dump_text (map_of a.held)
  text_is told = ap (λ (l : List Record). flat_map reply_text (range_lines l)) (all told)

  module _ (r : Result (Unit {0}) ServeFault) (says : SaysSweep r s t a b) where
    looks : Looks a b
    looks = record {
      run = run_in (λ image said. a.may_leave image) says.front.run (λ honest image said is. is.is_left);
      held = says.front.held;
      left = left_front law law_b says.front;
      unwritten = ap (λ (x : Travel). x.written) says.walks ∙ walk_written s.reader.layout s.reader.region s.reader.next t.reader.next a.travel;
    }

    settled : NothingPending b
    settled honest image left =
        nothing (ap (λ f. f.honest) (sym says.front.run.fixed) ∙ honest) image (left_front law law_b says.front honest image left) ∙ sym (says.front.held (law.tells (ap (λ f. f.honest) (sym says.front.run.fixed) ∙ honest)).0)

    front_said : Told a → SaidTold a → SaidFront (dump_text (map_of a.held)) a.said b.said
    front_said told said_told =
        let taken = says.front.said said_told in
        let more = says.begins told in
        let whole : says.text ++ more.0 ≡ dump_text (map_of a.held) = more.1 ∙ text_is told in
        record {
          count = taken.0;
          within = omega (arith, taken.1, length-append says.text more.0, ap length whole);
          said_is = taken.2 ∙ ap (λ (l : List ℕ). a.said ++ l) (sym (take-append-le taken.0 says.text more.0 taken.1) ∙ ap (take taken.0) whole);
        }

    within : t.reader.next ≤ 2 ^ v.tally.height
    within = omega (arith, says.is_sweep.reader.within, says.is_sweep.within, ap (λ (x : TallyView). 2 ^ x.height) says.same.tally_is, ap (λ (h : ℕ). 2 ^ h) of.height)

    walks : (to : ℕ) × Walks v 0 to a.travel b.travel
    walks = (
      t.reader.next,
      record { onward = omega arith; within = within; travel = says.walks ∙ (λ i. after_walk (of.layout i) (of.region i) (of.first i) t.reader.next a.travel) },
    )

    calls : Told a → b.calls ≤ a.calls + (2 ^ v.tally.height + length (dump_text (map_of a.held)))
    calls told = omega (arith, says.calls.1, says.calls.2 told, ap length (text_is told), within, of.first)

    -- no segment was damaged
    quiet : (line_of_serving r ≡ None) → (status_of_serving r ≡ DONE) ⊎ ((status_of_serving r ≡ REFUSED) ⊎ ((status_of_serving r ≡ DISK_FAULT) ⊎ (status_of_serving r ≡ REPLY_FAULT))) → DumpsOpened (status_of_serving r) v a b
    quiet none is = record {
      status_is = is;
      looks = looks;
      walks = walks;
      calls = calls;
      done = λ e told said. on_done r e says.whole told said ∙ ap (λ (l : List ℕ). a.said ++ l) (text_is told);
      front = front_said;
      undamaged = λ e. absurd (no_line r none e);
      line = λ e. absurd (no_line r none e);
      settled = λ e. settled;
      disk = λ e. says.disk (of_disk r e);
      reply = λ e. says.reply (of_reply r e);
    }

  -- one was
  damaged : (segment : ℕ) (why : Damage) → SaysSweep (Err (serving.Damaged segment why)) s t a b → (d : View) → Says (reply_text (reply.Damaged segment why)) b d → (SaidTold b → SaysLine (reply.Damaged segment why) b.said b d) → DumpsOpened REFUSED v a d
  damaged segment why says d last line =
      let here = looks (Err (serving.Damaged segment why)) says in
      record {
        status_is = inr (inl refl);
        looks = record {
          run = run_damaged (λ image said. a.may_leave image) law here.run last says.told;
          held = λ told. absurd (says.told told);
          left = λ honest image left. here.left (ap (λ f. f.honest) (sym last.fixed) ∙ honest) image (left_says last honest image left);
          unwritten = ap (λ (x : Travel). x.written) last.travel ∙ here.unwritten;
        };
        walks = let before = walks (Err (serving.Damaged segment why)) says in (before.0, record { onward = before.1.onward; within = before.1.within; travel = last.travel ∙ before.1.travel });
        calls = λ told. absurd (says.told told);
        done = λ e. absurd (omega (arith, e));
        front = λ told. absurd (says.told told);
        undamaged = λ e told. says.told told;
        line = λ e told.
            let taken = says.front.said told in
            last_line a b d (reply.Damaged segment why) tt (take taken.0 says.text) taken.2 says.front.run.say_faults (line (ap (λ f. f.tells_said) says.front.run.fixed ∙ told));
        settled = λ e. absurd (elim e [ inl x ↦ omega (arith, x) | inr x ↦ omega (arith, x) ]);
        disk = λ e. absurd (omega (arith, e));
        reply = λ e. absurd (omega (arith, e));
      }

  pub dumped_of : (r : Result (Unit {0}) ServeFault) → SaysSweep r s t a b → (d : View) → Says (line_text (line_of_serving r)) b d → (line_of_serving r ≡ None → d ≡ b)
      → ((line : Reply) → line_of_serving r ≡ Some line → SaidTold b → SaysLine line b.said b d) → DumpsOpened (status_of_serving r) v a d
  dumped_of (Ok done) says d last silent line = subst (DumpsOpened DONE v a) (sym (silent refl)) (quiet (Ok done) says refl (inl refl))
  dumped_of (Err serving.Disk) says d last silent line = subst (DumpsOpened DISK_FAULT v a) (sym (silent refl)) (quiet (Err serving.Disk) says refl (inr (inr (inl refl))))
  dumped_of (Err (serving.Damaged segment why)) says d last silent line = damaged segment why says d last (line (reply.Damaged segment why) refl)
  dumped_of (Err serving.Script) says d last silent line = absurd says.never
  dumped_of (Err serving.Reply) says d last silent line = subst (DumpsOpened REPLY_FAULT v a) (sym (silent refl)) (quiet (Err serving.Reply) says refl (inr (inr (inr refl))))
  dumped_of (Err serving.Spent) says d last silent line = absurd says.never

-- The outcome of the whole job.

pub record Comes (status : ℕ) (a b : View) : Type 0 where
  pub status_is : IsDumpStatus status
  pub attached : b.attached ≡ Some false
  pub dumped : DumpsFile status a b
  pub disk : status ≡ DISK_FAULT → Rose a.disk_faults b.disk_faults
  pub reply : status ≡ REPLY_FAULT → Rose a.say_faults b.say_faults

module _ (a b : View) (law : Lawful a) (ab : Steps Reopens (attached_by false a) b) (asked : Told a → CallsOpening (reopening_calls a.held) (attached_by false a) b) (looked : Told a → IsAllAtRest a.held → b.travel.read ≤ a.travel.read + (page_size + opening_reads a.held)) where
  module _ (d : View) where
    -- a file that was not opened isn't refused
    quiet_file : (fault : OpenFault) → IsUnopened fault (attached_by false a) b → (status : ℕ) → (status ≡ DISK_FAULT) ⊎ (status ≡ OUT_OF_MEMORY) → (status ≡ DISK_FAULT → fault ≡ opening.Failed) → (status ≡ OUT_OF_MEMORY → fault ≡ opening.Memory) → Comes status a b
    quiet_file fault unopened status is failed memory = record {
      status_is = elim is [ inl e ↦ inr (inr (inl e)) | inr e ↦ inr (inr (inr (inr e))) ];
      attached = ab.frame.attached;
      dumped = record {
        steps = λ nothing. run_of_steps (λ image said. KeepsMeaning a.held image) ab (λ honest start image left step. subst (λ (x : List ℕ). KeepsMeaning x image) (nothing honest start left) (keeps_opened step));
        held = λ told. keeps_opened (ab.held told);
        done = λ e. absurd (other DONE ((λ x. omega (arith, x)), (λ x. omega (arith, x))) e);
        front = λ open_yet told said. record { count = 0; within = omega arith; said_is = ab.frame.said ∙ sym (append-nil a.said) };
        refused = λ e. absurd (other REFUSED ((λ x. omega (arith, x)), (λ x. omega (arith, x))) e);
        memory = λ e. unopened.memory (memory e);
        settled = λ e. absurd (elim e [ inl x ↦ other DONE ((λ y. omega (arith, y)), (λ y. omega (arith, y))) x | inr x ↦ other REPLY_FAULT ((λ y. omega (arith, y)), (λ y. omega (arith, y))) x ]);
        shut = λ e. absurd (elim e [ inl x ↦ other DONE ((λ y. omega (arith, y)), (λ y. omega (arith, y))) x | inr x ↦ other REPLY_FAULT ((λ y. omega (arith, y)), (λ y. omega (arith, y))) x ]);
        complete = λ told m here calm_disk calm_reply. elim is [ inl e ↦ absurd (calm_disk (unopened.failed (failed e))) | inr e ↦ inr e ];
        unwritten = unopened.unwritten;
        kept = λ no_disk told rest. elim is [ inl e ↦ absurd (no_disk e) | inr e ↦ but_of (unopened.memory (memory e)).closes told ];
        written = unopened.cost;
        read = λ told rest. omega (arith, looked told rest);
        calls = λ other told. opening_more (reopening_calls a.held) (2 ^ opened_height a.held + length (dump_text (meant_map a.held))) (attached_by false a) b b (omega arith) (asked told);
        refused_calls = λ e. absurd (other REFUSED ((λ x. omega (arith, x)), (λ x. omega (arith, x))) e);
      };
      disk = λ e. unopened.failed (failed e);
      reply = λ e. absurd (other REPLY_FAULT ((λ x. omega (arith, x)), (λ x. omega (arith, x))) e);
    }
      where
        other : (n : ℕ) → (n ≡ 4 → ⊥) × (n ≡ 7 → ⊥) → status ≡ n → ⊥
        other n none e = elim is [ inl x ↦ none.0 (sym e ∙ x) | inr x ↦ none.1 (sym e ∙ x) ]

    -- it is refused, and means no map
    refused_file : (fault : OpenFault) → IsUnopened fault (attached_by false a) b → IsRefused a d → {text : List ℕ} → Says text b d → d.calls ≤ b.calls + 512 → (Told a → IsAllAtRest a.held → IsButClosed a.held a.held b.held) → (Told a → (m : Map) → Means (layout_in a.held) a.held m → ⊥) → Comes REFUSED a d
    refused_file fault unopened refused says line_calls kept never = record {
      status_is = inr (inl refl);
      attached = says.attached ∙ ab.frame.attached;
      dumped = record {
        steps = λ nothing. unopened_run a b law ab nothing says;
        held = λ told. subst (KeepsMeaning a.held) (sym says.held) (keeps_opened (ab.held told));
        done = λ e. absurd (omega (arith, e));
        front = λ other. absurd (other refl);
        refused = λ e. refused;
        memory = λ e. absurd (omega (arith, e));
        settled = λ e. absurd (elim e [ inl x ↦ omega (arith, x) | inr x ↦ omega (arith, x) ]);
        shut = λ e. absurd (elim e [ inl x ↦ omega (arith, x) | inr x ↦ omega (arith, x) ]);
        complete = λ told m here. absurd (never told m here);
        unwritten = λ told rest. subst (WritesGate a.held a.travel.written) (sym (ap (λ (x : Travel). x.written) says.travel)) (unopened.unwritten told rest);
        kept = λ other told rest. subst (IsButClosed a.held a.held) (sym says.held) (kept told rest);
        written = λ told. omega (arith, unopened.cost told, ap (λ (x : Travel). x.written) says.travel);
        read = λ told rest. omega (arith, looked told rest, ap (λ (x : Travel). x.read) says.travel);
        calls = λ other. absurd (other refl);
        refused_calls = λ e told. opening_more (reopening_calls a.held) 512 (attached_by false a) b d line_calls (asked told);
      };
      disk = λ e. absurd (omega (arith, e));
      reply = λ e. absurd (omega (arith, e));
    }

    pub comes_unopened : (fault : OpenFault) → IsUnopened fault (attached_by false a) b → (line_of_opening fault ≡ None → d ≡ b) → Says (line_text (line_of_opening fault)) b d → ((line : Reply) → line_of_opening fault ≡ Some line → SaidTold b → SaysLine line b.said b d) → d.calls ≤ b.calls + 512
        → Comes (status_of_opening fault) a d
    comes_unopened opening.Memory unopened silent says line line_calls = subst (Comes OUT_OF_MEMORY a) (sym (silent refl)) (quiet_file opening.Memory unopened OUT_OF_MEMORY (inr refl) (λ e. absurd (omega (arith, e))) (λ e. refl))
    comes_unopened opening.Failed unopened silent says line line_calls = subst (Comes DISK_FAULT a) (sym (silent refl)) (quiet_file opening.Failed unopened DISK_FAULT (inl refl) (λ e. refl) (λ e. absurd (omega (arith, e))))
    comes_unopened (opening.NotStore reason) unopened silent says line line_calls =
        refused_file (opening.NotStore reason) unopened (not_store_refused a b ab d reason unopened says (line (reply.NotStore reason) refl)) says line_calls
        (λ told rest. unopened.bare reason refl told rest.rest.bare) (no_map a b ab d reason unopened)
    comes_unopened (opening.Damaged segment why) unopened silent says line line_calls =
        refused_file (opening.Damaged segment why) unopened (damaged_refused a b ab d segment why unopened (line (reply.Damaged segment why) refl)) says line_calls
        (λ told. absurd (unopened.undamaged told)) (λ told. absurd (unopened.undamaged told))

  -- of a file that was opened
  module _ (v : StoreView) (opened : IsOpened v (attached_by false a) b) (status : ℕ) (d : View) (dumps : DumpsOpened status v b d) where
    on : Told a → Told b
    on told = ap (λ f. f.tells_held) ab.frame.fixed ∙ told

    on_said : SaidTold a → SaidTold b
    on_said told = ap (λ f. f.tells_said) ab.frame.fixed ∙ told

    -- the height at which the store was opened
    same_height : Told a → v.tally.height ≡ opened_height a.held
    same_height told = sym (opened.store.on.stands b.held (inl (on told, refl))).balanced.stands.height_is ∙ ap (λ (s : ArrayState). s.height) (opened.state told)

    -- the map that the file meant
    same_text : Told a → dump_text (map_of b.held) ≡ dump_text (meant_map a.held)
    same_text told = ap dump_text (ap (λ (s : ArrayState). s.map) (opened.state told) ∙ opened_map a.held)

    all_said : status ≡ DONE → Told a → SaidTold a → d.said ≡ a.said ++ dump_text (meant_map a.held)
    all_said e told said = dumps.done e (on told) (on_said said) ∙ (λ i. ab.frame.said i ++ same_text told i)

    front_since : Told a → SaidTold a → SaidFront (dump_text (meant_map a.held)) a.said d.said
    front_since told said =
        let here = dumps.front (on told) (on_said said) in
        record {
          count = here.count;
          within = omega (arith, here.within, ap length (same_text told));
          said_is = here.said_is ∙ (λ i. ab.frame.said i ++ take here.count (same_text told i));
        }

    last_since : SaysLastLine b d → SaysLastLine a d
    last_since last = record {
      replies = last.replies;
      line = last.line;
      refuses = last.refuses;
      says = record {
        count = last.says.count;
        within = last.says.within;
        said = last.says.said ∙ ap (λ (l : List ℕ). l ++ last.replies ++ take last.says.count (reply_text last.line)) ab.frame.said;
        whole = λ calm. last.says.whole (λ rose. calm (omega (arith, rose, ab.frame.say_faults)));
      };
    }

    disk : status ≡ DISK_FAULT → Rose a.disk_faults d.disk_faults
    disk e = omega (arith, dumps.disk e, ab.frame.disk_faults)

    cut : status ≡ REPLY_FAULT → Rose a.say_faults d.say_faults
    cut e = omega (arith, dumps.reply e, ab.frame.say_faults)

    pub comes_opened : Comes status a d
    comes_opened = record {
      status_is = elim dumps.status_is [ inl e ↦ inl e | inr (inl e) ↦ inr (inl e) | inr (inr (inl e)) ↦ inr (inr (inl e)) | inr (inr (inr e)) ↦ inr (inr (inr (inl e))) ];
      attached = dumps.looks.run.attached ∙ ab.frame.attached;
      dumped = record {
        steps = λ nothing.
            run_on (λ image said. KeepsMeaning a.held image) (run_of_steps (λ image said. KeepsMeaning a.held image) ab (λ honest start image left step. subst (λ (x : List ℕ). KeepsMeaning x image) (nothing honest start left) (keeps_opened step))) dumps.looks.run
            (λ honest image said keeps. keeps)
            (λ honest image said left. let from = ab.images honest image left in subst (λ (x : List ℕ). KeepsMeaning x image) (nothing honest from.0 from.1) (keeps_opened from.2));
        held = λ told. subst (KeepsMeaning a.held) (sym (dumps.looks.held (on told))) (keeps_opened (ab.held told));
        done = λ e told. (opened.sound told, all_said e told);
        front = λ other told said. front_since told said;
        refused = λ e. record {
          line = λ told. last_since (dumps.line e (on_said told));
          reason = λ told. absurd (dumps.undamaged e (on told));
          recovers = λ told. absurd (dumps.undamaged e (on told));
          bare = λ told. absurd (dumps.undamaged e (on told));
        };
        memory = λ e. absurd (elim dumps.status_is [ inl x ↦ omega (arith, e, x) | inr (inl x) ↦ omega (arith, e, x) | inr (inr (inl x)) ↦ omega (arith, e, x) | inr (inr (inr x)) ↦ omega (arith, e, x) ]);
        settled = dumps.settled;
        shut = λ e told. subst IsShut (sym (dumps.looks.held (on told))) (opened.shut b.held (inl (on told, refl)));
        complete = λ told m here calm_disk calm_reply. elim dumps.status_is [
          | inl e ↦ inl e
          | inr (inl e) ↦ absurd (dumps.undamaged e (on told))
          | inr (inr (inl e)) ↦ absurd (calm_disk (disk e))
          | inr (inr (inr e)) ↦ absurd (calm_reply (cut e))
        ];
        unwritten = λ told rest. subst (WritesGate a.held a.travel.written) (sym dumps.looks.unwritten) (opened.unwritten told rest);
        kept = λ other told rest. subst (IsButClosed a.held a.held) (sym (dumps.looks.held (on told))) (opened.kept told rest);
        written = λ told. omega (arith, opened.cost told, dumps.looks.unwritten);
        read = λ told rest.
            let to = dumps.walks.0 in
            let size = segment_size v.place.layout in
            let same : size * 2 ^ v.tally.height ≡ segment_size (layout_in a.held) * 2 ^ opened_height a.held = (λ i. segment_size (opened.layout told i) * 2 ^ same_height told i) in
            omega (
              arith,
              looked told rest,
              ap (λ (x : Travel). x.read) dumps.walks.1.travel,
              walk_read v.place.layout v.place.region 0 to b.travel,
              times_up size (to - 0) (2 ^ v.tally.height) (omega (arith, dumps.walks.1.within)),
              same,
            );
        calls = λ other told.
            opening_more (reopening_calls a.held) (2 ^ opened_height a.held + length (dump_text (meant_map a.held))) (attached_by false a) b d
            (omega (arith, dumps.calls (on told), ap length (same_text told), ap (λ (h : ℕ). 2 ^ h) (same_height told))) (asked told);
        refused_calls = λ e told. absurd (dumps.undamaged e (on told));
      };
      disk = disk;
      reply = cut;
    }

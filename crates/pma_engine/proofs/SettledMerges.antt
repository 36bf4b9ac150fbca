-- A merge behind which and before which nothing is pending.
use Rattle.std.proofs.Common.{◌≡◌, inl, inr, ℕ, List, Result, refl, sym, ◌∙◌, ap, subst, arith}
use Rattle.station.specs.View.{View, Fixed, Told, SaidTold, MayHold, Lawful, Rose}
use Rattle.station.specs.Steps.{Run}
use Rattle.station.proofs.Sayings.{run_of_steps, run_on}
use Rattle.line_source.specs.SourceView.{SourceView}
use Rattle.map_model.specs.ArrayState.{ArrayState}
use Rattle.map_model.specs.Image.{map_of}
use Rattle.map_model.specs.Store.{Map}
use Rattle.segment.specs.declared.fault.StoreFault.{StoreFault}
use Rattle.command_text.specs.declared.reply.Reply.{Reply}
use Rattle.command_text.specs.declared.reply.Reply.TheVariants as reply
use Rattle.bulk_load.proofs.ReadLaws.{takes_none}
use Rattle.pma_store.specs.StoreAnswers.{state_in}
use Rattle.pma_store.specs.UpdateCalls.{clear_calls}
use Rattle.pma_store.specs.Readying.{clear_cost}
use Rattle.pma_store.specs.Settling.{SettlesStore}
use Rattle.pma_store.specs.StoreView.{StoreView, IsOpenOn}
use Rattle.pma_engine.specs.MergeOutcome.{AnswersMerge, BeginsLine, HasEdits, IsFileMerged, IsMergeCutEarly, MayMerge, MergesOpened, SaysMerged, merged_line}
use Rattle.pma_engine.specs.Refusing.{SaysLine}
use Rattle.pma_engine.specs.declared.status.TheConstants.{DISK_FAULT}
use Rattle.pma_engine.proofs.Merging.{may_keep, may_since, may_tell, none_begun}
use Rattle.pma_engine.proofs.Settling.{image_keeps, keeps_settled, layout_settled, told_settled}
use Rattle.pma_engine.proofs.Upgrading.{keeps_on, said_since}

module _ {T : Type 0} {r : Result T StoreFault} (s t : StoreView) (a b : View) (law : Lawful a) (opened : IsOpenOn s a) (settles : SettlesStore r s t a b) where
  settling_run : (s0 : SourceView) → Run (λ image said. MayMerge s0 (BeginsLine a.said said) a.held image) a b
  settling_run s0 = run_of_steps (λ image said. MayMerge s0 (BeginsLine a.said said) a.held image) settles.meant
      (λ honest start image left means. may_keep s0 (BeginsLine a.said a.said) reply.OneSegment tt (none_begun a.said a.said refl reply.OneSegment) (image_keeps s t a b opened settles (law.tells honest).0 image means))

  -- it failed in that
  pub merges_failed : (most : ℕ) (s0 : SourceView) → Rose a.disk_faults b.disk_faults → MergesOpened DISK_FAULT most s.place.layout s.tally.height (clear_cost s.place.layout) (clear_calls s.place.layout) s0 s0 a b
  merges_failed most s0 rose = record {
    status_is = inr (inr refl);
    run = settling_run s0;
    held = λ told. may_keep s0 (λ line. SaidTold a → BeginsLine a.said b.said line) reply.OneSegment tt (λ said. none_begun a.said b.said settles.meant.frame.said reply.OneSegment) (keeps_settled s t a b opened settles told);
    merged = λ e. absurd (elim e [ inl x ↦ omega (arith, x) | inr x ↦ omega (arith, x) ]);
    whole = λ e. absurd (elim e [ inl x ↦ omega (arith, x) | inr x ↦ omega (arith, x) ]);
    counted = λ e. absurd (elim e [ inl x ↦ omega (arith, x) | inr x ↦ omega (arith, x) ]);
    settled = λ e. absurd (elim e [ inl x ↦ omega (arith, x) | inr x ↦ omega (arith, x) ]);
    kept = λ not_done not_disk. absurd (not_disk refl);
    silent = λ not_done other. settles.meant.frame.said;
    line = λ e. absurd (omega (arith, e));
    why = λ e. absurd (omega (arith, e));
    takes = λ told. takes_none most s0;
    too_long = λ e. absurd (omega (arith, e));
    early = λ e. absurd (elim e [ inl x ↦ omega (arith, x) | inr x ↦ omega (arith, x) ]);
    admitted = λ told_s told edits text short calm. absurd (calm rose);
    written = λ e. absurd (elim e [ inl x ↦ omega (arith, x) | inr x ↦ omega (arith, x) ]);
    most_written = omega (arith, settles.cost);
    read = omega (arith, settles.unread);
    calls = omega (arith, settles.calls);
    disk = λ e. rose;
    script = λ e. absurd (omega (arith, e));
    reply = λ e. absurd (omega (arith, e));
  }

  -- or the text was merged behind it
  module _ (state : Told a → state_in t b.held ≡ state_in s a.held) (status most : ℕ) (s0 s1 : SourceView) (d : View) (merges : MergesOpened status most s.place.layout s.tally.height 0 0 s0 s1 b d) where
    on_said : SaidTold a → SaidTold b
    on_said told = ap (λ (f : Fixed). f.tells_said) settles.meant.frame.fixed ∙ told

    on : Told a → Told b
    on = told_settled s t a b opened settles

    same_map : Told a → map_of b.held ≡ map_of a.held
    same_map told = ap (λ (x : ArrayState). x.map) (state told)

    since : (line : Reply) → SaysLine line b.said b d → SaysLine line a.said a d
    since line says = said_since a b d line settles.meant.frame.said (sym settles.meant.frame.say_faults) says

    told_back : (image : List ℕ) → MayHold d image → Told a
    told_back image (inl told) = ap (λ (f : Fixed). f.tells_held) (sym settles.meant.frame.fixed) ∙ ap (λ (f : Fixed). f.tells_held) (sym merges.run.fixed) ∙ told.0
    told_back image (inr honest) = (law.tells (ap (λ (f : Fixed). f.honest) (sym settles.meant.frame.fixed) ∙ ap (λ (f : Fixed). f.honest) (sym merges.run.fixed) ∙ honest.0)).0

    may_on : Told a → (IsSaid : Reply → Type 0) (image : List ℕ) → MayMerge s0 IsSaid b.held image → MayMerge s0 IsSaid a.held image
    may_on told IsSaid image moved = may_since s0 IsSaid (keeps_settled s t a b opened settles told) (layout_settled s t a b opened settles told) moved

    pub merges_behind : MergesOpened status most s.place.layout s.tally.height (clear_cost s.place.layout) (clear_calls s.place.layout) s0 s1 a d
    merges_behind = record {
      status_is = merges.status_is;
      run =
          run_on (λ image said. MayMerge s0 (BeginsLine a.said said) a.held image) (settling_run s0) merges.run
          (λ honest image said moved. moved)
          (λ honest image said moved. may_on (law.tells honest).0 (BeginsLine a.said said) image (subst (λ (x : List ℕ). MayMerge s0 (BeginsLine x said) b.held image) settles.meant.frame.said moved));
      held = λ told. may_on told (λ line. SaidTold a → BeginsLine a.said d.said line) d.held
          (may_tell s0 (λ line. SaidTold b → BeginsLine b.said d.said line) (λ line. SaidTold a → BeginsLine a.said d.said line)
          (λ line begun said. subst (λ (x : List ℕ). BeginsLine x d.said line) settles.meant.frame.said (begun (on_said said))) (merges.held (on told)));
      merged = λ e told. let is = merges.merged e (on told) in (
        is.0,
        subst (λ (m : Map). IsFileMerged s.place.layout m s0 is.0 d.held) (same_map told) is.1,
        (λ said. subst (λ (x : List ℕ). SaysMerged status x d.said (merged_line is.0)) settles.meant.frame.said (is.2 (on_said said))),
      );
      whole = merges.whole;
      counted = λ e told said.
          let is = merges.counted e told (on_said said) in
          record { format = is.format; found = is.found; text = is.text; line = subst (λ (x : List ℕ). SaysMerged status x d.said (merged_line is.found)) settles.meant.frame.said is.line };
      settled = merges.settled;
      kept = λ not_done not_disk image left. keeps_on (keeps_settled s t a b opened settles (told_back image left)) (merges.kept not_done not_disk image left);
      silent = λ not_done other. merges.silent not_done other ∙ settles.meant.frame.said;
      line = λ e told. let last = merges.line e (on_said told) in (last.0, last.1, since last.0 last.2);
      why = λ e told. let last = merges.why e (on told) in (last.0, subst (λ (m : Map). AnswersMerge s.place.layout m s0 last.0) (same_map told) last.1, (λ said. since last.0 (last.2 (on_said said))));
      takes = merges.takes;
      too_long = merges.too_long;
      early = λ e told_s told. subst (λ (m : Map). IsMergeCutEarly s.place.layout m s0 s1) (same_map told) (merges.early e told_s (on told));
      admitted = λ told_s told edits text short calm calm_say. merges.admitted told_s (on told) edits (subst (λ (m : Map). HasEdits s.place.layout m s0 edits) (sym (same_map told)) text) short
          (λ rose. calm (omega (arith, rose, settles.meant.frame.disk_faults))) (λ rose. calm_say (omega (arith, rose, settles.meant.frame.say_faults)));
      written = λ e told. omega (arith, merges.written e (on told), settles.cost);
      most_written = omega (arith, merges.most_written, settles.cost);
      read = omega (arith, merges.read, settles.unread);
      calls = omega (arith, merges.calls, settles.calls);
      disk = λ e. omega (arith, merges.disk e, settles.meant.frame.disk_faults);
      script = merges.script;
      reply = λ e. omega (arith, merges.reply e, settles.meant.frame.say_faults);
    }

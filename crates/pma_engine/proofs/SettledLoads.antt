-- A load behind which and before which nothing is pending.
use Rattle.std.proofs.Common.{◌≡◌, inl, inr, ℕ, ◌<◌, List, Some, Result, refl, sym, ◌∙◌, ap, subst, arith, sum}
use Rattle.std.specs.FinMap.{from_sorted}
use Rattle.station.specs.Steps.{Says}
use Rattle.station.specs.View.{View, Fixed, Told, SaidTold, MayHold, NothingPending, Lawful, Rose}
use Rattle.station.specs.declared.travel.Travel.{Travel}
use Rattle.station.proofs.Composition.{only_held}
use Rattle.station.proofs.Sayings.{each_says, run_of_says, run_of_steps, run_on}
use Rattle.line_source.specs.SourceView.{SourceView}
use Rattle.header_gate.specs.Header.{layout_in}
use Rattle.header_gate.specs.declared.layout.Layout.{Layout}
use Rattle.segment.specs.declared.fault.StoreFault.{StoreFault}
use Rattle.command_text.specs.declared.reply.Reply.{Reply}
use Rattle.command_text.specs.declared.reply.Reply.TheVariants as reply
use Rattle.bulk_load.proofs.ReadLaws.{takes_none}
use Rattle.pma_store.specs.Readying.{clear_cost}
use Rattle.pma_store.specs.Settling.{SettlesStore}
use Rattle.pma_store.specs.StoreView.{StoreView, IsOpenOn}
use Rattle.pma_engine.specs.LoadOutcome.{LoadsOpened, HasText, MayLoad}
use Rattle.pma_engine.specs.Refusing.{SaysLine}
use Rattle.pma_engine.specs.Upgrading.{KeepsMeaning}
use Rattle.pma_engine.specs.declared.status.TheConstants.{REFUSED, DISK_FAULT}
use Rattle.pma_engine.proofs.Loading.{may_keep}
use Rattle.pma_engine.proofs.Settling.{image_keeps, keeps_settled, layout_settled, told_settled}
use Rattle.pma_engine.proofs.Upgrading.{keeps_on, said_since}
use Rattle.batch_intent.proofs.Meanings.{in_own, in_layout}

-- A store that has records is refused, and nothing is read.
pub loads_refused : (s : StoreView) (a : View) → Lawful a → IsOpenOn s a → NothingPending a → (most : ℕ) (s0 : SourceView) (records : ℕ) → records ≡ sum s.tally.counts → 0 < records → (d : View) → {text : List ℕ} → Says text a d
    → ((line : Reply) → Some (reply.NotEmpty records) ≡ Some line → SaidTold a → SaysLine line a.said a d) → LoadsOpened REFUSED most s.place.layout (sum s.tally.counts) (clear_cost s.place.layout) s0 s0 a d
loads_refused s a law opened nothing most s0 records same some d says line = record {
  status_is = inr (inl refl);
  run = run_of_says (λ image said. MayLoad s0 a.held image) says (λ honest image n left within. stays image (nothing honest image left));
  held = λ told. stays d.held says.held;
  empty = λ e. absurd (omega (arith, e));
  loaded = λ e. absurd (omega (arith, e));
  whole = λ e. absurd (omega (arith, e));
  settled = λ e. absurd (omega (arith, e));
  kept = λ not_done not_disk. each_says (KeepsMeaning a.held) says (λ image left. keeps image (only_held a nothing image left));
  silent = λ other. absurd (other refl);
  line = λ e told. (reply.NotEmpty records, tt, line (reply.NotEmpty records) refl told);
  why = λ e told. (reply.NotEmpty records, inl (omega (arith, some, same), ap reply.NotEmpty same, refl), line (reply.NotEmpty records) refl);
  left = λ some. (says.held, ap (λ (t : Travel). t.written) says.travel);
  takes = λ told. takes_none most s0;
  too_long = λ e. absurd (omega (arith, e));
  cut = λ e. absurd (elim e [ inl x ↦ omega (arith, x) | inr x ↦ omega (arith, x) ]);
  early = λ e. absurd (elim e [ inl x ↦ omega (arith, x) | inr x ↦ omega (arith, x) ]);
  admitted = λ told_s told zero. absurd (omega (arith, zero, some, same));
  written = λ e. absurd (omega (arith, e));
  most_written = omega (arith, ap (λ (t : Travel). t.written) says.travel);
  disk = λ e. absurd (omega (arith, e));
  script = λ e. absurd (omega (arith, e));
}
  where
    keeps : (image : List ℕ) → image ≡ a.held → KeepsMeaning a.held image
    keeps image is = subst (KeepsMeaning a.held) (sym is) (λ m here. here)

    stays : (image : List ℕ) → image ≡ a.held → MayLoad s0 a.held image
    stays image is = may_keep s0 (keeps image is)

module _ {T : Type 0} {r : Result T StoreFault} (s t : StoreView) (a b : View) (law : Lawful a) (opened : IsOpenOn s a) (settles : SettlesStore r s t a b) (none : sum s.tally.counts ≡ 0) where
  -- it failed in that
  pub loads_failed : (most : ℕ) (s0 : SourceView) → Rose a.disk_faults b.disk_faults → LoadsOpened DISK_FAULT most s.place.layout (sum s.tally.counts) (clear_cost s.place.layout) s0 s0 a b
  loads_failed most s0 rose = record {
    status_is = inr (inr refl);
    run = run_of_steps (λ image said. MayLoad s0 a.held image) settles.meant (λ honest start image left means. may_keep s0 (image_keeps s t a b opened settles (law.tells honest).0 image means));
    held = λ told. may_keep s0 (keeps_settled s t a b opened settles told);
    empty = λ e. absurd (omega (arith, e));
    loaded = λ e. absurd (omega (arith, e));
    whole = λ e. absurd (omega (arith, e));
    settled = λ e. absurd (omega (arith, e));
    kept = λ not_done not_disk. absurd (not_disk refl);
    silent = λ other. settles.meant.frame.said;
    line = λ e. absurd (omega (arith, e));
    why = λ e. absurd (omega (arith, e));
    left = λ some. absurd (omega (arith, some, none));
    takes = λ told. takes_none most s0;
    too_long = λ e. absurd (omega (arith, e));
    cut = λ e. none;
    early = λ e. absurd (elim e [ inl x ↦ omega (arith, x) | inr x ↦ omega (arith, x) ]);
    admitted = λ told_s told zero rows text short calm. absurd (calm rose);
    written = λ e. absurd (omega (arith, e));
    most_written = omega (arith, settles.cost);
    disk = λ e. rose;
    script = λ e. absurd (omega (arith, e));
  }

  -- or the text was read behind it
  module _ (status most : ℕ) (s0 s1 : SourceView) (d : View) (loads : LoadsOpened status most s.place.layout (sum s.tally.counts) 0 s0 s1 b d) where
    on_said : SaidTold a → SaidTold b
    on_said told = ap (λ (f : Fixed). f.tells_said) settles.meant.frame.fixed ∙ told

    since : (line : Reply) → SaysLine line b.said b d → SaysLine line a.said a d
    since line says = said_since a b d line settles.meant.frame.said (sym settles.meant.frame.say_faults) says

    told_back : (image : List ℕ) → MayHold d image → Told a
    told_back image (inl told) = ap (λ (f : Fixed). f.tells_held) (sym settles.meant.frame.fixed) ∙ ap (λ (f : Fixed). f.tells_held) (sym loads.run.fixed) ∙ told.0
    told_back image (inr honest) = (law.tells (ap (λ (f : Fixed). f.honest) (sym settles.meant.frame.fixed) ∙ ap (λ (f : Fixed). f.honest) (sym loads.run.fixed) ∙ honest.0)).0

    may_on : Told a → (image : List ℕ) → MayLoad s0 b.held image → MayLoad s0 a.held image
    may_on told image moved m here =
        let mid = keeps_settled s t a b opened settles told m here in
        let same : layout_in b.held ≡ layout_in a.held = layout_settled s t a b opened settles told in
        elim (moved m (in_own b.held m mid)) [
          | inl keeps ↦ inl (in_layout image m same keeps)
          | inr text ↦ inr (
            text.0,
            record {
              rows = text.1.rows;
              text = subst (λ (x : Layout). HasText x s0 text.1.rows) same text.1.text;
              least = text.1.least;
              means = in_layout image (from_sorted text.1.rows) same text.1.means;
            },
          )
        ]

    pub loads_behind : LoadsOpened status most s.place.layout (sum s.tally.counts) (clear_cost s.place.layout) s0 s1 a d
    loads_behind = record {
      status_is = loads.status_is;
      run =
          run_on (λ image said. MayLoad s0 a.held image) (run_of_steps (λ image said. MayLoad s0 a.held image) settles.meant (λ honest start image left means. may_keep s0 (image_keeps s t a b opened settles (law.tells honest).0 image means))) loads.run
          (λ honest image said keeps. keeps)
          (λ honest image said moved. may_on (law.tells honest).0 image moved);
      held = λ told. may_on told d.held (loads.held (told_settled s t a b opened settles told));
      empty = loads.empty;
      loaded = λ e told. loads.loaded e (told_settled s t a b opened settles told);
      whole = loads.whole;
      settled = loads.settled;
      kept = λ not_done not_disk image left. keeps_on (keeps_settled s t a b opened settles (told_back image left)) (loads.kept not_done not_disk image left);
      silent = λ other. loads.silent other ∙ settles.meant.frame.said;
      line = λ e told. let last = loads.line e (on_said told) in (last.0, last.1, since last.0 last.2);
      why = λ e told. let last = loads.why e (told_settled s t a b opened settles told) in (last.0, last.1, (λ said. since last.0 (last.2 (on_said said))));
      left = λ some. absurd (omega (arith, some, none));
      takes = loads.takes;
      too_long = loads.too_long;
      cut = loads.cut;
      early = loads.early;
      admitted = λ told_s told zero rows text short calm. loads.admitted told_s (told_settled s t a b opened settles told) zero rows text short (λ rose. calm (omega (arith, rose, settles.meant.frame.disk_faults)));
      written = λ e told. omega (arith, loads.written e (told_settled s t a b opened settles told), settles.cost);
      most_written = omega (arith, loads.most_written, settles.cost);
      disk = λ e. omega (arith, loads.disk e, settles.meant.frame.disk_faults);
      script = loads.script;
    }

-- An upgrade behind which and before which nothing is pending.
use Rattle.std.proofs.Common.{◌≡◌, inl, inr, ℕ, ◌-◌, ◌≤◌, List, Ok, Option, Some, None, Result, refl, sym, ◌∙◌, ap, subst, arith, sum}
use Rattle.std.specs.Prelude.{◌↔◌}
use Rattle.std.specs.FinMap.{len}
use Rattle.station.specs.Steps.{Says}
use Rattle.station.specs.View.{View, Fixed, Told, SaidTold, NothingPending, Lawful, Rose}
use Rattle.station.proofs.Composition.{no_steps, weaken}
use Rattle.station.proofs.Sayings.{run_of_steps, run_on}
use Rattle.density_rule.specs.Bounds.{upper_of}
use Rattle.header_gate.specs.Header.{layout_in, live_copy}
use Rattle.header_gate.specs.declared.layout.Layout.{Layout}
use Rattle.key_slot.specs.Format.{narrow, wide}
use Rattle.map_model.specs.Array.{Array, resized}
use Rattle.map_model.specs.Image.{map_of}
use Rattle.map_model.specs.Store.{Map}
use Rattle.range_scan.proofs.Checks.{counted_all}
use Rattle.segment.specs.declared.fault.StoreFault.{StoreFault}
use Rattle.resize_region.specs.Upgraded.{TooManyFor, Upgrades, upgraded_height, widened}
use Rattle.resize_region.specs.declared.outcome.Upgrade.{Upgrade}
use Rattle.resize_region.specs.declared.outcome.Upgrade.TheVariants.{Done, Already, OneSegment, TooMany}
use Rattle.command_text.specs.declared.reply.Reply.{Reply}
use Rattle.pma_store.specs.StoreAnswers.{state_in}
use Rattle.pma_store.specs.Readying.{clear_cost}
use Rattle.pma_store.specs.Settling.{SettlesStore}
use Rattle.pma_store.specs.StoreView.{StoreView, IsOpenOn}
use Rattle.pma_engine.specs.Refusing.{SaysLine, line_text}
use Rattle.pma_engine.specs.Upgrading.{AnswersUpgrade, MayUpgrade, UpgradesOpened, line_of_upgrade, status_of_upgrade}
use Rattle.pma_engine.specs.declared.status.TheConstants.{REFUSED, DISK_FAULT}
use Rattle.pma_engine.proofs.Settling.{array_settled, image_keeps, keeps_settled, layout_settled, map_settled, represents_settled, told_settled}
use Rattle.pma_engine.proofs.Upgrading.{Facts, may_upgrade, said_since, upgraded_from, upgrades_on}
use Rattle.batch_intent.proofs.Meanings.{in_layout}

-- more may be written before it is widened
pub upgrades_more : {status : ℕ} {l : Layout} {height : ℕ} {a b : View} (before : ℕ) → UpgradesOpened status l height 0 a b → UpgradesOpened status l height before a b
upgrades_more before upgrades = record {
  status_is = upgrades.status_is;
  run = upgrades.run;
  held = upgrades.held;
  due = upgrades.due;
  means = upgrades.means;
  no_intent = upgrades.no_intent;
  layout = upgrades.layout;
  array = upgrades.array;
  settled = upgrades.settled;
  silent = upgrades.silent;
  line = upgrades.line;
  why = upgrades.why;
  kept = upgrades.kept;
  written = omega (arith, upgrades.written);
  disk = upgrades.disk;
}

-- what is answered of an upgrade
abbrev answered : Upgrade → Result Upgrade StoreFault
answered x = Ok x

-- A refusal, for which no call is made before its line.

module _ (a : View) (s : StoreView) (opened : IsOpenOn s a) (nothing : NothingPending a) (records : ℕ) (same_records : records ≡ sum s.tally.counts) (o : Option Upgrade)
    (already : (o ≡ Some Already) ↔ (s.place.layout.format ≡ wide)) (one : (o ≡ Some OneSegment) ↔ ((s.place.layout.format ≡ narrow) × (s.place.layout.hmax ≡ 0))) (many : (n : ℕ) → (o ≡ Some (TooMany n)) ↔ TooManyFor s.place.layout records n) (done : o ≡ Some Done → ⊥) where
  refused_facts : (answer : Upgrade) → o ≡ Some answer → Facts (Ok answer) s s.place a a
  refused_facts answer is = record {
    already = ((λ e. already.0 (is ∙ ok_some e)), (λ e. some_ok (sym is ∙ already.1 e)));
    one_segment = ((λ e. one.0 (is ∙ ok_some e)), (λ e. some_ok (sym is ∙ one.1 e)));
    too_many = λ n. ((λ e. subst (λ (k : ℕ). TooManyFor s.place.layout k n) same_records ((many n).0 (is ∙ ok_some e))), (λ e. some_ok (sym is ∙ (many n).1 (subst (λ (k : ℕ). TooManyFor s.place.layout k n) (sym same_records) e))));
    untouched = λ other. (refl, refl);
    steps = weaken (no_steps a) (λ d i left same. none d i same);
    settled = nothing;
    array = λ e. absurd (done (is ∙ ok_some e));
    stands = λ e. absurd (done (is ∙ ok_some e));
    place_is = λ e. absurd (done (is ∙ ok_some e));
    cost = omega arith;
    damaged = tt;
    failed = λ never. absurd cc;
  }
    where
      ok_some : {x y : Upgrade} → answered x ≡ answered y → Some x ≡ Some y
      ok_some {x} {y} e = let same : x ≡ y = cc in ap Some same

      some_ok : {x y : Upgrade} → Some x ≡ Some y → answered x ≡ answered y
      some_ok {x} {y} e = let same : x ≡ y = cc in ap answered same

      none : (d i : List ℕ) → i ≡ d → Upgrades s.place (upgraded_height s.place.layout s.tally.height) d i
      none d i same = subst (Upgrades s.place (upgraded_height s.place.layout s.tally.height) d) (sym same) (record { map_is = λ m h is. inl is; gate_is = refl; layout_is = inl refl; touched = record { size = refl; rest = λ k out. refl } })

  pub upgrades_refused : (copy : ℕ) → copy ≡ s.place.region → (answer : Upgrade) → o ≡ Some answer → (d : View) → Says (line_text (line_of_upgrade copy (Ok answer))) a d → (line_of_upgrade copy (Ok answer) ≡ None → d ≡ a)
      → ((line : Reply) → line_of_upgrade copy (Ok answer) ≡ Some line → SaidTold a → SaysLine line a.said a d) → UpgradesOpened (status_of_upgrade (Ok answer)) s.place.layout s.tally.height (clear_cost s.place.layout) a d
  upgrades_refused copy is answer given d says silent line = upgrades_more (clear_cost s.place.layout) (upgraded_from a s opened nothing s.place a d copy is (Ok answer) (refused_facts answer given) says silent line)

-- An upgrade that isn't refused.

-- no answer is due
pub none_due : (l : Layout) (records copy : ℕ) (line : Reply) → l.format ≡ narrow → 1 ≤ l.hmax → records ≤ upper_of (l.hmax - 1) → AnswersUpgrade l copy records line → ⊥
none_due l records copy line format some few (inl already) = omega (arith, format, already.0)
none_due l records copy line format some few (inr (inl one)) = omega (arith, some, one.1)
none_due l records copy line format some few (inr (inr many)) = omega (arith, few, many.2)

module _ {T : Type 0} {r : Result T StoreFault} (s t : StoreView) (a b : View) (law : Lawful a) (opened : IsOpenOn s a) (settles : SettlesStore r s t a b) where
  -- it failed before it was widened
  pub upgrades_failed : Rose a.disk_faults b.disk_faults → UpgradesOpened DISK_FAULT s.place.layout s.tally.height (clear_cost s.place.layout) a b
  upgrades_failed rose = record {
    status_is = inr (inr refl);
    run = run_of_steps (λ image said. MayUpgrade a.held image) settles.meant (λ honest start image left means. may_upgrade (image_keeps s t a b opened settles (law.tells honest).0 image means));
    held = λ told. may_upgrade (keeps_settled s t a b opened settles told);
    due = λ e. absurd (omega (arith, e));
    means = λ e. absurd (omega (arith, e));
    no_intent = λ e. absurd (omega (arith, e));
    layout = λ e. absurd (omega (arith, e));
    array = λ e. absurd (omega (arith, e));
    settled = λ e. absurd (omega (arith, e));
    silent = λ other. settles.meant.frame.said;
    line = λ e. absurd (omega (arith, e));
    why = λ e. absurd (omega (arith, e));
    kept = λ e. absurd (omega (arith, e));
    written = omega (arith, settles.cost);
    disk = λ e. rose;
  }

  -- or was widened behind it
  module _ (state : Told a → state_in t b.held ≡ state_in s a.held) (open_yet : IsOpenOn t b) (status : ℕ) (d : View) (upgrades : UpgradesOpened status s.place.layout s.tally.height 0 b d)
      (format : s.place.layout.format ≡ narrow) (some : 1 ≤ s.place.layout.hmax) (few : sum s.tally.counts ≤ upper_of (s.place.layout.hmax - 1)) where
    on : Told a → Told b
    on = told_settled s t a b opened settles

    on_said : SaidTold a → SaidTold b
    on_said told = ap (λ (f : Fixed). f.tells_said) settles.meant.frame.fixed ∙ told

    since : (line : Reply) → SaysLine line b.said b d → SaysLine line a.said a d
    since line says = said_since a b d line settles.meant.frame.said (sym settles.meant.frame.say_faults) says

    same_layout : Told a → layout_in b.held ≡ layout_in a.held
    same_layout = layout_settled s t a b opened settles

    same_map : Told a → map_of b.held ≡ map_of a.held
    same_map = map_settled s t a b opened settles state open_yet

    never : status ≡ REFUSED → Told a → ⊥
    never e told =
        let last = upgrades.why e (on told) in
        let stands = (opened.on.stands a.held (inl (told, refl))).balanced.stands in
        let count : len (map_of b.held) ≡ sum s.tally.counts = ap len (same_map told) ∙ counted_all s.place.layout s.place.region s.tally.height s.tally.counts a.held stands in
        let layout : layout_in b.held ≡ s.place.layout = same_layout told ∙ stands.settled.layout_is in
        none_due s.place.layout (sum s.tally.counts) (live_copy d.held) last.0 format some few (subst (λ (x : Layout × ℕ). AnswersUpgrade x.0 (live_copy d.held) x.1 last.0) (λ i. (layout i, count i)) last.1)

    pub upgrades_behind : UpgradesOpened status s.place.layout s.tally.height (clear_cost s.place.layout) a d
    upgrades_behind = record {
      status_is = upgrades.status_is;
      run =
          run_on (λ image said. MayUpgrade a.held image) (run_of_steps (λ image said. MayUpgrade a.held image) settles.meant (λ honest start image left means. may_upgrade (image_keeps s t a b opened settles (law.tells honest).0 image means))) upgrades.run
          (λ honest image said keeps. keeps)
          (λ honest image said moved. upgrades_on (keeps_settled s t a b opened settles (law.tells honest).0) moved);
      held = λ told. upgrades_on (keeps_settled s t a b opened settles told) (upgrades.held (on told));
      due = λ e told copy line answers. upgrades.due e (on told) copy line (subst (λ (x : Layout × Map). AnswersUpgrade x.0 copy (len x.1) line) (λ i. (sym (same_layout told) i, sym (same_map told) i)) answers);
      means = λ e told m here.
          let is = upgrades.means e (on told) m (represents_settled s t a b opened settles state open_yet told m s.tally.height here) in
          (in_layout d.held m (ap widened (same_layout told)) is.0, is.1);
      no_intent = λ e told. upgrades.no_intent e (on told);
      layout = λ e told. upgrades.layout e (on told) ∙ ap widened (same_layout told);
      array = λ e told. upgrades.array e (on told) ∙ ap (λ (x : Array). resized x (upgraded_height s.place.layout s.tally.height)) (array_settled s t a b opened settles state open_yet told);
      settled = upgrades.settled;
      silent = λ other. upgrades.silent other ∙ settles.meant.frame.said;
      line = λ e told. let last = upgrades.line e (on_said told) in (last.0, last.1, since last.0 last.2);
      why = λ e told. absurd (never e told);
      kept = λ e told. absurd (never e told);
      written = omega (arith, upgrades.written, settles.cost);
      disk = λ e. omega (arith, upgrades.disk e, settles.meant.frame.disk_faults);
    }

use Rattle.std.proofs.Common.{◌≡◌, arith, ℕ, ◌-◌, ◌^◌, ◌≤◌, Some, None, sym, ap, subst, ◌∙◌}
use Rattle.std.specs.Prelude.{Option}
use Rattle.station.specs.View.{Told}
use Rattle.station.proofs.Composition.{each_held, nothing_on, told_back}
use Rattle.density_rule.specs.Marks.{no_marks}
use Rattle.header_gate.specs.declared.layout.Layout.{Layout}
use Rattle.header_gate.specs.declared.layout.TheConstants.{INDEXED}
use Rattle.header_gate.specs.InPlace.{IsBare}
use Rattle.header_gate.specs.declared.reason.Reason.{Reason}
use Rattle.header_gate.specs.declared.reason.Reason.TheVariants.{Index}
use Rattle.header_gate.specs.Header.{layout_in}
use Rattle.header_gate.specs.Places.{file_length, height_limit}
use Rattle.recovery.specs.StoreParts.{AreParts, AgreesWith, turn_of}
use Rattle.recovery.specs.declared.fault.OpenFault.TheVariants.{Failed, Memory, NotStore}
use Rattle.redo_journal.specs.Frames.{Batch}
use Rattle.redo_journal.specs.Replaying.{gate_after}
use Rattle.redo_journal.specs.Rest.{RestsAt}
use Rattle.redo_journal.specs.declared.place.Place.{Place}
use Rattle.window_tally.specs.TallyView.{TallyView}
use Rattle.index_file.specs.IndexReasons.{counts_read, area_reason}
use Rattle.index_file.specs.IndexReading.{NamesPlace, after_area, area_calls}
use Rattle.index_file.specs.Writing.{AreNodesOf}
use Rattle.index_file.proofs.QuickLaws.{quick_agrees, quick_rests, loaded_parts, loaded_marks}
use Rattle.index_file.proofs.SoundLaws.{left_sound}
use Rattle.index_file.proofs.quick.load_parts.Goals as goal

pub returns-in-Ok-load_area-clause-opened : goal.returns-in-Ok-load_area-clause-opened
returns-in-Ok-load_area-clause-opened g c =
    let parts = c.in-Ok.parts in
    let layout = ap (λ (p : Place). p.layout) c.in-Ok.ensures.place in
    let kept = c.load_area.ensures.counts.kept in
    let next : c.load_area.new.tally.height ≡ c.in-Ok.parts.tally.height = ap (λ (t : TallyView). t.height) kept in
    let nothing = nothing_on (g.met.S.Station.lawful c.args.station.now) c.requires.known.nothing c.load_area.ensures.steps in
    let after = c.set_turn.ensures.after in
    let made : AreParts c.in-Ok.parts.place c.in-Ok.parts.tally c.in-Ok.parts.index c.set_turn.new.self.journal = subst (AreParts c.in-Ok.parts.place c.in-Ok.parts.tally c.in-Ok.parts.index) (sym (ap (λ (x : Batch). x.journal) after)) c.in-Ok.ensures.parts in
    let turn : c.set_turn.new.self.turn ≡ gate_after c.args.header.now.layout (turn_of c.args.header.now.gate) = ap (λ (x : Batch). x.turn) after ∙ ap (gate_after c.args.header.now.layout) c.turn_said.ensures.said in
    let rests = quick_rests c.args.header.now.layout c.args.header.now.gate (g.met.S.Station.lawful c.load_area.new.station) c.load_area.ensures.steps nothing (λ told.
    let is = c.requires.known.header_is told in
    record { bare = subst (λ (l : Layout). IsBare l (g.S.Station.view c.args.station.now).held) (sym is.layout_is) (c.requires.left told).bare; gate_is = is.gate_is }) in
    let fits = loaded_parts parts.place parts.tally c.load_area.new.tally parts.index c.load_area.new.index c.set_turn.new.self.journal made kept c.load_area.ensures.counts.is_tally c.load_area.ensures.fences.hmax c.load_area.ensures.fences.height c.in-Ok-load_area.ensures.balanced in
    record {
      agrees = each_held (g.S.Station.view c.load_area.new.station) (AgreesWith c.in-Ok.parts.place c.load_area.new.tally c.load_area.new.index) (g.met.S.Station.lawful c.load_area.new.station) nothing (λ told_b.
          let told : Told (g.S.Station.view c.args.station.now) = told_back c.load_area.ensures.steps.frame told_b in
          let header = c.requires.known.header_is told in
          let own = quick_agrees c.in-Ok.parts.place c.load_area.new.tally c.load_area.new.index (g.S.Station.view c.args.station.now).held (c.requires.left told)
          (sym header.layout_is ∙ sym (ap (λ (p : Place). p.layout) c.in-Ok.ensures.place))
          (sym header.live_is ∙ sym (ap (λ (p : Place). p.region) c.in-Ok.ensures.place))
          (sym header.height_is ∙ sym (ap (λ (t : TallyView). t.height) c.in-Ok.ensures.tally) ∙ sym next)
          (c.load_area.ensures.fences.height ∙ c.in-Ok.ensures.parts.index_height ∙ sym next)
          (subst (λ (h : ℕ). AreNodesOf c.in-Ok.parts.place.layout.format c.in-Ok.parts.place.layout h c.load_area.new.index.fences (2 ^ h - 1) (g.S.Station.view c.args.station.now).held) (sym next) (c.in-Ok-load_area.ensures.fenced told))
          (c.in-Ok-load_area.ensures.counted told ∙ ap (λ (h : ℕ). counts_read c.in-Ok.parts.place.layout h (g.S.Station.view c.args.station.now).held) (sym next))
          c.in-Ok-load_area.ensures.balanced in
          subst (AgreesWith c.in-Ok.parts.place c.load_area.new.tally c.load_area.new.index) (sym (c.load_area.ensures.steps.held told)) own);
      fits = fits;
      room = c.load_area.ensures.fences.hmax ∙ c.in-Ok.ensures.room ∙ ap height_limit (sym layout);
      reach = subst (λ (l : Layout). file_length l ≤ (g.S.Station.view c.args.station.now).fixed.reach) (sym layout) c.requires.known.reach;
      indexed = subst (λ (l : Layout). INDEXED ≤ l.version) (sym layout) c.requires.indexed;
      unrested = loaded_marks parts.tally c.load_area.new.tally kept (ap (λ (t : TallyView). t.marks) c.in-Ok.ensures.tally ∙ ap (λ (t : TallyView). no_marks t.height) (sym c.in-Ok.ensures.tally));
      no_intent = c.in-Ok.ensures.intent;
      rests = subst (λ (l : Layout). RestsAt l c.set_turn.new.self.turn (g.S.Station.view c.load_area.new.station)) (sym layout) (subst (λ (t : ℕ). RestsAt c.args.header.now.layout t (g.S.Station.view c.load_area.new.station)) (sym turn) rests);
      travel = c.in-Ok-load_area.ensures.travel ∙ ap (λ (h : ℕ). after_area c.in-Ok.parts.place.layout h (g.S.Station.view c.args.station.now).travel) (sym next);
      calls = omega (arith, c.load_area.ensures.calls, ap area_calls next);
    }

none_some : (r : Reason) (o : Option Reason) → o ≡ Some r → o ≡ None → ⊥
none_some r o is none = absurd cc

-- the three faults differ
not_failed : (r : Reason) → NotStore r ≡ Failed → ⊥
not_failed r is = absurd cc

failed_not : (r : Reason) → Failed ≡ NotStore r → ⊥
failed_not r is = absurd cc

memory_not : (r : Reason) → Memory ≡ NotStore r → ⊥
memory_not r is = absurd cc

not_memory : Memory ≡ Failed → ⊥
not_memory is = absurd cc

pub returns-in_default-clause-stops : goal.returns-in_default-clause-stops
returns-in_default-clause-stops g c = record {
  causes = tt;
  told = λ r is told. memory_not r is;
  failed = λ is. absurd (not_memory is);
}

pub returns-in-Err-Failed-clause-stops : goal.returns-in-Err-Failed-clause-stops
returns-in-Err-Failed-clause-stops g c = record {
  causes = tt;
  told = λ r is told. failed_not r is;
  failed = λ is. c.load_area.ensures.failed cc;
}

pub returns-clause-stops : goal.returns-clause-stops
returns-clause-stops g c = record {
  causes = tt;
  told = λ r e told. refused told;
  failed = λ is. absurd (not_failed (Index c.in-Err-Wrong.place) is);
}
  where
    refused : Told (g.S.Station.view c.args.station.now) → ⊥
    refused told =
        let header = c.requires.known.header_is told in
        let found = c.in-Err-Wrong.ensures.refused told c.in-Err-Wrong.place c.in-Err-Wrong.field-0-is in
        let sound = left_sound (g.S.Station.view c.args.station.now).held (c.requires.left told) in
        let layout = sym header.layout_is ∙ sym (ap (λ (p : Place). p.layout) c.in-Ok.ensures.place) in
        let tall = sym header.height_is ∙ sym (ap (λ (t : TallyView). t.height) c.in-Ok.ensures.tally) in
        let here : area_reason c.in-Ok.parts.place.layout c.in-Ok.parts.tally.height (g.S.Station.view c.args.station.now).held ≡ None =
        ap (λ (l : Layout). area_reason l c.in-Ok.parts.tally.height (g.S.Station.view c.args.station.now).held) (sym layout)
        ∙ ap (λ (h : ℕ). area_reason (layout_in (g.S.Station.view c.args.station.now).held) h (g.S.Station.view c.args.station.now).held) (sym tall) ∙ sound in
        none_some (Index c.in-Err-Wrong.place) (area_reason c.in-Ok.parts.place.layout c.in-Ok.parts.tally.height (g.S.Station.view c.args.station.now).held) found here

same_place : (p q : ℕ) → NotStore (Index p) ≡ NotStore (Index q) → p ≡ q
same_place p q e = cc

pub returns-clause-named : goal.returns-clause-named
returns-clause-named g c place e =
    let s = (g.S.Station.view c.args.station.now).travel in
    let t = (g.S.Station.view c.load_area.new.station).travel in
    let here = c.in-Err-Wrong.ensures.named c.in-Err-Wrong.place c.in-Err-Wrong.field-0-is in
    let layout = ap (λ (p : Place). p.layout) c.in-Ok.ensures.place in
    let tall = ap (λ (t : TallyView). t.height) c.in-Ok.ensures.tally in
    subst (λ (n : ℕ). NamesPlace c.args.header.now.layout c.args.header.now.height n s t) (same_place c.in-Err-Wrong.place place e)
    (subst (λ (l : Layout). NamesPlace l c.args.header.now.height c.in-Err-Wrong.place s t) layout (subst (λ (h : ℕ). NamesPlace c.in-Ok.parts.place.layout h c.in-Err-Wrong.place s t) tall here))

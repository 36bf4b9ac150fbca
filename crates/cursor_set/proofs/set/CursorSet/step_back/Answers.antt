use Rattle.std.proofs.Common.{◌≡◌, ◌∙◌, sym, ap, subst, Some, None, is_some, IfNone}
use Rattle.std.specs.Option.{option_map}
use Rattle.std.proofs.lemmas.Result.{err_from_is_err_and}
use Rattle.std.specs.FinMap.{get}
use Rattle.key_slot.specs.Row.{record_of}
use Rattle.map_model.specs.Cursors.{Cursors, back}
use Rattle.map_model.specs.Image.{map_of}
use Rattle.cursor_set.specs.CursorPlaces.{found_in, cursor_of}
use Rattle.cursor_set.specs.declared.answers.Step.TheVariants as step
use Rattle.cursor_set.specs.Ways.{step_of}
use Rattle.cursor_set.proofs.Stepped.{moved_if}
use Rattle.cursor_set.proofs.Places.{get-cursors_in}
use Rattle.cursor_set.proofs.Changes.{after_is, cursor_there, step_answer, step_row, step_end, step_keeps}
use Rattle.cursor_set.proofs.Looks.{behind_for, not_both}
use Rattle.cursor_set.proofs.set.CursorSet.step_back.Goals as goal
use Rattle.cursor_set.proofs.set.CursorSet.step_back.Goals.{After-find_entry}

-- the name has no cursor
absent : (g : _) (c : After-find_entry g) → c.find_entry.result ≡ None → get c.args.self.now c.args.name.now ≡ None
absent g c none =
    ap (λ (s : Cursors). get s c.args.name.now) (sym c.self.view_is)
    ∙ get-cursors_in c.self.inside.slots c.args.name.now
    ∙ subst (λ r. IfNone r (found_in c.args.name.now c.self.inside.slots ≡ None)) none c.find_entry.ensures.none

pub returns-in_default-clause-answer : goal.returns-in_default-clause-answer
returns-in_default-clause-answer g c told =
    let here = (goal.at.returns-in_default-clause-answer g c).After-find_entry in
    sym (ap (option_map (step_of back (map_of (g.S.Station.view c.args.station.now).held))) (absent g here c.in_default.is))

pub returns-in_default-clause-known : goal.returns-in_default-clause-known
returns-in_default-clause-known g c =
    let here = (goal.at.returns-in_default-clause-known g c).After-find_entry in
    sym (ap is_some (absent g here c.in_default.is))

pub returns-in_default-clause-prev : goal.returns-in_default-clause-prev
returns-in_default-clause-prev g c told =
    let here = (goal.at.returns-in_default-clause-prev g c).After-find_entry in
    sym (ap (moved_if (step_of back (map_of (g.S.Station.view c.args.station.now).held)) c.args.self.now c.args.name.now) (absent g here c.in_default.is))

pub returns-in_default-clause-reads : goal.returns-in_default-clause-reads
returns-in_default-clause-reads g c k at =
    let here = (goal.at.returns-in_default-clause-reads g c).After-find_entry in
    not_both _ k at (absent g here c.in_default.is)

pub returns-clause-reads : goal.returns-clause-reads
returns-clause-reads g c =
    behind_for _ _ _ (cursor_of c.in-Some.entry) _ _ _ (λ P h. tt)
    (cursor_there c.self.inside.slots c.in-Some.place c.in-Some.entry c.args.name.now c.self.invariant c.in-Some.ensures.there c.in-Some.ensures.named c.args.self.now c.self.view_is)
    c.in_ok-row.ensures.reads

pub returns-clause-idle : goal.returns-clause-idle
returns-clause-idle g c none =
    not_both _ (cursor_of c.in-Some.entry)
    (cursor_there c.self.inside.slots c.in-Some.place c.in-Some.entry c.args.name.now c.self.invariant c.in-Some.ensures.there c.in-Some.ensures.named c.args.self.now c.self.view_is) none

pub returns-clause-uncalled : goal.returns-clause-uncalled
returns-clause-uncalled g c none =
    not_both _ (cursor_of c.in-Some.entry)
    (cursor_there c.self.inside.slots c.in-Some.place c.in-Some.entry c.args.name.now c.self.invariant c.in-Some.ensures.there c.in-Some.ensures.named c.args.self.now c.self.view_is) none

pub returns-in_default-2-clause-reads : goal.returns-in_default-2-clause-reads
returns-in_default-2-clause-reads g c =
    behind_for _ _ _ (cursor_of c.in-Some.entry) _ _ _ (λ P h. tt)
    (cursor_there c.self.inside.slots c.in-Some.place c.in-Some.entry c.args.name.now c.self.invariant c.in-Some.ensures.there c.in-Some.ensures.named c.args.self.now c.self.view_is)
    c.in_ok-row.ensures.reads

pub returns-in_default-2-clause-idle : goal.returns-in_default-2-clause-idle
returns-in_default-2-clause-idle g c none =
    not_both _ (cursor_of c.in-Some.entry)
    (cursor_there c.self.inside.slots c.in-Some.place c.in-Some.entry c.args.name.now c.self.invariant c.in-Some.ensures.there c.in-Some.ensures.named c.args.self.now c.self.view_is) none

pub returns-in_default-2-clause-uncalled : goal.returns-in_default-2-clause-uncalled
returns-in_default-2-clause-uncalled g c none =
    not_both _ (cursor_of c.in-Some.entry)
    (cursor_there c.self.inside.slots c.in-Some.place c.in-Some.entry c.args.name.now c.self.invariant c.in-Some.ensures.there c.in-Some.ensures.named c.args.self.now c.self.view_is) none

pub returns-in_err-row-clause-reads : goal.returns-in_err-row-clause-reads
returns-in_err-row-clause-reads g c =
    let p = err_from_is_err_and c.from_residual.result c.from_residual.ensures.1 in
    rw (p.1, p.2) (behind_for _ _ _ (cursor_of c.in-Some.entry) _ _ _ (λ P h. h)
    (cursor_there c.self.inside.slots c.in-Some.place c.in-Some.entry c.args.name.now c.self.invariant c.in-Some.ensures.there c.in-Some.ensures.named c.args.self.now c.self.view_is)
    c.in_err-row.ensures.reads)

pub returns-in_err-row-clause-idle : goal.returns-in_err-row-clause-idle
returns-in_err-row-clause-idle g c none =
    not_both _ (cursor_of c.in-Some.entry)
    (cursor_there c.self.inside.slots c.in-Some.place c.in-Some.entry c.args.name.now c.self.invariant c.in-Some.ensures.there c.in-Some.ensures.named c.args.self.now c.self.view_is) none

pub returns-in_err-row-clause-uncalled : goal.returns-in_err-row-clause-uncalled
returns-in_err-row-clause-uncalled g c none =
    not_both _ (cursor_of c.in-Some.entry)
    (cursor_there c.self.inside.slots c.in-Some.place c.in-Some.entry c.args.name.now c.self.invariant c.in-Some.ensures.there c.in-Some.ensures.named c.args.self.now c.self.view_is) none

pub invariant_of-self-2 : goal.invariant_of-self-2
invariant_of-self-2 g c =
    let e = c.in-Some.entry in
    step_keeps c.self.inside.slots c.in-Some.place e c.args.name.now c.self.invariant c.in-Some.ensures.there c.in-Some.ensures.named c.args.self.now c.self.view_is
    (Some (record { name = e.name; low = e.low; high = e.high; past = Some c.in-Some-2.row.key })) c.in-Some.ensures.named

pub invariant_of-self : goal.invariant_of-self
invariant_of-self g c =
    step_keeps c.self.inside.slots c.in-Some.place c.in-Some.entry c.args.name.now c.self.invariant c.in-Some.ensures.there c.in-Some.ensures.named c.args.self.now c.self.view_is None tt

pub returns-clause-answer : goal.returns-clause-answer
returns-clause-answer g c told =
    step_answer c.self.inside.slots c.in-Some.place c.in-Some.entry c.args.name.now c.self.invariant c.in-Some.ensures.there c.in-Some.ensures.named c.args.self.now c.self.view_is
    (step_of back (map_of (g.S.Station.view c.args.station.now).held)) (Some (record_of c.in-Some-2.row)) (sym (ap (option_map record_of) c.in-Some-2.is) ∙ c.in_ok-row.ensures.row told)

pub returns-clause-known : goal.returns-clause-known
returns-clause-known g c =
    sym (ap is_some (cursor_there c.self.inside.slots c.in-Some.place c.in-Some.entry c.args.name.now c.self.invariant c.in-Some.ensures.there c.in-Some.ensures.named c.args.self.now c.self.view_is))

pub returns-clause-after : goal.returns-clause-after
returns-clause-after g c =
    step_row c.self.inside.slots c.in-Some.place c.in-Some.entry c.args.name.now c.self.invariant c.in-Some.ensures.there c.in-Some.ensures.named c.args.self.now c.self.view_is c.in-Some-2.row

pub returns-clause-prev : goal.returns-clause-prev
returns-clause-prev g c told =
    let gives = step_of back (map_of (g.S.Station.view c.args.station.now).held) in
    step_row c.self.inside.slots c.in-Some.place c.in-Some.entry c.args.name.now c.self.invariant c.in-Some.ensures.there c.in-Some.ensures.named c.args.self.now c.self.view_is c.in-Some-2.row
    ∙ after_is gives c.args.self.now c.args.name.now (step.Row c.in-Some-2.row)
    (step_answer c.self.inside.slots c.in-Some.place c.in-Some.entry c.args.name.now c.self.invariant c.in-Some.ensures.there c.in-Some.ensures.named c.args.self.now c.self.view_is
    gives (Some (record_of c.in-Some-2.row)) (sym (ap (option_map record_of) c.in-Some-2.is) ∙ c.in_ok-row.ensures.row told))

pub returns-in_default-2-clause-answer : goal.returns-in_default-2-clause-answer
returns-in_default-2-clause-answer g c told =
    step_answer c.self.inside.slots c.in-Some.place c.in-Some.entry c.args.name.now c.self.invariant c.in-Some.ensures.there c.in-Some.ensures.named c.args.self.now c.self.view_is
    (step_of back (map_of (g.S.Station.view c.args.station.now).held)) None (sym (ap (option_map record_of) c.in_default-2.is) ∙ c.in_ok-row.ensures.row told)

pub returns-in_default-2-clause-known : goal.returns-in_default-2-clause-known
returns-in_default-2-clause-known g c =
    sym (ap is_some (cursor_there c.self.inside.slots c.in-Some.place c.in-Some.entry c.args.name.now c.self.invariant c.in-Some.ensures.there c.in-Some.ensures.named c.args.self.now c.self.view_is))

pub returns-in_default-2-clause-after : goal.returns-in_default-2-clause-after
returns-in_default-2-clause-after g c =
    step_end c.self.inside.slots c.in-Some.place c.in-Some.entry c.args.name.now c.self.invariant c.in-Some.ensures.there c.in-Some.ensures.named c.args.self.now c.self.view_is

pub returns-in_default-2-clause-prev : goal.returns-in_default-2-clause-prev
returns-in_default-2-clause-prev g c told =
    let gives = step_of back (map_of (g.S.Station.view c.args.station.now).held) in
    step_end c.self.inside.slots c.in-Some.place c.in-Some.entry c.args.name.now c.self.invariant c.in-Some.ensures.there c.in-Some.ensures.named c.args.self.now c.self.view_is
    ∙ after_is gives c.args.self.now c.args.name.now step.End
    (step_answer c.self.inside.slots c.in-Some.place c.in-Some.entry c.args.name.now c.self.invariant c.in-Some.ensures.there c.in-Some.ensures.named c.args.self.now c.self.view_is
    gives None (sym (ap (option_map record_of) c.in_default-2.is) ∙ c.in_ok-row.ensures.row told))

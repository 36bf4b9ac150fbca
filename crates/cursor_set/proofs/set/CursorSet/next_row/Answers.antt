use Rattle.std.proofs.Common.{◌≡◌, ◌∙◌, sym, ap, subst, Some, None, is_some, IfNone}
use Rattle.std.specs.Option.{option_map}
use Rattle.std.specs.FinMap.{get}
use Rattle.key_slot.specs.Row.{record_of}
use Rattle.map_model.specs.Cursors.{Cursors, onward}
use Rattle.map_model.specs.Image.{map_of}
use Rattle.cursor_set.specs.CursorPlaces.{found_in, cursor_of}
use Rattle.cursor_set.specs.declared.answers.Step.TheVariants as step
use Rattle.cursor_set.specs.Ways.{step_of}
use Rattle.cursor_set.proofs.Stepped.{moved_if}
use Rattle.cursor_set.proofs.Places.{get-cursors_in}
use Rattle.cursor_set.proofs.Changes.{after_is, cursor_there, step_answer, step_row, step_end, step_keeps}
use Rattle.cursor_set.proofs.Looks.{near_for, not_both}
use Rattle.cursor_set.proofs.set.CursorSet.next_row.Goals as goal
use Rattle.cursor_set.proofs.set.CursorSet.next_row.Goals.{After-find_entry}

-- the name has no cursor
absent : (g : _) (c : After-find_entry g) → c.find_entry.result ≡ None → get c.args.self.now c.args.name.now ≡ None
absent g c none =
    ap (λ (s : Cursors). get s c.args.name.now) (sym c.self.view_is)
    ∙ get-cursors_in c.self.inside.slots c.args.name.now
    ∙ subst (λ r. IfNone r (found_in c.args.name.now c.self.inside.slots ≡ None)) none c.find_entry.ensures.none

pub returns-in_default-clause-answer : goal.returns-in_default-clause-answer
returns-in_default-clause-answer g c told =
    let here = (goal.at.returns-in_default-clause-answer g c).After-find_entry in
    sym (ap (option_map (step_of onward (map_of (g.S.Station.view c.args.station.now).held))) (absent g here c.in_default.is))

pub returns-in_default-clause-known : goal.returns-in_default-clause-known
returns-in_default-clause-known g c =
    let here = (goal.at.returns-in_default-clause-known g c).After-find_entry in
    sym (ap is_some (absent g here c.in_default.is))

pub returns-in_default-clause-next : goal.returns-in_default-clause-next
returns-in_default-clause-next g c told =
    let here = (goal.at.returns-in_default-clause-next g c).After-find_entry in
    sym (ap (moved_if (step_of onward (map_of (g.S.Station.view c.args.station.now).held)) c.args.self.now c.args.name.now) (absent g here c.in_default.is))

pub returns-in_default-clause-reads : goal.returns-in_default-clause-reads
returns-in_default-clause-reads g c k at =
    let here = (goal.at.returns-in_default-clause-reads g c).After-find_entry in
    not_both _ k at (absent g here c.in_default.is)

pub returns-in-Ok-Some-clause-reads : goal.returns-in-Ok-Some-clause-reads
returns-in-Ok-Some-clause-reads g c =
    near_for _ _ _ (cursor_of c.in-Some.entry) _ _ _ (λ P h. tt)
    (cursor_there c.self.inside.slots c.in-Some.place c.in-Some.entry c.args.name.now c.self.invariant c.in-Some.ensures.there c.in-Some.ensures.named c.args.self.now c.self.view_is)
    c.in-Ok-Some.ensures.reads

pub returns-in-Ok-Some-clause-idle : goal.returns-in-Ok-Some-clause-idle
returns-in-Ok-Some-clause-idle g c none =
    not_both _ (cursor_of c.in-Some.entry)
    (cursor_there c.self.inside.slots c.in-Some.place c.in-Some.entry c.args.name.now c.self.invariant c.in-Some.ensures.there c.in-Some.ensures.named c.args.self.now c.self.view_is) none

pub returns-in-Ok-Some-clause-uncalled : goal.returns-in-Ok-Some-clause-uncalled
returns-in-Ok-Some-clause-uncalled g c none =
    not_both _ (cursor_of c.in-Some.entry)
    (cursor_there c.self.inside.slots c.in-Some.place c.in-Some.entry c.args.name.now c.self.invariant c.in-Some.ensures.there c.in-Some.ensures.named c.args.self.now c.self.view_is) none

pub returns-in-Ok-None-clause-reads : goal.returns-in-Ok-None-clause-reads
returns-in-Ok-None-clause-reads g c =
    near_for _ _ _ (cursor_of c.in-Some.entry) _ _ _ (λ P h. tt)
    (cursor_there c.self.inside.slots c.in-Some.place c.in-Some.entry c.args.name.now c.self.invariant c.in-Some.ensures.there c.in-Some.ensures.named c.args.self.now c.self.view_is)
    c.in-Ok-None.ensures.reads

pub returns-in-Ok-None-clause-idle : goal.returns-in-Ok-None-clause-idle
returns-in-Ok-None-clause-idle g c none =
    not_both _ (cursor_of c.in-Some.entry)
    (cursor_there c.self.inside.slots c.in-Some.place c.in-Some.entry c.args.name.now c.self.invariant c.in-Some.ensures.there c.in-Some.ensures.named c.args.self.now c.self.view_is) none

pub returns-in-Ok-None-clause-uncalled : goal.returns-in-Ok-None-clause-uncalled
returns-in-Ok-None-clause-uncalled g c none =
    not_both _ (cursor_of c.in-Some.entry)
    (cursor_there c.self.inside.slots c.in-Some.place c.in-Some.entry c.args.name.now c.self.invariant c.in-Some.ensures.there c.in-Some.ensures.named c.args.self.now c.self.view_is) none

pub returns-in-Err-clause-reads : goal.returns-in-Err-clause-reads
returns-in-Err-clause-reads g c =
    near_for _ _ _ (cursor_of c.in-Some.entry) _ _ _ (λ P h. h)
    (cursor_there c.self.inside.slots c.in-Some.place c.in-Some.entry c.args.name.now c.self.invariant c.in-Some.ensures.there c.in-Some.ensures.named c.args.self.now c.self.view_is)
    c.in-Err.ensures.reads

pub returns-in-Err-clause-idle : goal.returns-in-Err-clause-idle
returns-in-Err-clause-idle g c none =
    not_both _ (cursor_of c.in-Some.entry)
    (cursor_there c.self.inside.slots c.in-Some.place c.in-Some.entry c.args.name.now c.self.invariant c.in-Some.ensures.there c.in-Some.ensures.named c.args.self.now c.self.view_is) none

pub returns-in-Err-clause-uncalled : goal.returns-in-Err-clause-uncalled
returns-in-Err-clause-uncalled g c none =
    not_both _ (cursor_of c.in-Some.entry)
    (cursor_there c.self.inside.slots c.in-Some.place c.in-Some.entry c.args.name.now c.self.invariant c.in-Some.ensures.there c.in-Some.ensures.named c.args.self.now c.self.view_is) none

pub invariant_of-self : goal.invariant_of-self
invariant_of-self g c =
    let e = c.in-Some.entry in
    step_keeps c.self.inside.slots c.in-Some.place e c.args.name.now c.self.invariant c.in-Some.ensures.there c.in-Some.ensures.named c.args.self.now c.self.view_is
    (Some (record { name = e.name; low = e.low; high = e.high; past = Some c.in-Ok-Some.row.key })) c.in-Some.ensures.named

pub invariant_of-self-in-Ok-None : goal.invariant_of-self-in-Ok-None
invariant_of-self-in-Ok-None g c =
    step_keeps c.self.inside.slots c.in-Some.place c.in-Some.entry c.args.name.now c.self.invariant c.in-Some.ensures.there c.in-Some.ensures.named c.args.self.now c.self.view_is None tt

pub returns-in-Ok-Some-clause-answer : goal.returns-in-Ok-Some-clause-answer
returns-in-Ok-Some-clause-answer g c told =
    step_answer c.self.inside.slots c.in-Some.place c.in-Some.entry c.args.name.now c.self.invariant c.in-Some.ensures.there c.in-Some.ensures.named c.args.self.now c.self.view_is
    (step_of onward (map_of (g.S.Station.view c.args.station.now).held)) (Some (record_of c.in-Ok-Some.row)) (sym (ap (option_map record_of) c.in-Ok-Some.field-0-is) ∙ c.in-Ok-Some.ensures.row told)

pub returns-in-Ok-Some-clause-known : goal.returns-in-Ok-Some-clause-known
returns-in-Ok-Some-clause-known g c =
    sym (ap is_some (cursor_there c.self.inside.slots c.in-Some.place c.in-Some.entry c.args.name.now c.self.invariant c.in-Some.ensures.there c.in-Some.ensures.named c.args.self.now c.self.view_is))

pub returns-in-Ok-Some-clause-after : goal.returns-in-Ok-Some-clause-after
returns-in-Ok-Some-clause-after g c =
    step_row c.self.inside.slots c.in-Some.place c.in-Some.entry c.args.name.now c.self.invariant c.in-Some.ensures.there c.in-Some.ensures.named c.args.self.now c.self.view_is c.in-Ok-Some.row

pub returns-in-Ok-Some-clause-next : goal.returns-in-Ok-Some-clause-next
returns-in-Ok-Some-clause-next g c told =
    let gives = step_of onward (map_of (g.S.Station.view c.args.station.now).held) in
    step_row c.self.inside.slots c.in-Some.place c.in-Some.entry c.args.name.now c.self.invariant c.in-Some.ensures.there c.in-Some.ensures.named c.args.self.now c.self.view_is c.in-Ok-Some.row
    ∙ after_is gives c.args.self.now c.args.name.now (step.Row c.in-Ok-Some.row)
    (step_answer c.self.inside.slots c.in-Some.place c.in-Some.entry c.args.name.now c.self.invariant c.in-Some.ensures.there c.in-Some.ensures.named c.args.self.now c.self.view_is
    gives (Some (record_of c.in-Ok-Some.row)) (sym (ap (option_map record_of) c.in-Ok-Some.field-0-is) ∙ c.in-Ok-Some.ensures.row told))

pub returns-in-Ok-None-clause-answer : goal.returns-in-Ok-None-clause-answer
returns-in-Ok-None-clause-answer g c told =
    step_answer c.self.inside.slots c.in-Some.place c.in-Some.entry c.args.name.now c.self.invariant c.in-Some.ensures.there c.in-Some.ensures.named c.args.self.now c.self.view_is
    (step_of onward (map_of (g.S.Station.view c.args.station.now).held)) None (sym (ap (option_map record_of) c.in-Ok-None.field-0-is) ∙ c.in-Ok-None.ensures.row told)

pub returns-in-Ok-None-clause-known : goal.returns-in-Ok-None-clause-known
returns-in-Ok-None-clause-known g c =
    sym (ap is_some (cursor_there c.self.inside.slots c.in-Some.place c.in-Some.entry c.args.name.now c.self.invariant c.in-Some.ensures.there c.in-Some.ensures.named c.args.self.now c.self.view_is))

pub returns-in-Ok-None-clause-after : goal.returns-in-Ok-None-clause-after
returns-in-Ok-None-clause-after g c =
    step_end c.self.inside.slots c.in-Some.place c.in-Some.entry c.args.name.now c.self.invariant c.in-Some.ensures.there c.in-Some.ensures.named c.args.self.now c.self.view_is

pub returns-in-Ok-None-clause-next : goal.returns-in-Ok-None-clause-next
returns-in-Ok-None-clause-next g c told =
    let gives = step_of onward (map_of (g.S.Station.view c.args.station.now).held) in
    step_end c.self.inside.slots c.in-Some.place c.in-Some.entry c.args.name.now c.self.invariant c.in-Some.ensures.there c.in-Some.ensures.named c.args.self.now c.self.view_is
    ∙ after_is gives c.args.self.now c.args.name.now step.End
    (step_answer c.self.inside.slots c.in-Some.place c.in-Some.entry c.args.name.now c.self.invariant c.in-Some.ensures.there c.in-Some.ensures.named c.args.self.now c.self.view_is
    gives None (sym (ap (option_map record_of) c.in-Ok-None.field-0-is) ∙ c.in-Ok-None.ensures.row told))

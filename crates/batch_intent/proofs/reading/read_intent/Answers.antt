use Rattle.std.proofs.Common.{◌≡◌, ℕ, ◌+◌, ◌≤◌, T, length, Bool, true, false, cond, refl, List, sym, ap, subst, ◌∙◌, arith, Some, None}
use Rattle.std.specs.List.{list_all}
use Rattle.station.specs.Bytes.{byte, Filled}
use Rattle.station.proofs.Composition.{told_on}
use Rattle.batch_intent.specs.declared.places.TheConstants.{INTENT}
use Rattle.header_gate.specs.declared.reason.Reason.TheVariants.{Intent}
use Rattle.map_model.specs.Store.{Update}
use Rattle.batch_intent.specs.Spelling.{items_in, fits_item}
use Rattle.batch_intent.specs.IntentReasons.{wrong_place}
use Rattle.batch_intent.specs.Gate.{intent_area, reason_at}
use Rattle.batch_intent.proofs.Gates.{area_read, early_idle, even_idle, odd_applies}
use Rattle.batch_intent.proofs.Sound.{spells_of_none}
use Rattle.batch_intent.proofs.reading.read_intent.Goals as goal

pub returns-in-Ok-validate_intent-clause-items : goal.returns-in-Ok-validate_intent-clause-items
returns-in-Ok-validate_intent-clause-items g c told items e =
    let a = g.S.Station.view c.args.station.now in
    let filled = subst (λ (f : List ℕ). Filled INTENT f c.read_at-2.new.buf) (c.read_at.ensures.steps.held told) (c.in-Ok-read_at.ensures.filled (told_on c.read_at.ensures.steps.frame told)) in
    let area = area_read a.held c.read_at-2.new.buf c.read_at-2.auto.buf filled in
    let same : c.in-Ok-validate_intent.intent ≡ items = cc in
    sym same ∙ c.in-Ok-validate_intent.ensures.items ∙ ap items_in area

pub returns-in-Ok-validate_intent-clause-sound : goal.returns-in-Ok-validate_intent-clause-sound
returns-in-Ok-validate_intent-clause-sound g c told =
    let a = g.S.Station.view c.args.station.now in
    let filled = subst (λ (f : List ℕ). Filled INTENT f c.read_at-2.new.buf) (c.read_at.ensures.steps.held told) (c.in-Ok-read_at.ensures.filled (told_on c.read_at.ensures.steps.frame told)) in
    let area = area_read a.held c.read_at-2.new.buf c.read_at-2.auto.buf filled in
    let odd = odd_applies c.args.layout a.held (byte c.read_at.new.buf 0) (omega (arith, c.if-layout-lt-INTENT_VERSION.false)) (c.in-Ok.ensures.filled told 0 (omega (arith, c.read_at.auto.buf)) ∙ ap (byte a.held) {x = c.place.result + 0} {y = 640} (omega (arith, c.place.ensures))) c.if-gate-eq0.false in
    ap (λ (b : Bool). cond b (reason_at (wrong_place c.args.layout.format (intent_area a.held))) None) odd
    ∙ ap (λ (f : List ℕ). reason_at (wrong_place c.args.layout.format f)) (sym area)
    ∙ ap reason_at c.in-Ok-validate_intent.ensures.right

pub returns-in-Err-clause-refused : goal.returns-in-Err-clause-refused
returns-in-Err-clause-refused g c told r e =
    let a = g.S.Station.view c.args.station.now in
    let filled = subst (λ (f : List ℕ). Filled INTENT f c.read_at-2.new.buf) (c.read_at.ensures.steps.held told) (c.in-Ok-read_at.ensures.filled (told_on c.read_at.ensures.steps.frame told)) in
    let area = area_read a.held c.read_at-2.new.buf c.read_at-2.auto.buf filled in
    let odd = odd_applies c.args.layout a.held (byte c.read_at.new.buf 0) (omega (arith, c.if-layout-lt-INTENT_VERSION.false)) (c.in-Ok.ensures.filled told 0 (omega (arith, c.read_at.auto.buf)) ∙ ap (byte a.held) {x = c.place.result + 0} {y = 640} (omega (arith, c.place.ensures))) c.if-gate-eq0.false in
    let same : Intent (INTENT + c.in-Err.place) ≡ r = cc in
    ap (λ (b : Bool). cond b (reason_at (wrong_place c.args.layout.format (intent_area a.held))) None) odd
    ∙ ap (λ (f : List ℕ). reason_at (wrong_place c.args.layout.format f)) (sym area)
    ∙ ap reason_at c.in-Err.ensures.refused
    ∙ ap Some same

pub returns-then-layout-lt-INTENT_VERSION-clause-even : goal.returns-then-layout-lt-INTENT_VERSION-clause-even
returns-then-layout-lt-INTENT_VERSION-clause-even g c told =
    let a = g.S.Station.view c.args.station.now in
    (λ _. early_idle c.args.layout a.held (omega (arith, c.if-layout-lt-INTENT_VERSION.true)), λ _. refl)

pub returns-then-layout-lt-INTENT_VERSION-clause-sound : goal.returns-then-layout-lt-INTENT_VERSION-clause-sound
returns-then-layout-lt-INTENT_VERSION-clause-sound g c told =
    let a = g.S.Station.view c.args.station.now in
    ap (λ (b : Bool). cond b (reason_at (wrong_place c.args.layout.format (intent_area a.held))) None) (early_idle c.args.layout a.held (omega (arith, c.if-layout-lt-INTENT_VERSION.true)))

pub returns-then-gate-eq0-clause-even : goal.returns-then-gate-eq0-clause-even
returns-then-gate-eq0-clause-even g c told =
    let a = g.S.Station.view c.args.station.now in
    (λ _. even_idle c.args.layout a.held (byte c.read_at.new.buf 0) (c.in-Ok.ensures.filled told 0 (omega (arith, c.read_at.auto.buf)) ∙ ap (byte a.held) {x = c.place.result + 0} {y = 640} (omega (arith, c.place.ensures))) c.if-gate-eq0.true, λ _. refl)

pub returns-then-gate-eq0-clause-sound : goal.returns-then-gate-eq0-clause-sound
returns-then-gate-eq0-clause-sound g c told =
    let a = g.S.Station.view c.args.station.now in
    ap (λ (b : Bool). cond b (reason_at (wrong_place c.args.layout.format (intent_area a.held))) None)
    (even_idle c.args.layout a.held (byte c.read_at.new.buf 0) (c.in-Ok.ensures.filled told 0 (omega (arith, c.read_at.auto.buf)) ∙ ap (byte a.held) {x = c.place.result + 0} {y = 640} (omega (arith, c.place.ensures))) c.if-gate-eq0.true)

pub returns-in-Ok-validate_intent-clause-even : goal.returns-in-Ok-validate_intent-clause-even
returns-in-Ok-validate_intent-clause-even g c told =
    let a = g.S.Station.view c.args.station.now in
    let odd = odd_applies c.args.layout a.held (byte c.read_at.new.buf 0) (omega (arith, c.if-layout-lt-INTENT_VERSION.false)) (c.in-Ok.ensures.filled told 0 (omega (arith, c.read_at.auto.buf)) ∙ ap (byte a.held) {x = c.place.result + 0} {y = 640} (omega (arith, c.place.ensures))) c.if-gate-eq0.false in
    (λ none. absurd (some_none c.in-Ok-validate_intent.intent none), λ idle. absurd (true_false (sym odd ∙ idle)))
  where
    some_none : (items : List Update) → Some items ≡ None → ⊥
    some_none items e = cc

    true_false : true ≡ false → ⊥
    true_false e = cc

pub returns-in-Ok-validate_intent-clause-fits : goal.returns-in-Ok-validate_intent-clause-fits
returns-in-Ok-validate_intent-clause-fits g c items e =
    let format = c.args.layout.format in
    let same : c.in-Ok-validate_intent.intent ≡ items = cc in
    let spells = spells_of_none format c.read_at-2.new.buf c.read_at-2.auto.buf c.in-Ok-validate_intent.ensures.right in
    subst (λ (us : List Update). (1 ≤ length us) × T (list_all (fits_item format) us)) (sym c.in-Ok-validate_intent.ensures.items ∙ same) (spells.some, spells.fit)

pub returns-in-Err-clause-reason : goal.returns-in-Err-clause-reason
returns-in-Err-clause-reason g c r is = (INTENT + c.in-Err.place, cc)

pub returns-in-Err-clause-within : goal.returns-in-Err-clause-within
returns-in-Err-clause-within g c place is =
    let same : INTENT + c.in-Err.place ≡ place = cc in
    (omega (arith, same), omega (arith, same, c.in-Err.ensures.within))

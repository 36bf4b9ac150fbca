use Rattle.std.proofs.Common.{◌≡◌, ◌&&◌, ◌==◌, nat_le, ◌+◌, ◌-◌, ◌<◌, ◌≤◌, ◌↔◌, inl, ℕ, List, Bool, true, false, Option, Some, None, refl, sym, ap, subst, ◌∙◌, arith}
use Rattle.std.specs.Prelude.{is_some}
use Rattle.std.proofs.lemmas.Result.{err_from_is_err_and}
use Rattle.std.proofs.lemmas.Bool.{leb-true}
use mathlib.Core.Bool.{true≢false}
use Rattle.station.specs.View.{Told}
use Rattle.station.proofs.Composition.{same_on, told_on}
use Rattle.header_gate.specs.Header.{layout_in, intent_gate}
use Rattle.header_gate.specs.Places.{height_limit}
use Rattle.header_gate.specs.declared.layout.Layout.{Layout}
use Rattle.header_gate.specs.declared.layout.TheConstants.{INTENT_VERSION}
use Rattle.header_gate.specs.declared.header.HeaderFault.{HeaderFault}
use Rattle.header_gate.specs.declared.header.HeaderFault.TheVariants as header
use Rattle.header_gate.specs.declared.reason.Reason.{Reason}
use Rattle.header_gate.specs.declared.reason.Reason.TheVariants.{Intent}
use Rattle.map_model.specs.Image.{map_of}
use Rattle.map_model.specs.Items.{first_full}
use Rattle.map_model.specs.Store.{Update}
use Rattle.batch_intent.specs.declared.places.TheConstants.{INTENT_SIZE}
use Rattle.batch_intent.specs.Gate.{has_intent, intent_area, form_reason, reason_at}
use Rattle.batch_intent.specs.Spelling.{items_in}
use Rattle.batch_intent.proofs.Meanings.{some_waiting}
use Rattle.recovery.specs.OpeningFaults.{IsEarly, IsIntentFault, fault_of}
use Rattle.recovery.specs.Intents.{intent_reason, intent_calls, intent_reads, look_reads, place_among}
use Rattle.recovery.proofs.Intents.{none_waits, none_wrong, some_waits, some_wrong, form_wrong, reads_within, look_within, calls_within, look_called}
use Rattle.recovery.proofs.Opening.{refused_back}
use Rattle.recovery.proofs.ReadBacks.{still_back}
use Rattle.recovery.proofs.admitting.take_intent.Goals as goal
use Rattle.recovery.proofs.admitting.take_intent.Goals.{After-read_intent, In_default, In-Some, After-admit}

pub admit-requires : goal.admit-requires
admit-requires g c = record {
  back = still_back (g.S.Station.view c.args.station.now) (g.S.Station.view c.read_intent.new.station) (g.met.S.Station.lawful c.args.station.now) (g.met.S.Station.lawful c.read_intent.new.station)
      c.read_intent.ensures.steps c.requires.back;
}

layout_is : (g : _) (c : After-read_intent g) → Told (g.S.Station.view c.args.station.now) → layout_in (g.S.Station.view c.args.station.now).held ≡ c.args.parts.now.place.layout
layout_is g c told = (c.requires.back.stands (g.S.Station.view c.args.station.now).held (inl (told, refl))).settled.layout_is

-- What is read.

reads_by : (layout : Layout) (image : List ℕ) (start mid end : ℕ) → layout_in image ≡ layout → (layout.version < INTENT_VERSION → mid ≡ start) → (has_intent layout image ≡ false → mid ≤ start + 1) → mid ≤ start + (1 + INTENT_SIZE)
    → (layout.version < INTENT_VERSION → end ≡ mid) → (has_intent layout image ≡ false → end ≡ mid) → end ≤ mid + look_reads image → end ≤ start + intent_reads image
reads_by layout image start mid end is unread gate all early idle look =
    omega (arith, reads_within layout image (end - start) is (λ low. omega (arith, early low, unread low)) (λ none. omega (arith, idle none, gate none)) (omega (arith, look, all)))

-- where nothing is read behind the intent
reads : (g : _) (c : After-read_intent g) → Told (g.S.Station.view c.args.station.now) → (g.S.Station.view c.read_intent.new.station).travel.read ≤ (g.S.Station.view c.args.station.now).travel.read + intent_reads (g.S.Station.view c.args.station.now).held
reads g c told =
    let a = g.S.Station.view c.args.station.now in
    let read = c.read_intent.ensures in
    let mid = (g.S.Station.view c.read_intent.new.station).travel.read in
    reads_by c.args.parts.now.place.layout a.held a.travel.read mid mid (layout_is g c told) read.unread (read.gate_alone told) read.reads (λ low. refl) (λ none. refl) (omega arith)

-- No intent is to be applied.

idle : (g : _) (c : In_default g) → Told (g.S.Station.view c.args.station.now) → has_intent c.args.parts.now.place.layout (g.S.Station.view c.args.station.now).held ≡ false
idle g c told = (c.in_ok-intent.ensures.even told).0 c.in_default.is

pub returns-in_default-clause-intent : goal.returns-in_default-clause-intent
returns-in_default-clause-intent g c told =
    let at = goal.at.returns-in_default-clause-intent g c in
    none_waits c.args.parts.now.place.layout (g.S.Station.view c.args.station.now).held (layout_is g at.After-read_intent told) (idle g at.In_default told)

pub returns-in_default-clause-sound : goal.returns-in_default-clause-sound
returns-in_default-clause-sound g c told =
    let at = goal.at.returns-in_default-clause-sound g c in
    none_wrong c.args.parts.now.place.layout (g.S.Station.view c.args.station.now).held (layout_is g at.After-read_intent told) (idle g at.In_default told)

pub returns-in_default-clause-reads : goal.returns-in_default-clause-reads
returns-in_default-clause-reads g c told =
    reads g (goal.at.returns-in_default-clause-reads g c).After-read_intent told

-- One is.

odd : {X : Type 0} (b : Bool) (o : Option X) (x : X) → o ≡ Some x → (o ≡ None) ↔ (b ≡ false) → b ≡ true
odd true o x is even = refl
odd false o x is even = absurd (true≢false (ap is_some (sym is ∙ even.1 refl)))

some : (g : _) (c : In-Some g) → Told (g.S.Station.view c.args.station.now) → has_intent c.args.parts.now.place.layout (g.S.Station.view c.args.station.now).held ≡ true
some g c told = odd (has_intent c.args.parts.now.place.layout (g.S.Station.view c.args.station.now).held) _ c.in-Some.intent c.in-Some.is (c.in_ok-intent.ensures.even told)

items_are : (g : _) (c : In-Some g) → Told (g.S.Station.view c.args.station.now) → c.in-Some.intent ≡ items_in (intent_area (g.S.Station.view c.args.station.now).held)
items_are g c told = c.in_ok-intent.ensures.items told c.in-Some.intent c.in-Some.is

pub returns-clause-intent : goal.returns-clause-intent
returns-clause-intent g c told =
    let at = goal.at.returns-clause-intent g c in
    let image = (g.S.Station.view c.args.station.now).held in
    ap Some (items_are g at.In-Some told)
    ∙ some_waits c.args.parts.now.place.layout image (layout_is g at.After-read_intent told) (some g at.In-Some told) (c.in_ok-intent.ensures.sound told)

-- what is found wrong with its items is what is wrong with the intent of the file
validated : (layout : Layout) (image now : List ℕ) (intent : List Update) (answer : Option Reason) → layout_in image ≡ layout → has_intent layout image ≡ true → form_reason layout image ≡ None → intent ≡ items_in (intent_area image) → now ≡ image
    → reason_at (place_among intent (first_full (height_limit layout) (map_of now) intent)) ≡ answer → intent_reason image ≡ answer
validated layout image now intent answer is some right same held found =
    some_wrong layout image is some right answer ((λ t. reason_at (place_among (sym same t) (first_full (height_limit layout) (map_of (sym held t)) (sym same t)))) ∙ found)

pub returns-clause-sound : goal.returns-clause-sound
returns-clause-sound g c told =
    let at = goal.at.returns-clause-sound g c in
    let steps = c.read_intent.ensures.steps in
    validated c.args.parts.now.place.layout (g.S.Station.view c.args.station.now).held (g.S.Station.view c.read_intent.new.station).held c.in-Some.intent None
    (layout_is g at.After-read_intent told) (some g at.In-Some told) (c.in_ok-intent.ensures.sound told) (items_are g at.In-Some told) (steps.held told)
    (ap (λ (o : Option ℕ). reason_at (place_among c.in-Some.intent o)) (c.in_ok-admit.ensures.room (told_on steps.frame told)))

pub returns-in_err-admit-clause-refused : goal.returns-in_err-admit-clause-refused
returns-in_err-admit-clause-refused g c =
    let p = err_from_is_err_and c.from_residual-in_err-admit.result c.from_residual-in_err-admit.ensures.1 in
    rw (p.1, p.2) (λ r is told.
    let at = goal.at.returns-in_err-admit-clause-refused g c in
    let steps = c.read_intent.ensures.steps in
    validated c.args.parts.now.place.layout (g.S.Station.view c.args.station.now).held (g.S.Station.view c.read_intent.new.station).held c.in-Some.intent (Some r)
    (layout_is g at.After-read_intent told) (some g at.In-Some told) (c.in_ok-intent.ensures.sound told) (items_are g at.In-Some told) (steps.held told)
    (c.in_err-admit.ensures.full r is (told_on steps.frame told)))

pub returns-clause-steps : goal.returns-clause-steps
returns-clause-steps g c = same_on c.read_intent.ensures.steps c.admit.ensures.steps

pub returns-in_err-admit-clause-steps : goal.returns-in_err-admit-clause-steps
returns-in_err-admit-clause-steps g c = same_on c.read_intent.ensures.steps c.admit.ensures.steps

-- the look
looked : (g : _) (c : After-admit g) → Told (g.S.Station.view c.args.station.now) → has_intent c.args.parts.now.place.layout (g.S.Station.view c.args.station.now).held ≡ true
    → layout_in (g.S.Station.view c.args.station.now).held ≡ c.args.parts.now.place.layout → c.in-Some.intent ≡ items_in (intent_area (g.S.Station.view c.args.station.now).held)
    → (g.S.Station.view c.admit.new.station).travel.read ≤ (g.S.Station.view c.read_intent.new.station).travel.read + look_reads (g.S.Station.view c.args.station.now).held
looked g c told some is same =
    let parts = c.args.parts.now in
    let image = (g.S.Station.view c.args.station.now).held in
    let from = (g.S.Station.view c.read_intent.new.station).travel.read in
    let end = (g.S.Station.view c.admit.new.station).travel.read in
    let waiting_is = some_waiting image (ap (λ (l : Layout). has_intent l image) is ∙ some) ∙ sym same in
    omega (
      arith,
      look_within parts.place.layout parts.place.region parts.tally.height parts.tally.counts image c.in-Some.intent (end - from) (c.requires.back.stands image (inl (told, refl))) waiting_is
          (λ few. omega (arith, c.admit.ensures.unread few)) (omega (arith, c.admit.ensures.reads)),
    )

has_version : (layout : Layout) (image : List ℕ) → has_intent layout image ≡ true → INTENT_VERSION ≤ layout.version
has_version layout image is = by_test (nat_le INTENT_VERSION layout.version) (intent_gate image == 1) refl is
  where
    by_test : (b odd : Bool) → nat_le INTENT_VERSION layout.version ≡ b → (b && odd) ≡ true → INTENT_VERSION ≤ layout.version
    by_test true odd e is = leb-true INTENT_VERSION layout.version e
    by_test false odd e is = absurd (true≢false (sym is))

taken : (g : _) (c : After-admit g) → Told (g.S.Station.view c.args.station.now) → has_intent c.args.parts.now.place.layout (g.S.Station.view c.args.station.now).held ≡ true
    → layout_in (g.S.Station.view c.args.station.now).held ≡ c.args.parts.now.place.layout → c.in-Some.intent ≡ items_in (intent_area (g.S.Station.view c.args.station.now).held)
    → (g.S.Station.view c.admit.new.station).travel.read ≤ (g.S.Station.view c.args.station.now).travel.read + intent_reads (g.S.Station.view c.args.station.now).held
taken g c told some is same =
    let a = g.S.Station.view c.args.station.now in
    let layout = c.args.parts.now.place.layout in
    let read = c.read_intent.ensures in
    reads_by layout a.held a.travel.read (g.S.Station.view c.read_intent.new.station).travel.read (g.S.Station.view c.admit.new.station).travel.read is read.unread (read.gate_alone told) read.reads
    (λ low. absurd (omega (arith, low, has_version layout a.held some))) (λ none. absurd (true≢false (sym some ∙ none))) (looked g c told some is same)

pub returns-clause-reads : goal.returns-clause-reads
returns-clause-reads g c told =
    let at = goal.at.returns-clause-reads g c in
    taken g at.After-admit told (some g at.In-Some told) (layout_is g at.After-read_intent told) (items_are g at.In-Some told)

pub returns-in_err-admit-clause-reads : goal.returns-in_err-admit-clause-reads
returns-in_err-admit-clause-reads g c told =
    let at = goal.at.returns-in_err-admit-clause-reads g c in
    taken g at.After-admit told (some g at.In-Some told) (layout_is g at.After-read_intent told) (items_are g at.In-Some told)

-- The calls.

looked_in : (g : _) (c : After-admit g) → Told (g.S.Station.view c.args.station.now) → has_intent c.args.parts.now.place.layout (g.S.Station.view c.args.station.now).held ≡ true
    → layout_in (g.S.Station.view c.args.station.now).held ≡ c.args.parts.now.place.layout → c.in-Some.intent ≡ items_in (intent_area (g.S.Station.view c.args.station.now).held)
    → (g.S.Station.view c.admit.new.station).calls ≤ (g.S.Station.view c.args.station.now).calls + intent_calls (g.S.Station.view c.args.station.now).held
looked_in g c told some is same =
    let parts = c.args.parts.now in
    let image = (g.S.Station.view c.args.station.now).held in
    let start = (g.S.Station.view c.args.station.now).calls in
    let from = (g.S.Station.view c.read_intent.new.station).calls in
    let end = (g.S.Station.view c.admit.new.station).calls in
    let waiting_is = some_waiting image (ap (λ (l : Layout). has_intent l image) is ∙ some) ∙ sym same in
    let look =
    look_called parts.place.layout parts.place.region parts.tally.height parts.tally.counts image c.in-Some.intent (end - from) (c.requires.back.stands image (inl (told, refl))) waiting_is
    (λ few. omega (arith, c.admit.ensures.uncalled few)) (omega (arith, c.admit.ensures.calls)) in
    omega (arith, calls_within parts.place.layout image (end - start) is (λ none. absurd (true≢false (sym some ∙ none))) (omega (arith, look, c.read_intent.ensures.calls)))

-- where no look is made
asked : (g : _) (c : After-read_intent g) → Told (g.S.Station.view c.args.station.now) → (g.S.Station.view c.read_intent.new.station).calls ≤ (g.S.Station.view c.args.station.now).calls + intent_calls (g.S.Station.view c.args.station.now).held
asked g c told =
    let start = (g.S.Station.view c.args.station.now).calls in
    let end = (g.S.Station.view c.read_intent.new.station).calls in
    let read = c.read_intent.ensures in
    omega (arith, calls_within c.args.parts.now.place.layout (g.S.Station.view c.args.station.now).held (end - start) (layout_is g c told) (λ none. omega (arith, read.one_call told none)) (omega (arith, read.calls)))

pub returns-in_default-clause-calls_told : goal.returns-in_default-clause-calls_told
returns-in_default-clause-calls_told g c told = asked g (goal.at.returns-in_default-clause-calls_told g c).After-read_intent told

pub returns-in_err-intent-clause-calls_told : goal.returns-in_err-intent-clause-calls_told
returns-in_err-intent-clause-calls_told g c told = asked g (goal.at.returns-in_err-intent-clause-calls_told g c).After-read_intent told

pub returns-clause-calls_told : goal.returns-clause-calls_told
returns-clause-calls_told g c told =
    let at = goal.at.returns-clause-calls_told g c in
    looked_in g at.After-admit told (some g at.In-Some told) (layout_is g at.After-read_intent told) (items_are g at.In-Some told)

pub returns-in_err-admit-clause-calls_told : goal.returns-in_err-admit-clause-calls_told
returns-in_err-admit-clause-calls_told g c told =
    let at = goal.at.returns-in_err-admit-clause-calls_told g c in
    looked_in g at.After-admit told (some g at.In-Some told) (layout_is g at.After-read_intent told) (items_are g at.In-Some told)

-- Its form is wrong, or the disk failed.

pub returns-in_err-intent-clause-refused : goal.returns-in_err-intent-clause-refused
returns-in_err-intent-clause-refused g c =
    let p = err_from_is_err_and c.from_residual.result c.from_residual.ensures.1 in
    rw (p.1, p.2) (λ r is told. form_wrong c.args.parts.now.place.layout (g.S.Station.view c.args.station.now).held (layout_is g (goal.at.returns-in_err-intent-clause-refused g c).After-read_intent told) r
    (c.in_err-intent.ensures.refused told r (refused_back c.in_err-intent.field-0.0 r is)))

pub returns-in_err-intent-clause-reads : goal.returns-in_err-intent-clause-reads
returns-in_err-intent-clause-reads g c told = reads g (goal.at.returns-in_err-intent-clause-reads g c).After-read_intent told

caused : (fault : HeaderFault) → ((r : Reason) → fault ≡ header.NotStore r → (place : ℕ) × (r ≡ Intent place)) → IsIntentFault (fault_of fault)
caused header.Failed reason = tt
caused (header.NotStore r) reason = let named = reason r refl in λ early. subst IsEarly named.1 early

pub returns-in_err-intent-clause-causes : goal.returns-in_err-intent-clause-causes
returns-in_err-intent-clause-causes g c =
    let p = err_from_is_err_and c.from_residual.result c.from_residual.ensures.1 in
    rw (p.1, p.2) (caused c.in_err-intent.field-0.0 c.in_err-intent.ensures.reason)

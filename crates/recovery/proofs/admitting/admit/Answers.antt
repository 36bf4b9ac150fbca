use Rattle.std.proofs.Common.{◌≡◌, ◌+◌, ◌^◌, ◌≤◌, ℕ, List, Option, Some, None, refl, sym, ap, ◌∙◌, inl, arith, sum}
use Rattle.std.specs.FinMap.{len}
use Rattle.density_rule.specs.Bounds.{upper_of}
use Rattle.density_rule.specs.Windows.{count_in}
use Rattle.density_rule.proofs.Balance.{count_in-root}
use Rattle.density_rule.proofs.Bounding.{upper_of-small}
use Rattle.header_gate.specs.Places.{height_limit}
use Rattle.header_gate.specs.declared.reason.Reason.TheVariants.{Intent}
use Rattle.map_model.specs.Image.{map_of}
use Rattle.map_model.specs.Items.{first_full}
use Rattle.map_model.specs.Store.{Update}
use Rattle.batch_intent.specs.Gate.{reason_at}
use Rattle.station.specs.View.{Told}
use Rattle.recovery.specs.Intents.{IsCounted, place_among}
use Rattle.recovery.proofs.Lookups.{records_are}
use Rattle.recovery.proofs.Rooms.{few_admitted}
use Rattle.recovery.proofs.admitting.admit.Goals as goal
use Rattle.recovery.proofs.admitting.admit.Goals.{After-count_puts, In_ok-there}

-- the records, by the tally
records : (g : _) (c : After-count_puts g) → c.count-records.result ≡ sum c.args.parts.now.tally.counts
records g c =
    let tally = c.args.parts.now.tally in
    c.count-records.ensures ∙ ap (λ (h : ℕ). count_in tally.counts h 0) c.height-height.ensures.height ∙ count_in-root tally.height tally.counts c.requires.back.parts_are.is_tally.size

records_small : (g : _) (c : After-count_puts g) → c.count-records.result ≤ 2 ^ 22
records_small g c =
    let height = c.args.parts.now.tally.height in
    let tally = c.requires.back.parts_are.is_tally in
    omega (arith, records g c, c.requires.back.root.most_is, upper_of-small height (omega (arith, tally.height_is, tally.hmax_is)))

most : (g : _) (c : After-count_puts g) → c.upper-most.result ≡ upper_of (height_limit c.args.parts.now.place.layout)
most g c = c.upper-most.ensures ∙ ap upper_of c.height_limit.ensures.limit

pub overflow_add-records : goal.overflow_add-records
overflow_add-records g c =
    let here = (goal.at.overflow_add-records g c).After-count_puts in
    omega (arith, records_small g here, c.count_puts.ensures.most)

-- the records of the map
len_is : (g : _) (c : After-count_puts g) → Told (g.S.Station.view c.args.station.now) → len (map_of (g.S.Station.view c.args.station.now).held) ≡ c.count-records.result
len_is g c told =
    let parts = c.args.parts.now in
    let image = (g.S.Station.view c.args.station.now).held in
    records_are parts.place.layout parts.place.region parts.tally.height parts.tally.counts image (c.requires.back.stands image (inl (told, refl))) ∙ sym (records g c)

pub returns-then-records-count_puts-clause-room : goal.returns-then-records-count_puts-clause-room
returns-then-records-count_puts-clause-room g c told =
    let here = (goal.at.returns-then-records-count_puts-clause-room g c).After-count_puts in
    few_admitted (height_limit c.args.parts.now.place.layout) (map_of (g.S.Station.view c.args.station.now).held) c.args.intent.now
    (omega (arith, len_is g here told, c.if-records-count_puts.true, most g here, c.count_puts.ensures.count))

pub full_place-requires : goal.full_place-requires
full_place-requires g c = omega (arith, records_small g (goal.at.full_place-requires g c).After-count_puts)

pub overflow_add-result : goal.overflow_add-result
overflow_add-result g c = omega (arith, c.in-Some.ensures.low)

-- what is known of the items behind a look
counted : (g : _) (c : In_ok-there g) → c.upper-most.result ≡ upper_of (height_limit c.args.parts.now.place.layout) → len (map_of (g.S.Station.view c.args.station.now).held) ≡ c.count-records.result → Told (g.S.Station.view c.args.station.now)
    → IsCounted (height_limit c.args.parts.now.place.layout) (map_of (g.S.Station.view c.args.station.now).held) c.args.intent.now c.in_ok-there.there c.count-records.result c.upper-most.result
counted g c most_is len told = record { most_is = most_is; records_are = sym len; found = c.in_ok-there.ensures.found told }

no_place : (items : List Update) (o : Option ℕ) → place_among items o ≡ None → o ≡ None
no_place items None is = refl
no_place items (Some i) is = absurd cc

pub returns-in-None-clause-room : goal.returns-in-None-clause-room
returns-in-None-clause-room g c told =
    let limit = height_limit c.args.parts.now.place.layout in
    let m = map_of (g.S.Station.view c.args.station.now).held in
    let at = goal.at.returns-in-None-clause-room g c in
    let known = counted g at.In_ok-there (most g at.After-count_puts) (len_is g at.After-count_puts told) told in
    no_place c.args.intent.now (first_full limit m c.args.intent.now) (sym (c.full_place.ensures.full limit m known) ∙ c.in-None.is)

pub returns-in-Some-clause-full : goal.returns-in-Some-clause-full
returns-in-Some-clause-full g c r is told =
    let limit = height_limit c.args.parts.now.place.layout in
    let m = map_of (g.S.Station.view c.args.station.now).held in
    let at = goal.at.returns-in-Some-clause-full g c in
    let known = counted g at.In_ok-there (most g at.After-count_puts) (len_is g at.After-count_puts told) told in
    let own : Intent (3584 + c.in-Some.place) ≡ r = cc in
    ap reason_at (sym (c.full_place.ensures.full limit m known) ∙ c.in-Some.is)
    ∙ ap Some own

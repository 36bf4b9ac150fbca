use Rattle.std.proofs.Common.{inl, refl}
use Rattle.station.proofs.Composition.{weaken, told_back, each_held}
use Rattle.segment_frames.specs.FrameStanding.{StandsFor}
use Rattle.segment_frames.proofs.Alike.{alike_cleared, represents_cleared, stands_alike}
use Rattle.resize_region.proofs.SourceLaws.{at_place}
use Rattle.resize_region.proofs.clearing.clear_store.Goals as goal

pub clear-requires-clause-at : goal.clear-requires-clause-at
clear-requires-clause-at g c image left = at_place c.args.place.now image (c.requires.settled image left)

pub clear-requires-clause-single : goal.clear-requires-clause-single
clear-requires-clause-single g c = c.requires.rests.single

pub clear-requires-clause-gate : goal.clear-requires-clause-gate
clear-requires-clause-gate g c = c.requires.rests.gates

pub clear-requires-clause-rest : goal.clear-requires-clause-rest
clear-requires-clause-rest g c = c.requires.rests.rest

pub returns-in-Ok-clause-steps : goal.returns-in-Ok-clause-steps
returns-in-Ok-clause-steps g c =
    weaken c.clear.ensures.steps (λ d i left step. record { map_is = represents_cleared c.args.place.now d i (c.requires.settled d left) step; clears = step })

pub returns-in-Err-clause-steps : goal.returns-in-Err-clause-steps
returns-in-Err-clause-steps g c =
    weaken c.clear.ensures.steps (λ d i left step. record { map_is = represents_cleared c.args.place.now d i (c.requires.settled d left) step; clears = step })

pub returns-in-Ok-clause-stands : goal.returns-in-Ok-clause-stands
returns-in-Ok-clause-stands g c tally stands =
    let place = c.args.place.now in
    let a = g.S.Station.view c.args.station.now in
    let b = g.S.Station.view c.clear.new.station in
    each_held b (StandsFor place tally) (g.met.S.Station.lawful c.clear.new.station) c.in-Ok.ensures.settled (λ told_b.
    let told = told_back c.clear.ensures.steps.frame told_b in
    stands_alike place tally a.held b.held (alike_cleared place a.held b.held (c.requires.settled a.held (inl (told, refl))) (c.clear.ensures.steps.held told)) (stands a.held (inl (told, refl))))

pub returns-in-Ok-clause-array : goal.returns-in-Ok-clause-array
returns-in-Ok-clause-array g c told =
    let place = c.args.place.now in
    let a = g.S.Station.view c.args.station.now in
    let b = g.S.Station.view c.clear.new.station in
    (alike_cleared place a.held b.held (c.requires.settled a.held (inl (told, refl))) (c.clear.ensures.steps.held told)).array

pub returns-in-Ok-clause-bare : goal.returns-in-Ok-clause-bare
returns-in-Ok-clause-bare g c told_b = c.in-Ok.ensures.bare (told_back c.clear.ensures.steps.frame told_b)

use Rattle.std.proofs.Common.{◌≡◌, ◌+◌, ◌*◌, ◌^◌, ◌≤◌, ℕ, List, drop, refl, ap, subst, ◌∙◌, inl, arith, length-append, length-drop}
use Rattle.std.proofs.lemmas.List.{length-take}
use Rattle.std.proofs.Math.Pow.{pow_mono}
use Rattle.station.proofs.Composition.{same_on, told_on}
use Rattle.header_gate.specs.Places.{segment_size}
use Rattle.key_slot.specs.Segment.{segment_of}
use Rattle.range_scan.specs.RegionReading.{page_in}
use Rattle.redo_journal.proofs.Live.{rest_held}
use Rattle.recovery.specs.Intents.{AlsoIn, AreThere}
use Rattle.recovery.proofs.ReadBacks.{still_back}
use Rattle.recovery.proofs.Lookups.{in_front, more_there, all_there}
use Rattle.recovery.proofs.looking.find_keys.Goals as goal

one_more : (size i : ℕ) → size * (i + 1) ≡ size * i + size
one_more size i = omega arith

-- what is known of parts and file stays while it is read
pub look_in-requires-clause-back : goal.look_in-requires-clause-back
look_in-requires-clause-back g c =
    still_back (g.S.Station.view c.args.station.now) (g.S.Station.view c.loop-segment.station) (g.met.S.Station.lawful c.args.station.now) (g.met.S.Station.lawful c.loop-segment.station)
    c.loop-segment.invariant.steps c.requires.back

pub loop-segment-preserved : goal.loop-segment-preserved
loop-segment-preserved g c =
    let layout = c.args.parts.now.place.layout in
    let region = c.args.parts.now.place.region in
    let image = (g.S.Station.view c.args.station.now).held in
    let i = c.loop-segment.segment in
    let invariant = c.loop-segment.invariant in
    let look = c.in_ok-look_in.ensures in
    record {
      pages = omega (arith, c.loop-segment.invariant.pages, length-append c.look_in.new.page (drop c.segment_bytes-size.result c.loop-segment.page), length-drop c.segment_bytes-size.result c.loop-segment.page, c.look_in.auto.page, length-take c.segment_bytes-size.result c.loop-segment.page, c.segment_bytes-size.ensures, c.requires.back.parts_are.layout.format.most);
      found = λ told.
          let also = subst (λ (f : List ℕ). AlsoIn c.args.intent.now (segment_of layout.format (page_in layout region f i)) c.loop-segment.there c.look_in.new.there) (invariant.steps.held told) (look.found (told_on invariant.steps.frame told)) in
          more_there c.args.intent.now layout.format (page_in layout region image) i c.loop-segment.there c.look_in.new.there (invariant.found told) also;
      steps = same_on invariant.steps look.steps;
      unwritten = look.unwritten ∙ invariant.unwritten;
      reads = omega (arith, invariant.reads, look.reads_one, one_more (segment_size layout) i);
      calls = omega (arith, invariant.calls, look.calls);
    }

pub returns-clause-found : goal.returns-clause-found
returns-clause-found g c told =
    let parts = c.args.parts.now in
    let image = (g.S.Station.view c.args.station.now).held in
    let tally = c.requires.back.parts_are.is_tally in
    let low : parts.tally.height ≤ 16 = omega (arith, tally.height_is, tally.hmax_is) in
    let last : c.loop-segment.segment ≡ 2 ^ parts.tally.height = omega (arith, c.loop-segment-test.false, c.loop-segment.auto.segment-end, ap (λ (h : ℕ). 2 ^ h) c.height-segment-end.ensures.height, pow_mono {i = parts.tally.height} {j = 16} low) in
    all_there parts.place.layout parts.place.region parts.tally.height parts.tally.counts image (c.requires.back.stands image (inl (told, refl))) (rest_held parts.place.layout (g.S.Station.view c.args.station.now) c.requires.back.rests.rest told) c.args.intent.now c.loop-segment.there
    (subst (λ (n : ℕ). AreThere c.args.intent.now c.loop-segment.there (in_front parts.place.layout.format (page_in parts.place.layout parts.place.region image) n)) last (c.loop-segment.invariant.found told))

use Rattle.std.proofs.Common.{◌≡◌, ◌*◌, ◌^◌, ◌<◌, ◌≤◌, inl, List, length, Some, None, refl, sym, ap, subst, ◌∙◌, arith}
use Rattle.std.specs.Prelude.{is_some}
use Rattle.std.proofs.lemmas.Result.{err_from_is_err_and}
use Rattle.std.proofs.Math.Pow.{pow_mono}
use mathlib.Core.Bool.{true≢false}
use Rattle.station.specs.declared.travel.Travel.{Travel}
use Rattle.header_gate.specs.Places.{page_size, height_limit}
use Rattle.key_slot.specs.Format.{format_of}
use Rattle.key_slot.specs.Record.{Record}
use Rattle.key_slot.specs.Segment.{segment_of}
use Rattle.key_slot.proofs.SegmentLaws.{segment_rows}
use Rattle.range_scan.proofs.Pages.{format_is, read_as}
use Rattle.redo_journal.proofs.Live.{rest_held}
use Rattle.segment.specs.Validated.{damage_of}
use Rattle.segment.specs.declared.fault.StoreFault.{StoreFault}
use Rattle.recovery.specs.OpeningFaults.{IsRepairFault, repair_fault}
use Rattle.recovery.specs.Intents.{AlsoIn}
use Rattle.recovery.proofs.Lookups.{undamaged}
use Rattle.recovery.proofs.Repairing.{shown_reread}
use Rattle.recovery.proofs.looking.look_in.Goals as goal
use Rattle.recovery.proofs.looking.look_in.Goals.{After-read_page}

pub read_page-requires-clause-segment : goal.read_page-requires-clause-segment
read_page-requires-clause-segment g c =
    let parts = c.args.parts.now in
    omega (arith, c.requires.in_store, pow_mono {i = parts.tally.height} {j = height_limit parts.place.layout} c.requires.back.parts_are.height)

pub returns-in_default-clause-reads_one : goal.returns-in_default-clause-reads_one
returns-in_default-clause-reads_one g c = omega (arith, ap (λ (t : Travel). t.read) c.read_page.ensures.reads)

pub returns-clause-reads_one : goal.returns-clause-reads_one
returns-clause-reads_one g c = omega (arith, ap (λ (t : Travel). t.read) c.read_page.ensures.reads)

pub returns-in_err-rows-clause-reads_one : goal.returns-in_err-rows-clause-reads_one
returns-in_err-rows-clause-reads_one g c = omega (arith, ap (λ (t : Travel). t.read) c.read_page.ensures.reads)

size : (g : _) (c : After-read_page g) → length c.read_page.new.page ≡ page_size * c.args.parts.now.place.layout.format
size g c = omega (arith, c.read_page.auto.page, c.requires.size)

pub returns-clause-found : goal.returns-clause-found
returns-clause-found g c told =
    let format = c.args.parts.now.place.layout.format in
    let page = c.read_page.new.page in
    let rows = c.in_ok-rows.rows in
    let rows_are : segment_of format page ≡ rows = segment_rows format rows page (read_as format rows page (size g (goal.at.returns-clause-found g c).After-read_page) c.in_ok-rows.ensures.rows) in
    subst (λ (rs : List Record). AlsoIn c.args.intent.now rs c.args.there.now c.mark_keys.new.there) (sym rows_are ∙ ap (segment_of format) (c.in-Ok.ensures.bytes told)) c.mark_keys.ensures

pub returns-in_err-rows-clause-damaged : goal.returns-in_err-rows-clause-damaged
returns-in_err-rows-clause-damaged g c =
    let p = err_from_is_err_and c.from_residual.result c.from_residual.ensures.1 in
    rw (p.1, p.2) (λ told.
    let parts = c.args.parts.now in
    let image = (g.S.Station.view c.args.station.now).held in
    let page = c.read_page.new.page in
    let shows = c.in_err-rows.ensures.damage in
    let format : format_of page ≡ parts.place.layout.format = format_is parts.place.layout.format page (size g (goal.at.returns-in_err-rows-clause-damaged g c).After-read_page) in
    let none = undamaged parts.place.layout parts.place.region parts.tally.height parts.tally.counts image (c.requires.back.stands image (inl (told, refl))) (rest_held parts.place.layout (g.S.Station.view c.args.station.now) c.requires.back.rests.rest told) c.args.segment c.requires.in_store in
    let some : Some shows.0 ≡ None = sym shows.1 ∙ (λ t. damage_of (format t) (c.in-Ok.ensures.bytes told t) (c.count-kept.ensures t)) ∙ none in
    absurd (true≢false (ap is_some some)))

pub returns-in_err-rows-clause-causes : goal.returns-in_err-rows-clause-causes
returns-in_err-rows-clause-causes g c =
    let p = err_from_is_err_and c.from_residual.result c.from_residual.ensures.1 in
    let parts = c.args.parts.now in
    let shows = c.in_err-rows.ensures.damage in
    let tall : parts.tally.height ≤ 16 = omega (arith, c.requires.back.parts_are.is_tally.height_is, c.requires.back.parts_are.is_tally.hmax_is) in
    let few : c.args.segment < 2 ^ 16 = omega (arith, c.requires.in_store, pow_mono {i = parts.tally.height} {j = 16} tall) in
    rw (p.1, p.2) (subst (λ (fault : StoreFault). IsRepairFault (repair_fault fault)) (sym shows.2) (few, shown_reread _ _ _ shows.0 shows.1))

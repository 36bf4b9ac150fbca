use Rattle.std.proofs.Common.{List, T, sym, subst, ◌∙◌, arith}
use Rattle.std.specs.List.{list_all}
use Rattle.key_slot.specs.Record.{Record, is_record}
use Rattle.pma_store.specs.Rewrites.{RewritesOne}
use Rattle.pma_store.specs.Updating.{update_of, edited_length}
use Rattle.pma_store.proofs.Editing.{edited_fits}
use Rattle.pma_store.proofs.Written.{length_asked, room_asked}
use Rattle.pma_store.proofs.store.OpenArray.rewrite.Goals as goal

pub edit-requires-clause-room : goal.edit-requires-clause-room
edit-requires-clause-room g c absent =
    let location = c.requires.location in
    omega (arith, location.count, room_asked (update_of c.args.update.now) c.args.location.found c.args.change c.args.self.now.tally c.args.location.segment absent c.requires.needs location.there location.within c.requires.balanced)

pub write-requires-clause-length : goal.write-requires-clause-length
write-requires-clause-length g c =
    let location = c.requires.location in
    c.edit.ensures.length ∙ (λ t. edited_length (c.requires.needs t) (location.count t)) ∙ length_asked c.args.change c.args.location.segment c.args.self.now.tally location.there

pub write-requires-clause-fits : goal.write-requires-clause-fits
write-requires-clause-fits g c =
    let f = c.args.self.now.place.layout.format in
    subst (λ (rs : List Record). T (list_all (is_record f) rs)) (sym c.edit.ensures.rows) (edited_fits f (update_of c.args.update.now) c.args.rows.now c.requires.location.fits c.requires.fits)

pub returns : goal.returns
returns g c =
    subst (λ (rs : List Record). RewritesOne c.args.location.segment rs c.args.change c.write.result c.args.self.now c.write.new.self (g.S.Station.view c.args.station.now) (g.S.Station.view c.write.new.station))
    c.edit.ensures.rows c.write.ensures.rewritten

use Rattle.std.proofs.Common.{◌≡◌, ℕ, suc, ◌+◌, ◌<◌, ◌%◌, [], Bool, Option, Ok, Err, length, get_or, ap, subst, sym, ◌∙◌, arith}
use Rattle.std.proofs.lemmas.Result.{err_from_is_err_and}
use Rattle.std.specs.Prelude.{is_some, sum}
use Rattle.batch_intent.specs.Spelling.{fits_item}
use Rattle.batch_intent.proofs.Kept.{all_at}
use Rattle.density_rule.specs.Bounds.{upper_of}
use Rattle.header_gate.specs.declared.layout.Layout.{Layout}
use Rattle.header_gate.specs.Places.{height_limit}
use Rattle.map_model.specs.Array.{segment_at, segment_for}
use Rattle.map_model.specs.Image.{array_of}
use Rattle.map_model.specs.Store.{Update, unbind, key_of}
use Rattle.segment.specs.Rows.{value_of}
use Rattle.pma_store.specs.ItemsMade.{CountsAsFound, IsAsFound, MakesItem}
use Rattle.pma_store.specs.ItemEffects.{SumsItem, found_at}
use Rattle.pma_store.specs.StoreView.{limit_of}
use Rattle.pma_store.specs.Updating.{FitsFormat, update_of}
use Rattle.pma_store.proofs.FoundItems.{all_tallies, next_tallies, none_tallies, tally_item}
use Rattle.pma_store.proofs.ItemsApplied.{fits_format}
use Rattle.pma_store.proofs.ItemsMade.{HasMade, none_made, one_more, one_fails, as_found, all_made, not_closed}
use Rattle.pma_store.proofs.Resting.{rests_closed}
use Rattle.pma_store.proofs.Sums.{all_sums, next_sums, none_sums}
use Rattle.pma_store.proofs.store.OpenArray.make_items.Goals as goal

pub loop-i-init : goal.loop-i-init
loop-i-init g c = record { made = none_made c.args.intent.now c.args.self.now c.requires.on; sums = none_sums c.args.found c.args.intent.now _ _; tallies = none_tallies c.args.found c.args.intent.now _ _ }

pub make_item-requires-clause-fits : goal.make_item-requires-clause-fits
make_item-requires-clause-fits g c =
    let items = c.args.intent.now in
    let d : Update = unbind [] in
    let i = c.loop-i.i in
    let lt : i < length items = omega (arith, c.len-i-end.ensures.count, c.loop-i-test.true) in
    let item : update_of c.update_in-update.result ≡ get_or items i d = c.update_in-update.ensures ∙ c.item.ensures d in
    let f = c.args.self.now.place.layout.format in
    subst (λ (l : Layout). FitsFormat l.format (update_of c.update_in-update.result)) (sym c.loop-i.invariant.made.layout)
    (subst (FitsFormat f) (sym item) (fits_format f (get_or items i d) (all_at (fits_item f) items i d lt c.requires.fit)))

pub make_item-requires-clause-found : goal.make_item-requires-clause-found
make_item-requires-clause-found g c told =
    let items = c.args.intent.now in
    let d : Update = unbind [] in
    let i = c.loop-i.i in
    let lt : i < length items = omega (arith, c.len-i-end.ensures.count, c.loop-i-test.true) in
    let item : update_of c.update_in-update.result ≡ get_or items i d = c.update_in-update.ensures ∙ c.item.ensures d in
    let segments = array_of (g.S.Station.view c.loop-i.station).held in
    let own = as_found items i c.loop-i.charges c.args.self.now c.loop-i.self c.args.found d c.loop-i.invariant.made lt c.len-i-end.ensures.intent.distinct c.requires.found told in
    subst (λ (o : Option Bool). IsAsFound o (is_some (value_of (key_of (update_of c.update_in-update.result)) (segment_at segments (segment_for segments (key_of (update_of c.update_in-update.result))))))) (sym c.found_of.ensures)
    (subst (λ (u : Update). IsAsFound (found_at c.args.found i) (is_some (value_of (key_of u) (segment_at segments (segment_for segments (key_of u)))))) (sym item) own)

pub returns-in_err-charge-clause-made : goal.returns-in_err-charge-clause-made
returns-in_err-charge-clause-made g c =
    let p = err_from_is_err_and c.from_residual.result c.from_residual.ensures.1 in
    rw (p.1, p.2) (
    let items = c.args.intent.now in
    let d : Update = unbind [] in
    let i = c.loop-i.i in
    let lt : i < length items = omega (arith, c.len-i-end.ensures.count, c.loop-i-test.true) in
    let item : update_of c.update_in-update.result ≡ get_or items i d = c.update_in-update.ensures ∙ c.item.ensures d in
    let a = g.S.Station.view c.args.station.now in
    let b = g.S.Station.view c.loop-i.station in
    let e = g.S.Station.view c.make_item.new.station in
    one_fails items i c.loop-i.charges c.args.self.now c.loop-i.self c.make_item.new.self a b e c.loop-i.invariant.made d lt c.in_err-charge.field-0.0 c.len-i-end.ensures.intent.most (subst (λ (u : Update). MakesItem u (Err c.in_err-charge.field-0.0) c.loop-i.self c.make_item.new.self b e) item c.in_err-charge.ensures.made))

pub loop-i-preserved : goal.loop-i-preserved
loop-i-preserved g c =
    let items = c.args.intent.now in
    let d : Update = unbind [] in
    let i = c.loop-i.i in
    let lt : i < length items = omega (arith, c.len-i-end.ensures.count, c.loop-i-test.true) in
    let item : update_of c.update_in-update.result ≡ get_or items i d = c.update_in-update.ensures ∙ c.item.ensures d in
    let a = g.S.Station.view c.args.station.now in
    let b = g.S.Station.view c.loop-i.station in
    let e = g.S.Station.view c.make_item.new.station in
    let next : suc i ≡ i + 1 = omega arith in
    let same : limit_of c.loop-i.self ≡ limit_of c.args.self.now = ap height_limit c.loop-i.invariant.made.layout in
    let one =
    subst (λ (h : ℕ). SumsItem (found_at c.args.found i) (get_or items i d) (upper_of h) (sum c.loop-i.self.tally.counts) (sum c.make_item.new.self.tally.counts)) same
    (subst (λ (u : Update). SumsItem (found_at c.args.found i) u (upper_of (limit_of c.loop-i.self)) (sum c.loop-i.self.tally.counts) (sum c.make_item.new.self.tally.counts)) item
    (subst (λ (o : Option Bool). SumsItem o (update_of c.update_in-update.result) (upper_of (limit_of c.loop-i.self)) (sum c.loop-i.self.tally.counts) (sum c.make_item.new.self.tally.counts)) c.found_of.ensures c.in_ok-charge.ensures.sums)) in
    let made = subst (λ (u : Update). MakesItem u (Ok c.in_ok-charge.charge) c.loop-i.self c.make_item.new.self b e) item c.in_ok-charge.ensures.made in
    let as_found =
    subst (λ (u : Update). CountsAsFound (found_at c.args.found i) u c.loop-i.self.tally c.make_item.new.self.tally) item
    (subst (λ (o : Option Bool). CountsAsFound o (update_of c.update_in-update.result) c.loop-i.self.tally c.make_item.new.self.tally) c.found_of.ensures c.in_ok-charge.ensures.as_found) in
    record {
      made = subst (λ (n : ℕ). HasMade items n (c.loop-i.charges + c.in_ok-charge.charge) c.args.self.now c.make_item.new.self a e) next
          (one_more items i c.loop-i.charges c.args.self.now c.loop-i.self c.make_item.new.self a b e c.loop-i.invariant.made d lt c.in_ok-charge.charge (g.met.S.Station.lawful c.make_item.new.station)
          made);
      sums = next_sums c.args.found items i (upper_of (limit_of c.args.self.now)) (sum c.args.self.now.tally.counts) (sum c.loop-i.self.tally.counts) (sum c.make_item.new.self.tally.counts) lt c.loop-i.invariant.sums one;
      tallies =
          next_tallies c.args.found items i (upper_of (limit_of c.args.self.now)) c.args.self.now.tally c.loop-i.self.tally c.make_item.new.self.tally lt c.loop-i.invariant.sums c.loop-i.invariant.tallies
          (tally_item (found_at c.args.found i) (get_or items i d) (upper_of (limit_of c.args.self.now)) c.loop-i.self.tally c.make_item.new.self.tally as_found one made.met.counts);
    }

pub returns-in-Ok-clause-made : goal.returns-in-Ok-clause-made
returns-in-Ok-clause-made g c =
    let items = c.args.intent.now in
    let a = g.S.Station.view c.args.station.now in
    let b = g.S.Station.view c.loop-i.station in
    let e = g.S.Station.view c.close_intent.new.station in
    let end : c.loop-i.i ≡ length items = omega (arith, c.len-i-end.ensures.count, c.loop-i-test.false) in
    let made = subst (λ (n : ℕ). HasMade items n c.loop-i.charges c.args.self.now c.loop-i.self a b) end c.loop-i.invariant.made in
    all_made items c.loop-i.charges c.args.self.now c.loop-i.self a b e made c.close_intent.ensures.steps c.close_intent.ensures.cost c.close_intent.ensures.calls c.len-i-end.ensures.intent.most (g.met.S.Station.lawful c.close_intent.new.station) c.in-Ok.ensures.settled
    (rests_closed c.loop-i.self.place.layout c.loop-i.self.turn (g.met.S.Station.lawful c.close_intent.new.station) made.on.rests c.in-Ok.ensures.settled c.close_intent.ensures.steps)
    (λ told. ap (λ (n : ℕ). n % 2) (c.in-Ok.ensures.closed told))

pub returns-in-Err-clause-made : goal.returns-in-Err-clause-made
returns-in-Err-clause-made g c =
    let items = c.args.intent.now in
    let a = g.S.Station.view c.args.station.now in
    let b = g.S.Station.view c.loop-i.station in
    let e = g.S.Station.view c.close_intent.new.station in
    let end : c.loop-i.i ≡ length items = omega (arith, c.len-i-end.ensures.count, c.loop-i-test.false) in
    let made = subst (λ (n : ℕ). HasMade items n c.loop-i.charges c.args.self.now c.loop-i.self a b) end c.loop-i.invariant.made in
    not_closed items c.loop-i.charges c.args.self.now c.loop-i.self a b e made c.close_intent.ensures.steps c.close_intent.ensures.cost c.close_intent.ensures.calls c.len-i-end.ensures.intent.most c.in-Err.ensures.cause

pub returns-in-Ok-clause-sums : goal.returns-in-Ok-clause-sums
returns-in-Ok-clause-sums g c = all_sums c.args.found c.args.intent.now c.loop-i.i _ _ _ (omega (arith, c.len-i-end.ensures.count, c.loop-i-test.false)) c.loop-i.invariant.sums

pub returns-in-Ok-clause-tallies : goal.returns-in-Ok-clause-tallies
returns-in-Ok-clause-tallies g c = all_tallies c.args.found c.args.intent.now c.loop-i.i _ _ _ (omega (arith, c.len-i-end.ensures.count, c.loop-i-test.false)) c.loop-i.invariant.tallies

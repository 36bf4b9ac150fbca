use Rattle.std.proofs.Common.{◌≡◌, inl, ℕ, ◌<◌, ◌^◌, List, length, refl, sym, ap, ◌∙◌, subst, arith}
use Rattle.std.specs.Prelude.{Ok, Some, IfOk, IfErr, IsOk, IsSome, ◌↔◌}
use Rattle.std.proofs.lemmas.Result.{err_from_is_err_and}
use Rattle.key_slot.specs.Record.{Bytes, Record}
use Rattle.station.specs.View.{Told}
use Rattle.station.specs.declared.travel.Travel.{Travel}
use Rattle.density_rule.proofs.Totals.{count_in-segment}
use Rattle.map_model.specs.Array.{segment_for}
use Rattle.map_model.specs.Store.{key_of}
use Rattle.map_model.specs.Image.{array_of}
use Rattle.range_scan.specs.PageView.{PageView}
use Rattle.segment.specs.Rows.{key_at, value_of, IsGap}
use Rattle.pma_store.specs.StoreView.{StoreView, Stands}
use Rattle.pma_store.specs.StoreFields.{view_of}
use Rattle.pma_store.specs.Locations.{IsLocation, IsOwn, FindsLocation}
use Rattle.pma_store.specs.Updating.{update_of}
use Rattle.pma_store.specs.declared.update.Location.{Location}
use Rattle.pma_store.proofs.Editing.{present_is}
use Rattle.pma_store.proofs.Damages.{own_damage, own_orderly}
use Rattle.pma_store.proofs.Making.{by_disk, no_fault}
use Rattle.station.specs.View.{after_read}
use Rattle.header_gate.specs.InPlace.{IsRecovered}
use Rattle.header_gate.specs.Places.{segment_place, segment_size}
use Rattle.range_scan.specs.SegmentFaults.{IsDamageAt}
use Rattle.pma_store.proofs.Resting.{readable_held}
use Rattle.pma_store.proofs.Standing.{found_is, segment_is, only_failed, within_region}
use Rattle.pma_store.proofs.store.OpenArray.find_location.Goals as goal
use Rattle.pma_store.proofs.store.OpenArray.find_location.Goals.{After-read}

-- the store stands for the held bytes
stands : (g : _) (c : After-read g) → Told (g.S.Station.view c.args.station.now) → Stands (view_of c.self.inside) (g.S.Station.view c.args.station.now).held
stands g c told = subst (λ (s : StoreView). Stands s (g.S.Station.view c.args.station.now).held) (sym c.self.view_is) (c.requires.on.stands (g.S.Station.view c.args.station.now).held (inl (told, refl)))

-- whose bytes are those of the recovered image in its regions
readable : (g : _) (c : After-read g) → Told (g.S.Station.view c.args.station.now) → IsRecovered c.self.inside.place.layout (g.S.Station.view c.args.station.now).held
readable g c told = subst (λ (s : StoreView). IsRecovered s.place.layout (g.S.Station.view c.args.station.now).held) (sym c.self.view_is) (readable_held c.args.self.now c.requires.on told)

-- the segment that was found is one of the store
within : (g : _) (c : After-read g) → c.find_segment-segment.result < 2 ^ c.self.inside.tally.height
within g c = (within_region (view_of c.self.inside) c.self.invariant c.find_segment-segment.result c.find_segment-segment.ensures.within).0

pub kept_count-kept-requires : goal.kept_count-kept-requires
kept_count-kept-requires g c = (within_region (view_of c.self.inside) c.self.invariant c.find_segment-segment.result c.find_segment-segment.ensures.within).0

pub read-requires-clause-segment : goal.read-requires-clause-segment
read-requires-clause-segment g c = (within_region (view_of c.self.inside) c.self.invariant c.find_segment-segment.result c.find_segment-segment.ensures.within).1

pub returns-clause-found : goal.returns-clause-found
returns-clause-found g c =
    let here = (goal.at.returns-clause-found g c).After-read in
    let a = g.S.Station.view c.args.station.now in
    let b = g.S.Station.view c.read.new.station in
    let s = view_of c.self.inside in
    let u = update_of c.args.update.now in
    let rows = c.read.new.self.rows in
    let at = c.find_segment-segment.result in
    let found = c.find-found.result in
    let location : Location = record { segment = at; found = found } in
    let read_rows : c.rows-page.result ≡ rows = c.rows-page.ensures ∙ ap (λ (p : PageView). p.rows) c.deref.ensures in
    let within_it : location.segment < 2 ^ s.tally.height = within g here in
    let there : location.segment < length s.tally.counts = omega (arith, within_it, c.self.invariant.tally.size) in
    let is_location : IsLocation u s location rows = record {
      within = within_it;
      there = there;
      count = c.in_ok-read.ensures.count ∙ c.kept_count-kept.ensures ∙ count_in-segment s.tally.counts location.segment there;
      ascending = c.read.ensures.fits.ascending;
      fits = c.read.ensures.fits.records;
      key = subst (λ (k : Bytes). IfOk found (λ place. key_at rows place ≡ Some k)) c.key-key.ensures (subst (λ (rs : List Record). IfOk found (λ place. key_at rs place ≡ Some c.key-key.result.now)) read_rows c.find-found.ensures.ok);
      gap = subst (λ (k : Bytes). IfErr found (λ place. IsGap rows place k)) c.key-key.ensures (subst (λ (rs : List Record). IfErr found (λ place. IsGap rs place c.key-key.result.now)) read_rows c.find-found.ensures.err);
      present = present_is found (value_of (key_of u) rows)
          (subst (λ (k : Bytes). IsOk found ↔ IsSome (value_of k rows)) c.key-key.ensures (subst (λ (rs : List Record). IsOk found ↔ IsSome (value_of c.key-key.result.now rs)) read_rows c.find-found.ensures.when));
    } in
    let own : Told a → IsOwn u location rows a.held = λ (told : Told a). record {
      segment_is = found_is s a.held (stands g here told) c.key-key.result.now at c.find_segment-segment.ensures.found ∙ ap (segment_for (array_of a.held)) c.key-key.ensures;
      rows_are = c.in_ok-read.ensures.rows told ∙ segment_is s.place.layout s.place.region s.tally.height s.tally.counts a.held (stands g here told).balanced.stands (readable g here told) at (within g here);
    } in
    subst (λ (rs : List Record). FindsLocation u (Ok location) c.args.self.now s rs a b) (sym (c.copy_into.ensures ∙ read_rows)) (record {
      location = is_location;
      own = own;
      at = at;
      at_in = subst (λ (v : StoreView). at < 2 ^ v.tally.height) c.self.view_is (within g here);
      at_own = λ told. found_is s a.held (stands g here told) c.key-key.result.now at c.find_segment-segment.ensures.found ∙ ap (segment_for (array_of a.held)) c.key-key.ensures;
      at_is = refl;
      read = subst (λ (v : StoreView). b.travel ≡ after_read (segment_place v.place.layout v.place.region at) (segment_size v.place.layout) a.travel) c.self.view_is c.read.ensures.reads;
      damage = tt;
      calls = c.read.ensures.calls;
      damaged = tt;
      failed = no_fault location;
      store = c.self.view_is;
      steps = c.read.ensures.steps;
      unwritten = ap (λ (t : Travel). t.written) c.read.ensures.reads;
    })

pub returns-in_err-read-clause-found : goal.returns-in_err-read-clause-found
returns-in_err-read-clause-found g c =
    let p = err_from_is_err_and c.from_residual.result c.from_residual.ensures.1 in
    rw (p.1, p.2) (
    let here = (goal.at.returns-in_err-read-clause-found g c).After-read in
    let a = g.S.Station.view c.args.station.now in
    let b = g.S.Station.view c.read.new.station in
    let s = view_of c.self.inside in
    let at = c.find_segment-segment.result in
    let found = c.in_err-read.ensures.damaged in
    record {
      location = tt;
      own = tt;
      at = at;
      at_in = subst (λ (v : StoreView). at < 2 ^ v.tally.height) c.self.view_is (within g here);
      at_own = λ told. found_is s a.held (stands g here told) c.key-key.result.now at c.find_segment-segment.ensures.found ∙ ap (segment_for (array_of a.held)) c.key-key.ensures;
      at_is = tt;
      read = subst (λ (v : StoreView). b.travel ≡ after_read (segment_place v.place.layout v.place.region at) (segment_size v.place.layout) a.travel) c.self.view_is c.read.ensures.reads;
      damage = subst (λ (v : StoreView). IsDamageAt at v.tally.counts c.in_err-read.field-0.0) c.self.view_is (own_damage s.tally.counts at c.kept_count-kept.result c.in_err-read.field-0.0 c.kept_count-kept.ensures found.own);
      calls = c.read.ensures.calls;
      damaged = only_failed s.place.layout s.place.region s.tally.height s.tally.counts at c.kept_count-kept.result c.in_err-read.field-0.0 a b (λ told. (stands g here told).balanced.stands) (readable g here) (within g here) c.kept_count-kept.ensures found;
      failed = by_disk c.in_err-read.field-0.0 found.failed;
      store = c.self.view_is;
      steps = c.read.ensures.steps;
      unwritten = ap (λ (t : Travel). t.written) c.read.ensures.reads;
    })

pub returns-in_err-read-clause-orderly : goal.returns-in_err-read-clause-orderly
returns-in_err-read-clause-orderly g c =
    let p = err_from_is_err_and c.from_residual.result c.from_residual.ensures.1 in
    rw (p.1, p.2) (
    own_orderly c.find_segment-segment.result c.kept_count-kept.result c.in_err-read.field-0.0 c.in_err-read.ensures.damaged.own)

use Rattle.std.proofs.Common.{◌≡◌, ℕ, ◌+◌, ◌*◌, ◌^◌, ◌<◌, ◌≤◌, List, length, take, get_or, Result, Ok, Err, Some, None, refl, sym, ap, subst, ◌∙◌, arith}
use Rattle.std.proofs.lemmas.Result.{err_from_is_err_and}
use Rattle.std.specs.Prelude.{is_ok, sum}
use Rattle.std.specs.FinMap.{contains_key}
use Rattle.std.proofs.lemmas.List.{length-take-le}
use Rattle.station.specs.View.{Told}
use Rattle.station.proofs.Composition.{told_back}
use Rattle.density_rule.specs.Bounds.{upper_of}
use Rattle.header_gate.specs.declared.layout.TheConstants.{INTENT_VERSION}
use Rattle.map_model.specs.Image.{array_of, map_of}
use Rattle.map_model.specs.Store.{key_of}
use Rattle.segment.specs.declared.fault.StoreFault.{StoreFault}
use Rattle.segment.specs.declared.fault.StoreFault.TheVariants.{Failed}
use Rattle.pma_store.specs.declared.batch.Attempt.{Attempt}
use Rattle.pma_store.specs.declared.batch.Attempt.TheVariants.{Validated}
use Rattle.pma_store.specs.AtOnce.{TriesOnce}
use Rattle.pma_store.specs.BatchCalls.{CallsBatch}
use Rattle.pma_store.specs.UpdateCalls.{runs_calls}
use Rattle.pma_store.specs.Batching.{AppliesBatch, done_by, version_of}
use Rattle.pma_store.specs.StoreFields.{view_of}
use Rattle.pma_store.specs.ItemEffects.{ValidatesItems, counts_of, edits_of, validated_of, there_in}
use Rattle.pma_store.specs.Looked.{BelongThere, HasLooked}
use Rattle.pma_store.specs.Once.{AreUsed}
use Rattle.pma_store.specs.StoreView.{StoreView, IsOpenOn, limit_of}
use Rattle.redo_journal.specs.Neighbours.{run_count}
use Rattle.redo_journal.specs.Rest.{RestsAt}
use Rattle.pma_store.proofs.AppliedOnce.{committed, not_committed, once_looked}
use Rattle.pma_store.proofs.BatchCalls.{looks_behind}
use Rattle.pma_store.proofs.Batched.{validated_then, validating_fails}
use Rattle.pma_store.proofs.ItemsApplied.{tall_of}
use Rattle.pma_store.proofs.Committed.{IsReadyAtOnce, validates, looks_fail}
use Rattle.pma_store.proofs.Making.{opens_on, stands_there}
use Rattle.pma_store.proofs.OnceLaws.{used_few}
use Rattle.pma_store.proofs.Sums.{found_as}
use Rattle.pma_store.proofs.Unfit.{not_once}
use Rattle.pma_store.proofs.Resting.{readable_held}
use Rattle.pma_store.proofs.Standing.{rows_ascend}
use Rattle.pma_store.proofs.store.OpenArray.try_at_once.Goals as goal
use Rattle.pma_store.proofs.store.OpenArray.try_at_once.Goals.{in-Ok, in-Err, After-find_segments, After-look_over}

-- the store is open before it
opened : (g : _) (c : After-find_segments g) → IsOpenOn (view_of c.self.inside) (g.S.Station.view c.args.station.now)
opened g c = subst (λ (s : StoreView). IsOpenOn s (g.S.Station.view c.args.station.now)) (sym c.self.view_is) c.requires.open

belong : (g : _) (c : After-find_segments g) → Told (g.S.Station.view c.args.station.now) → BelongThere (array_of (g.S.Station.view c.args.station.now).held) c.find_segments.new.segments c.args.intent.now
belong g c told =
    let s = view_of c.self.inside in
    let a = g.S.Station.view c.args.station.now in
    let stands = stands_there s (opened g c).on told in
    c.find_segments.ensures.found (array_of a.held) stands.index (rows_ascend s.place.layout s.place.region s.tally.height s.tally.counts a.held stands.balanced.stands)

within : (g : _) (c : After-find_segments g) → (k : ℕ) → k < length c.find_segments.new.segments → get_or c.find_segments.new.segments k 0 < 2 ^ c.self.inside.tally.height
within g c k lt = subst (λ (h : ℕ). get_or c.find_segments.new.segments k 0 < 2 ^ h) c.self.invariant.index_height (c.find_segments.ensures.within k (omega (arith, lt, c.find_segments.ensures.size)))

pub look_over-requires-clause-belong : goal.look_over-requires-clause-belong
look_over-requires-clause-belong g c = belong g (goal.at.look_over-requires-clause-belong g c).After-find_segments

-- behind the look the store is as it was
same : (g : _) (c : After-look_over g) → record (view_of c.self.inside) { journal = c.look_over.new.frames.journal; turn = c.look_over.new.frames.turn } ≡ view_of c.self.inside
same g c = λ τ. record (view_of c.self.inside) { journal = same_journal τ; turn = c.look_over.ensures.turn τ }
  where
    same_journal : c.look_over.new.frames.journal ≡ (view_of c.self.inside).journal
    same_journal = c.look_over.ensures.looks.journal ∙ sym c.self.invariant.journal

pub returns-in_err-look_over : goal.returns-in_err-look_over
returns-in_err-look_over g c =
    let p = err_from_is_err_and c.from_residual.result c.from_residual.ensures.1 in
    rw (p.1, p.2) (
    let here = (goal.at.returns-in_err-look_over g c).After-look_over in
    let found = (goal.at.returns-in_err-look_over g c).After-find_segments in
    let s = view_of c.self.inside in
    let a = g.S.Station.view c.args.station.now in
    let b = g.S.Station.view c.look_over.new.station in
    let items = c.args.intent.now in
    subst (λ (v : StoreView). AppliesBatch items (Err c.in_err-look_over.field-0.0) v (record s { journal = c.look_over.new.frames.journal; turn = c.look_over.new.frames.turn }) a b) c.self.view_is
    (subst (λ (t : StoreView). AppliesBatch items (Err c.in_err-look_over.field-0.0) s t a b) (sym (same g here))
    (validating_fails items c.in_err-look_over.field-0.0 s s (g.met.S.Station.lawful c.args.station.now) (opened g found) (looks_fail items c.in_err-look_over.field-0.0 s c.find_segments.new.segments c.look_over.new.frames c.look_over.new.self (tall_of s c.self.invariant) c.in_err-look_over.ensures.looks))))

-- the most records, for the store's fields
most : (g : _) (c : After-find_segments g) → c.args.most ≡ upper_of (limit_of (view_of c.self.inside))
most g c = c.requires.most ∙ ap (λ (s : StoreView). upper_of (limit_of s)) (sym c.self.view_is)

pub returns-in_default : goal.returns-in_default
returns-in_default g c =
    let here = (goal.at.returns-in_default g c).After-look_over in
    let found = (goal.at.returns-in_default g c).After-find_segments in
    let s = view_of c.self.inside in
    let a = g.S.Station.view c.args.station.now in
    let b = g.S.Station.view c.look_over.new.station in
    let items = c.args.intent.now in
    subst (λ (v : StoreView). ValidatesItems items (Ok None) v (record s { journal = c.look_over.new.frames.journal; turn = c.look_over.new.frames.turn }) a b) c.self.view_is
    (subst (λ (t : StoreView). ValidatesItems items (Ok None) s t a b) (sym (same g here))
    (validates items s c.find_segments.new.segments c.look_over.new.frames c.look_over.new.self (opened g found).on c.find_segments.ensures.size (belong g found) (within g found) c.in_ok-look_over.ensures.looks
    c.records.result c.args.most None (most g found) c.records.ensures c.in_default.ensures.validated tt (λ _. c.in_default.ensures.full refl)))

pub returns-in_default-list_fitting : goal.returns-in_default-list_fitting
returns-in_default-list_fitting g c =
    let here = (goal.at.returns-in_default-list_fitting g c).After-look_over in
    let found = (goal.at.returns-in_default-list_fitting g c).After-find_segments in
    let s = view_of c.self.inside in
    let a = g.S.Station.view c.args.station.now in
    let b = g.S.Station.view c.look_over.new.station in
    let items = c.args.intent.now in
    let looks = c.in_ok-look_over.ensures.looks in
    let validated = c.in-Some.validated in
    let tells = validates items s c.find_segments.new.segments c.look_over.new.frames c.look_over.new.self (opened g found).on c.find_segments.ensures.size (belong g found) (within g found) looks
    c.records.result c.args.most (Some validated) (most g found) c.records.ensures c.in-Some.ensures.validated c.in-Some.ensures.found (λ none. absurd cc) in
    subst (λ (v : StoreView). TriesOnce items (Ok (Validated validated)) v (record s { journal = c.look_over.new.frames.journal; turn = c.look_over.new.frames.turn }) a b) c.self.view_is (
      subst (λ (t : StoreView). ValidatesItems items (Ok (Some validated)) s t a b) (sym (same g here)) tells,
      λ told are.
          not_once items s a.held (stands_there s (opened g found).on told) c.find_segments.new.segments c.look_over.new.frames c.look_over.new.self validated looks.loaded (looks.looked told) (looks.used told) (belong g found told)
          c.len-len.ensures.intent.distinct (tells.validated told) are (c.in_default-list_fitting.ensures.unfit refl),
      found_as items (λ k. is_ok (get_or c.look_over.new.self.found k (Err 0))) (there_in validated.found) c.records.result c.args.most (sum s.tally.counts) (upper_of (limit_of s)) (counts_of validated) (λ j lt. sym (c.in-Some.ensures.found j lt)) c.records.ensures (most g found)
          c.in-Some.ensures.as_found,
    )

-- the items were counted as they were found
pub list_fitting-requires-clause-counted : goal.list_fitting-requires-clause-counted
list_fitting-requires-clause-counted g c = c.in-Some.ensures.as_found.counts_are

pub slice_bounds-changes-end : goal.slice_bounds-changes-end
slice_bounds-changes-end g c = omega (arith, c.in-Some-list_fitting.ensures.most, c.type_inv.changes)

pub slice_bounds-commit_edits-end : goal.slice_bounds-commit_edits-end
slice_bounds-commit_edits-end g c = sym (length-take-le c.in-Some-list_fitting.count c.list_fitting.new.changes (omega (arith, c.in-Some-list_fitting.ensures.most, c.list_fitting.auto.changes)))

still : (g : _) (c : After-look_over g) → IsOpenOn (view_of c.self.inside) (g.S.Station.view c.args.station.now) → IsOpenOn (view_of c.self.inside) (g.S.Station.view c.look_over.new.station)
still g c is = opens_on (view_of c.self.inside) (view_of c.self.inside) (g.met.S.Station.lawful c.args.station.now) is c.look_over.ensures.looks.steps refl

pub commit_edits-requires-clause-rests : goal.commit_edits-requires-clause-rests
commit_edits-requires-clause-rests g c =
    let here = (goal.at.commit_edits-requires-clause-rests g c).After-look_over in
    subst (λ (n : ℕ). RestsAt c.self.inside.place.layout n (g.S.Station.view c.look_over.new.station)) (sym c.look_over.ensures.turn)
    (still g here (opened g (goal.at.commit_edits-requires-clause-rests g c).After-find_segments)).on.rests

pub commit_edits-requires-clause-settled : goal.commit_edits-requires-clause-settled
commit_edits-requires-clause-settled g c = λ image held.
    ((still g (goal.at.commit_edits-requires-clause-settled g c).After-look_over (opened g (goal.at.commit_edits-requires-clause-settled g c).After-find_segments)).on.stands image held).balanced.stands.settled

pub returns : goal.returns
returns g c =
    let here = (goal.at.returns g c).After-look_over in
    let found = (goal.at.returns g c).After-find_segments in
    let s = view_of c.self.inside in
    let a = g.S.Station.view c.args.station.now in
    let b = g.S.Station.view c.look_over.new.station in
    let e = g.S.Station.view c.commit_edits.new.station in
    let items = c.args.intent.now in
    let numbers = c.find_segments.new.segments in
    let look = c.look_over.new.self in
    let frames = c.look_over.new.frames in
    let validated = c.in-Some.validated in
    let changes = take c.in-Some-list_fitting.count c.list_fitting.new.changes in
    let steps = c.look_over.ensures.looks.steps in
    let is = opened g found in
    let law = g.met.S.Station.lawful c.args.station.now in
    let law_b = g.met.S.Station.lawful c.look_over.new.station in
    let version : INTENT_VERSION ≤ version_of s = subst (λ (v : StoreView). INTENT_VERSION ≤ version_of v) (sym c.self.view_is) c.requires.version in
    let held = λ (told : Told b). sym (steps.held (told_back steps.frame told)) in
    let ready : IsReadyAtOnce items s numbers frames look validated changes b = record {
      is = still g here is;
      store = c.self.invariant;
      intent = c.len-len.ensures.intent;
      loaded = c.in_ok-look_over.ensures.looks.loaded;
      looked = λ told. subst (λ (x : List ℕ). HasLooked s.place.layout.format (array_of x) numbers items frames look (2 ^ s.tally.height)) (held told) (c.in_ok-look_over.ensures.looks.looked (told_back steps.frame told));
      used = λ told. subst (λ (x : List ℕ). AreUsed s.place.layout (array_of x) items frames look.whole) (held told) (c.in_ok-look_over.ensures.looks.used (told_back steps.frame told));
      belong = λ told. subst (λ (x : List ℕ). BelongThere (array_of x) numbers items) (held told) (belong g found (told_back steps.frame told));
      journal = c.look_over.ensures.looks.journal;
      fits = c.in-Some-list_fitting.ensures.fits;
    } in
    let tells = validates items s numbers frames look is.on c.find_segments.ensures.size (belong g found) (within g found) c.in_ok-look_over.ensures.looks c.records.result c.args.most (Some validated) (most g found) c.records.ensures c.in-Some.ensures.validated c.in-Some.ensures.found (λ none. absurd cc) in
    let validated_is = λ (told : Told b). tells.validated (told_back steps.frame told) ∙ ap (λ (x : List ℕ). validated_of (limit_of s) (map_of x) items) (held told) in
    let index = c.commit_edits.new.index in
    let turn = c.commit_edits.new.frames.turn in
    let tally = c.commit_edits.new.tally in
    let looks = c.in_ok-look_over.ensures.looks.looks in
    let here_looked : look.count ≤ length looks.looked = c.in_ok-look_over.ensures.looks.few in
    let looked = looks_behind items s.tally.height steps looks in
    let few : look.count ≤ length looked.0.looked = omega (arith, here_looked, looked.1) in
    let calls : e.calls ≤ b.calls + runs_calls s.place.layout (run_count frames.numbers) → CallsBatch items s a e =
    λ few. once_looked items s numbers frames look validated changes ready law_b version validated_is c.in-Some.ensures.total {start = a} {c = e} looks here_looked (λ told. omega (arith, c.in_ok-look_over.ensures.looks.loaded.count_is, used_few s.place.layout (array_of a.held) items frames look.whole c.in_ok-look_over.ensures.looks.loaded.held (c.in_ok-look_over.ensures.looks.used told))) few in
    let journal = c.commit_edits.ensures.journal ∙ c.look_over.ensures.looks.journal ∙ sym c.self.invariant.journal in
    subst (λ (v : StoreView). TriesOnce items c.match-commit_edits.result v (record s { tally = tally; index = index; journal = c.commit_edits.new.frames.journal; turn = turn }) a e) c.self.view_is (elim c.match-commit_edits.branch [
      | in-Ok w ↦
          subst (λ (r : Result Attempt StoreFault). TriesOnce items r s (record s { tally = tally; index = index; journal = c.commit_edits.new.frames.journal; turn = turn }) a e) (sym w.result-is)
          (subst (λ (j : ℕ). AppliesBatch items (Ok (done_by (counts_of validated) (2 * edits_of validated))) s (record s { tally = tally; index = index; journal = j; turn = turn }) a e) (sym journal)
          (validated_then items (Ok (done_by (counts_of validated) (2 * edits_of validated))) s (record s { tally = tally; index = index; turn = turn }) is law steps c.look_over.ensures.looks.unwritten looks (calls w.in-Ok.ensures.committed.frames.calls) (λ refusal. refusal)
          (committed items s numbers frames look validated changes ready law_b version validated_is c.in-Some.ensures.total looked.0 few (g.met.S.Station.lawful c.commit_edits.new.station) turn index tally w.in-Ok.ensures.committed
          (λ told i lt d. sym (c.in-Some.ensures.found i lt) ∙ tells.found (told_back steps.frame told) i lt d ∙ ap (λ (x : List ℕ). contains_key (map_of x) (key_of (get_or items i d))) (held told)))))
      | in-Err w ↦
          let commits = w.in-Err.ensures.committed in
          subst (λ (r : Result Attempt StoreFault). TriesOnce items r s (record s { tally = tally; index = index; journal = c.commit_edits.new.frames.journal; turn = turn }) a e) (sym w.result-is)
          (subst (λ (t : StoreView). AppliesBatch items (Err Failed) s t a e) (sym (λ τ. record s { tally = commits.unchanged.1 τ; index = commits.unchanged.0 τ; journal = journal τ; turn = turn }))
          (validated_then items (Err Failed) s (record s { turn = turn }) is law steps c.look_over.ensures.looks.unwritten looks (calls commits.frames.calls) tt
          (not_committed items s numbers frames look validated changes ready law_b version validated_is c.in-Some.ensures.total _ looked.0 few turn commits.frames)))
    ])

pub look_over-requires-clause-readable : goal.look_over-requires-clause-readable
look_over-requires-clause-readable g c = readable_held (view_of c.self.inside) (opened g (goal.at.look_over-requires-clause-readable g c).After-find_segments).on

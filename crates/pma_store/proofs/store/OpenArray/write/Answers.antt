use Rattle.std.proofs.Common.{◌≡◌, ◌+◌, ◌^◌, ◌<◌, ◌≤◌, inl, ℕ, T, length, get_or, Option, refl, sym, subst, ◌∙◌, arith, rules}
use Rattle.std.proofs.Math.Pow.{pow_mono}
use Rattle.std.specs.List.{list_all}
use Rattle.key_slot.specs.Record.{is_record}
use Rattle.station.specs.View.{EachHeld}
use Rattle.station.specs.Steps.{Steps}
use Rattle.station.proofs.Composition.{told_back}
use Rattle.density_rule.specs.Windows.{IsBalanced}
use Rattle.header_gate.specs.Places.{height_limit}
use Rattle.map_model.specs.Holding.{HoldsMap}
use Rattle.map_model.specs.Image.{array_of}
use Rattle.window_tally.specs.declared.Change.{Change}
use Rattle.window_tally.specs.TallyView.{TallyView}
use Rattle.pma_store.specs.SegmentCounts.{counted}
use Rattle.pma_store.specs.UpdateCalls.{commit_calls}
use Rattle.pma_store.specs.Rewrites.{Rewrites, rewritten, commit_cost}
use Rattle.pma_store.specs.StoreView.{StoreView, Stands, limit_of}
use Rattle.pma_store.specs.StoreFields.{view_of}
use Rattle.redo_journal.specs.Rest.{RestsAt}
use Rattle.redo_journal.proofs.Live.{rests_settled}
use Rattle.pma_store.proofs.Resting.{each_rest, turned}
use Rattle.pma_store.proofs.Written.{length-counted, some_there, room_there, tall_by, stands_written}
use Rattle.pma_store.proofs.store.OpenArray.write.Goals as goal
use Rattle.pma_store.proofs.store.OpenArray.write.Goals.{After-commit_rows}

-- what is known of the store, by its fields
within : (g : _) (c : After-commit_rows g) → c.args.segment < 2 ^ c.self.inside.tally.height
within g c = subst (λ (s : StoreView). c.args.segment < 2 ^ s.tally.height) (sym c.self.view_is) c.requires.segment

balanced : (g : _) (c : After-commit_rows g) → IsBalanced c.self.inside.tally.height (counted c.args.change c.args.segment c.self.inside.tally).counts
balanced g c = subst (λ (s : StoreView). IsBalanced s.tally.height (counted c.args.change c.args.segment s.tally).counts) (sym c.self.view_is) c.requires.balanced

size : (g : _) (c : After-commit_rows g) → length c.args.rows.now ≡ get_or (counted c.args.change c.args.segment c.self.inside.tally).counts c.args.segment 0
size g c = subst (λ (s : StoreView). length c.args.rows.now ≡ get_or (counted c.args.change c.args.segment s.tally).counts c.args.segment 0) (sym c.self.view_is) c.requires.length

long : (g : _) (c : After-commit_rows g) → length (counted c.args.change c.args.segment c.self.inside.tally).counts ≡ 2 ^ c.self.inside.tally.height
long g c = length-counted c.args.change c.args.segment c.self.inside.tally ∙ c.self.invariant.tally.size

pub commit_rows-requires-clause-segment : goal.commit_rows-requires-clause-segment
commit_rows-requires-clause-segment g c =
    let s = c.self.inside in
    let here : c.args.segment < 2 ^ s.tally.height = subst (λ (s : StoreView). c.args.segment < 2 ^ s.tally.height) (sym c.self.view_is) c.requires.segment in
    let low : s.tally.height ≤ height_limit s.place.layout = omega (arith, c.self.invariant.tally.height_is, c.self.invariant.hmax) in
    omega (arith, here, pow_mono {i = s.tally.height} {j = height_limit s.place.layout} low)

cost : (g : _) (c : After-commit_rows g) → (g.S.Station.view c.commit_rows.new.station).travel.written ≤ (g.S.Station.view c.args.station.now).travel.written + commit_cost c.args.self.now.place.layout
cost g c = subst (λ (s : StoreView). (g.S.Station.view c.commit_rows.new.station).travel.written ≤ (g.S.Station.view c.args.station.now).travel.written + commit_cost s.place.layout) c.self.view_is c.commit_rows.ensures.cost

calls : (g : _) (c : After-commit_rows g) → (g.S.Station.view c.commit_rows.new.station).calls ≤ (g.S.Station.view c.args.station.now).calls + commit_calls c.args.self.now.place.layout
calls g c = subst (λ (s : StoreView). (g.S.Station.view c.commit_rows.new.station).calls ≤ (g.S.Station.view c.args.station.now).calls + commit_calls s.place.layout) c.self.view_is c.commit_rows.ensures.calls

pub commit_rows-requires-clause-fits : goal.commit_rows-requires-clause-fits
commit_rows-requires-clause-fits g c = subst (λ (s : StoreView). T (list_all (is_record s.place.layout.format) c.args.rows.now)) (sym c.self.view_is) c.requires.fits

pub count_change-requires-clause-room : goal.count_change-requires-clause-room
count_change-requires-clause-room g c is =
    let here = (goal.at.count_change-requires-clause-room g c).After-commit_rows in
    let s = c.self.inside in
    room_there s.tally c.args.segment c.self.invariant.tally.size (within g here)
    (subst (λ (change : Option Change). IsBalanced s.tally.height (counted change c.args.segment s.tally).counts) is (balanced g here))

pub returns-in-Ok-clause-rewritten : goal.returns-in-Ok-clause-rewritten
returns-in-Ok-clause-rewritten g c =
    let here = (goal.at.returns-in-Ok-clause-rewritten g c).After-commit_rows in
    let a = g.S.Station.view c.args.station.now in
    let b = g.S.Station.view c.commit_rows.new.station in
    let s = c.self.inside in
    let old = view_of s in
    let stands = subst (λ (s : StoreView). EachHeld (Stands s) a) (sym c.self.view_is) c.requires.on.stands in
    record {
      steps = subst (λ (s : StoreView). Steps (Rewrites s.place c.args.segment c.args.rows.now) a b) c.self.view_is c.commit_rows.ensures.steps;
      laid = c.in-Ok.ensures.laid;
      store = λ next holds.
          let filled : 0 < c.args.segment → 0 < length c.args.rows.now = λ some.
          omega (arith, size g here, some_there s.tally.height (counted c.args.change c.args.segment s.tally).counts c.args.segment (long g here) (within g here) (balanced g here) (tall_by s.tally.height c.args.segment (within g here) some)) in
          let after = each_rest (record old { tally = counted c.args.change c.args.segment s.tally; index = c.renew_fence.new.index; turn = c.commit_rows.new.frames.turn }) (g.met.S.Station.lawful c.commit_rows.new.station) c.in-Ok.ensures.rests (λ told_b.
          let told = told_back c.commit_rows.ensures.steps.frame told_b in
          let start = stands a.held (inl (told, refl)) in
          let held = subst (λ (s : StoreView). HoldsMap (limit_of s) next s.tally.height (rewritten a.held c.args.segment c.args.rows.now)) (sym c.self.view_is) (holds told) in
          stands_written (record old { turn = c.commit_rows.new.frames.turn }) c.args.segment c.args.rows.now c.args.change c.renew_fence.new.index a.held b.held next (turned old c.commit_rows.new.frames.turn a.held start) (omega (arith, within g here, c.self.invariant.tally.size)) (balanced g here) (size g here)
          (c.in-Ok.ensures.laid told) (λ single. (rests_settled s.place.layout c.commit_rows.new.frames.turn b single c.in-Ok.ensures.rests).1 b.held (inl (told_b, refl))) (c.renew_fence.ensures.index (array_of a.held) start.index filled) held) in
          let by_tally = subst (λ (t : TallyView). EachHeld (Stands (record old { tally = t; index = c.renew_fence.new.index; turn = c.commit_rows.new.frames.turn })) b) (sym c.count_change.ensures.counted) after in
          subst (λ (j : ℕ). EachHeld (Stands (record old { tally = c.count_change.new.tally; index = c.renew_fence.new.index; journal = j; turn = c.commit_rows.new.frames.turn })) b) (sym c.commit_rows.ensures.journal) by_tally;
      rests = subst (λ (s : StoreView). RestsAt s.place.layout c.commit_rows.new.frames.turn b) c.self.view_is c.in-Ok.ensures.rests;
      kept = search rules;
      counted = search rules;
      cost = cost g here;
      calls = calls g here;
      disk = tt;
      failed = tt;
    }

pub commit_rows-requires-clause-rests : goal.commit_rows-requires-clause-rests
commit_rows-requires-clause-rests g c = subst (λ (s : StoreView). RestsAt s.place.layout s.turn (g.S.Station.view c.args.station.now)) (sym c.self.view_is) c.requires.on.rests

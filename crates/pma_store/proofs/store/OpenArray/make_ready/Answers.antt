use Rattle.std.proofs.Common.{refl, sym, subst, arith, rules}
use Rattle.station.specs.View.{View}
use Rattle.station.specs.Steps.{Steps}
use Rattle.station.proofs.Composition.{no_steps, weaken}
use Rattle.pma_store.specs.Readying.{KeepsMap}
use Rattle.pma_store.proofs.store.OpenArray.make_ready.Goals as goal

-- what makes no call keeps the map
keeps_still : (a : View) → Steps KeepsMap a a
keeps_still a = weaken (no_steps a) (λ d i left same. subst (KeepsMap d) (sym same) (record { map_is = λ m is. is; layout_is = refl; touched = record { size = refl; rest = λ k out. refl } }))

pub returns-in-Fits-clause-kept : goal.returns-in-Fits-clause-kept
returns-in-Fits-clause-kept g c = record {
  steps = keeps_still (g.S.Station.view c.args.station.now);
  store = c.requires.on;
  layout = refl;
  closed = refl;
  damaged = tt;
  counted = tt;
  failed = search rules;
  cost = omega arith;
  calls = omega arith;
}

use Rattle.std.specs.Prelude.{sum}
use Rattle.density_rule.specs.Bounds.{upper_of}
use Rattle.pma_store.specs.StoreView.{limit_of}
use Rattle.pma_store.proofs.FoundItems.{TalliesFirst}
use Rattle.pma_store.proofs.ItemsMade.{HasMade}
use Rattle.pma_store.proofs.Sums.{SumsFirst}
use Rattle.pma_store.proofs.store.OpenArray.make_items.Given as goal

abbrev pub invariant-loop-i : goal.invariant-loop-i
invariant-loop-i g l = record {
  made : HasMade l.intent l.i l.charges l.fn.self l.self (g.S.Station.view l.fn.station) (g.S.Station.view l.station);
  sums : SumsFirst l.found l.intent l.i (upper_of (limit_of l.fn.self)) (sum l.fn.self.tally.counts) (sum l.self.tally.counts);
  tallies : TalliesFirst l.found l.intent l.i (upper_of (limit_of l.fn.self)) l.fn.self.tally l.self.tally;
}

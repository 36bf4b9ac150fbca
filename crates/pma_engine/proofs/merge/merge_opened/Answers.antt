-- The text is merged once nothing is pending.
use Rattle.std.proofs.Common.{Err, refl, ap, subst, sym, ◌∙◌, arith}
use Rattle.header_gate.specs.InPlace.{IsBare}
use Rattle.pma_store.specs.StoreView.{StoreView}
use Rattle.pma_engine.specs.MergeOutcome.{MergesOpened}
use Rattle.pma_engine.proofs.Closing.{clear_gate, stays_on, stays_steps}
use Rattle.pma_engine.proofs.SettledMerges.{merges_behind, merges_failed}
use Rattle.pma_engine.proofs.merge.merge_opened.Goals as goal

pub returns-in-Ok : goal.returns-in-Ok
returns-in-Ok g c =
    let s0 = g.I.Source.view c.args.source.now in
    let s1 = g.I.Source.view c.merge_settled.new.source in
    let a = g.S.Station.view c.args.station.now in
    let b = g.S.Station.view c.settle.new.station in
    let d = g.S.Station.view c.merge_settled.new.station in
    let settles = c.in-Ok.ensures.settled in
    record {
      merges =
          merges_behind c.args.store c.settle.new.self a b (g.met.S.Station.lawful c.args.station.now) c.requires.open settles settles.state c.merge_settled.result c.args.most s0 s1 d
          (subst (λ (x : StoreView). MergesOpened c.merge_settled.result c.args.most x.place.layout x.tally.height 0 0 s0 s1 b d) settles.store c.merge_settled.ensures.merges);
      shut = stays_on settles.meant.frame.fixed settles.meant.frame.calls (stays_steps settles.touched (λ x i touched. clear_gate c.args.store.place.layout x i touched)) c.merge_settled.ensures.shut;
      went = c.merge_settled.ensures.went;
    }

pub returns-in-Err : goal.returns-in-Err
returns-in-Err g c =
    let s0 = g.I.Source.view c.args.source.now in
    let a = g.S.Station.view c.args.station.now in
    let b = g.S.Station.view c.settle.new.station in
    let settles = c.in-Err.ensures.settled in
    record {
      merges = merges_failed c.args.store c.settle.new.self a b (g.met.S.Station.lawful c.args.station.now) c.requires.open settles c.args.most s0 (c.settle.ensures.failed (c.in-Err.is ∙ ap Err settles.disk));
      shut = stays_steps settles.touched (λ x i touched. clear_gate c.args.store.place.layout x i touched);
      went = record { tells = refl; faults = omega arith };
    }

pub merge_settled-requires-clause-bare : goal.merge_settled-requires-clause-bare
merge_settled-requires-clause-bare g c told =
    let settles = c.in-Ok.ensures.settled in
    subst (λ (x : StoreView). IsBare x.place.layout (g.S.Station.view c.settle.new.station).held) (sym settles.store) (settles.bare told)

pub merge_settled-requires-clause-nothing : goal.merge_settled-requires-clause-nothing
merge_settled-requires-clause-nothing g c = c.in-Ok.ensures.settled.nothing

-- What `merge_rows` came to, by the parts of the store and a fresh reader, and how it was ended.
use Rattle.std.proofs.Common.{◌≡◌, ◌-◌, ap, subst, sym, arith}
use Rattle.header_gate.specs.InPlace.{IsBare}
use Rattle.pma_store.specs.StoreView.{StoreView, IsOpenOn}
use Rattle.pma_engine.specs.MergeOutcome.{MergesOpened}
use Rattle.station.specs.View.{Told}
use Rattle.pma_engine.proofs.Closing.{spare_gate, stays_said}
use Rattle.pma_engine.proofs.Merging.{Facts, facts_from, merged_of}
use Rattle.pma_engine.proofs.Parting.{parts_bare, parts_rest, parts_stand}
use Rattle.pma_engine.proofs.merge.merge_settled.Goals as goal

pub merge_rows-merged-requires-clause-stands : goal.merge_rows-merged-requires-clause-stands
merge_rows-merged-requires-clause-stands g c =
    let parts = c.into_parts-parts.result in
    let is = c.into_parts-parts.ensures in
    parts_stand c.args.store parts.place parts.tally (g.S.Station.view c.args.station.now) is.place is.tally c.requires.open

pub merge_rows-merged-requires-clause-nothing : goal.merge_rows-merged-requires-clause-nothing
merge_rows-merged-requires-clause-nothing g c = c.requires.nothing

pub merge_rows-merged-requires-clause-bare : goal.merge_rows-merged-requires-clause-bare
merge_rows-merged-requires-clause-bare g c = parts_bare c.args.store c.into_parts-parts.result.place (g.S.Station.view c.args.station.now) c.into_parts-parts.ensures.place c.requires.bare

pub merge_rows-merged-requires-clause-rests : goal.merge_rows-merged-requires-clause-rests
merge_rows-merged-requires-clause-rests g c =
    let is = c.into_parts-parts.ensures in
    let parts = c.into_parts-parts.result in
    parts_rest c.args.store parts.place parts.frames.turn (g.S.Station.view c.args.station.now) is.place is.turn c.requires.open

pub returns : goal.returns
returns g c =
    let s0 = g.I.Source.view c.args.source.now in
    let s1 = g.I.Source.view c.merge_rows-merged.new.source in
    let a = g.S.Station.view c.args.station.now in
    let b = g.S.Station.view c.merge_rows-merged.new.station in
    let d = g.S.Station.view c.end_merged.new.station in
    let parts = c.into_parts-parts.result in
    let is = c.into_parts-parts.ensures in
    let does = c.merge_rows-merged.ensures in
    let ends = c.end_merged.ensures in
    let s : StoreView = record { place = parts.place; tally = parts.tally; index = parts.index; journal = parts.frames.journal; turn = parts.frames.turn; closed = c.args.store.closed } in
    let same : s ≡ c.args.store = (λ t. record { place = is.place t; tally = is.tally t; index = is.index t; journal = is.journal t; turn = is.turn t; closed = c.args.store.closed }) in
    let facts : Facts c.args.most c.merge_rows-merged.result s s0 s1 a b = facts_from c.args.most c.new-reader.result c.new-reader.ensures c.merge_rows-merged.result s s0 s1 a b (record {
      merged = does.merged;
      counted = does.counted;
      whole = does.whole;
      takes = does.takes;
      settled = does.settled;
      steps = does.steps;
      cost = does.cost;
      most_cost = does.most_cost;
      most_calls = does.most_calls;
      reads = does.reads;
      fault = does.fault;
      text = does.text;
      kept = does.kept;
      failed = does.failed;
    }) in
    record {
      merges =
          subst (λ (x : StoreView). MergesOpened c.end_merged.result c.args.most x.place.layout x.tally.height 0 0 s0 s1 a d) same
          (merged_of c.args.most s s0 s1 a (g.met.S.Station.lawful c.args.station.now) (subst (λ (x : StoreView). IsOpenOn x a) (sym same) c.requires.open) c.requires.nothing
          (subst (λ (x : StoreView). Told a → IsBare x.place.layout a.held) (sym same) c.requires.bare) b d ends.calls c.merge_rows-merged.result c.end_merged.result ends.status facts
          ends.says (λ none. ap g.S.Station.view (ends.silent none)) (ends.made, ends.reply, ends.line));
      shut = stays_said does.steps (λ d i loads. spare_gate parts.place.layout (1 - parts.place.region) (omega arith) d i loads.touched) ends.says;
      went = does.went;
    }

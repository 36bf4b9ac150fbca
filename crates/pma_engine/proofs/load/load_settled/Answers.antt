-- What `load_rows` came to, by the parts of the store and a fresh reader, and how it was ended.
use Rattle.std.proofs.Common.{◌≡◌, ◌-◌, ◌<◌, ap, subst, sym, sum, arith}
use Rattle.station.specs.Bytes.{Same}
use Rattle.station.specs.Steps.{Steps}
use Rattle.station.proofs.Composition.{no_steps}
use Rattle.header_gate.specs.Places.{IsLayout}
use Rattle.pma_store.specs.StoreView.{StoreView, IsOpenOn}
use Rattle.window_tally.specs.TallyView.{TallyView}
use Rattle.pma_engine.specs.LoadOutcome.{LoadsOpened}
use Rattle.pma_engine.proofs.Closing.{spare_gate, stays_said}
use Rattle.pma_engine.proofs.Loading.{Facts, Laws, facts_from, loaded_of}
use Rattle.pma_engine.proofs.Parting.{parts_bare, parts_rest, parts_stand}
use Rattle.pma_engine.proofs.load.load_settled.Goals as goal

pub load_rows-loaded-requires-clause-stands : goal.load_rows-loaded-requires-clause-stands
load_rows-loaded-requires-clause-stands g c =
    let parts = c.into_parts-parts.result in
    let is = c.into_parts-parts.ensures in
    parts_stand c.args.store parts.place parts.tally (g.S.Station.view c.args.station.now) is.place is.tally c.requires.open

pub load_rows-loaded-requires-clause-nothing : goal.load_rows-loaded-requires-clause-nothing
load_rows-loaded-requires-clause-nothing g c = c.requires.nothing

pub load_rows-loaded-requires-clause-bare : goal.load_rows-loaded-requires-clause-bare
load_rows-loaded-requires-clause-bare g c = parts_bare c.args.store c.into_parts-parts.result.place (g.S.Station.view c.args.station.now) c.into_parts-parts.ensures.place c.requires.bare

pub load_rows-loaded-requires-clause-rests : goal.load_rows-loaded-requires-clause-rests
load_rows-loaded-requires-clause-rests g c =
    let is = c.into_parts-parts.ensures in
    let parts = c.into_parts-parts.result in
    parts_rest c.args.store parts.place parts.frames.turn (g.S.Station.view c.args.station.now) is.place is.turn c.requires.open

pub returns : goal.returns
returns g c =
    let s0 = g.I.Source.view c.args.source.now in
    let s1 = g.I.Source.view c.load_rows-loaded.new.source in
    let a = g.S.Station.view c.args.station.now in
    let b = g.S.Station.view c.load_rows-loaded.new.station in
    let d = g.S.Station.view c.end_loaded.new.station in
    let parts = c.into_parts-parts.result in
    let is = c.into_parts-parts.ensures in
    let does = c.load_rows-loaded.ensures in
    let s : StoreView = record { place = parts.place; tally = parts.tally; index = parts.index; journal = parts.frames.journal; turn = parts.frames.turn; closed = c.args.store.closed } in
    let same : s ≡ c.args.store = (λ t. record { place = is.place t; tally = is.tally t; index = is.index t; journal = is.journal t; turn = is.turn t; closed = c.args.store.closed }) in
    let laws : Laws = record {
      text = c.texts_are_read_by_lines.ensures.text;
      few = c.texts_are_read_by_lines.ensures.few;
      refused = c.texts_are_read_by_lines.ensures.refused;
      going = c.texts_are_read_by_lines.ensures.going;
      full_is = c.texts_are_read_by_lines.ensures.full;
      admitted = c.admitted_texts_are_loaded.ensures;
    } in
    let facts : Facts c.args.most c.load_rows-loaded.result s s0 s1 a b = facts_from c.args.most c.new-reader.result c.new-reader.ensures c.load_rows-loaded.result s s0 s1 a b (record {
      loaded = does.loaded;
      none_before = does.empty;
      whole = does.whole;
      takes = does.takes;
      settled = does.settled;
      steps = does.steps;
      untouched = λ some.
          let same_station = (does.untouched some).0 in (
            subst (λ st. Steps Same a (g.S.Station.view st)) (sym same_station) (no_steps a),
            ap (λ st. (g.S.Station.view st).travel) same_station,
            ap (λ st. (g.S.Station.view st).held) same_station,
          );
      cost = does.cost;
      most_cost = does.most_cost;
      fault = does.fault;
      kept = does.kept;
      damaged = does.damaged;
      failed = does.failed;
    }) in
    record {
      loads =
          subst (λ (x : StoreView). LoadsOpened c.end_loaded.result c.args.most x.place.layout (sum x.tally.counts) 0 s0 s1 a d) same
          (subst (λ n. LoadsOpened n c.args.most s.place.layout (sum s.tally.counts) 0 s0 s1 a d) (sym c.end_loaded.ensures.status)
          (loaded_of laws c.args.most s s0 s1 (subst (λ (x : StoreView). IsLayout x.place.layout) (sym same) is.store.layout) a (g.met.S.Station.lawful c.args.station.now) (subst (λ (x : StoreView). IsOpenOn x a) (sym same) c.requires.open) c.requires.nothing b d c.load_rows-loaded.result facts
          c.end_loaded.ensures.says (λ none. ap g.S.Station.view (c.end_loaded.ensures.silent none)) c.end_loaded.ensures.line));
      shut = stays_said does.steps (λ d i loads. spare_gate parts.place.layout (1 - parts.place.region) (omega arith) d i loads.touched) c.end_loaded.ensures.says;
      untaken = λ some. (does.untouched (subst (λ (x : TallyView). 0 < sum x.counts) (sym is.tally) some)).1;
      went = does.went;
    }

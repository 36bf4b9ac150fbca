use Rattle.std.proofs.Common.{refl, inl, sym, subst, arith}
use Rattle.header_gate.proofs.RecoveredPages.{page_before}
use Rattle.pma_store.specs.StoreView.{StoreView, IsOpenOn}
use Rattle.pma_engine.proofs.Opening.{opens_parts}
use Rattle.pma_engine.proofs.attaching.open_parts.Goals as goal

pub close_clean-requires-clause-reach : goal.close_clean-requires-clause-reach
close_clean-requires-clause-reach g c = omega (arith, c.requires.reach, page_before c.args.parts.place.layout 2)

pub close_clean-requires-clause-page : goal.close_clean-requires-clause-page
close_clean-requires-clause-page g c told = (c.requires.agrees (g.S.Station.view c.args.station.now).held (inl (told, refl))).stands.stands.settled.represents.header.page

pub returns-in-Ok-clause-takes : goal.returns-in-Ok-clause-takes
returns-in-Ok-clause-takes g c =
    let closing = c.close_clean.ensures in
    let a = g.S.Station.view c.args.station.now in
    let b = g.S.Station.view c.close_clean.new.station in
    record {
      store = c.from_parts.ensures.store;
      on = subst (λ (s : StoreView). IsOpenOn s b) (sym c.from_parts.ensures.store) (opens_parts c.args.parts a b (g.met.S.Station.lawful c.close_clean.new.station) c.requires.agrees c.requires.quick c.requires.rests c.requires.reach closing.steps c.in-Ok.ensures.settled);
      settled = c.in-Ok.ensures.settled;
      steps = closing.steps;
      closed = c.in-Ok.ensures.closed;
      cost = closing.cost;
      unread = closing.no_reads;
      failed = tt;
    }

pub returns-in-Err-clause-takes : goal.returns-in-Err-clause-takes
returns-in-Err-clause-takes g c =
    let closing = c.close_clean.ensures in
    record {
      store = tt;
      on = tt;
      settled = tt;
      steps = closing.steps;
      closed = tt;
      cost = closing.cost;
      unread = closing.no_reads;
      failed = (refl, c.in-Err.ensures.cause);
    }

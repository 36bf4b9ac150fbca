use Rattle.std.proofs.Common.{false, sym, ap, ◌∙◌, subst}
use Rattle.std.proofs.lemmas.Result.{on_ok_weaker}
use Rattle.range_scan.specs.SeekReads.{ReadsBehind, earlier}
use Rattle.pma_store.specs.Metered.{MeteredView}
use Rattle.pma_store.specs.StoreSeeks.{kept_region, unclosed}
use Rattle.pma_store.specs.StoreView.{IsOpenOn}
use Rattle.pma_store.proofs.Sought.{opens_by, stands_idle}
use Rattle.pma_store.proofs.seek.MeteredSeek.last_row.Goals as goal

pub seek_back-requires : goal.seek_back-requires
seek_back-requires g c = record {
  «open» = subst (λ (m : MeteredView). IsOpenOn m.store (g.S.Station.view c.args.station.now)) (sym c.self.view_is)
      (opens_by c.args.self.now.store c.requires.open c.requires.store c.requires.rests c.requires.reach);
}

pub returns-clause-state : goal.returns-clause-state
returns-clause-state g c =
    (λ τ. record { store = record (c.seek_back.ensures.sought.kept τ) { closed = false }; ledger = c.self.inside.ledger })
    ∙ ap unclosed c.self.view_is

pub returns-clause-kept : goal.returns-clause-kept
returns-clause-kept g c = ap kept_region c.seek_back.ensures.sought.kept ∙ ap (λ (m : MeteredView). kept_region m.store) c.self.view_is

pub returns-clause-store : goal.returns-clause-store
returns-clause-store g c = on_ok_weaker c.seek_back.result (stands_idle c.seek_back.new.self) c.seek_back.ensures.open

pub returns-clause-rests : goal.returns-clause-rests
returns-clause-rests g c = on_ok_weaker c.seek_back.result (λ (is : IsOpenOn c.seek_back.new.self (g.S.Station.view c.seek_back.new.station)). is.on.rests) c.seek_back.ensures.open

pub returns-clause-reads : goal.returns-clause-reads
returns-clause-reads g c =
    subst (λ (m : MeteredView). ReadsBehind (earlier c.args.past c.args.high) (kept_region m.store) c.seek_back.result (g.S.Station.view c.args.station.now) (g.S.Station.view c.seek_back.new.station)) c.self.view_is c.seek_back.ensures.sought.read

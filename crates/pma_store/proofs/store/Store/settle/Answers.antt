use Rattle.std.proofs.Common.{◌≡◌, Bool, true, false, Ok, Err, sym, ap, subst, ◌∙◌}
use Rattle.pma_store.specs.Settling.{SettlesStore}
use Rattle.pma_store.specs.StoreView.{StoreView, IsOpenOn}
use Rattle.pma_store.specs.declared.store.Store.TheInside.{Inside}
use Rattle.pma_store.proofs.Settled.{open_by, settled_by}
use Rattle.pma_store.proofs.store.Store.settle.Goals as goal
use Rattle.pma_store.proofs.store.Store.settle.Goals.{After-clear}

-- the store is the one that was given
same : (g : _) (c : After-clear g) → c.self.inside.array ≡ c.args.self.now
same g c = c.self.view_is

opened : (g : _) (c : After-clear g) → IsOpenOn c.self.inside.array (g.S.Station.view c.args.station.now)
opened g c = subst (λ (s : StoreView). IsOpenOn s (g.S.Station.view c.args.station.now)) (sym (same g c)) c.requires.open

pub returns-in-Ok-clause-settled : goal.returns-in-Ok-clause-settled
returns-in-Ok-clause-settled g c =
    let here = (goal.at.returns-in-Ok-clause-settled g c).After-clear in
    let a = g.S.Station.view c.args.station.now in
    let b = g.S.Station.view c.clear.new.station in
    let v = c.self.inside.array in
    let does = c.clear.ensures in
    let settles = settled_by (Ok tt) v c.clear.new.self a b does.turned (g.met.S.Station.lawful c.args.station.now) (opened g here) c.in-Ok.ensures.kept c.in-Ok.ensures.array c.in-Ok.ensures.nothing c.in-Ok.ensures.bare does.touched does.unread tt in
    let open_yet : c.clear.new.self.closed ≡ false = does.kept.closed ∙ (opened g here).opened in
    subst (λ (s : StoreView). SettlesStore (Ok tt) s c.clear.new.self a b) (same g here)
    (subst (λ (f : Bool). SettlesStore (Ok tt) v (record c.clear.new.self { closed = f }) a b) (sym open_yet) settles)

pub returns-in-Ok-clause-open : goal.returns-in-Ok-clause-open
returns-in-Ok-clause-open g c =
    let here = (goal.at.returns-in-Ok-clause-open g c).After-clear in
    let does = c.clear.ensures in
    open_by (Ok tt) c.self.inside.array c.clear.new.self (g.S.Station.view c.args.station.now) (g.S.Station.view c.clear.new.station) does.turned (g.met.S.Station.lawful c.args.station.now) (opened g here) c.in-Ok.ensures.kept c.in-Ok.ensures.array c.in-Ok.ensures.kept.store

pub returns-in-Err-clause-settled : goal.returns-in-Err-clause-settled
returns-in-Err-clause-settled g c =
    let here = (goal.at.returns-in-Err-clause-settled g c).After-clear in
    let a = g.S.Station.view c.args.station.now in
    let b = g.S.Station.view c.clear.new.station in
    let does = c.clear.ensures in
    subst (λ (s : StoreView). SettlesStore (Err c.in-Err.fault) c.args.self.now (record s { closed = true }) a b) (sym (ap (λ (s : Inside). s.array) c.self-inside.view_is))
    (subst (λ (s : StoreView). SettlesStore (Err c.in-Err.fault) s (record c.clear.new.self { closed = true }) a b) (same g here)
    (settled_by (Err c.in-Err.fault) c.self.inside.array c.clear.new.self a b does.turned (g.met.S.Station.lawful c.args.station.now) (opened g here) c.in-Err.ensures.kept tt tt tt does.touched does.unread c.in-Err.ensures.disk))

use Rattle.std.proofs.Common.{◌≡◌, ◌<◌, ◌-◌, ℕ, List, [], false, sym, ap, subst, ◌∙◌, refl, arith}
use Rattle.std.specs.Prelude.{slice_get, is_some}
use Rattle.std.specs.FinMap.{entries}
use Rattle.station.proofs.Composition.{no_steps, told_on}
use Rattle.map_model.specs.Image.{map_of}
use Rattle.map_model.specs.Scan.{scanned}
use Rattle.range_scan.specs.SweepView.{SweepView, IsSweep}
use Rattle.range_scan.specs.Sweeping.{ahead}
use Rattle.range_scan.proofs.Giving.{reached, scan_on}
use Rattle.range_scan.proofs.Sweeps.{sweeps_still}
use Rattle.range_scan.proofs.sweep.Sweep.reach_next.Goals as goal

pub returns-then-self-clause-sweeps : goal.returns-then-self-clause-sweeps
returns-then-self-clause-sweeps g c =
    sweeps_still false c.args.self.now c.args.self.now (g.S.Station.view c.args.station.now) (g.S.Station.view c.args.station.now) refl (subst IsSweep c.self.view_is c.self.invariant.2) c.requires.open c.requires.sweeping (no_steps (g.S.Station.view c.args.station.now)) refl (omega arith)

pub fill-requires : goal.fill-requires
fill-requires g c =
    record {
      can = record {
        unfaulted = c.requires.open;
        wanting = omega (arith, (subst IsSweep c.self.view_is c.self.invariant.2).given_is, c.if-self.false, ap (λ (x : SweepView). x.given) c.self.view_is, ap (λ (x : SweepView). x.limit) c.self.view_is);
        sweeping = c.requires.sweeping;
        readable = c.requires.readable;
        reach = c.requires.reach;
      };
    }

pub returns-clause-more : goal.returns-clause-more
returns-clause-more g c told =
    let s = c.args.self.now in
    let t = c.fill.new.self in
    let a = g.S.Station.view c.args.station.now in
    let b = g.S.Station.view c.fill.new.station in
    let on = c.in_ok-fill.ensures.sweeps in
    let held = on.steps.held told in
    let used = subst (λ (file : List ℕ). t.kept ≡ [] → scanned t.low t.high (t.limit - t.given) (ahead t (entries (map_of file))) ≡ []) (sym held) (c.in_ok-fill.ensures.kept told) in
    let wanting : t.given < t.limit = omega (arith, on.is_sweep.given_is, c.if-self.false, c.fill.ensures.given, on.same.limit_is, ap (λ (x : SweepView). x.given) c.self.view_is, ap (λ (x : SweepView). x.limit) c.self.view_is) in
    reached t b.held on.is_sweep (on.sweeping (told_on on.steps.frame told)) used c.is_at_hand.result c.is_at_hand.ensures.at_hand wanting
    ∙ (λ i. is_some (slice_get (scan_on s t a.held b.held on.same held i) (c.fill.ensures.given i)))

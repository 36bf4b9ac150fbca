use Rattle.std.proofs.Common.{◌≡◌, inr, ℕ, ◌-◌, ◌^◌, Some, refl, sym, ap, subst, ◌∙◌, arith}
use Rattle.std.proofs.lemmas.Result.{err_from_is_err_and}
use Rattle.header_gate.specs.declared.reason.Reason.TheVariants.{Index}
use Rattle.veb_index.specs.Nodes.{fence_place}
use Rattle.index_file.specs.Area.{node_place}
use Rattle.index_file.specs.IndexReasons.{fences_reason}
use Rattle.index_file.specs.declared.fault.AreaFault.TheVariants.{Wrong}
use Rattle.index_file.proofs.Answering.{never_wrong}
use Rattle.index_file.proofs.LoadingLaws.{fences_none, fences_some, fences_fail}
use Rattle.index_file.proofs.loading.load_fences.Goals as goal

wrong_one : (p q : ℕ) → Wrong p ≡ Wrong q → p ≡ q
wrong_one p q e = cc

pub returns-in-None-clause-sound : goal.returns-in-None-clause-sound
returns-in-None-clause-sound g c told = fences_none c.args.layout.now c.args.h c.read_nodes.new.index.fences (g.S.Station.view c.args.station.now).held (c.in_ok-read_nodes.ensures.taken told) (c.in-None.ensures.ordered refl c.args.layout.now)

pub returns-in-Some-clause-refused : goal.returns-in-Some-clause-refused
returns-in-Some-clause-refused g c told place e =
    let same : node_place c.args.layout.now (fence_place c.args.h c.in-Some.segment) ≡ place = ap (node_place c.args.layout.now) (sym c.fence_position.ensures.place) ∙ wrong_one (node_place c.args.layout.now c.fence_position.result) place (sym c.wrong_node.ensures ∙ e) in
    subst (λ (p : ℕ). fences_reason c.args.layout.now c.args.h (g.S.Station.view c.args.station.now).held ≡ Some (Index p)) same
    (fences_some c.args.layout.now c.args.h c.read_nodes.new.index.fences (g.S.Station.view c.args.station.now).held (node_place c.args.layout.now (fence_place c.args.h c.in-Some.segment)) (c.in_ok-read_nodes.ensures.taken told) (c.in-Some.ensures.misplaced.2 c.args.layout.now))

-- all nodes were read
pub returns-in-Some-clause-named : goal.returns-in-Some-clause-named
returns-in-Some-clause-named g c place e = record {
  position = c.fence_position.result;
  read = 2 ^ c.args.h - 1;
  place_is = sym (wrong_one (node_place c.args.layout.now c.fence_position.result) place (sym c.wrong_node.ensures ∙ e));
  among = record { below = c.fence_position.ensures.within; most = omega arith; last = inr refl };
  travel = c.in_ok-read_nodes.ensures.reads.travel;
}

pub returns-in_err-read_nodes-clause-refused : goal.returns-in_err-read_nodes-clause-refused
returns-in_err-read_nodes-clause-refused g c =
    let p = err_from_is_err_and c.from_residual.result c.from_residual.ensures.1 in
    rw (p.1, p.2) (λ told place e.
    fences_fail c.args.layout.now c.args.h (g.S.Station.view c.args.station.now).held place (c.in_err-read_nodes.ensures.refused told place e))

pub returns-in-Some-clause-reads : goal.returns-in-Some-clause-reads
returns-in-Some-clause-reads g c = record {
  steps = c.read_nodes.ensures.reads.steps;
  travel = tt;
  calls = c.read_nodes.ensures.reads.calls;
  failed = λ failed. absurd (never_wrong {T = Unit {0}} c.wrong_node.result (node_place c.args.layout.now c.fence_position.result) c.wrong_node.ensures failed);
}

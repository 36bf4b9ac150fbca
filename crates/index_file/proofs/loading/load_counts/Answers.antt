use Rattle.std.proofs.Common.{◌≡◌, inr, ℕ, ◌+◌, ◌*◌, ◌^◌, ◌≤◌, List, Some, refl, sym, ap, subst, ◌∙◌, arith}
use Rattle.std.proofs.lemmas.Result.{err_from_is_err_and}
use Rattle.std.proofs.Math.Pow.{pow_mono}
use Rattle.header_gate.specs.declared.reason.Reason.TheVariants.{Index}
use Rattle.map_model.specs.FileReasons.{first_reason}
use Rattle.window_tally.specs.TallyView.{TallyView}
use Rattle.index_file.specs.Area.{count_place}
use Rattle.index_file.specs.IndexReasons.{windows_reason, counts_read, row_reason}
use Rattle.index_file.specs.declared.fault.AreaFault.TheVariants.{Wrong}
use Rattle.index_file.proofs.Answering.{never_wrong}
use Rattle.index_file.proofs.ValidatingLaws.{counts_are_read, count_fails_reason}
use Rattle.index_file.proofs.loading.load_counts.Goals as goal

wrong_one : (p q : ℕ) → Wrong p ≡ Wrong q → p ≡ q
wrong_one p q e = cc

pub first_segment-requires-clause-low : goal.first_segment-requires-clause-low
first_segment-requires-clause-low g c = let t = c.read_counts.ensures.counts.is_tally in omega (arith, c.in-Some.ensures.broken.0, t.height_is, t.hmax_is)

pub first_segment-requires-clause-small : goal.first_segment-requires-clause-small
first_segment-requires-clause-small g c =
    let t = c.read_counts.ensures.counts.is_tally in
    let more : 2 ^ c.read_counts.new.tally.height ≤ 2 ^ 16 = pow_mono {i = c.read_counts.new.tally.height} {j = 16} (omega (arith, t.height_is, t.hmax_is)) in
    omega (arith, c.in-Some.ensures.broken.1, more)

pub returns-in-None-clause-counted : goal.returns-in-None-clause-counted
returns-in-None-clause-counted g c told =
    let tall : 2 ^ c.read_counts.new.tally.height ≡ 2 ^ c.args.tally.now.height = ap (λ (t : TallyView). 2 ^ t.height) c.read_counts.ensures.counts.kept in
    counts_are_read c.args.layout.now c.args.tally.now.height c.read_counts.new.tally.counts (g.S.Station.view c.args.station.now).held (c.read_counts.ensures.counts.is_tally.size ∙ tall) (c.in_ok-read_counts.ensures.counted told)

pub returns-in-None-clause-balanced : goal.returns-in-None-clause-balanced
returns-in-None-clause-balanced g c = c.in-None.ensures.balanced refl

pub returns-in-Some-clause-refused : goal.returns-in-Some-clause-refused
returns-in-Some-clause-refused g c told place e =
    let l = c.args.layout.now in
    let w = c.in-Some.window in
    let tall : c.read_counts.new.tally.height ≡ c.args.tally.now.height = ap (λ (t : TallyView). t.height) c.read_counts.ensures.counts.kept in
    let counts : c.read_counts.new.tally.counts ≡ counts_read c.args.layout.now c.args.tally.now.height (g.S.Station.view c.args.station.now).held =
    counts_are_read c.args.layout.now c.args.tally.now.height c.read_counts.new.tally.counts (g.S.Station.view c.args.station.now).held (c.read_counts.ensures.counts.is_tally.size ∙ ap (λ (h : ℕ). 2 ^ h) tall) (c.in_ok-read_counts.ensures.counted told) in
    let same : count_place c.args.layout.now (c.in-Some.window.number * 2 ^ c.in-Some.window.height) ≡ place = ap (count_place c.args.layout.now) (sym c.first_segment.ensures) ∙ wrong_one (count_place c.args.layout.now c.first_segment.result) place (sym c.wrong_count.ensures ∙ e) in
    subst (λ (p : ℕ). windows_reason c.args.layout.now c.args.tally.now.height (g.S.Station.view c.args.station.now).held ≡ Some (Index p)) same
    (subst (λ (ns : List ℕ). first_reason (row_reason c.args.layout.now c.args.tally.now.height ns) (c.args.tally.now.height + 1) ≡ Some (Index (count_place c.args.layout.now (c.in-Some.window.number * 2 ^ c.in-Some.window.height)))) counts
    (subst (λ (h : ℕ). first_reason (row_reason c.args.layout.now h c.read_counts.new.tally.counts) (h + 1) ≡ Some (Index (count_place c.args.layout.now (c.in-Some.window.number * 2 ^ c.in-Some.window.height)))) tall (c.in-Some.ensures.broken.2 c.args.layout.now)))

-- all counts were read
pub returns-in-Some-clause-named : goal.returns-in-Some-clause-named
returns-in-Some-clause-named g c place e =
    let tall : 2 ^ c.read_counts.new.tally.height ≡ 2 ^ c.args.tally.now.height = ap (λ (t : TallyView). 2 ^ t.height) c.read_counts.ensures.counts.kept in
    record {
      segment = c.first_segment.result;
      read = 2 ^ c.args.tally.now.height;
      place_is = sym (wrong_one (count_place c.args.layout.now c.first_segment.result) place (sym c.wrong_count.ensures ∙ e));
      among = record { below = omega (arith, c.first_segment.ensures, c.in-Some.ensures.broken.1, tall); most = omega arith; last = inr refl };
      travel = c.in_ok-read_counts.ensures.reads.travel;
    }

pub returns-in_err-read_counts-clause-refused : goal.returns-in_err-read_counts-clause-refused
returns-in_err-read_counts-clause-refused g c =
    let p = err_from_is_err_and c.from_residual.result c.from_residual.ensures.1 in
    rw (p.1, p.2) (λ told place e.
    count_fails_reason c.args.layout.now c.args.tally.now.height (g.S.Station.view c.args.station.now).held place (c.in_err-read_counts.ensures.refused told place e))

pub returns-in-Some-clause-reads : goal.returns-in-Some-clause-reads
returns-in-Some-clause-reads g c = record {
  steps = c.read_counts.ensures.reads.steps;
  travel = tt;
  front = c.read_counts.ensures.reads.front;
  calls = c.read_counts.ensures.reads.calls;
  failed = λ failed. absurd (never_wrong {T = Unit {0}} c.wrong_count.result (count_place c.args.layout.now c.first_segment.result) c.wrong_count.ensures failed);
}

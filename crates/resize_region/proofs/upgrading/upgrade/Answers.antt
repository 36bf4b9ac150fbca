use Rattle.std.proofs.Common.{arith, ◌≡◌, inl, inr, ℕ, ◌+◌, ◌*◌, ◌^◌, Bool, true, false, sum, slice_range, sym, ap, subst, ◌∙◌}
use Rattle.std.specs.Prelude.{Result, Ok, Err, Option, Some, None}
use Rattle.std.proofs.lemmas.Bool.{false≢true}
use Rattle.std.proofs.lemmas.Nat.{pow_pos}
use Rattle.std.proofs.lemmas.Result.{err_from_is_err_and}
use Rattle.redo_journal.specs.Rest.{RestsAt}
use Rattle.range_scan.specs.SegmentFaults.{IsDamageAt}
use Rattle.segment.specs.declared.fault.StoreFault.{StoreFault}
use Rattle.resize_region.specs.declared.outcome.Upgrade.{Upgrade}
use Rattle.resize_region.specs.declared.outcome.Upgrade.TheVariants.{Done}
use Rattle.resize_region.specs.Upgraded.{TooManyFor}
use Rattle.resize_region.proofs.ResizeLaws.{leaves_all}
use Rattle.resize_region.proofs.upgrading.upgrade.Goals as goal
use Rattle.resize_region.proofs.upgrading.upgrade.Goals.{After-count-records}

-- the records, by the tally
records_are : (g : _) (c : After-count-records g) → c.count-records.result ≡ sum c.args.tally.now.counts
records_are g c =
    let t = c.args.tally.now in
    c.count-records.ensures ∙ ap (λ (h : ℕ). sum (slice_range t.counts (0 * 2 ^ h) ((0 + 1) * 2 ^ h))) c.height.ensures.height ∙ ap sum (leaves_all t c.height.ensures.tally)

abbrev answer_in : Result Upgrade StoreFault → Upgrade
answer_in (Ok answer) = answer
answer_in (Err fault) = Done

abbrev refusal_in : Option Upgrade → Upgrade
refusal_in (Some answer) = answer
refusal_in None = Done

abbrev is_done : Upgrade → Bool
is_done Done = true
is_done _ = false

pub widen-requires-clause-can : goal.widen-requires-clause-can
widen-requires-clause-can g c = record { layout = c.requires.layout; region = c.requires.region; reach = c.requires.reach; journal = c.requires.journal; hmax = c.requires.hmax; stands = c.requires.stands; nothing = c.requires.nothing; bare = c.requires.bare }

pub returns-in-Some-clause-too_many : goal.returns-in-Some-clause-too_many
returns-in-Some-clause-too_many g c n =
    let l = c.args.place.now.layout in
    let same = records_are g (goal.at.returns-in-Some-clause-too_many g c).After-count-records in (
      λ is. subst (λ (k : ℕ). TooManyFor l k n) same ((c.in-Some.ensures.too_many n).0 (λ i. Some (ap answer_in is i))),
      λ for. λ i. Ok (ap refusal_in ((c.in-Some.ensures.too_many n).1 (subst (λ (k : ℕ). TooManyFor l k n) (sym same) for)) i),
    )

pub returns-clause-too_many : goal.returns-clause-too_many
returns-clause-too_many g c n =
    let same = records_are g (goal.at.returns-clause-too_many g c).After-count-records in (
      λ is. absurd (false≢true (ap is_done (sym (ap answer_in is)))),
      λ for. absurd (omega (arith, for.above, same, c.refusal.ensures.few c.in_default.is)),
    )

pub returns-clause-rests : goal.returns-clause-rests
returns-clause-rests g c = subst (λ (turn : ℕ). RestsAt c.widen.new.place.layout turn (g.S.Station.view c.widen.new.station)) (sym c.widen.ensures.same_turn) (c.in_ok-widen.ensures.spread.rests c.args.frames.now.turn c.requires.rests)

-- Why it failed.

pub returns-in_err-widen-clause-cause : goal.returns-in_err-widen-clause-cause
returns-in_err-widen-clause-cause g c =
    let p = err_from_is_err_and c.from_residual.result c.from_residual.ensures.1 in
    rw (p.1, p.2) (elim c.in_err-widen.ensures.spread.cause [
      | inl failed ↦ (0, pow_pos c.args.tally.now.height, subst (IsDamageAt 0 c.args.tally.now.counts) (sym failed) tt)
      | inr damage ↦ (damage.0, damage.1, damage.2)
    ])

pub returns-in_err-widen-clause-last : goal.returns-in_err-widen-clause-last
returns-in_err-widen-clause-last g c =
    let p = err_from_is_err_and c.from_residual.result c.from_residual.ensures.1 in
    rw (p.1, p.2) (elim c.in_err-widen.ensures.spread.cause [ inl failed ↦ inl failed | inr damage ↦ inr (damage.0, damage.2, damage.3) ])

use Rattle.std.proofs.Common.{◌≡◌, length, take, inr, sym, ap, ◌∙◌, arith}
use Rattle.std.proofs.lemmas.List.{length-take-le}
use Rattle.one_commit.specs.Fitting.{fit_one_commit}
use Rattle.pma_store.proofs.FittingLaws.{not_false, fits_is}
use Rattle.pma_store.proofs.validation.list_fitting.Goals as goal

pub shared_ref_as_front-fits_one_commit : goal.shared_ref_as_front-fits_one_commit
shared_ref_as_front-fits_one_commit c = omega (arith, c.list_changes-count.ensures.few, c.requires.intent.most)

pub returns-clause-most : goal.returns-clause-most
returns-clause-most c = omega (arith, c.list_changes-count.ensures.few, c.requires.intent.most)

pub returns-clause-fits : goal.returns-clause-fits
returns-clause-fits c =
    let n = c.list_changes-count.result in
    let changes = c.list_changes-count.new.changes in
    let size : length (take n changes) ≡ n = length-take-le n changes (omega (arith, c.list_changes-count.ensures.few, c.requires.intent.most)) in
    record {
      whole = not_false c.args.look.now.whole c.if-not-look.false;
      few = omega (arith, c.if-from-edits.false, c.edits.ensures, c.from.ensures);
      listed = omega (arith, size, c.list_changes-count.ensures.few);
      in_store = c.list_changes-count.ensures.in_store _ c.requires.within;
      changes_are = λ array some ascends belong finds. c.list_changes-count.ensures.listed array _ some ascends belong c.requires.within finds;
      fit = fits_is _ _ c.fits_one_commit.ensures c.if-not-fits_one_commit.false;
      kinds = c.list_changes-count.ensures.kinds;
      counts_are = c.requires.counted;
    }

pub returns-then-not-fits_one_commit-clause-unfit : goal.returns-then-not-fits_one_commit-clause-unfit
returns-then-not-fits_one_commit-clause-unfit c = λ _.
    inr (inr (λ array some ascends belong finds.
    let listed = c.list_changes-count.ensures.listed array _ some ascends belong c.requires.within finds in
    ap (fit_one_commit c.args.tally.now.height c.args.tally.now.counts) (sym listed) ∙ sym c.fits_one_commit.ensures ∙ c.if-not-fits_one_commit.true))

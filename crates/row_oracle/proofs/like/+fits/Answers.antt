-- Proofs of the goals of `+fits` (`like`).
use Rattle.std.proofs.Common.{◌∙◌, sym}
use Rattle.meaning.specs.Like.{characters_fit}
use Rattle.meaning.proofs.LikeLemmas.{fits-nothing, fits-match, fits-mismatch, after_any_run-here}
use Rattle.row_oracle.proofs.like.+fits.Goals as goal

pub fits-returns-in-None : goal.fits-returns-in-None
fits-returns-in-None t c =
    sym (fits-nothing _ _ _ _ c.in-Some.ensures.cases.0 c.if-p-eq37.false c.in-None.ensures.cases)

pub fits-returns-then-fits_one : goal.fits-returns-then-fits_one
fits-returns-then-fits_one t c =
    c.fits.ensures
    ∙ sym (fits-match _ _ _ _ _ _ c.in-Some.ensures.cases.0 c.if-p-eq37.false c.in-Some-split_first.ensures.cases.0
    (sym c.if-fits_one.ensures))

pub fits-returns-else-fits_one : goal.fits-returns-else-fits_one
fits-returns-else-fits_one t c =
    c.if-fits_one.false
    ∙ sym
    (fits-mismatch _ _ _ _ _ _ c.in-Some.ensures.cases.0 c.if-p-eq37.false c.in-Some-split_first.ensures.cases.0
    (sym c.if-fits_one.ensures))

pub fits_after_any_run-returns-then-fits : goal.fits_after_any_run-returns-then-fits
fits_after_any_run-returns-then-fits t c = sym (after_any_run-here (characters_fit c.args.pattern.now) _ (sym c.if-fits.ensures))
    ∙ c.loop-rest.invariant

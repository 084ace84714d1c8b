-- Loop invariants of `+fits` (`like`).
use Rattle.std.proofs.Common.{◌≡◌, ◌+◌, ◌*◌, length}
use Rattle.meaning.specs.Like.{after_any_run, characters_fit}
use Rattle.row_oracle.proofs.like.+fits.Given as goal

abbrev pub decreases-fits : goal.decreases-fits
decreases-fits l = 2 * length l.pattern.now

abbrev pub decreases-fits_after_any_run : goal.decreases-fits_after_any_run
decreases-fits_after_any_run l = 2 * length l.pattern.now + 1

-- what is left decides
abbrev pub invariant-fits_after_any_run-loop-rest : goal.invariant-fits_after_any_run-loop-rest
invariant-fits_after_any_run-loop-rest l = after_any_run (characters_fit l.pattern) l.rest ≡ after_any_run (characters_fit l.pattern) l.text

abbrev pub decreases-fits_after_any_run-loop-rest : goal.decreases-fits_after_any_run-loop-rest
decreases-fits_after_any_run-loop-rest l = length l.rest

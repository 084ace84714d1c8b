-- Proofs of the goals of `is_like` (`wildcards`).
use Rattle.std.proofs.Common.{sym, ◌∙◌}
use Rattle.meaning.specs.Like.{is_like}
use Rattle.lane_loops.proofs.wildcards.is_like.Goals as goal

pub returns-in-Fits : goal.returns-in-Fits
unfolding is_like
returns-in-Fits c = sym c.in-Fits.ensures.here

pub returns-in-Differs : goal.returns-in-Differs
unfolding is_like
returns-in-Differs c = sym c.in-Differs.ensures.here

pub returns-in-UpToSign : goal.returns-in-UpToSign
unfolding is_like
returns-in-UpToSign c = c.fits_some_rest.ensures ∙ sym c.in-UpToSign.ensures.here

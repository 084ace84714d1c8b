-- Proofs of the goals of `Gather::from_state` (`gather`).
use Rattle.gathering.proofs.StateFiles.{held_state}
use Rattle.gathering.proofs.gather.Gather.from_state.Goals as goal

pub holding-requires-clause-fitting : goal.holding-requires-clause-fitting
holding-requires-clause-fitting c = held_state c.args.job c.in-Ok.cells.items c.in-Ok.ensures.spelled.fits

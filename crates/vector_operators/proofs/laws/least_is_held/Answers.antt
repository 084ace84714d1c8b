-- Proofs of the goals of `least_is_held` (`laws`).
use Rattle.vector_operators.proofs.Least.{evaluated}
use Rattle.vector_operators.proofs.laws.least_is_held.Goals as goal

pub returns : goal.returns
returns c = λ meant lanes s held new is never ev. evaluated meant s.list held new lanes never ev is.ascending

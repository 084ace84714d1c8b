-- Proofs of the goals of `states_join` (`laws`).
use Rattle.gathering.proofs.Joined.{join_states-comm, join_states-assoc, join_states_same}
use Rattle.gathering.proofs.laws.states_join.Goals as goal

pub returns : goal.returns
returns c = record { commutes = join_states-comm; associates = join_states-assoc; repeats = join_states_same }

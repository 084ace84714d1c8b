-- Proofs of the goals of `states_of_heard` (`laws`).
use Rattle.meaning_laws.proofs.Schedules.{state_after-heard}
use Rattle.meaning_laws.proofs.laws.states_of_heard.Goals as goal

pub returns : goal.returns
returns c = state_after-heard

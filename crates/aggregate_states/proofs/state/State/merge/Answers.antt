-- Proofs of the goals of `State::merge` (`state`).
use Rattle.std.specs.List.{list_all}
use Rattle.std.proofs.Common.{◌≡◌, ◌∙◌, ap, true, rules}
use Rattle.meaning.specs.declared.answer.Statistics.{Statistics}
use Rattle.aggregate_states.specs.Values.{is_spelled}
use Rattle.aggregate_states.proofs.Once.{union_spelled}
use Rattle.aggregate_states.proofs.state.State.merge.Goals as goal

pub from_statistics-requires : goal.from_statistics-requires
from_statistics-requires c =
    let spelled = λ (s : Statistics). list_all is_spelled s.entries in
    let one = c.into_statistics-one in
    let other = c.into_statistics-other in
    let entries : list_all is_spelled c.in_ok-entries.entries ≡ true = ap (list_all is_spelled) c.in_ok-entries.ensures.value
    ∙ union_spelled one.result.entries other.result.entries (ap spelled one.ensures.value ∙ one.ensures.state.entries) (ap spelled other.ensures.value ∙ other.ensures.state.entries) in
    record { count = search rules; sum = search rules; least = search rules; greatest = search rules; entries = entries }

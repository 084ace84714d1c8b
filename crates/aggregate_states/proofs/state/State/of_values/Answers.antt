-- Proofs of the goals of `State::of_values` (`state`).
use Rattle.std.specs.List.{list_all}
use Rattle.std.proofs.Common.{◌∙◌, ap}
use Rattle.meaning.specs.Order.{value_cmp}
use Rattle.meaning.proofs.Tests.{all_set}
use Rattle.aggregate_states.specs.Values.{is_spelled}
use Rattle.aggregate_states.proofs.state.State.of_values.Goals as goal

pub of_entries-requires : goal.of_entries-requires
of_entries-requires c =
    ap (list_all is_spelled) (c.from_vec.ensures ∙ c.in_ok-sort_once.ensures.ok) ∙ all_set value_cmp is_spelled c.args.values.items c.requires

-- Proofs of the goals of `OrderedSets::state` (`ordered_sets`).
use Rattle.std.specs.Borrow.{Bor}
use Rattle.std.specs.List.{list_all}
use Rattle.std.proofs.Common.{List, ap, ◌∙◌}
use Rattle.aggregate_states.specs.Values.{is_spelled}
use Rattle.distinct_sets.specs.declared.entry.Entry.{Entry}
use Rattle.distinct_sets.specs.Sets.{in_group, lent}
use Rattle.distinct_sets.proofs.ByGroup.{handed_out, spelled_in_group}
use Rattle.distinct_sets.proofs.ordered_sets.OrderedSets.state.Goals as goal

pub of_values-requires : goal.of_values-requires
of_values-requires c =
    let g = c.in_ok-group_index.group_index in
    let all = c.self.inside.entries.items in
    ap (list_all is_spelled)
    (c.in_ok-values.ensures ∙ c.up_to_group.ensures ∙ c.from_group-entries.ensures.same ∙ ap (λ (bs : List (Bor Entry)). in_group g (lent bs)) c.as_slice.ensures.value)
    ∙ spelled_in_group g (lent all) c.self.invariant.sets.spelled

pub returns : goal.returns
returns c =
    let g = c.in_ok-group_index.group_index in
    let all = c.self.inside.entries.items in
    handed_out c.self.inside.groups c.args.group_index g (lent all) c.args.self.now c.self.view_is c.in_ok-group_index.ensures c.requires
    c.in_ok-values.values.items c.of_values.result
    (c.in_ok-values.ensures ∙ c.up_to_group.ensures ∙ c.from_group-entries.ensures.same ∙ ap (λ (bs : List (Bor Entry)). in_group g (lent bs)) c.as_slice.ensures.value)
    c.of_values.ensures

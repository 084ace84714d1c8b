-- Proofs of the goals of `slice` (`unmade_groups`).
use Rattle.std.proofs.Common.{◌-◌, List, ap, drop, take, ◌∙◌}
use Rattle.meaning.specs.declared.answer.Group.{Group}
use Rattle.group_by.specs.KeyOrder.{group_in, groups_at}
use Rattle.group_by.proofs.Sorting.{some_mapped}
use Rattle.group_by.proofs.unmade_groups.UnmadeGroups.slice.Goals as goal

pub returns : goal.returns
returns c =
    let t = c.self.inside in
    let from = c.args.from in
    let n = c.args.to - c.args.from in
    (λ i. groups_at t.keys.now t.rows.now (c.as_slice.ensures.value i) (take n (drop from (c.as_slice-order.ensures.value i))))
    ∙ some_mapped (group_in t.keys.now t.rows.now t.columns.items) t.order.items from n
    ∙ ap (λ (gs : List Group). take n (drop from gs)) c.self.view_is

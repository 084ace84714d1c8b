-- Proofs of the goals of `part` (`unmade_groups`).
use Rattle.std.proofs.Common.{◌-◌, List, ap, drop, take, ◌∙◌}
use Rattle.meaning.specs.declared.answer.Group.{Group}
use Rattle.group_by.specs.KeyOrder.{group_in}
use Rattle.group_by.proofs.Sorting.{some_mapped}
use Rattle.group_by.proofs.unmade_groups.UnmadeSlice.part.Goals as goal

pub returns : goal.returns
returns c =
    let t = c.self.inside in
    let from = c.args.from in
    let n = c.args.to - c.args.from in
    some_mapped (group_in t.keys.now t.rows.now t.columns.now) t.order.now from n ∙ ap (λ (gs : List Group). take n (drop from gs)) c.self.view_is

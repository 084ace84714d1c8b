-- Proofs of the goals of `batch` (`unmade_groups`).
use Rattle.std.proofs.Common.{◌≡◌, ◌-◌, List, Global, Vec, ap, drop, take, ◌∙◌}
use Rattle.std.proofs.lemmas.Result.{IfOk-weaker}
use Rattle.meaning.specs.declared.answer.Group.{Group}
use Rattle.group_by.specs.KeyOrder.{group_in, groups_at}
use Rattle.group_by.proofs.Sorting.{some_mapped}
use Rattle.group_by.proofs.unmade_groups.UnmadeGroups.batch.Goals as goal

pub returns : goal.returns
returns c =
    let t = c.self.inside in
    let from = c.args.from in
    let n = c.args.to - c.args.from in
    IfOk-weaker c.made_groups.result
    (λ (gs : Vec Group Global). gs.items ≡ groups_at t.keys.now t.rows.now c.as_slice.result.now (take n (drop from c.as_slice-order.result.now)))
    (λ (gs : Vec Group Global). gs.items ≡ take n (drop from c.args.self.now))
    (λ gs is.
    is
    ∙ (λ i. groups_at t.keys.now t.rows.now (c.as_slice.ensures.value i) (take n (drop from (c.as_slice-order.ensures.value i))))
    ∙ some_mapped (group_in t.keys.now t.rows.now t.columns.items) t.order.items from n
    ∙ ap (λ (gs : List Group). take n (drop from gs)) c.self.view_is)
    c.made_groups.ensures

-- Proofs of the goals of `key` (`unmade_groups`).
use Rattle.std.proofs.Common.{◌≡◌, ℕ, [], get_or, ap, ◌∙◌}
use Rattle.std.proofs.lemmas.Result.{IfOk-weaker}
use Rattle.meaning.specs.declared.answer.Group.{Group}
use Rattle.meaning.specs.Order.{Row}
use Rattle.group_by.proofs.Slices.{group_there, in_keys}
use Rattle.group_by.proofs.unmade_groups.UnmadeSlice.key.Goals as goal

pub row-requires : goal.row-requires
row-requires c =
    let t = c.self.inside in
    in_keys t.keys.now t.rows.now t.columns.now c.args.self.now t.order.now c.self.invariant c.self.view_is c.args.group c.group_index_of-group_index.result c.requires c.group_index_of-group_index.ensures

pub returns : goal.returns
returns c =
    let t = c.self.inside in
    IfOk-weaker c.row.result
    (λ (key : Row). key ≡ get_or t.keys.now c.group_index_of-group_index.result [])
    (λ (key : Row). (d : Group) → key ≡ (get_or c.args.self.now c.args.group d).key)
    (λ key is d. is ∙ ap (λ (g : Group). g.key) (group_there t.keys.now t.rows.now t.columns.now c.args.self.now t.order.now c.self.invariant c.self.view_is c.args.group c.group_index_of-group_index.result c.requires c.group_index_of-group_index.ensures d))
    c.row.ensures

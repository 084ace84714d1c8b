-- Proofs of the goals of `key_value` (`unmade_groups`).
use Rattle.std.proofs.Common.{ap, ◌∙◌}
use Rattle.meaning.specs.declared.answer.Group.{Group}
use Rattle.meaning.specs.Order.{column}
use Rattle.group_by.proofs.Slices.{group_there, in_keys}
use Rattle.group_by.proofs.unmade_groups.UnmadeSlice.key_value.Goals as goal

pub value-requires : goal.value-requires
value-requires c =
    let t = c.self.inside in
    in_keys t.keys.now t.rows.now t.columns.now c.args.self.now t.order.now c.self.invariant c.self.view_is c.args.group c.group_index_of-group_index.result c.requires c.group_index_of-group_index.ensures

pub returns : goal.returns
returns c = λ d.
    let t = c.self.inside in
    c.value.ensures ∙ ap (λ (g : Group). column g.key c.args.at) (group_there t.keys.now t.rows.now t.columns.now c.args.self.now t.order.now c.self.invariant c.self.view_is c.args.group c.group_index_of-group_index.result c.requires c.group_index_of-group_index.ensures d)

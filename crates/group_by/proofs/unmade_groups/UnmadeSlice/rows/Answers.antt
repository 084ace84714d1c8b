-- Proofs of the goals of `rows` (`unmade_groups`).
use Rattle.std.proofs.Common.{◌<◌, ℕ, get_or, length, ap, sym, subst, ◌∙◌}
use Rattle.meaning.specs.declared.answer.Group.{Group}
use Rattle.group_by.proofs.Slices.{group_there, in_keys}
use Rattle.group_by.proofs.unmade_groups.UnmadeSlice.rows.Goals as goal

pub returns : goal.returns
returns c = λ d.
    let t = c.self.inside in
    ap (λ (g : Group). g.rows) (group_there t.keys.now t.rows.now t.columns.now c.args.self.now t.order.now c.self.invariant c.self.view_is c.args.group c.group_index_of-group_index.result c.requires c.group_index_of-group_index.ensures d)

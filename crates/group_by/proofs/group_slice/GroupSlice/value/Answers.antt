-- Proofs of the goals of `value` (`group_slice`).
use Rattle.std.proofs.Common.{◌≡◌, ◌<◌, List, length, get_or, ap, sym, subst, ◌∙◌}
use Rattle.meaning.specs.declared.answer.Group.{Group}
use Rattle.group_by.specs.OrderedGroups.{groups_lent}
use Rattle.group_by.proofs.group_slice.GroupSlice.value.Goals as goal

pub value_in_group-requires : goal.value_in_group-requires
value_in_group-requires c =
    let g = c.group_in.result.now in
    let made : c.in-Made.groups.now ≡ c.args.self.now = sym (ap groups_lent c.in-Made.is) ∙ c.self.view_is in
    subst (λ (h : Group). c.args.aggregate < length h.states) (sym (c.group_in.ensures g ∙ ap (λ (gs : List Group). get_or gs c.args.group g) made)) (c.requires.aggregate g)

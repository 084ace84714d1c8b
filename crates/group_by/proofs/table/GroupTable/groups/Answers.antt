-- Proofs of the goals of `groups` (`table`).
use Rattle.std.proofs.Common.{List, All, ap, subst, sym, refl, ◌∙◌}
use Rattle.meaning.specs.declared.answer.Group.{Group}
use Rattle.group_by.specs.Groups.{all_rows}
use Rattle.group_by.specs.Rows.{IsGroupOf}
use Rattle.group_by.specs.Shape.{Shape, GroupsSpec, shape_with}
use Rattle.group_by.proofs.Batches.{kinds_of}
use Rattle.group_by.proofs.Own.{own_groups, own_rows}
use Rattle.group_by.proofs.Handing.{handed_out, in_its_order}
use Rattle.group_by.proofs.table.GroupTable.groups.Goals as goal

pub returns-clause-value : goal.returns-clause-value
returns-clause-value c =
    let t = c.self.inside in
    c.from_vec.ensures
    ∙ handed_out t.is_certain t.index.keys t.rows.items t.columns.items t.taken c.in_ok-groups.groups.items c.self.invariant
    (in_its_order c.in_ok-groups.ensures refl c.as_slice.ensures.value c.as_slice-2.ensures.value)
    ∙ ap (λ (s : GroupsSpec). s.groups) c.self.view_is

pub returns-clause-fit : goal.returns-clause-fit
returns-clause-fit c =
    let t = c.self.inside in
    subst (λ (s : Shape). All (IsGroupOf s) c.from_vec.result) (ap (λ (s : GroupsSpec). s.shape) c.self.view_is)
    (subst (λ (gs : List Group). All (IsGroupOf (shape_with t.is_certain (kinds_of t.columns.items))) gs) (sym c.from_vec.ensures)
    (own_groups t.is_certain t.index.keys t.rows.items t.columns.items t.taken c.in_ok-groups.groups.items c.self.invariant
    (in_its_order c.in_ok-groups.ensures refl c.as_slice.ensures.value c.as_slice-2.ensures.value)))

pub returns-clause-rows : goal.returns-clause-rows
returns-clause-rows c =
    let t = c.self.inside in
    ap all_rows c.from_vec.ensures
    ∙ own_rows t.is_certain t.index.keys t.rows.items t.columns.items t.taken c.in_ok-groups.groups.items c.self.invariant
    (in_its_order c.in_ok-groups.ensures refl c.as_slice.ensures.value c.as_slice-2.ensures.value)
    ∙ ap (λ (s : GroupsSpec). s.rows) c.self.view_is

-- Proofs of the goals of `ordered` (`table`).
use Rattle.std.proofs.Common.{◌≡◌, List, length, All, ap, refl, subst, sym, ◌∙◌}
use Rattle.std.proofs.lemmas.Result.{IfOk-weaker}
use Rattle.meaning.specs.declared.answer.Group.{Group}
use Rattle.accumulators.specs.Columns.{ColumnSpec}
use Rattle.group_by.specs.Combined.{IsInOrder}
use Rattle.group_by.specs.Groups.{all_rows}
use Rattle.group_by.specs.Rows.{IsGroupOf}
use Rattle.group_by.specs.Shape.{Shape, GroupsSpec}
use Rattle.group_by.proofs.Own.{own_groups, own_rows}
use Rattle.group_by.proofs.Handing.{all_heights, handed_out, in_its_order}
use Rattle.group_by.proofs.table.GroupTable.ordered.Goals as goal

pub ordered_groups-requires-clause-columns : goal.ordered_groups-requires-clause-columns
ordered_groups-requires-clause-columns c =
    let t = c.self.inside in
    subst (λ (cs : List ColumnSpec). All (λ (col : ColumnSpec). length col.states ≡ length t.index.keys) cs) (sym (c.in_ok-columns.ensures ∙ c.as_slice.ensures.value))
    (all_heights t.columns.items (length t.index.keys) c.self.invariant.heights)

pub returns-clause-value : goal.returns-clause-value
returns-clause-value c =
    let t = c.self.inside in
    IfOk-weaker c.ordered_groups.result (IsInOrder t.index.keys c.as_slice-2.result.now c.in_ok-columns.columns.items) (λ (gs : List Group). gs ≡ c.args.self.now.groups)
    (λ gs order.
    handed_out t.is_certain t.index.keys t.rows.items t.columns.items t.taken gs c.self.invariant
    (in_its_order order refl c.as_slice-2.ensures.value (c.in_ok-columns.ensures ∙ c.as_slice.ensures.value))
    ∙ ap (λ (s : GroupsSpec). s.groups) c.self.view_is)
    c.ordered_groups.ensures

pub returns-clause-fit : goal.returns-clause-fit
returns-clause-fit c =
    let t = c.self.inside in
    IfOk-weaker c.ordered_groups.result (IsInOrder t.index.keys c.as_slice-2.result.now c.in_ok-columns.columns.items) (λ (gs : List Group). All (IsGroupOf c.args.self.now.shape) gs)
    (λ gs order.
    subst (λ (s : Shape). All (IsGroupOf s) gs) (ap (λ (s : GroupsSpec). s.shape) c.self.view_is)
    (own_groups t.is_certain t.index.keys t.rows.items t.columns.items t.taken gs c.self.invariant
    (in_its_order order refl c.as_slice-2.ensures.value (c.in_ok-columns.ensures ∙ c.as_slice.ensures.value))))
    c.ordered_groups.ensures

pub returns-clause-rows : goal.returns-clause-rows
returns-clause-rows c =
    let t = c.self.inside in
    IfOk-weaker c.ordered_groups.result (IsInOrder t.index.keys c.as_slice-2.result.now c.in_ok-columns.columns.items) (λ (gs : List Group). all_rows gs ≡ c.args.self.now.rows)
    (λ gs order.
    own_rows t.is_certain t.index.keys t.rows.items t.columns.items t.taken gs c.self.invariant
    (in_its_order order refl c.as_slice-2.ensures.value (c.in_ok-columns.ensures ∙ c.as_slice.ensures.value))
    ∙ ap (λ (s : GroupsSpec). s.rows) c.self.view_is)
    c.ordered_groups.ensures

-- Proofs of the goals of `aggregate_column` (`group_columns`).
use Rattle.std.proofs.Common.{◌≡◌, true, List, map, get_or, ap, sym, subst, ◌∙◌}
use Rattle.std.specs.Prelude.{All}
use Rattle.meaning.specs.declared.plan.Aggregate.{Aggregate}
use Rattle.meaning.specs.declared.value.ColType.{ColType}
use Rattle.meaning.specs.declared.value.Value.{Value}
use Rattle.meaning.specs.Order.{value_in}
use Rattle.meaning.specs.Typing.{is_of_type}
use Rattle.last_step.specs.Batches.{IsVectorOf}
use Rattle.last_step.proofs.GroupColumns.{aggregate_column_is, aggregates_of_type, have_at}
use Rattle.last_step.proofs.group_columns.aggregate_column.Goals as goal

pub aggregates_of-requires : goal.aggregates_of-requires
aggregates_of-requires c =
    let at = c.index-as_slice-aggregate.is ∙ ap (λ (xs : List Aggregate). get_or xs c.args.aggregate c.index-as_slice-aggregate.result) c.as_slice.ensures in
    (c.args.plan.now, have_at c.args.plan.now c.args.groups.now c.args.aggregate c.index-as_slice-aggregate.result c.requires.within at c.requires.groups c.requires.values)

pub vector_of-requires : goal.vector_of-requires
vector_of-requires c =
    let at = c.index-as_slice-aggregate.is ∙ ap (λ (xs : List Aggregate). get_or xs c.args.aggregate c.index-as_slice-aggregate.result) c.as_slice.ensures in
    let have = have_at c.args.plan.now c.args.groups.now c.args.aggregate c.index-as_slice-aggregate.result c.requires.within at c.requires.groups c.requires.values in
    let given : List Value = map value_in c.as_slice-2.result.now in
    let are = ap (map value_in) c.as_slice-2.ensures.value ∙ c.in_ok-values.ensures c.args.plan.now have in
    subst (λ (t : ColType). All (λ v. is_of_type t v ≡ true) given) (sym c.result_type.ensures)
    (aggregates_of_type c.args.plan.now c.args.groups.now c.args.aggregate c.index-as_slice-aggregate.result given c.requires.within at c.requires.groups c.requires.values are)

pub returns : goal.returns
returns c =
    let at = c.index-as_slice-aggregate.is ∙ ap (λ (xs : List Aggregate). get_or xs c.args.aggregate c.index-as_slice-aggregate.result) c.as_slice.ensures in
    let have = have_at c.args.plan.now c.args.groups.now c.args.aggregate c.index-as_slice-aggregate.result c.requires.within at c.requires.groups c.requires.values in
    let given : List Value = map value_in c.as_slice-2.result.now in
    let are = ap (map value_in) c.as_slice-2.ensures.value ∙ c.in_ok-values.ensures c.args.plan.now have in
    aggregate_column_is c.args.plan.now c.args.groups.now c.args.aggregate c.index-as_slice-aggregate.result given c.in_ok-lanes.lanes c.requires.within at are
    (subst (λ (t : ColType). IsVectorOf t given c.in_ok-lanes.lanes) c.result_type.ensures c.in_ok-lanes.ensures)

-- Proofs of the goals of `key_column` (`group_columns`).
use Rattle.std.proofs.Common.{◌≡◌, true, List, map, get_or, ap, sym, subst, ◌∙◌}
use Rattle.std.specs.Prelude.{All}
use Rattle.meaning.specs.declared.plan.GroupingKey.{GroupingKey}
use Rattle.meaning.specs.declared.value.Value.{Value}
use Rattle.meaning.specs.Order.{value_in}
use Rattle.meaning.specs.Typing.{is_of_type}
use Rattle.last_step.specs.Batches.{IsVectorOf}
use Rattle.last_step.proofs.GroupColumns.{key_column_is, keys_of_type}
use Rattle.last_step.proofs.group_columns.key_column.Goals as goal

pub vector_of-requires : goal.vector_of-requires
vector_of-requires c =
    let k = c.index-keys-key.result in
    let at = c.index-keys-key.is ∙ ap (λ (xs : List GroupingKey). get_or xs c.args.key k) c.as_slice-keys.ensures in
    let given : List Value = map value_in c.as_slice.result.now in
    let are = ap (map value_in) c.as_slice.ensures.value ∙ c.in_ok-values.ensures in
    subst (λ (x : GroupingKey). All (λ v. is_of_type x.col_type v ≡ true) given) c.index-keys-key.is
    (keys_of_type c.args.plan.now c.args.groups.now c.args.key k given c.requires.within at c.requires.groups are)

pub returns : goal.returns
returns c =
    let k = c.index-keys-key.result in
    let at = c.index-keys-key.is ∙ ap (λ (xs : List GroupingKey). get_or xs c.args.key k) c.as_slice-keys.ensures in
    let given : List Value = map value_in c.as_slice.result.now in
    let are = ap (map value_in) c.as_slice.ensures.value ∙ c.in_ok-values.ensures in
    key_column_is c.args.plan.now c.args.groups.now c.args.key k given c.in_ok-lanes.lanes c.requires.within at are
    (subst (λ (x : GroupingKey). IsVectorOf x.col_type given c.in_ok-lanes.lanes) (sym c.index-keys-key.is) c.in_ok-lanes.ensures)

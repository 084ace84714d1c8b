-- Proofs of the goals of `fresh_columns` (`state_columns`).
use Rattle.std.proofs.Common.{List, [], ◌∷◌, ◌++◌, map, take, ap, sym, subst, ◌∙◌}
use Rattle.std.proofs.lemmas.List.{map_more}
use Rattle.meaning.specs.declared.plan.Aggregate.{Aggregate}
use Rattle.meaning.specs.declared.plan.AggregateKind.{AggregateKind}
use Rattle.group_by.specs.GroupIndexes.{AreFresh}
use Rattle.group_by.proofs.FreshColumns.{fresh_more}
use Rattle.group_by.proofs.state_columns.fresh_columns.Goals as goal

pub loop-aggregate-preserved : goal.loop-aggregate-preserved
loop-aggregate-preserved c =
    let aggregates = c.args.aggregates.now in
    let k = c.loop-aggregate.aggregate-index in
    let item = c.aggregate-item.result in
    let kinds = map (λ (a : Aggregate). a.kind) (take k aggregates) in
    let (kind, long, none) = c.in_ok-fresh_column.ensures in
    subst (λ (ks : List AggregateKind). AreFresh c.args.height ks c.push.new.self.items)
    (sym (map_more (λ (a : Aggregate). a.kind) aggregates k item c.loop-aggregate-test.true ∙ ap (λ (a : Aggregate). kinds ++ a.kind ∷ []) (sym c.aggregate-item.is)))
    (fresh_more c.args.height kinds item.kind c.loop-aggregate.columns.items c.push.new.self.items c.in_ok-fresh_column.field-0 c.loop-aggregate.invariant c.in_ok-push.ensures.items kind long none)

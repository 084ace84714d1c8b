-- Proofs of the goals of `batch_of` (`group_columns`).
use Rattle.std.proofs.Common.{sym, subst}
use Rattle.last_step.specs.Batches.{IsPartOf}
use Rattle.last_step.proofs.GroupColumns.{no_columns, whole_batch}
use Rattle.last_step.proofs.group_columns.batch_of.Goals as goal

pub push_keys-requires-clause-batch : goal.push_keys-requires-clause-batch
push_keys-requires-clause-batch c =
    subst (IsPartOf c.args.plan.now c.args.groups.now 0 0) (sym c.new-batch.ensures) (no_columns c.args.plan.now c.args.groups.now c.len.result c.len.ensures c.requires.groups c.requires.values)

pub returns : goal.returns
returns c = whole_batch c.args.plan.now c.args.groups.now c.push_aggregates.new.batch c.in_ok-push_aggregates.ensures c.requires.groups

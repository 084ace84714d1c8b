-- Invariants of `push_aggregates` (`group_columns`).
use Rattle.std.proofs.Common.{length}
use Rattle.last_step.specs.Batches.{IsPartOf}
use Rattle.last_step.proofs.group_columns.push_aggregates.Given as goal

abbrev pub invariant-loop-aggregate : goal.invariant-loop-aggregate
invariant-loop-aggregate l = IsPartOf l.plan l.groups (length l.plan.keys) l.aggregate l.batch

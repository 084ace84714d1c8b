-- Invariants of `aggregates_of` (`group_columns`).
use Rattle.std.proofs.Common.{◌≡◌, map, take}
use Rattle.std.specs.Prelude.{All}
use Rattle.meaning.specs.declared.plan.Plan.{Plan}
use Rattle.meaning.specs.Order.{value_in}
use Rattle.last_step.specs.Batches.{HasAt, aggregate_in}
use Rattle.last_step.proofs.group_columns.aggregates_of.Given as goal

abbrev pub invariant-loop-k : goal.invariant-loop-k
invariant-loop-k l = (plan : Plan) → All (HasAt plan l.kind l.aggregate) l.groups → map value_in l.values.items ≡ map (aggregate_in plan l.aggregate) (take l.k l.groups)

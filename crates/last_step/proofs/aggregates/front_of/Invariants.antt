-- Invariants of `front_of` (`aggregates`).
use Rattle.std.proofs.Common.{take}
use Rattle.std.specs.List.{AllByRecursion}
use Rattle.last_step.specs.Batches.{HasValues}
use Rattle.last_step.proofs.aggregates.front_of.Given as goal

abbrev pub invariant-loop-k : goal.invariant-loop-k
invariant-loop-k l = AllByRecursion (HasValues l.plan) (take l.k l.groups)

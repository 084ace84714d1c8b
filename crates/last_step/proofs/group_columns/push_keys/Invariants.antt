-- Invariants of `push_keys` (`group_columns`).
use Rattle.last_step.specs.Batches.{IsPartOf}
use Rattle.last_step.proofs.group_columns.push_keys.Given as goal

abbrev pub invariant-loop-key : goal.invariant-loop-key
invariant-loop-key l = IsPartOf l.plan l.groups l.key 0 l.batch

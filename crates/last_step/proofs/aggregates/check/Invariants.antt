-- Invariants of `check` (`aggregates`).
use Rattle.std.proofs.Common.{get_or}
use Rattle.meaning.specs.declared.answer.Group.{Group}
use Rattle.last_step.proofs.Checked.{AreJudged}
use Rattle.last_step.proofs.aggregates.check.Given as goal

abbrev pub invariant-loop-k : goal.invariant-loop-k
invariant-loop-k l = (d : Group) → AreJudged l.aggs (get_or l.groups l.group d).states l.k

-- Invariants of `compare` (`ordering`).
use Rattle.std.proofs.Common.{◌≡◌, drop}
use Rattle.meaning.specs.Finish.{order_cmp}
use Rattle.last_step.proofs.ordering.compare.Given as goal

abbrev pub invariant-loop-key : goal.invariant-loop-key
invariant-loop-key l = order_cmp (drop l.key-index l.order) l.one l.other ≡ order_cmp l.order l.one l.other

-- Loop invariants of `are_not_null` (`nulls`).
use Rattle.std.proofs.Common.{length}
use Rattle.std.specs.Prelude.{not}
use Rattle.meaning.specs.declared.outcome.Truth.TheVariants.{Unknown}
use Rattle.meaning.specs.Truth.{known}
use Rattle.lane_loops.specs.Lanes.{null_at}
use Rattle.lane_loops.specs.Lanes.{AreFilled}
use Rattle.lane_loops.proofs.nulls.are_not_null.Given as goal

abbrev pub invariant-loop-i : goal.invariant-loop-i
invariant-loop-i l = AreFilled Unknown (length l.fn.out) l.i (λ i. known (not (null_at l.nulls i))) l.out

-- Loop invariants of `compare_texts_to_at` (`comparing`).
use Rattle.std.proofs.Common.{length}
use Rattle.lane_loops.specs.Lanes.{compared_text_to_bit}
use Rattle.lane_loops.proofs.FillingAt.{AreFilledAt, always}
use Rattle.lane_loops.proofs.comparing.compare_texts_to_at.Given as goal

abbrev pub invariant-loop-position : goal.invariant-loop-position
invariant-loop-position l = AreFilledAt 0 (length l.fn.out) l.positions l.position-index always (compared_text_to_bit l.op l.left l.right) l.out

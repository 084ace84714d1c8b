-- Loop invariants of `compare_texts_to_by` (`comparing`).
use Rattle.std.proofs.Common.{length}
use Rattle.lane_loops.specs.Lanes.{compared_text_to_bit}
use Rattle.lane_loops.specs.Lanes.{AreFilled}
use Rattle.lane_loops.proofs.comparing.compare_texts_to_by.Given as goal

abbrev pub invariant-loop-i : goal.invariant-loop-i
invariant-loop-i l = AreFilled 0 (length l.fn.out) l.i (compared_text_to_bit l.op l.left l.right) l.out

-- Loop invariants of `like_texts` (`like`).
use Rattle.std.proofs.Common.{◌≡◌, true, length}
use Rattle.std.specs.Str.{is_utf8}
use Rattle.lane_loops.specs.Lanes.{like_bit, text_at}
use Rattle.lane_loops.proofs.Filling.{AreFilledWhere}
use Rattle.lane_loops.proofs.like.like_texts.Given as goal

abbrev pub invariant-loop-i : goal.invariant-loop-i
invariant-loop-i l = AreFilledWhere 0 (length l.fn.out) l.i (λ i. is_utf8 (text_at l.texts i) ≡ true) (like_bit l.pattern l.texts) l.out

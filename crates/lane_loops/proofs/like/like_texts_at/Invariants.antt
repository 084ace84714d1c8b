-- Loop invariants of `like_texts_at` (`like`).
use Rattle.std.proofs.Common.{◌≡◌, true, length}
use Rattle.std.specs.Str.{is_utf8}
use Rattle.lane_loops.specs.Lanes.{like_bit, text_at}
use Rattle.lane_loops.proofs.FillingAt.{AreFilledAt}
use Rattle.lane_loops.proofs.like.like_texts_at.Given as goal

abbrev pub invariant-loop-position : goal.invariant-loop-position
invariant-loop-position l = AreFilledAt 0 (length l.fn.out) l.positions l.position-index (λ i. is_utf8 (text_at l.texts i) ≡ true) (like_bit l.pattern l.texts) l.out

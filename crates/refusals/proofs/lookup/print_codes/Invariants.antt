-- Loop invariants of `print_codes` (`lookup`).
use Rattle.std.proofs.Common.{◌≤◌}
use Rattle.refusals.specs.Texts.{PrintsSentences}
use Rattle.refusals.proofs.lookup.print_codes.Given as goal

abbrev pub invariant-loop-number : goal.invariant-loop-number
invariant-loop-number g l = (l.number ≤ 17) × PrintsSentences l.layer l.number (g.W.Write.contents l.fn.out) (g.W.Write.contents l.out)

-- Loop invariants of `mask_of` (`selections`).
use Rattle.std.proofs.Common.{◌≡◌, length}
use Rattle.vector_cases.proofs.selections.mask_of.Given as goal

abbrev pub invariant-loop-word : goal.invariant-loop-word
invariant-loop-word l = length l.mask.items ≡ l.below

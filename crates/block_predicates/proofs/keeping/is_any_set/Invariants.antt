-- Loop invariants of `is_any_set` (`keeping`).
use Rattle.std.proofs.Common.{◌≡◌, take}
use Rattle.std.specs.List.{list_any}
use Rattle.block_predicates.proofs.keeping.is_any_set.Given as goal

abbrev pub invariant-loop-mark : goal.invariant-loop-mark
invariant-loop-mark l = l.is_any ≡ list_any (λ mark. mark) (take l.mark-index l.marks)

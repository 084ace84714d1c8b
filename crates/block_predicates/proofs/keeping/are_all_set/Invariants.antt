-- Loop invariants of `are_all_set` (`keeping`).
use Rattle.std.proofs.Common.{◌≡◌, take}
use Rattle.std.specs.List.{list_all}
use Rattle.block_predicates.proofs.keeping.are_all_set.Given as goal

abbrev pub invariant-loop-mark : goal.invariant-loop-mark
invariant-loop-mark l = l.are_all ≡ list_all (λ mark. mark) (take l.mark-index l.marks)

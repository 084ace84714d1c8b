-- Loop invariants of `are_same_columns` (`agreeing`).
use Rattle.std.proofs.Common.{◌≡◌, take}
use Rattle.init.proofs.agreeing.are_same_columns.Given as goal

abbrev pub invariant-loop-index : goal.invariant-loop-index
invariant-loop-index l = take l.index l.fn.own ≡ take l.index l.fn.others

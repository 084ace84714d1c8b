-- Loop invariants of `columns_of` (`reading`).
use Rattle.std.proofs.Common.{◌≡◌, take}
use Rattle.init.specs.Shown.{columns_of}
use Rattle.init.proofs.reading.columns_of.Given as goal

abbrev pub invariant-loop-index : goal.invariant-loop-index
invariant-loop-index l = l.columns ≡ columns_of (take l.index l.fn.names) (take l.index l.fn.findings)

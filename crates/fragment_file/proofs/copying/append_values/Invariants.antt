-- Loop invariants of `append_values` (`copying`).
use Rattle.std.proofs.Common.{◌≡◌, take}
use Rattle.fragment_file.specs.Copying.{with_values}
use Rattle.fragment_file.proofs.copying.append_values.Given as goal

abbrev pub invariant-loop-i : goal.invariant-loop-i
invariant-loop-i l = l.column ≡ with_values l.fn.column (take l.i l.values.values)

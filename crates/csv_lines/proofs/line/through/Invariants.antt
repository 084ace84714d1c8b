-- Loop invariants of `through` (`line`).
use Rattle.std.proofs.Common.{◌≡◌, ℕ, List, ◌++◌, drop}
use Rattle.csv_lines.specs.Lines.{line_from, place_of}
use Rattle.csv_lines.proofs.line.through.Given as goal

abbrev pub invariant-loop-byte : goal.invariant-loop-byte
invariant-loop-byte l = (rest : List ℕ) → line_from l.index (place_of l.here) (drop l.byte-index l.block ++ rest) ≡ line_from l.index (place_of l.fn.walk) (l.block ++ rest)

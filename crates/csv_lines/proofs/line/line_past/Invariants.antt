-- Loop invariants of `line_past` (`line`).
use Rattle.std.proofs.Common.{◌≡◌, ℕ, List, length, Some}
use Rattle.csv_lines.specs.Lines.{line_from, place_of}
use Rattle.csv_lines.proofs.line.line_past.Given as goal

abbrev pub invariant-loop : goal.invariant-loop
invariant-loop g l = (length l.block ≡ length l.fn.block) × ((bytes : List ℕ) → g.R.Read.remaining l.fn.reader ≡ Some bytes
    → (rest : List ℕ) × (g.R.Read.remaining l.reader ≡ Some rest) × (line_from l.index (place_of l.walk) rest ≡ line_from l.index (place_of l.fn.start) bytes))

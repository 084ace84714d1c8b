-- Loop invariants of `first_bytes` (`front`).
use Rattle.std.proofs.Common.{◌≡◌, ◌≤◌, ℕ, List, length, Some}
use Rattle.csv_lines.specs.Front.{IsFront}
use Rattle.csv_lines.proofs.front.first_bytes.Given as goal

abbrev pub invariant-loop : goal.invariant-loop
invariant-loop g l = (length l.front.items ≡ l.counter) × (l.counter ≤ 3) × ((bytes : List ℕ) → g.R.Read.remaining l.fn.reader ≡ Some bytes → IsFront (g.R.Read.remaining l.reader) bytes l.front.items)

-- Loop invariants of `fill` (`source`).
use Rattle.std.proofs.Common.{length, ◌-◌, ◌≡◌, ◌≤◌, ℕ, List, Some}
use Rattle.group_reader.specs.Source.{StandsAt}
use Rattle.group_reader.proofs.source.fill.Given as goal

abbrev pub invariant-loop-count : goal.invariant-loop-count
invariant-loop-count g l =
    (l.count ≤ length l.out)
    × ((bytes : List ℕ) → g.R.Read.remaining l.fn.reader ≡ Some bytes → StandsAt (g.R.Read.remaining l.reader) bytes l.count l.out)

abbrev pub decreases-loop-count : goal.decreases-loop-count
decreases-loop-count g l = length l.initial.out - l.count

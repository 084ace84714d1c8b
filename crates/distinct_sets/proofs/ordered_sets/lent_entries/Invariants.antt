-- Invariants of `lent_entries` (`ordered_sets`).
use Rattle.std.proofs.Common.{◌≡◌, take}
use Rattle.distinct_sets.specs.Sets.{lent}
use Rattle.distinct_sets.proofs.ordered_sets.lent_entries.Given as goal

-- the entries before this one
abbrev pub invariant-loop-entry : goal.invariant-loop-entry
invariant-loop-entry l = lent l.found.items ≡ take l.entry-index l.entries

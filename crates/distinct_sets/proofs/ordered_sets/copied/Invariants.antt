-- Invariants of `copied` (`ordered_sets`).
use Rattle.std.proofs.Common.{◌≡◌, take}
use Rattle.distinct_sets.specs.Sets.{values_of_lent}
use Rattle.distinct_sets.proofs.ordered_sets.copied.Given as goal

-- the values before this one
abbrev pub invariant-loop-entry : goal.invariant-loop-entry
invariant-loop-entry l = l.values.items ≡ values_of_lent (take l.entry-index l.entries)

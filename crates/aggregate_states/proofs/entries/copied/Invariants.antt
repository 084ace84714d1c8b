-- Invariants of `copied` (`entries`).
use Rattle.std.proofs.Common.{◌≡◌, take}
use Rattle.aggregate_states.proofs.entries.copied.Given as goal

-- the entries before this one
abbrev pub invariant-loop-entry : goal.invariant-loop-entry
invariant-loop-entry l = l.copy.items ≡ take l.entry-index l.entries

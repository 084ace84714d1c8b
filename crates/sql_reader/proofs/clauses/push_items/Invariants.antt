-- Loop invariants of `push_items`.
use Rattle.std.proofs.Common.{◌≡◌, ℕ, ◌<◌, length}
use Rattle.sql_expressions.specs.Rules.{terms}
use Rattle.sql_reader.specs.Rules.{within, more_items, items_at}
use Rattle.sql_reader.proofs.clauses.push_items.Given as goal

-- what is read behind those so far is what is read of all
abbrev pub invariant-loop-behind : goal.invariant-loop-behind
invariant-loop-behind l = (length l.rest < length l.fn.lexemes) × (m : ℕ) × (length l.rest < m) × (more_items within m l.items (terms l.rest) ≡ items_at within l.fn.items (terms l.fn.lexemes))

abbrev pub decreases-loop-behind : goal.decreases-loop-behind
decreases-loop-behind l = length l.rest

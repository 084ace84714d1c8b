-- Loop invariants of `push_keys`.
use Rattle.std.proofs.Common.{◌≡◌, ℕ, ◌<◌, length}
use Rattle.sql_expressions.specs.Rules.{terms}
use Rattle.sql_reader.specs.Rules.{more_keys, keys_at}
use Rattle.sql_reader.proofs.clauses.push_keys.Given as goal

-- what is read behind those so far is what is read of all
abbrev pub invariant-loop-behind : goal.invariant-loop-behind
invariant-loop-behind l = (length l.rest < length l.fn.lexemes) × (m : ℕ) × (length l.rest < m) × (more_keys m l.keys (terms l.rest) ≡ keys_at l.fn.keys (terms l.fn.lexemes))

abbrev pub decreases-loop-behind : goal.decreases-loop-behind
decreases-loop-behind l = length l.rest

-- Invariants of `least_of` (`extreme`).
use Rattle.std.proofs.Common.{◌≡◌, ◌∷◌, Some, drop, map}
use Rattle.meaning.specs.declared.value.Value.TheVariants.{Int}
use Rattle.meaning.specs.Order.{least, lesser, value_cmp}
use Rattle.aggregate_states.proofs.extreme.least_of.Given as goal

-- the integers that are left make it whole
abbrev pub invariant-loop-k : goal.invariant-loop-k
invariant-loop-k l = lesser value_cmp (Some (Int l.best)) (least value_cmp (map Int (drop l.k l.ints))) ≡ least value_cmp (Int l.first ∷ map Int l.ints)

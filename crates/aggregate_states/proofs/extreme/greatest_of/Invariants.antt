-- Invariants of `greatest_of` (`extreme`).
use Rattle.std.proofs.Common.{◌≡◌, ◌∷◌, Some, drop, map}
use Rattle.meaning.specs.declared.value.Value.TheVariants.{Int}
use Rattle.meaning.specs.Aggregate.{down_cmp}
use Rattle.meaning.specs.Order.{least, lesser}
use Rattle.aggregate_states.proofs.extreme.greatest_of.Given as goal

-- the integers that are left make it whole
abbrev pub invariant-loop-k : goal.invariant-loop-k
invariant-loop-k l = lesser down_cmp (Some (Int l.best)) (least down_cmp (map Int (drop l.k l.ints))) ≡ least down_cmp (Int l.first ∷ map Int l.ints)

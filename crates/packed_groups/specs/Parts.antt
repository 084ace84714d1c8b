-- Which parts of a state are packed behind the number of its entries.
use Rattle.std.specs.Prelude.{ℕ, zero, suc, ℤ, pos, negsuc, Bool, true, false, List, [], ◌∷◌, Option, Some, None}
use Rattle.meaning.specs.declared.value.Value.{Value}
use Rattle.meaning.specs.declared.answer.Statistics.{Statistics}
use Rattle.packed_groups.specs.declared.parts.Parts.{Parts}
use Rattle.packed_groups.specs.declared.parts.Parts.TheVariants as parts

abbrev pub tag_of : Parts → ℕ
tag_of parts.Count = 0
tag_of parts.Sum = 1
tag_of parts.Least = 2
tag_of parts.Greatest = 3
tag_of parts.All = 4

abbrev pub are_all : Parts → Bool
are_all parts.Count = false
are_all parts.Sum = false
are_all parts.Least = false
are_all parts.Greatest = false
are_all parts.All = true

-- a sum other than 0, or none
unfoldable pub parts_of_sum : ℤ → Parts
parts_of_sum (pos zero) = parts.Count
parts_of_sum (pos (suc n)) = parts.Sum
parts_of_sum (negsuc n) = parts.Sum

-- these parts, or all where there is a sum beside them
unfoldable pub unless_sum : ℤ → Parts → Parts
unless_sum (pos zero) p = p
unless_sum (pos (suc n)) p = parts.All
unless_sum (negsuc n) p = parts.All

abbrev pub beside_least : ℤ → Option Value → Parts
beside_least sum None = unless_sum sum parts.Least
beside_least sum (Some v) = parts.All

abbrev pub without_least : ℤ → Option Value → Parts
without_least sum None = parts_of_sum sum
without_least sum (Some v) = unless_sum sum parts.Greatest

abbrev pub parts_of_extremes : ℤ → Option Value → Option Value → Parts
parts_of_extremes sum None greatest = without_least sum greatest
parts_of_extremes sum (Some v) greatest = beside_least sum greatest

-- these parts, or all where there are entries beside them
abbrev pub unless_entries : List Value → Parts → Parts
unless_entries [] p = p
unless_entries (v ∷ vs) p = parts.All

abbrev pub parts_in : Statistics → Parts
parts_in s = unless_entries s.entries (parts_of_extremes s.sum s.least s.greatest)

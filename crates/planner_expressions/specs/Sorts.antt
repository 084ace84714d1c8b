-- Sorts of expressions: values of a type, and truths.
use Rattle.std.specs.Prelude.{Bool, true, false, ◌&&◌, List, [], ◌∷◌, ◌++◌, map, Option, Some, None, option_to_list}
use Rattle.std.specs.List.{list_all}
use Rattle.meaning.specs.declared.value.ColType.{ColType}
use Rattle.meaning.specs.declared.value.ColType.TheVariants as of_type
use Rattle.sql_syntax.specs.declared.tree.Aggregate.{Aggregate}
use Rattle.sql_syntax.specs.declared.tree.Aggregate.TheVariants as aggregate
use Rattle.planner_expressions.specs.declared.sort.Sort.{Sort}
use Rattle.planner_expressions.specs.declared.sort.Sort.TheVariants.{Integer, Text, Truth}
use Rattle.planner_expressions.specs.declared.sort.Likeness.{Likeness}
use Rattle.planner_expressions.specs.declared.sort.ArmSorts.{ArmSorts}

abbrev pub sort_of_type : ColType → Sort
sort_of_type of_type.Int = Integer
sort_of_type of_type.Text = Text

abbrev pub same_sort : Sort → Sort → Bool
same_sort Integer Integer = true
same_sort Text Text = true
same_sort Truth Truth = true
same_sort _ _ = false

abbrev pub is_value : Sort → Bool
is_value Integer = true
is_value Text = true
is_value Truth = false

-- values of one type
abbrev pub are_alike : List Sort → Bool
are_alike [] = true
are_alike (s ∷ rest) = is_value s && list_all (same_sort s) rest

-- the first sort; what has no part is an integer
abbrev pub first_of : List Sort → Sort
first_of [] = Integer
first_of (s ∷ rest) = s

-- the sorts of a CASE's values: those behind THEN, and the one behind ELSE
abbrev pub results : List (Sort × Sort) → Option Sort → List Sort
results arms otherwise = map (λ arm. arm.1) arms ++ option_to_list otherwise

-- SUM and AVG take integers, the others any values
abbrev pub is_taken : Aggregate → Sort → Bool
is_taken aggregate.Sum s = same_sort Integer s
is_taken aggregate.SumDistinct s = same_sort Integer s
is_taken aggregate.Average s = same_sort Integer s
is_taken _ s = is_value s

-- COUNT, SUM and AVG give integers, MIN and MAX what they take
abbrev pub aggregate_sort : Aggregate → Sort → Sort
aggregate_sort aggregate.Min s = s
aggregate_sort aggregate.Max s = s
aggregate_sort _ s = Integer

-- ---- sorts one after the other

-- what is known of no sort
abbrev pub fresh : Likeness
fresh = record { first = None; alike = true }

-- the first sort; what has no part is an integer
abbrev pub first_known : Option Sort → Sort
first_known None = Integer
first_known (Some s) = s

-- what is known with one more sort, where these were the first and whether all were alike
abbrev pub more : Option Sort → Bool → Sort → Likeness
more None alike s = record { first = Some s; alike = is_value s }
more (Some f) alike s = record { first = Some f; alike = alike && same_sort f s }

abbrev pub added : Likeness → Sort → Likeness
added l s = more l.first l.alike s

-- with all of these
abbrev pub behind : Likeness → List Sort → Likeness
behind l [] = l
behind l (s ∷ rest) = behind (added l s) rest

-- with one more arm of a CASE, a condition and a value
abbrev pub with_arm : ArmSorts → Sort × Sort → ArmSorts
with_arm a p = record { truths = a.truths && same_sort Truth p.0; values = added a.values p.1 }

abbrev pub with_arms : ArmSorts → List (Sort × Sort) → ArmSorts
with_arms a [] = a
with_arms a (p ∷ rest) = with_arms (with_arm a p) rest

-- What a table of groups knows of its plan.
use Rattle.std.specs.Prelude.{ℕ, Bool, List, map}
use Rattle.meaning.specs.declared.plan.AggregateKind.{AggregateKind}
use Rattle.meaning.specs.declared.plan.Plan.{Plan}
use Rattle.meaning.specs.declared.answer.Group.{Group}
use Rattle.meaning.specs.Order.{Row}
use Rattle.meaning.specs.Group.{certain_keys}
use Rattle.group_index.specs.Keys.{empty_key}

-- the keys that have a group in any case, and each aggregate's kind
pub record Shape : Type 0 where
  pub certain : List Row
  pub kinds : List AggregateKind

abbrev pub shape_of : Plan → Shape
shape_of plan = record { certain = certain_keys plan.plain plan.keys; kinds = map (λ a. a.kind) plan.aggs }

abbrev pub shape_with : Bool → List AggregateKind → Shape
shape_with is_certain kinds = record { certain = empty_key is_certain; kinds = kinds }

-- a table of groups, as contracts see it: its shape, the groups in the order of their keys, how many rows it took in all, and
-- how many groups were handed to it
pub record GroupsSpec : Type 0 where
  pub shape : Shape
  pub groups : List Group
  pub rows : ℕ
  pub handed : ℕ

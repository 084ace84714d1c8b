-- The rows and groups that come to a table, and what its caller answers for.
use Rattle.std.specs.Prelude.{◌≡◌, ℕ, ◌≤◌, List, map, zip, length, All}
use Rattle.meaning.specs.declared.answer.Group.{Group}
use Rattle.meaning.specs.Order.{Row}
use Rattle.meaning.specs.Aggregate.{kept_by}
use Rattle.vectors.specs.declared.vector.Vector.{Vector}
use Rattle.group_keys.specs.Rows.{row_at}
use Rattle.group_by.specs.Shape.{Shape}

-- each selected row's keys with its arguments
abbrev pub kept_rows : List Vector → List Vector → List ℕ → List (Row × Row)
kept_rows keys arguments selection = map (λ at. (row_at keys at, row_at arguments at)) selection

-- a state of each aggregate, in which nothing stands that its kind does not keep, of no more entries than the group has rows
pub record IsGroupOf (shape : Shape) (g : Group) : Type 0 where
  pub widths : length g.states ≡ length shape.kinds
  pub kept : map (λ p. kept_by p.0 p.1) (zip shape.kinds g.states) ≡ g.states
  pub within : All (λ s. s.count ≤ g.rows) g.states

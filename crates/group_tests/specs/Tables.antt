-- What is known of a table in a test.
use Rattle.std.specs.Prelude.{◌≡◌, ℕ}
use Rattle.group_by.specs.Shape.{Shape, GroupsSpec}

-- a table of this shape that took so many rows, and so many groups
pub record HasTaken (shape : Shape) (rows handed : ℕ) (t : GroupsSpec) : Type 0 where
  pub shape_is : t.shape ≡ shape
  pub rows_are : t.rows ≡ rows
  pub handed_is : t.handed ≡ handed

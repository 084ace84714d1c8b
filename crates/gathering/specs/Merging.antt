-- The groups of the answers in cells, and when one table takes them all.
use Rattle.std.specs.Prelude.{◌≤◌, ◌<◌, List, [], length, flat_map, All}
use Rattle.meaning.specs.declared.answer.Group.{Group}
use Rattle.meaning.specs.declared.answer.Cell.TheVariants.{Nothing, One, Conflict}
use Rattle.meaning.specs.declared.plan.Plan.{Plan}
use Rattle.meaning.specs.Answer.{groups_of}
use Rattle.meaning.specs.Said.{Cell}
use Rattle.aggregate_states.specs.State.{most_entries}
use Rattle.group_by.specs.Groups.{all_rows, under, with_groups}
use Rattle.group_by.specs.Rows.{IsGroupOf}
use Rattle.group_by.specs.Shape.{GroupsSpec, shape_of}

-- the groups of the answer in the cell, if it is one
abbrev pub groups_in : Cell → List Group
groups_in Nothing = []
groups_in (One b) = groups_of b
groups_in Conflict = []

abbrev pub all_groups : List Cell → List Group
all_groups cells = flat_map groups_in cells

-- groups of the plan's shape, of no more rows in all than a table counts
pub record AreMergeable (plan : Plan) (groups : List Group) : Type 0 where
  pub fit : All (IsGroupOf (shape_of plan)) groups
  pub few : all_rows groups ≤ most_entries
  pub handed : length groups < 9223372036854775808

-- the table of these groups
abbrev pub table_with : Plan → List Group → GroupsSpec
table_with plan gs = with_groups (under plan [] 0 0) gs

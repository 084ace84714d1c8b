-- The groups of rows and of groups, under a shape.
use Rattle.std.specs.Prelude.{◌≡◌, ℕ, ◌+◌, List, [], ◌∷◌, ◌++◌, length, map}
use Rattle.std.specs.List.{enumerate_from, sum_by}
use Rattle.meaning.specs.declared.plan.AggregateKind.{AggregateKind}
use Rattle.meaning.specs.declared.plan.Plan.{Plan}
use Rattle.meaning.specs.declared.answer.Statistics.{Statistics}
use Rattle.meaning.specs.declared.answer.Group.{Group}
use Rattle.meaning.specs.Order.{Row, column}
use Rattle.meaning.specs.Group.{grouped, groups, group_of, merge_groups, merged_groups}
use Rattle.aggregate_states.specs.Entries.{state_of}
use Rattle.group_by.specs.Shape.{Shape, GroupsSpec, shape_of}

-- what each aggregate keeps of some argument rows, which have its entry in the column of its index
abbrev pub states_of : List AggregateKind → List Row → List Statistics
states_of kinds rows = map (λ a. state_of a.1 (map (λ row. column row a.0) rows)) (enumerate_from 0 kinds)

-- the group of some argument rows
abbrev pub group_of_rows : Shape → Row → List Row → Group
group_of_rows shape key rows = record { key = key; rows = length rows; states = states_of shape.kinds rows }

-- the groups of kept rows, each a key row with its argument row
abbrev pub groups_of_rows : Shape → List (Row × Row) → List Group
groups_of_rows shape kept = map (λ g. group_of_rows shape g.0 g.1) (grouped shape.certain kept)

-- all groups of one key as one
abbrev pub as_one : Shape → Row → List Group → Group
as_one shape key [] = group_of_rows shape key []
as_one shape key (g ∷ gs) = merge_groups g (as_one shape key gs)

-- the groups of all the rows from which these groups come
abbrev pub together : Shape → List Group → List Group
together shape gs = map (λ g. as_one shape g.0 g.1) (grouped shape.certain (map (λ g. (g.key, g)) gs))

-- how many rows there are in all
abbrev pub all_rows : List Group → ℕ
all_rows groups = sum_by (λ g. g.rows) groups

-- the table of no row
abbrev pub fresh : Shape → GroupsSpec
fresh shape = record { shape = shape; groups = together shape []; rows = 0; handed = 0 }

-- the table with some kept rows more
abbrev pub with_rows : GroupsSpec → List (Row × Row) → GroupsSpec
with_rows t kept = record {
  shape = t.shape;
  groups = together t.shape (t.groups ++ groups_of_rows t.shape kept);
  rows = t.rows + length kept;
  handed = t.handed;
}

-- the table with some groups more
abbrev pub with_groups : GroupsSpec → List Group → GroupsSpec
with_groups t gs = record {
  shape = t.shape;
  groups = together t.shape (t.groups ++ gs);
  rows = t.rows + all_rows gs;
  handed = t.handed + length gs;
}

-- under a plan's shape these words say what the plan's own do
pub record SaysAs (plan : Plan) : Type 0 where
  pub rows : (kept : List (Row × Row)) → groups_of_rows (shape_of plan) kept ≡ map (λ g. group_of plan g.0 g.1) (groups plan kept)
  pub groups : (gs : List Group) → together (shape_of plan) gs ≡ merged_groups plan gs

-- a table under a plan
abbrev pub under : Plan → List Group → ℕ → ℕ → GroupsSpec
under plan gs rows handed = record { shape = shape_of plan; groups = gs; rows = rows; handed = handed }

-- rows and groups may come in any order and in any pieces
pub record TablesGrow (plan : Plan) : Type 0 where
  pub rows : (gs : List Group) (m n : ℕ) (xs ys : List (Row × Row)) → with_rows (with_rows (under plan gs m n) xs) ys ≡ with_rows (under plan gs m n) (xs ++ ys)
  pub groups : (gs : List Group) (m n : ℕ) (xs ys : List Group) → with_groups (with_groups (under plan gs m n) xs) ys ≡ with_groups (under plan gs m n) (xs ++ ys)
  pub turned : (gs : List Group) (m n : ℕ) (xs : List (Row × Row)) (ys : List Group) → with_rows (with_groups (under plan gs m n) ys) xs ≡ with_groups (with_rows (under plan gs m n) xs) ys

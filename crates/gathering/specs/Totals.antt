-- What is kept of the cells that hold one answer: their groups in one table, and the least of their faults.
use Rattle.std.specs.Prelude.{◌≡◌, ℕ, ◌+◌, ◌<◌, ◌≤◌, Bool, true, false, if◌then◌else◌, List, [], ◌∷◌, ◌++◌, length, map, zip, Option, All}
use Rattle.std.specs.Cmp.Lexicographic.{pointwise}
use Rattle.std.specs.List.{list_any}
use Rattle.meaning.specs.declared.answer.RowFault.{RowFault}
use Rattle.meaning.specs.declared.answer.Group.{Group}
use Rattle.meaning.specs.declared.answer.Cell.TheVariants.{Nothing, One, Conflict}
use Rattle.meaning.specs.declared.plan.Plan.{Plan}
use Rattle.meaning.specs.Answer.{groups_of}
use Rattle.meaning.specs.Gather.{is_conflict}
use Rattle.meaning.specs.Group.{merged_groups}
use Rattle.meaning.specs.Judge.{fault_cmp}
use Rattle.meaning.specs.Limits.{max_rows}
use Rattle.meaning.specs.Order.{lesser}
use Rattle.meaning.specs.Said.{Cell}
use Rattle.aggregate_states.specs.State.{most_entries}
use Rattle.group_by.specs.Groups.{all_rows}
use Rattle.group_by.specs.Rows.{IsGroupOf}
use Rattle.group_by.specs.Shape.{GroupsSpec, shape_of}
use Rattle.gathering.specs.declared.totals.Totals.{Totals}
use Rattle.gathering.specs.Faults.{least_fault}
use Rattle.gathering.specs.Merging.{all_groups}

-- how many groups were handed to tables so far
abbrev pub merges_of : Totals → ℕ
merges_of t = t.earlier + t.table.handed

-- the table is of the groups in the cells that hold one answer, merged, and the fault is that of the least row among
-- the other answers
pub record AreTotalsOf (plan : Plan) (cells : List Cell) (t : Totals) : Type 0 where
  pub shape : t.table.shape ≡ shape_of plan
  pub groups : t.table.groups ≡ merged_groups plan (all_groups cells)
  pub rows : t.table.rows ≡ all_rows (all_groups cells)
  pub least : t.least ≡ least_fault cells

-- ---- how many groups may be handed to tables

-- those of an answer as it comes, and those of all answers at a conflict
abbrev pub most_of_cell : Cell → ℕ
most_of_cell Nothing = 0
most_of_cell (One body) = max_rows
most_of_cell Conflict = max_rows + most_entries

abbrev pub most_merges : List Cell → ℕ
most_merges [] = 0
most_merges (c ∷ cells) = most_of_cell c + most_merges cells

-- ---- a table that takes more

-- groups that the table may take
pub record CanTake (t : GroupsSpec) (gs : List Group) : Type 0 where
  pub fit : All (IsGroupOf t.shape) gs
  pub few : t.rows + all_rows gs ≤ most_entries
  pub handed : t.handed + length gs < 9223372036854775808

-- the table with these groups more, whatever plan it is under, and whatever groups it was made of
pub record IsTableWith (old : GroupsSpec) (gs : List Group) (new : GroupsSpec) : Type 0 where
  pub shape : new.shape ≡ old.shape
  pub groups : (plan : Plan) (before : List Group) → old.shape ≡ shape_of plan → old.groups ≡ merged_groups plan before
      → new.groups ≡ merged_groups plan (before ++ gs)
  pub rows : new.rows ≡ old.rows + all_rows gs
  pub handed : new.handed ≡ old.handed + length gs

-- the totals with these groups and this fault more
pub record AreTotalsWith (old : Totals) (gs : List Group) (fault : Option RowFault) (new : Totals) : Type 0 where
  pub table : IsTableWith old.table gs new.table
  pub least : new.least ≡ lesser fault_cmp old.least fault
  pub earlier : new.earlier ≡ old.earlier

-- ---- what is new of cells

-- a cell may be joined with nothing, with an answer where it holds nothing, and with a conflict where it is none
abbrev pub is_delta : Cell → Cell → Bool
is_delta own Nothing = true
is_delta Nothing (One said) = true
is_delta (One known) (One said) = false
is_delta Conflict (One said) = false
is_delta Nothing Conflict = true
is_delta (One known) Conflict = true
is_delta Conflict Conflict = false

pub record AreDeltas (cells deltas : List Cell) : Type 0 where
  pub each : pointwise is_delta cells deltas ≡ true

-- a cell behind its delta
abbrev pub behind : Cell → Cell → Cell
behind own Nothing = own
behind own (One said) = One said
behind own Conflict = Conflict

abbrev pub all_behind : List Cell → List Cell → List Cell
all_behind cells deltas = map (λ p. behind p.0 p.1) (zip cells deltas)

-- how many groups are handed to tables where cells are joined with their deltas: those of the answers taken over and,
-- where a conflict is made, those of the answers kept
abbrev pub handed_at_join : List Cell → List Cell → ℕ
handed_at_join cells deltas =
    if list_any is_conflict deltas then length (all_groups (all_behind cells deltas)) else length (all_groups deltas)

-- the most that are handed over where one cell is joined with its delta
abbrev pub most_at_change : Cell → List Cell → ℕ
most_at_change Nothing kept = 0
most_at_change (One body) kept = length (groups_of body)
most_at_change Conflict kept = length (all_groups kept)

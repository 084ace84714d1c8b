-- Groups batch by batch: their aggregates, and what HAVING and the items give over vectors.
use Rattle.std.specs.Prelude.{◌≡◌, ℕ, ◌<◌, ◌≤◌, true, false, List, [], ◌++◌, map, length, take, get_or, option_to_list, Option, Some, None, Result, Ok, Err, All, IfSome, ⊤}
use Rattle.std.specs.List.{list_all}
use Rattle.meaning.specs.declared.answer.Group.{Group}
use Rattle.meaning.specs.declared.joined_row.JoinedRow.{JoinedRow}
use Rattle.meaning.specs.declared.plan.Plan.{Plan}
use Rattle.meaning.specs.declared.value.ColType.{ColType}
use Rattle.meaning.specs.declared.value.Value.{Value}
use Rattle.meaning.specs.declared.value.Value.TheVariants.{Null}
use Rattle.meaning.specs.declared.outcome.Outcome.TheVariants as gives
use Rattle.meaning.specs.declared.answer.Statistics.{Statistics}
use Rattle.meaning.specs.declared.plan.AggregateKind.{AggregateKind}
use Rattle.meaning.specs.Aggregate.{value}
use Rattle.meaning.specs.Answer.{read_off}
use Rattle.meaning.specs.References.{GroupKey, GroupAggregate}
use Rattle.meaning.specs.Expr.{values}
use Rattle.meaning.specs.Finish.{all_rows, behind_having, shown}
use Rattle.meaning.specs.Joined.{group_row}
use Rattle.meaning.specs.Operators.{code_of}
use Rattle.meaning.specs.Order.{Row, column}
use Rattle.meaning.specs.Results.{all_ok, and_then}
use Rattle.meaning.specs.Typing.{Valued, Boolean, group_types}
use Rattle.aggregate_states.specs.Values.{is_spelled}
pub use Rattle.aggregate_states.specs.Values.{fits}
use Rattle.vectors.specs.Selection.{is_among}
use Rattle.vectors.specs.Vector.{BatchSpec, IsColumnOf, outcomes_of, values_of}
use Rattle.vectors.specs.declared.batch.BatchColumn.{BatchColumn}
use Rattle.vectors.specs.declared.batch.ColumnReference.{ColumnReference}
use Rattle.vectors.specs.declared.vector.Vector.{Vector}
use Rattle.vector_operators.specs.Evaluated.{Held, IsBefore}
use Rattle.vector_operators.specs.Given.{type_of_lanes}
use Rattle.primitives.specs.Fitting.{AreTypedRows, Fits, has_column, is_typed_column}
use Rattle.primitives.specs.Meant.{row_at}
use Rattle.last_step.specs.declared.stop.Stop.{Stop}
use Rattle.last_step.specs.declared.stop.Stop.TheVariants.{Memory, Fault}
use Rattle.last_step.specs.Runs.{rows_after}

-- ---- aggregates

-- each aggregate of the group has a value
pub record HasValues (plan : Plan) (g : Group) : Type 0 where
  pub row : Row
  pub are : all_ok (read_off plan g).aggregates ≡ Ok row
  pub fit : list_all fits row ≡ true

-- each has a value, or this is the first fault, unless memory runs out
abbrev pub IsJudged : List (Result Value ℕ) → Result (Unit {0}) Stop → Type 0
IsJudged given (Ok u) = (row : Row) × (all_ok given ≡ Ok row) × (list_all fits row ≡ true)
IsJudged given (Err (Fault code)) = all_ok given ≡ Err code
IsJudged given (Err Memory) = ⊤

-- a fault that comes behind rows, if there is one
abbrev pub ended : Option ℕ → List Row → Result (List Row) ℕ
ended None rows = Ok rows
ended (Some code) rows = Err code

-- the first so many groups have values for their aggregates, and behind them a group's fault comes, or the end
pub record IsFront (plan : Plan) (groups : List Group) (count : ℕ) (fault : Option ℕ) : Type 0 where
  pub within : count ≤ length groups
  pub sound : All (HasValues plan) (take count groups)
  pub behind : (before : List Row) → rows_after plan before groups ≡ and_then (rows_after plan before (take count groups)) (ended fault)

-- ---- a batch

abbrev pub row_of : Result Row ℕ → Row
row_of (Ok row) = row
row_of (Err code) = []

-- what expressions read of a group
abbrev pub row_in : Plan → Group → JoinedRow
row_in plan g = group_row g.key (row_of (all_ok (read_off plan g).aggregates))

-- a batch of rows over which the plan has types, and that has all columns that the plan names
pub record IsBatchOf (plan : Plan) (rows : List JoinedRow) (batch : BatchSpec) : Type 0 where
  pub typed : AreTypedRows (group_types plan) batch rows
  pub items : All (λ i. (kind : ColType) × Fits (group_types plan) batch.columns i.expr (Valued kind)) plan.items
  pub having : All (λ e. Fits (group_types plan) batch.columns e Boolean) (option_to_list plan.having)

-- the rows that are shown behind others, or the first fault of HAVING and the items
abbrev pub shown_after : Plan → List Row → List JoinedRow → Result (List Row) ℕ
shown_after plan before rows = and_then (all_ok (map (shown plan) rows)) (λ parts. Ok (before ++ all_rows parts))

-- ---- vectors

-- the values of a lane
abbrev pub lane_row : List Vector → ℕ → Row
lane_row vectors i = map (λ v. get_or (values_of v) i Null) vectors

-- HAVING and the first so many items over rows: before the fault that is held, the rows that HAVING keeps are selected, and the
-- vectors have what the items give of them
pub record Shows (plan : Plan) (rows : List JoinedRow) (count : ℕ) (selected : List ℕ) (held : Held) (vectors : List Vector) : Type 0 where
  pub kept : (i : ℕ) → is_among selected i ≡ true → IsBefore i held → (rest : Result (List Row) ℕ) → behind_having plan.having (row_at rows i) rest ≡ rest
  pub dropped : (i : ℕ) → is_among selected i ≡ false → i < length rows → IsBefore i held → shown plan (row_at rows i) ≡ Ok []
  pub given : (i : ℕ) → is_among selected i ≡ true → IsBefore i held → values (map (λ i. i.expr) (take count plan.items)) (row_at rows i) ≡ Ok (lane_row vectors i)
  pub fault : IfSome held (λ f. (f.position < length rows) × (shown plan (row_at rows f.position) ≡ Err (code_of f.fault)))

-- a row whose texts are UTF-8
abbrev pub IsReadable : Row → Type 0
IsReadable row = All (λ v. is_spelled v ≡ true) row

-- ---- columns

-- lanes of the type, with these values
pub record IsVectorOf (type : ColType) (given : List Value) (lanes : Vector) : Type 0 where
  pub values : outcomes_of lanes ≡ map gives.Value given
  pub type_is : type_of_lanes lanes ≡ Valued type

-- the value of an aggregate of a group
abbrev pub aggregate_in : Plan → ℕ → Group → Value
aggregate_in plan j g = column (row_in plan g).aggregates j

-- the group has a state there, which gives the value
pub record HasAt (plan : Plan) (kind : AggregateKind) (j : ℕ) (g : Group) : Type 0 where
  pub within : j < length g.states
  pub gives : (d : Statistics) → value kind (get_or g.states j d) ≡ Ok (aggregate_in plan j g)

-- the column of a key or an aggregate of the groups
pub record IsColumnIn (plan : Plan) (groups : List Group) (at : ColumnReference) (c : BatchColumn) : Type 0 where
  pub reference : c.reference ≡ at
  pub lanes : IsColumnOf (map (row_in plan) groups) c
  pub typed : is_typed_column (group_types plan) c ≡ true

-- a batch that has the columns of the first keys and the first aggregates of the groups
pub record IsPartOf (plan : Plan) (groups : List Group) (keys aggregates : ℕ) (batch : BatchSpec) : Type 0 where
  pub typed : AreTypedRows (group_types plan) batch (map (row_in plan) groups)
  pub keys_there : (i : ℕ) → i < keys → has_column batch.columns (GroupKey i) ≡ true
  pub aggregates_there : (i : ℕ) → i < aggregates → has_column batch.columns (GroupAggregate i) ≡ true

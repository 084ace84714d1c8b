-- Columns of the fact that stay packed in a row group, since no row's value of them is read.
use Rattle.std.specs.Prelude.{◌≡◌, ℕ, ◌==◌, Bool, false, ◌||◌, List, [], ◌∷◌, Option, Some, None, slice_index_or, All}
use Rattle.std.specs.List.{AllZip, list_any}
use Rattle.block_predicates.specs.declared.marks.EntryMarks.{EntryMarks}
use Rattle.meaning.specs.declared.expr.Expr.{Expr}
use Rattle.meaning.specs.declared.plan.Plan.{Plan}
use Rattle.meaning.specs.References.{Reference, FactColumn, JoinColumn, GroupKey, GroupAggregate, columns_used}
use Rattle.pushdown.specs.Naming.{is_fact_column}

-- what is named is no packed column
abbrev pub IsUnpacked : List Bool → Reference → Type 0
IsUnpacked packed (FactColumn at) = slice_index_or packed at false ≡ false
IsUnpacked packed (JoinColumn join at) = Unit {0}
IsUnpacked packed (GroupKey i) = Unit {0}
IsUnpacked packed (GroupAggregate i) = Unit {0}

abbrev pub ReadsUnpacked : List Bool → Expr → Type 0
ReadsUnpacked packed e = All (IsUnpacked packed) (columns_used e)

-- a condition that has marks isn't evaluated on rows
abbrev pub ReadsWhere : List Bool → Expr → Option EntryMarks → Type 0
ReadsWhere packed c None = ReadsUnpacked packed c
ReadsWhere packed c (Some m) = Unit {0}

-- no packed column is a foreign key, nor named by a key, an argument or a condition that has no marks
pub record IsReadWithout (packed : List Bool) (plan : Plan) (marks : List (Option EntryMarks)) : Type 0 where
  pub joins : All (λ j. slice_index_or packed j.foreign false ≡ false) plan.joins
  pub keys : All (λ k. ReadsUnpacked packed k.expr) plan.keys
  pub arguments : All (λ a. ReadsUnpacked packed a.argument) plan.aggs
  pub conditions : AllZip (ReadsWhere packed) plan.conjuncts marks

-- ---- the test

abbrev pub names : ℕ → Expr → Bool
names at e = list_any (is_fact_column at) (columns_used e)

abbrev pub reads_where : ℕ → Expr → Option EntryMarks → Bool
reads_where at c None = names at c
reads_where at c (Some m) = false

abbrev pub any_unmarked : ℕ → List Expr → List (Option EntryMarks) → Bool
any_unmarked at [] ms = false
any_unmarked at (c ∷ cs) [] = false
any_unmarked at (c ∷ cs) (m ∷ ms) = reads_where at c m || any_unmarked at cs ms

abbrev pub is_read : ℕ → Plan → List (Option EntryMarks) → Bool
is_read at plan marks =
    (list_any (λ j. j.foreign == at) plan.joins || list_any (λ k. names at k.expr) plan.keys) || (list_any (λ a. names at a.argument) plan.aggs || any_unmarked at plan.conjuncts marks)

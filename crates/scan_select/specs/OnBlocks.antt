-- Conditions that have marks of the blocks of a row group.
use Rattle.std.specs.Prelude.{◌≡◌, ℕ, ◌+◌, ◌<◌, ◌≤◌, true, List, length, get_or, Option, Some, None}
use Rattle.std.specs.List.{AllZip}
use Rattle.meaning.specs.declared.expr.Expr.{Expr}
use Rattle.meaning.specs.declared.joined_row.JoinedRow.{JoinedRow}
use Rattle.meaning.specs.Typing.{Boolean, RowTypes}
use Rattle.blocks.specs.Block.{Block}
use Rattle.fragment_file.specs.Fragment.{no_block}
use Rattle.fragment_file.specs.Rows.{row_in}
use Rattle.vectors.specs.declared.batch.BatchColumn.{BatchColumn}
use Rattle.vectors.specs.Selection.{is_among}
use Rattle.primitives.specs.Fitting.{Fits}
use Rattle.primitives.specs.Meant.{row_at}
use Rattle.block_predicates.specs.declared.marks.EntryMarks.{EntryMarks}
use Rattle.block_predicates.specs.Entries.{has_entries, lane_count}
use Rattle.block_predicates.specs.Marks.{AreMarksFor, IsTypedOn}
use Rattle.pushdown.specs.FactColumn.{StandsOn}

-- marks of the condition on the block of its column
pub record IsMarkedOn (blocks : List Block) (c : Expr) (m : EntryMarks) : Type 0 where
  pub within : m.column < length blocks
  pub marks : AreMarksFor c (get_or blocks m.column no_block) m

abbrev pub IsMarkedIf : List Block → Expr → Option EntryMarks → Type 0
IsMarkedIf blocks c None = Unit {0}
IsMarkedIf blocks c (Some m) = IsMarkedOn blocks c m

-- conditions of which some have marks
abbrev pub AreMarkedOn : List Block → List Expr → List (Option EntryMarks) → Type 0
AreMarkedOn blocks cs ms = AllZip (IsMarkedIf blocks) cs ms

-- where a condition has no marks, it stands on no block of the row group that has entries and at most so many lanes
abbrev pub IsMarkedWhere : List Block → ℕ → Expr → Option EntryMarks → Type 0
IsMarkedWhere blocks most c None = (at : ℕ) → StandsOn at c → at < length blocks → has_entries (get_or blocks at no_block).kind ≡ true → lane_count (get_or blocks at no_block) ≤ most → ⊥
IsMarkedWhere blocks most c (Some m) = Unit {0}

-- at these positions the fact's part of each row is the row group's, counted from this row on
abbrev pub AreRowsFrom : List Block → ℕ → List ℕ → List JoinedRow → Type 0
AreRowsFrom blocks first selected rows = (i : ℕ) → is_among selected i ≡ true → (row_at rows i).fact ≡ row_in blocks (first + i)

-- a condition fits what it is evaluated on: the batch, or a column of the row group where it has marks
abbrev pub FitsEither : RowTypes → List BatchColumn → List Block → Expr → Option EntryMarks → Type 0
FitsEither types columns blocks c None = Fits types columns c Boolean
FitsEither types columns blocks c (Some m) = IsTypedOn types c m.column (get_or blocks m.column no_block)

abbrev pub AllFitEither : RowTypes → List BatchColumn → List Block → List Expr → List (Option EntryMarks) → Type 0
AllFitEither types columns blocks cs ms = AllZip (FitsEither types columns blocks) cs ms

-- Laws, each of them the contract of a function of `src/laws.rt`.
use Rattle.std.specs.Prelude.{◌≡◌, ℕ, ◌<◌, List, ◌∷◌, ◌++◌, flat_map, length, All}
use Rattle.meaning.specs.declared.expr.Expr.{Expr}
use Rattle.meaning.specs.declared.joined_row.JoinedRow.{JoinedRow}
use Rattle.meaning.specs.Judge.{filtered}
use Rattle.blocks.specs.Block.{Block}
use Rattle.fragment_file.specs.Fragment.{AreTypedColumns, FragmentSpec, IsFragment}
use Rattle.fragment_file.specs.Rows.{rows_in}
use Rattle.vectors.specs.Vector.{BatchSpec}
use Rattle.primitives.specs.Fitting.{AreTypedRows}
use Rattle.scan_select.specs.Pieces.{Piece, pieces, rows_of_piece}
use Rattle.scan_select.specs.Scanned.{IsBatchOf, fact_rows, header_types}
use Rattle.scan_select.specs.Selected.{conditions, filter_of}

-- the pieces of row groups have the rows of the row groups, in their order, each once
abbrev pub BatchesAreRows : Type 0
BatchesAreRows = (n : ℕ) (groups : List (List Block)) → 0 < n → flat_map rows_of_piece (pieces n groups) ≡ flat_map rows_in groups

-- conditions keep a row, drop it or fault as they do when the row is judged
abbrev pub ConditionsJudge : Type 0
ConditionsJudge = (cs : List Expr) (row : JoinedRow) → filtered cs row ≡ filter_of (conditions cs row)

-- in a batch of a file whose columns have values of their types, columns and rows are of the types that the header declares
abbrev pub BatchesAreTyped : Type 0
BatchesAreTyped = (f : FragmentSpec) (n : ℕ) (before behind : List Piece) (piece : Piece) (wanted : List ℕ) (batch : BatchSpec)
    → IsFragment f → AreTypedColumns f → pieces n f.groups ≡ before ++ piece ∷ behind → All (λ p. p < length f.header.columns) wanted
    → IsBatchOf wanted piece batch → AreTypedRows (header_types f.header) batch (fact_rows piece)

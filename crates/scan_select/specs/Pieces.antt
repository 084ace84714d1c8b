-- The rows of row groups, and how they are cut into batches.
use Rattle.std.specs.Prelude.{ℕ, ◌+◌, ◌-◌, ◌/◌, ◌%◌, ◌==◌, if◌then◌else◌, List, [], ◌∷◌, ◌++◌, map, flat_map, replicate, Option, Some, None}
use Rattle.std.specs.List.{range_with_len}
use Rattle.meaning.specs.Order.{Row}
use Rattle.blocks.specs.Block.{Block}
use Rattle.fragment_file.specs.Rows.{row_in}
use Rattle.fragment_file.specs.View.{rows_of}

-- some rows of a row group, which stand one behind the other
pub record Piece : Type 0 where
  pub group : List Block
  pub first : ℕ
  pub rows : ℕ

abbrev pub rows_of_piece : Piece → List Row
rows_of_piece piece = map (row_in piece.group) (range_with_len piece.first piece.rows)

-- so many rows each and, where rows are left over, the rest
abbrev pub sizes : ℕ → ℕ → List ℕ
sizes n rows = replicate (rows / n) n ++ (if rows % n == 0 then [] else (rows % n) ∷ [])

-- pieces of these sizes, one behind the other
abbrev pub pieces_at : List Block → ℕ → List ℕ → List Piece
pieces_at group first [] = []
pieces_at group first (rows ∷ more) = record { group = group; first = first; rows = rows } ∷ pieces_at group (first + rows) more

-- a row group in pieces of at most so many rows
abbrev pub pieces_of : ℕ → List Block → List Piece
pieces_of n group = pieces_at group 0 (sizes n (rows_of group))

-- row groups in such pieces
abbrev pub pieces : ℕ → List (List Block) → List Piece
pieces n groups = flat_map (pieces_of n) groups

-- ---- within a row group

-- the rows that stand now
abbrev pub piece_now : Option (List Block) → ℕ → ℕ → Option Piece
piece_now None first rows = None
piece_now (Some group) first rows = if rows == 0 then None else Some (record { group = group; first = first; rows = rows })

-- what is left of the row group behind them
abbrev pub pieces_behind : ℕ → Option (List Block) → ℕ → List Piece
pieces_behind n None from = []
pieces_behind n (Some group) from = pieces_at group from (sizes n (rows_of group - from))

-- Batches of files whose columns have values of their types.
use Rattle.std.proofs.Common.{◌≡◌, ℕ, zero, suc, ◌+◌, ◌<◌, true, List, [], ◌∷◌, get_or, length, map, Some, refl, ap, sym, subst, ◌∙◌, arith}
use Rattle.std.specs.Prelude.{slice_get, All}
use Rattle.std.specs.List.{AllByRecursion, range_with_len}
use Rattle.std.proofs.lemmas.List.Elements.{All-from_recursion, recursion_from_All}
use Rattle.meaning.specs.declared.catalog.Column.{Column}
use Rattle.meaning.specs.declared.value.ColType.{ColType}
use Rattle.meaning.specs.Joined.{joined_row}
use Rattle.meaning.specs.Typing.{ExprType, fits_row_types, is_column_type, is_of_type}
use Rattle.meaning.proofs.Tests.{both}
use Rattle.blocks.specs.Block.{Block, values_of}
use Rattle.fragment_file.specs.Fragment.{AreBlocks, AreGroups, column_values, no_block}
use Rattle.fragment_file.specs.declared.header.Header.{Header}
use Rattle.fragment_file.specs.Lent.{AreTypedBlocks}
use Rattle.fragment_file.proofs.TypedRows.{AreTyped, all_behind, all_both, all_front, row_typed}
use Rattle.vectors.specs.declared.batch.ColumnReference.{ColumnReference}
use Rattle.vectors.specs.declared.batch.BatchColumn.{BatchColumn}
use Rattle.vectors.specs.Vector.{reference_of}
use Rattle.vector_operators.specs.Given.{type_of_lanes}
use Rattle.vectors.specs.Vector.{BatchSpec}
use Rattle.primitives.specs.Fitting.{AreTypedRows, is_typed_column, referenced_type}
use Rattle.vector_operators.proofs.LaneValues.{lanes_type, same_kind}
use Rattle.scan_select.specs.Laws.{BatchesAreTyped}
use Rattle.fragment_file.specs.Rows.{row_in}
use Rattle.scan_select.specs.Pieces.{Piece, pieces, pieces_at, pieces_of}
use Rattle.scan_select.specs.Scanned.{AreColumnsAt, IsBatchOf, IsColumnAt, fact_rows, header_types}

-- ---- row groups

record IsTyped (cs : List Column) (group : List Block) : Type 0 where
  pub rows : ℕ
  pub blocks : AreBlocks cs rows group
  pub values : AreTyped cs group

fits : (cs : List Column) (n : ℕ) (bs : List Block) (i : ℕ) → AreBlocks cs n bs → AreTyped cs bs
    → fits_row_types (record { fact = map (λ c. c.col_type) cs; joins = []; key = []; aggregates = [] }) (joined_row (row_in bs i) []) ≡ true
fits cs n bs i are typed = both _ _ (row_typed cs n bs i are typed) refl

rows_fit : (cs : List Column) (n : ℕ) (bs : List Block) (is : List ℕ) → AreBlocks cs n bs → AreTyped cs bs
    → AllByRecursion (λ r. fits_row_types (record { fact = map (λ c. c.col_type) cs; joins = []; key = []; aggregates = [] }) r ≡ true) (map (λ row. joined_row row []) (map (row_in bs) is))
rows_fit cs n bs [] are typed = tt
rows_fit cs n bs (i ∷ is) are typed = (fits cs n bs i are typed, rows_fit cs n bs is are typed)

-- ---- pieces

pieces_at_typed : (cs : List Column) (group : List Block) (first : ℕ) (ns : List ℕ) → IsTyped cs group → AllByRecursion (λ (p : Piece). IsTyped cs p.group) (pieces_at group first ns)
pieces_at_typed cs group first [] typed = tt
pieces_at_typed cs group first (n ∷ ns) typed = (typed, pieces_at_typed cs group (first + n) ns typed)

pieces_typed : (cs : List Column) (n : ℕ) (ns : List ℕ) (groups : List (List Block)) → AreGroups cs ns groups
    → ((j : ℕ) (c : Column) → slice_get cs j ≡ Some c → AllByRecursion (λ v. is_of_type c.col_type v ≡ true) (column_values j groups))
    → AllByRecursion (λ (p : Piece). IsTyped cs p.group) (pieces n groups)
pieces_typed cs n [] [] are typed = tt
pieces_typed cs n [] (g ∷ gs) are typed = absurd are
pieces_typed cs n (m ∷ ms) [] are typed = absurd are
pieces_typed cs n (m ∷ ms) (g ∷ gs) are typed =
    let here : IsTyped cs g = record { rows = m; blocks = are.0; values = λ j c at. all_front (λ v. is_of_type c.col_type v ≡ true) (values_of (get_or g j no_block)) (column_values j gs) (typed j c at) } in
    all_both (λ (p : Piece). IsTyped cs p.group) (pieces_of n g) (pieces n gs) (pieces_at_typed cs g 0 _ here)
    (pieces_typed cs n ms gs are.1 (λ j c at. all_behind (λ v. is_of_type c.col_type v ≡ true) (values_of (get_or g j no_block)) (column_values j gs) (typed j c at)))

-- ---- columns

-- each block is of the type that its column has
pub block_type : (cs : List Column) (n : ℕ) (bs : List Block) (p : ℕ) → AreBlocks cs n bs → p < length cs → slice_get (map (λ c. c.col_type) cs) p ≡ Some (get_or bs p no_block).col_type
block_type [] n bs p are below = absurd (omega (arith, below))
block_type (c ∷ cs) n [] p are below = absurd are
block_type (c ∷ cs) n (b ∷ bs) zero are below = ap Some (sym are.0.col_type)
block_type (c ∷ cs) n (b ∷ bs) (suc p) are below = block_type cs n bs p are.1 (omega (arith, below))

module _ (cs : List Column) (n : ℕ) (group : List Block) (first rows : ℕ) (are : AreBlocks cs n group) where
  column_typed : (p : ℕ) (c : BatchColumn) → p < length cs → IsColumnAt group first rows p c
      → is_typed_column (record { fact = map (λ c. c.col_type) cs; joins = []; key = []; aggregates = [] }) c ≡ true
  column_typed p c below at =
      let kind : ColType = (get_or group p no_block).col_type in
      let there : referenced_type (record { fact = map (λ c. c.col_type) cs; joins = []; key = []; aggregates = [] }) (reference_of c.reference) ≡ Some kind
      = ap (λ (q : ColumnReference). referenced_type (record { fact = map (λ c. c.col_type) cs; joins = []; key = []; aggregates = [] }) (reference_of q)) at.reference ∙ block_type cs n group p are below in
      ap (λ t. is_column_type t (type_of_lanes c.lanes)) there ∙ ap (λ (t : ExprType). is_column_type (Some kind) t) (lanes_type kind c.lanes at.typed) ∙ same_kind kind

  columns_typed : (wanted : List ℕ) (columns : List BatchColumn) → AllByRecursion (λ p. p < length cs) wanted → AreColumnsAt group first rows wanted columns
      → AllByRecursion (λ c. is_typed_column (record { fact = map (λ c. c.col_type) cs; joins = []; key = []; aggregates = [] }) c ≡ true) columns
  columns_typed [] [] below at = tt
  columns_typed [] (c ∷ cs) below at = absurd at
  columns_typed (p ∷ ps) [] below at = absurd at
  columns_typed (p ∷ ps) (c ∷ cs) below at = (column_typed p c below.0 at.0, columns_typed ps cs below.1 at.1)

-- the batch of a row group with values of its columns' types
pub typed_batch : (h : Header) (n : ℕ) (group : List Block) (first rows : ℕ) (wanted : List ℕ) (batch : BatchSpec) → AreBlocks h.columns n group → AreTyped h.columns group → All (λ p. p < length h.columns) wanted
    → IsBatchOf wanted (record { group = group; first = first; rows = rows }) batch → AreTypedRows (header_types h) batch (fact_rows (record { group = group; first = first; rows = rows }))
typed_batch h n group first rows wanted batch blocks typed below of =
    let piece : Piece = record { group = group; first = first; rows = rows } in
    record {
      are_rows = of.rows;
      values = All-from_recursion (λ r. fits_row_types (header_types h) r ≡ true) (fact_rows piece) (rows_fit h.columns n group (range_with_len first rows) blocks typed);
      columns = All-from_recursion (λ c. is_typed_column (header_types h) c ≡ true) batch.columns
          (columns_typed h.columns n group first rows blocks wanted batch.columns (recursion_from_All (λ p. p < length h.columns) wanted below) of.columns);
    }

-- the values of such a row group, block by block
pub typed_group : (cs : List Column) (group : List Block) → AreTypedBlocks cs group → AreTyped cs group
typed_group cs group typed = λ j c at. recursion_from_All (λ v. is_of_type c.col_type v ≡ true) (values_of (get_or group j no_block)) (typed j c at)

pub batches_are_typed : BatchesAreTyped
batches_are_typed f n before behind piece wanted batch is typed parts below of =
    let all : AllByRecursion (λ (p : Piece). IsTyped f.header.columns p.group) (pieces n f.groups)
    = pieces_typed f.header.columns n _ f.groups is.groups (λ j c at. recursion_from_All (λ v. is_of_type c.col_type v ≡ true) (column_values j f.groups) (typed j c at)) in
    let here = (all_behind (λ (p : Piece). IsTyped f.header.columns p.group) before (piece ∷ behind) (subst (λ (ps : List Piece). AllByRecursion (λ (p : Piece). IsTyped f.header.columns p.group) ps) parts all)).0 in
    typed_batch f.header here.rows piece.group piece.first piece.rows wanted batch here.blocks here.values below of

-- What a scan has read, and what it is still to read.
use Rattle.std.specs.Prelude.{◌≡◌, ◌≢◌, ℕ, ◌+◌, ◌≤◌, Bool, true, false, not, List, [], ◌∷◌, ◌++◌, map, filter, length, replicate, get_or, slice_index_or, take, drop, Option, Some, None, Result, Ok, Err, IfSome}
use Rattle.std.specs.List.{AllZip}
use Rattle.meaning.specs.declared.outcome.Outcome.TheVariants as gives
use Rattle.meaning.specs.declared.joined_row.JoinedRow.{JoinedRow}
use Rattle.meaning.specs.Joined.{joined_row}
use Rattle.meaning.specs.Typing.{RowTypes}
use Rattle.meaning.specs.VectorLength.{is_vector_length}
use Rattle.blocks.specs.Block.{Block, values_of}
use Rattle.fragment_file.specs.declared.fault.FileFault.{FileFault}
use Rattle.fragment_file.specs.declared.fault.FileFault.TheVariants as no_file
use Rattle.fragment_file.specs.declared.header.Header.{Header}
use Rattle.fragment_file.specs.Fragment.{AreBlocks, no_block}
use Rattle.fragment_file.specs.Lent.{blocks_in}
use Rattle.fragment_file.specs.View.{rows_of}
use Rattle.group_reader.specs.Coming.{Coming}
use Rattle.primitives.specs.Fitting.{AreTypedRows}
use Rattle.vectors.specs.declared.batch.ColumnReference.TheVariants as reference
use Rattle.vectors.specs.declared.batch.BatchColumn.{BatchColumn}
use Rattle.vectors.specs.Vector.{BatchSpec, AreRowsOf, outcomes_of, HasLanesOf}
use Rattle.scan_select.specs.declared.fault.ScanFault.{ScanFault}
use Rattle.scan_select.specs.declared.fault.ScanFault.TheVariants.{Memory, VectorLength}
use Rattle.scan_select.specs.declared.scan.ScanBatch.{ScanBatch}
use Rattle.scan_select.specs.declared.scan.Standing.{Standing}
use Rattle.scan_select.specs.Pieces.{Piece, pieces, rows_of_piece}

-- the error code
abbrev pub number_of : ScanFault → ℕ
number_of Memory = 0
number_of VectorLength = 1

-- a scan: where its row groups come from, the file's header, the numbers in it of the columns that it reads, the rows that
-- stand now, what is left of their row group behind them, and how many rows are left in all
pub record ScanSpec (G : Type 0) : Type 0 where
  pub source : G
  pub header : Header
  pub columns : List ℕ
  pub most : ℕ
  pub at : Option Piece
  pub behind : List Piece
  pub rows_left : ℕ

-- pieces that are still to come, and then the end: nothing, or what is wrong in its place
pub record Left : Type 0 where
  pub pieces : List Piece
  pub end : Option FileFault

-- what is left of a row group, and then row groups and their end, in pieces of at most so many rows
abbrev pub left_behind : ℕ → List Piece → Coming → Left
left_behind n behind c = record { pieces = behind ++ pieces n c.groups; end = c.end }

abbrev pub with_piece : Piece → Left → Left
with_piece piece l = record { pieces = piece ∷ l.pieces; end = l.end }

abbrev pub nothing_but : Option FileFault → Left
nothing_but end = record { pieces = []; end = end }

-- these pieces, and then this end, may be still to come of a scan, where it is said what may be to come of its source
abbrev pub AreLeft : {G : Type 0} → (G → Coming → Type 0) → ScanSpec G → Left → Type 0
AreLeft is_coming scan l = (c : Coming) × is_coming scan.source c × (l ≡ left_behind scan.most scan.behind c)

-- a piece stands now: whatever may be left behind it, may have been left with it in front. Or none does: it may have been
-- that none was left, and nothing is wrong with the end; or that the fault that was told was to come, unless memory was
-- wanting or the reader failed
abbrev pub Advances : {G : Type 0} → (G → Coming → Type 0) → ScanSpec G → ScanSpec G → Result Bool FileFault → Type 0
Advances is_coming old new (Ok true) = (piece : Piece) × ((rest : Left) → AreLeft is_coming new rest → AreLeft is_coming old (with_piece piece rest)) × (new.at ≡ Some piece)
Advances is_coming old new (Ok false) = AreLeft is_coming old (nothing_but None) × AreLeft is_coming new (nothing_but None) × (new.at ≡ None)
Advances is_coming old new (Err e) = e ≢ no_file.Memory → e ≢ no_file.Device → AreLeft is_coming old (nothing_but (Some e))

-- whether rows stand now
abbrev pub IsStanding : Bool → Option Piece → Type 0
IsStanding true at = (piece : Piece) × (at ≡ Some piece)
IsStanding false at = at ≡ None

-- rows that stand now and don't begin their row group stand behind rows of the same row group
abbrev pub StaysIn : Option Piece → Option Piece → Type 0
StaysIn old new = IfSome new (λ piece. piece.first ≢ 0 → (before : Piece) × (old ≡ Some before) × (before.group ≡ piece.group))

-- of the rows that were left the piece that stands has the first, and at least one; at the end none was left
abbrev pub CountsRows : Bool → ℕ → ℕ → Option Piece → Type 0
CountsRows true old new at = IfSome at (λ piece. (1 ≤ piece.rows) × (old ≡ piece.rows + new))
CountsRows false old new at = (old ≡ 0) × (new ≡ 0)

-- before the first row of a source, of which so many rows are to come
pub record IsFresh {G : Type 0} (source : G) (header : Header) (rows : ℕ) (wanted : List ℕ) (most : ℕ) (scan : ScanSpec G) : Type 0 where
  pub sized : is_vector_length most ≡ true
  pub from : scan.source ≡ source
  pub under : scan.header ≡ header
  pub reads : scan.columns ≡ wanted
  pub vectors : scan.most ≡ most
  pub none : scan.at ≡ None
  pub all : scan.behind ≡ []
  pub many : scan.rows_left ≡ rows

-- ---- lanes

-- where a column isn't nullable, no lane is NULL
abbrev pub IsMask : Bool → List Bool → Type 0
IsMask nullable mask = nullable ≡ false → mask ≡ replicate (length mask) false

-- ---- batches

-- a column of a row group: so many of its values from the first on
pub record IsColumnAt (group : List Block) (first rows : ℕ) (p : ℕ) (column : BatchColumn) : Type 0 where
  pub reference : column.reference ≡ reference.Fact p
  pub values : outcomes_of column.lanes ≡ map gives.Value (take rows (drop first (values_of (get_or group p no_block))))
  pub typed : HasLanesOf (get_or group p no_block).col_type column.lanes

abbrev pub AreColumnsAt : List Block → ℕ → ℕ → List ℕ → List BatchColumn → Type 0
AreColumnsAt group first rows wanted columns = AllZip (IsColumnAt group first rows) wanted columns

-- the columns stand behind those that were there
pub record AddsColumns (group : List Block) (first : ℕ) (wanted : List ℕ) (old new : BatchSpec) : Type 0 where
  pub rows : new.rows ≡ old.rows
  pub more : List BatchColumn
  pub columns : new.columns ≡ old.columns ++ more
  pub are : AreColumnsAt group first old.rows wanted more

-- rows of the fact table alone, as expressions read them
abbrev pub fact_rows : Piece → List JoinedRow
fact_rows piece = map (λ row. joined_row row []) (rows_of_piece piece)

-- a batch of the columns that are wanted: it has the columns of these rows
pub record IsBatchOf (wanted : List ℕ) (piece : Piece) (batch : BatchSpec) : Type 0 where
  pub rows : AreRowsOf batch (fact_rows piece)
  pub columns : AreColumnsAt piece.group piece.first piece.rows wanted batch.columns

-- the types of the columns that a header names
abbrev pub header_types : Header → RowTypes
header_types h = record { fact = map (λ c. c.col_type) h.columns; joins = []; key = []; aggregates = [] }

-- the columns that aren't marked as packed, by their numbers
abbrev pub unpacked : List Bool → List ℕ → List ℕ
unpacked packed ps = filter (λ p. not (slice_index_or packed p false)) ps

-- a batch of these columns of the rows that stand now: columns and rows are of the types that the header declares, and so are the
-- blocks of their row group
pub record HasScanned {G : Type 0} (columns : List ℕ) (scan : ScanSpec G) (piece : Piece) (b : ScanBatch) : Type 0 where
  pub stands : scan.at ≡ Some piece
  pub group : blocks_in b.group ≡ piece.group
  pub first_row : b.first_row ≡ piece.first
  pub batch : IsBatchOf columns piece b.batch
  pub typed : AreTypedRows (header_types scan.header) b.batch (fact_rows piece)
  pub within : piece.first + piece.rows ≤ rows_of piece.group
  pub blocks : AreBlocks scan.header.columns (rows_of piece.group) piece.group

-- the batch of all columns that are read
abbrev pub IsScanBatch : {G : Type 0} → ScanSpec G → Piece → ScanBatch → Type 0
IsScanBatch scan piece b = HasScanned scan.columns scan piece b

-- a batch of the columns that are read and aren't marked as packed
abbrev pub GivesUnpacked : {G : Type 0} → List Bool → ScanSpec G → Option ScanBatch → Type 0
GivesUnpacked packed scan None = scan.at ≡ None
GivesUnpacked packed scan (Some b) = (piece : Piece) × HasScanned (unpacked packed scan.columns) scan piece b

abbrev pub GivesBatch : {G : Type 0} → ScanSpec G → Option ScanBatch → Type 0
GivesBatch scan None = scan.at ≡ None
GivesBatch scan (Some b) = (piece : Piece) × IsScanBatch scan piece b

-- the row group of the rows that stand now, and the first of them in it
pub record IsStandingIn {G : Type 0} (scan : ScanSpec G) (piece : Piece) (s : Standing) : Type 0 where
  pub stands : scan.at ≡ Some piece
  pub group : blocks_in s.group ≡ piece.group
  pub first_row : s.first_row ≡ piece.first

abbrev pub GivesStanding : {G : Type 0} → ScanSpec G → Option Standing → Type 0
GivesStanding scan None = scan.at ≡ None
GivesStanding scan (Some s) = (piece : Piece) × IsStandingIn scan piece s

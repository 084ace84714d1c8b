-- What loading a folder's tables gives, and which files it writes and takes away.
use Rattle.std.specs.Prelude.{◌≡◌, ◌⊎◌, ℕ, ◌≤◌, ◌-◌, List, [], ◌∷◌, ◌++◌, length, map, take, drop, sum, slice_index, zip, codes, decimal, ⊤, Option, None, Some, Ok}
use Rattle.std.specs.List.{enumerate_from, range_with_len}
use Rattle.std.specs.Io.KnownBytes.{Appends}
use Rattle.meaning.specs.Limits.{max_fragments, max_rows}
use Rattle.catalog_reader.specs.CatalogText.{catalog_of}
use Rattle.meaning.specs.Cut.{cut_of, even_lengths, Cut, first_row}
use Rattle.meaning.specs.declared.catalog.Table.{Table}
use Rattle.meaning.specs.declared.catalog.Catalog.{Catalog}
use Rattle.meaning.specs.declared.catalog.Dimension.{Dimension}
use Rattle.columns.specs.Column.{ColumnSpec}
use Rattle.loader.specs.Columns.{fact_fragments, dimension_columns}
use Rattle.loader.specs.Source.{csv_records}
use Rattle.fragment_file.specs.Fragment.{Stands, table_header}
use Rattle.wire.specs.Bytes.{sealed}
use Rattle.fragment_file.specs.Writing.{AreColumns}
use Rattle.fragment_file.specs.CutFile.{cut_bytes}
use Rattle.fragment_file.specs.declared.header.Header.{Header}
use Rattle.fragment_file.specs.declared.header.Slice.{Slice}
use Rattle.folders.specs.Each.{AreEach}
use Rattle.folders.specs.Folder.{Holds, Change, AreHeld, Encloses, Writes, catalog_path, csv_path, fragment_path, dimension_path, cut_path}
use Rattle.loads.specs.declared.ready.Ready.{Ready}

-- ---- what a file may be written of

-- how many rows columns have
abbrev pub rows_in : List ColumnSpec → ℕ
rows_in [] = 0
rows_in (c ∷ cs) = length c.values

-- columns of so many rows of the fact
abbrev pub AreFragmentColumns : Table → ℕ → List ColumnSpec → Type 0
AreFragmentColumns table rows columns = AreColumns table.columns rows columns

-- columns of a dimension, of no more rows than it may have
abbrev pub AreDimensionColumns : Dimension → List ColumnSpec → Type 0
AreDimensionColumns d columns = AreColumns d.table.columns (rows_in columns) columns × (rows_in columns ≤ max_rows)

-- ---- loading

-- the columns are those of the dimension's CSV file
pub record IsDimensionLoaded (holds : Holds) (folder : List ℕ) (d : Dimension) (columns : List ColumnSpec) : Type 0 where
  pub bytes : List ℕ
  pub held : AreHeld (holds (csv_path folder d.table.name)) bytes
  pub loaded : dimension_columns d (csv_records bytes) ≡ Ok columns

-- so many records stand behind the first of the fact's CSV file, where its bytes are known
abbrev pub IsFactCounted : Holds → List ℕ → Catalog → ℕ → Type 0
IsFactCounted holds folder catalog counted = (csv : List ℕ) → holds (csv_path folder catalog.fact.name) ≡ Some csv → counted ≡ length (drop 1 (csv_records csv))

-- the fragments of a fact that was cut evenly into fragments of so many rows. They are those of its CSV file where its
-- bytes are known: it is read twice, so that else nothing says that both times had the same bytes.
pub record IsFactLoaded (holds : Holds) (folder : List ℕ) (catalog : Catalog) (rows : ℕ) (cut : Cut) (fragments : List (List ColumnSpec)) : Type 0 where
  pub counted : ℕ
  pub all : IsFactCounted holds folder catalog counted
  pub evenly : cut_of (even_lengths counted rows) ≡ Ok cut
  pub each : AreEach (AreFragmentColumns catalog.fact) cut fragments
  pub loaded : (csv : List ℕ) → holds (csv_path folder catalog.fact.name) ≡ Some csv → fact_fragments catalog cut (csv_records csv) ≡ Ok fragments

-- ---- files

-- the header of so many of a table's rows
abbrev pub header_of : ℕ → Table → ℕ → ℕ → ℕ → Header
header_of load table fragment first_row rows = table_header load table (record { fragment = fragment; first_row = first_row; rows = rows })

-- bytes encode the header and the columns of a fragment, of which its number and columns are given
abbrev pub StandsForFragment : ℕ → Table → Cut → ℕ × List ColumnSpec → List ℕ → Type 0
StandsForFragment load table cut p bytes = Stands bytes (header_of load table p.0 (first_row cut p.0) (slice_index cut p.0)) p.1

-- the file of a fragment
abbrev pub IsFragmentFile : List ℕ → ℕ → Table → Cut → ℕ × List ColumnSpec → Change → Type 0
IsFragmentFile folder load table cut p change = (bytes : List ℕ) × (change ≡ (fragment_path folder table.name p.0, Some bytes)) × StandsForFragment load table cut p bytes

-- the file of a dimension, of which its declaration and columns are given
abbrev pub IsDimensionFile : List ℕ → ℕ → Dimension × List ColumnSpec → Change → Type 0
IsDimensionFile folder load p change = (bytes : List ℕ) × (change ≡ (dimension_path folder p.0.table.name, Some bytes)) × Stands bytes (header_of load p.0.table 0 0 (rows_in p.1)) p.1

-- the files of so many fragments behind those of the cut are taken away
abbrev pub removed : List ℕ → Table → Cut → ℕ → List Change
removed folder table cut n = map (λ k. (fragment_path folder table.name k, None)) (range_with_len (length cut) n)

-- the files of fragments that the cut doesn't have are taken away
abbrev pub removals : List ℕ → Table → Cut → List Change
removals folder table cut = removed folder table cut (max_fragments - length cut)

-- the file of the cut
abbrev pub cut_file_of : List ℕ → ℕ → Cut → Change
cut_file_of folder load cut = (cut_path folder, Some (sealed (cut_bytes (record { load = load; cut = cut }))))

-- the files of the fragments and of the dimensions are written, those of other fragments taken away, and the file of the
-- cut is written, in this order
pub record AreFiles (folder : List ℕ) (load : ℕ) (catalog : Catalog) (cut : Cut) (fragments dims : List (List ColumnSpec)) (changes : List Change) : Type 0 where
  pub of_fragments : List Change
  pub fragments_are : AreEach (IsFragmentFile folder load catalog.fact cut) (enumerate_from 0 fragments) of_fragments
  pub of_dims : List Change
  pub dims_are : AreEach (IsDimensionFile folder load) (zip catalog.dims dims) of_dims
  pub whole : changes ≡ ((of_fragments ++ of_dims) ++ removals folder catalog.fact cut) ++ cut_file_of folder load cut ∷ []

-- the first files of the fragments were written
abbrev pub AreFragmentsBegun : List ℕ → ℕ → Table → Cut → List (List ColumnSpec) → List Change → Type 0
AreFragmentsBegun folder load table cut fragments changes = (n : ℕ) × AreEach (IsFragmentFile folder load table cut) (enumerate_from 0 (take n fragments)) changes

-- the first files of the dimensions were written
abbrev pub AreDimensionsBegun : List ℕ → ℕ → List Dimension → List (List ColumnSpec) → List Change → Type 0
AreDimensionsBegun folder load declared dims changes = (n : ℕ) × AreEach (IsDimensionFile folder load) (zip (take n declared) (take n dims)) changes

-- the files of the first of the fragments that the cut doesn't have were taken away
abbrev pub AreRemovalsBegun : List ℕ → Table → Cut → List Change → Type 0
AreRemovalsBegun folder table cut changes = (n : ℕ) × (n ≤ max_fragments - length cut) × (changes ≡ removed folder table cut n)

-- all files of the fragments were written, and behind them
pub record ArePutBefore (folder : List ℕ) (load : ℕ) (table : Table) (cut : Cut) (fragments : List (List ColumnSpec)) (AreBehind : List Change → Type 0) (changes : List Change) : Type 0 where
  pub of_fragments : List Change
  pub fragments_are : AreEach (IsFragmentFile folder load table cut) (enumerate_from 0 fragments) of_fragments
  pub behind : List Change
  pub behind_are : AreBehind behind
  pub whole : changes ≡ of_fragments ++ behind

-- all files of the dimensions were written, and behind them the first of other fragments' were taken away
pub record AreSavedBeforeRemovals (folder : List ℕ) (load : ℕ) (catalog : Catalog) (cut : Cut) (dims : List (List ColumnSpec)) (changes : List Change) : Type 0 where
  pub of_dims : List Change
  pub dims_are : AreEach (IsDimensionFile folder load) (zip catalog.dims dims) of_dims
  pub removals : List Change
  pub removals_are : AreRemovalsBegun folder catalog.fact cut removals
  pub whole : changes ≡ of_dims ++ removals

-- The first files of the fragments were written; or all of these, and the first of the dimensions; or all of both, and the first of the
-- others were taken away. The file of the cut wasn't written.
abbrev pub AreFilesBegun : List ℕ → ℕ → Catalog → Cut → List (List ColumnSpec) → List (List ColumnSpec) → List Change → Type 0
AreFilesBegun folder load catalog cut fragments dims changes = AreFragmentsBegun folder load catalog.fact cut fragments changes
    ⊎ ArePutBefore folder load catalog.fact cut fragments (AreDimensionsBegun folder load catalog.dims dims) changes
    ⊎ ArePutBefore folder load catalog.fact cut fragments (AreSavedBeforeRemovals folder load catalog cut dims) changes

-- ---- files that stand under no path yet

-- the rows behind those of these fragments
abbrev pub IsNextSlice : Cut → List (List ColumnSpec) → Slice → Type 0
IsNextSlice cut fragments slice = (slice.fragment ≡ length fragments) × (slice.first_row ≡ first_row cut (length fragments)) × (slice.rows ≡ slice_index cut (length fragments))

-- a fragment's file is closed; its number and columns are given
abbrev pub IsFragmentClosed : {P : Type 0} → (P → Option (List ℕ)) → Option (List Change) → ℕ → Table → Cut → ℕ × List ColumnSpec → P → Type 0
IsFragmentClosed enclosed wrote load table cut p file = Encloses (StandsForFragment load table cut p) wrote (enclosed file)

-- the files of fragments are closed, in their order
abbrev pub AreFragmentsClosed : {P : Type 0} → (P → Option (List ℕ)) → Option (List Change) → ℕ → Table → Cut → List (List ColumnSpec) → List P → Type 0
AreFragmentsClosed enclosed wrote load table cut fragments files = AreEach (IsFragmentClosed enclosed wrote load table cut) (enumerate_from 0 fragments) files

-- ---- files that are closed, with their paths

-- the file is put under its path
abbrev pub put : {P : Type 0} → (P → Option (List ℕ)) → Ready P → Change
put enclosed ready = (ready.path, enclosed ready.file)

-- the file of a path is taken away
abbrev pub gone : List ℕ → Change
gone path = (path, None)

-- the files' bytes are known
abbrev pub AreKnown : {P : Type 0} → (P → Option (List ℕ)) → List (Ready P) → Type 0
AreKnown enclosed [] = ⊤
AreKnown enclosed (r ∷ rs) = ((bytes : List ℕ) × (enclosed r.file ≡ Some bytes)) × AreKnown enclosed rs

-- the first of these changes
abbrev pub AreFirst : List Change → List Change → Type 0
AreFirst all changes = (n : ℕ) × (n ≤ length all) × (changes ≡ take n all)

-- the first of these changes; or all of them, and the first of those behind them; or all of both, and the first of the last
abbrev pub AreFirstOfThree : List Change → List Change → List Change → List Change → Type 0
AreFirstOfThree a b c changes = AreFirst a changes
    ⊎ ((n : ℕ) × (n ≤ length b) × (changes ≡ a ++ take n b))
    ⊎ ((n : ℕ) × (n ≤ length c) × (changes ≡ a ++ (b ++ take n c)))

-- a closed file with its path, of which its number and the closed file are given
abbrev pub IsReadyUnder : {P : Type 0} → List ℕ → Table → ℕ × P → Ready P → Type 0
IsReadyUnder folder table p ready = (ready.path ≡ fragment_path folder table.name p.0) × (ready.file ≡ p.1)

-- a dimension's file is closed, and has its path; its declaration and columns are given
abbrev pub IsDimensionReady : {P : Type 0} → (P → Option (List ℕ)) → Option (List Change) → List ℕ → ℕ → Dimension × List ColumnSpec → Ready P → Type 0
IsDimensionReady enclosed wrote folder load p ready = (ready.path ≡ dimension_path folder p.0.table.name)
    × Encloses (λ bytes. Stands bytes (header_of load p.0.table 0 0 (rows_in p.1)) p.1) wrote (enclosed ready.file)

-- the file of the cut is closed, and has its path
abbrev pub IsCutReady : {P : Type 0} → (P → Option (List ℕ)) → Option (List Change) → List ℕ → ℕ → Cut → Ready P → Type 0
IsCutReady enclosed wrote folder load cut ready = (ready.path ≡ cut_path folder)
    × Encloses (λ bytes. bytes ≡ sealed (cut_bytes (record { load = load; cut = cut }))) wrote (enclosed ready.file)

-- the paths of the files of fragments that the cut doesn't have
abbrev pub removal_paths : List ℕ → Table → Cut → List (List ℕ)
removal_paths folder table cut = map (fragment_path folder table.name) (range_with_len (length cut) (max_fragments - length cut))

-- ---- the command

-- the refusal of the whole fact and of its fragments
abbrev pub loaded_line : ℕ → ℕ → List ℕ
loaded_line rows fragments = codes "loaded " ++ decimal rows ++ codes " rows in " ++ decimal fragments ++ codes " fragments" ++ 10 ∷ []

-- the tables of a catalogue were loaded: what was printed and which files were written is what the folder's files mean
pub record IsCatalogLoaded (holds : Holds) (folder : List ℕ) (load rows : ℕ) (catalog : Catalog) (before after : Option (List ℕ)) (wrote_before wrote_after : Option (List Change)) : Type 0 where
  pub cut : Cut
  pub fragments : List (List ColumnSpec)
  pub fact : IsFactLoaded holds folder catalog rows cut fragments
  pub dims : List (List ColumnSpec)
  pub each : AreEach (IsDimensionLoaded holds folder) catalog.dims dims
  pub printed : Appends before after (loaded_line (sum cut) (length cut))
  pub written : Writes (AreFiles folder load catalog cut fragments dims) wrote_before wrote_after

-- a folder's tables were loaded, by the catalogue that lies there
pub record IsLoadDone (holds : Holds) (folder : List ℕ) (load rows : ℕ) (before after : Option (List ℕ)) (wrote_before wrote_after : Option (List Change)) : Type 0 where
  pub catalog_bytes : List ℕ
  pub held : AreHeld (holds (catalog_path folder)) catalog_bytes
  pub catalog : Catalog
  pub declared : catalog_of catalog_bytes ≡ Ok catalog
  pub loaded : IsCatalogLoaded holds folder load rows catalog before after wrote_before wrote_after

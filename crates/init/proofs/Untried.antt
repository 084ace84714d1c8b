-- Where no catalogue is guessed, no file was to be written: such a refusal never says that one can't be.
use Rattle.std.proofs.Common.{ℕ, List, inl, inr, sym, subst}
use Rattle.std.specs.Prelude.{Option, string_bytes}
use Rattle.meaning.specs.declared.catalog.Catalog.{Catalog}
use Rattle.meaning.specs.declared.catalog.Dimension.{Dimension}
use Rattle.meaning.specs.declared.catalog.Table.{Table}
use Rattle.folders.specs.Folder.{Holds, csv_path}
use Rattle.init.specs.declared.fault.InitFault.{InitFault}
use Rattle.init.specs.declared.fault.InitFault.TheVariants as fault
use Rattle.init.specs.declared.fault.PathFault.TheVariants as path_fault
use Rattle.init.specs.declared.listing.CsvFile.{CsvFile}
use Rattle.init.specs.Guessing.{AreDimensionsUnmade, IsDimensionUnmade, IsFactUnfound, IsGuessRefused, IsKeyRefused, IsNoCatalog, IsTableRefused, IsTextRefused, IsUnlisted, IsUnreported}
use Rattle.init.specs.Refusing.{AreTablesRefused, IsCatalogRefused, IsDimensionRefused, IsFactRefused, IsTriedFor}

module _ (tries : List ℕ → Type 0) (holds : Holds) where
  untried_table : (path table : List ℕ) (e : InitFault) → IsTableRefused holds path table e → IsTriedFor tries e
  untried_table path table (fault.Path file path_fault.CannotWrite) (inl of) = absurd of
  untried_table path table (fault.Path file path_fault.CannotWrite) (inr (named, of)) = absurd of.0
  untried_table path table _ of = tt

  untried_key : (path : List ℕ) (table : Table) (e : InitFault) → IsKeyRefused holds path table e → IsTriedFor tries e
  untried_key path table (fault.Path file path_fault.CannotWrite) (inl (inl is)) = cc is
  untried_key path table (fault.Path file path_fault.CannotWrite) (inl (inr first)) = absurd first.refused
  untried_key path table (fault.Path file path_fault.CannotWrite) (inr (keys, of, none)) = absurd of
  untried_key path table _ of = tt

  untried_report : (e : InitFault) → IsUnreported e → IsTriedFor tries e
  untried_report e (inl is) = subst (IsTriedFor tries) (sym is) tt
  untried_report e (inr is) = subst (IsTriedFor tries) (sym is) tt

  untried_dimension : (path table : List ℕ) (e : InitFault) → IsDimensionUnmade holds path table e → IsTriedFor tries e
  untried_dimension path table e (inl of) = untried_table path table e of
  untried_dimension path table e (inr (named, columns, shown, inl of)) = untried_key path (record { name = table; columns = columns }) e of
  untried_dimension path table e (inr (named, columns, shown, inr of)) = untried_report e of

  untried_dimensions : (folder : List ℕ) (files : List CsvFile) (fact : List ℕ) (e : InitFault) → AreDimensionsUnmade holds folder files fact e → IsTriedFor tries e
  untried_dimensions folder files fact e (inl is) = subst (IsTriedFor tries) (sym is) tt
  untried_dimensions folder files fact e (inr first) =
      untried_dimension (csv_path folder (string_bytes first.file.table)) (string_bytes first.file.table) e first.unmade

  untried_no_catalog : (text : List ℕ) (e : InitFault) → IsNoCatalog text e → IsTriedFor tries e
  untried_no_catalog text e (inl is) = subst (IsTriedFor tries) (sym is) tt
  untried_no_catalog text e (inr (f, found, is)) = subst (IsTriedFor tries) (sym is) tt

  untried_unfound : (named : Option (List ℕ)) (files : List CsvFile) (folder : List ℕ) (e : InitFault) → IsFactUnfound named files folder e → IsTriedFor tries e
  untried_unfound named files folder (fault.Path file path_fault.CannotWrite) of = absurd of
  untried_unfound named files folder _ of = tt

  untried_unlisted : (hides : List ℕ → Type 0) (folder : List ℕ) (e : InitFault) → IsUnlisted hides folder e → IsTriedFor tries e
  untried_unlisted hides folder (fault.Path file path_fault.CannotWrite) of = absurd of
  untried_unlisted hides folder _ of = tt

  untried_fact : (path : List ℕ) (catalog : Catalog) (e : InitFault) → IsFactRefused holds path catalog e → IsTriedFor tries e
  untried_fact path catalog (fault.Path file path_fault.CannotWrite) of = absurd of
  untried_fact path catalog _ of = tt

  untried_records : (path : List ℕ) (d : Dimension) (e : InitFault) → IsDimensionRefused holds path d e → IsTriedFor tries e
  untried_records path d (fault.Path file path_fault.CannotWrite) of = absurd of
  untried_records path d _ of = tt

  untried_tables : (folder : List ℕ) (catalog : Catalog) (e : InitFault) → AreTablesRefused holds folder catalog e → IsTriedFor tries e
  untried_tables folder catalog e (inl of) = untried_fact (csv_path folder catalog.fact.name) catalog e of
  untried_tables folder catalog e (inr (fit, of)) = untried_records (csv_path folder of.dim.table.name) of.dim e of.refused

  untried_catalog : (folder text : List ℕ) (e : InitFault) → IsCatalogRefused holds folder text e → IsTriedFor tries e
  untried_catalog folder text e (inl is) = subst (IsTriedFor tries) (sym is) tt
  untried_catalog folder text e (inr (inl (f, found, is))) = subst (IsTriedFor tries) (sym is) tt
  untried_catalog folder text e (inr (inr (catalog, declared, of))) = untried_tables folder catalog e of

  untried_text : (folder : List ℕ) (files : List CsvFile) (fact : List ℕ) (e : InitFault) → IsTextRefused holds folder files fact e → IsTriedFor tries e
  untried_text folder files fact e (inl (inl (inl of))) = untried_table (csv_path folder fact) fact e of
  untried_text folder files fact e (inl (inl (inr (made, of)))) = untried_dimensions folder files fact e of
  untried_text folder files fact e (inl (inr (text, of))) = untried_no_catalog text e of
  untried_text folder files fact e (inr (text, guess, of)) = untried_catalog folder text e of

  pub untried_guess : (lists : List ℕ → List CsvFile → Type 0) (hides : List ℕ → Type 0) (folder : List ℕ) (named : Option (List ℕ)) (e : InitFault) → IsGuessRefused holds lists hides folder named e → IsTriedFor tries e
  untried_guess lists hides folder named e (inl of) = untried_unlisted hides folder e of
  untried_guess lists hides folder named e (inr (files, listed, inl of)) = untried_unfound named files folder e of
  untried_guess lists hides folder named e (inr (files, listed, inr (fact, is_fact, inl (many, is)))) = subst (IsTriedFor tries) (sym is) tt
  untried_guess lists hides folder named e (inr (files, listed, inr (fact, is_fact, inr (few, of)))) = untried_text folder files fact e of

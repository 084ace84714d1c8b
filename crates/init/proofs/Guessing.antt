-- The tables of a folder's files, from file to file.
use Rattle.std.proofs.Common.{◌≡◌, ℕ, suc, ◌+◌, ◌<◌, List, [], ◌∷◌, ◌++◌, Bool, false, length, take, drop, get_or, cond, not, ap, sym, ◌∙◌}
use Rattle.std.proofs.Math.Seq.{split_at}
use Rattle.std.specs.Prelude.{Option, None, Some, string_bytes}
use Rattle.std.specs.Str.{bytes_eq}
use Rattle.std.proofs.lemmas.List.Elements.{filter-append, filter_more}
use Rattle.meaning.specs.declared.catalog.Dimension.{Dimension}
use Rattle.folders.specs.Folder.{Holds, csv_path}
use Rattle.init.specs.declared.fault.InitFault.{InitFault}
use Rattle.init.specs.declared.listing.CsvFile.{CsvFile}
use Rattle.init.specs.Guessed.{AreDimensionsOf, IsDimensionOf, IsGuess, others}
use Rattle.init.specs.Guessing.{IsDimensionUnmade, IsFactOf, IsFirstUnmade}
use Rattle.init.specs.Making.{IsAsAsked}

pub one_dimension_more : (holds : Holds) (folder : List ℕ) (files : List CsvFile) (dims : List Dimension) (file : CsvFile) (dimension : Dimension) → AreDimensionsOf holds folder files dims → IsDimensionOf holds folder file dimension
    → AreDimensionsOf holds folder (files ++ file ∷ []) (dims ++ dimension ∷ [])
one_dimension_more holds folder [] [] file dimension all here = (here, tt)
one_dimension_more holds folder [] (d ∷ dims) file dimension all here = absurd all
one_dimension_more holds folder (f ∷ files) [] file dimension all here = absurd all
one_dimension_more holds folder (f ∷ files) (d ∷ dims) file dimension all here = (all.0, one_dimension_more holds folder files dims file dimension all.1 here)

-- a file that isn't the fact's
pub one_other_more : (fact : List ℕ) (files : List CsvFile) (index : ℕ) (file : CsvFile) → index < length files → file ≡ get_or files index file → bytes_eq (string_bytes file.table) fact ≡ false
    → others fact (take (index + 1) files) ≡ others fact (take index files) ++ file ∷ []
one_other_more fact files index file below is apart =
    let front = others fact (take index files) in
    filter_more (λ (f : CsvFile). not (bytes_eq (string_bytes f.table) fact)) files index file below
    ∙ ap (λ (f : CsvFile). front ++ cond (not (bytes_eq (string_bytes f.table) fact)) (f ∷ []) []) (sym is)
    ∙ ap (λ (b : Bool). front ++ cond (not b) (file ∷ []) []) apart

-- the other files, around one that isn't the fact's
others_around : (fact : List ℕ) (files : List CsvFile) (index : ℕ) (file : CsvFile) → index < length files → file ≡ get_or files index file → bytes_eq (string_bytes file.table) fact ≡ false
    → others fact files ≡ others fact (take index files) ++ file ∷ others fact (drop (suc index) files)
others_around fact files index file below is apart =
    let front = others fact (take index files) in
    let behind = others fact (drop (suc index) files) in
    ap (others fact) (split_at files index file below ∙ ap (λ (f : CsvFile). take index files ++ f ∷ drop (suc index) files) (sym is))
    ∙ filter-append (λ (f : CsvFile). not (bytes_eq (string_bytes f.table) fact)) (take index files) (file ∷ drop (suc index) files)
    ∙ ap (λ (b : Bool). front ++ cond (not b) (file ∷ behind) behind) apart

-- the first of the other files that makes no dimension
pub first_unmade : (holds : Holds) (folder : List ℕ) (files : List CsvFile) (fact : List ℕ) (index : ℕ) (file : CsvFile) (dims : List Dimension) (e : InitFault) → index < length files → file ≡ get_or files index file
    → bytes_eq (string_bytes file.table) fact ≡ false → AreDimensionsOf holds folder (others fact (take index files)) dims → IsDimensionUnmade holds (csv_path folder (string_bytes file.table)) (string_bytes file.table) e → IsFirstUnmade holds folder (others fact files) e
first_unmade holds folder files fact index file dims e below is apart made unmade = record {
  front = others fact (take index files);
  file = file;
  behind = others fact (drop (suc index) files);
  files_are = others_around fact files index file below is apart;
  dims = dims;
  made = made;
  unmade = unmade;
}

-- a guess has the fact that was asked for
pub as_asked : (holds : Holds) (folder : List ℕ) (files : List CsvFile) (asked : Option (List ℕ)) (fact text : List ℕ) → IsFactOf asked files fact → IsGuess holds folder files fact text → IsAsAsked asked text
as_asked holds folder files None fact text is guess = tt
as_asked holds folder files (Some name) fact text (is, has) (table, named, shown, (catalog, declared, same, dims)) = (catalog, declared, (λ k. (same k).name) ∙ named ∙ is)

-- What a tool leaves.
use Rattle.std.specs.Prelude.{◌≡◌, ◌≢◌, ◌⊎◌, ◌++◌, ℕ, List, Option, codes}
use Rattle.std.specs.Io.KnownBytes.{Appends}
use Rattle.command_line.specs.declared.parser.TheConstants.{VERSION}
use Rattle.explain.specs.Explaining.{IsExplained, IsUnexplained, PrintsPlan}
use Rattle.folders.specs.Folder.{AreHeld, Change, Holds, WritesOne, catalog_path}
use Rattle.folders.specs.Refused.{IsAskedFor}
use Rattle.folders.specs.declared.refusal.Refusal.{Refusal as ARefusal}
use Rattle.folders.specs.declared.refusal.Refusal.TheVariants as refusal
use Rattle.init.specs.declared.listing.CsvFile.{CsvFile}
use Rattle.init.specs.Guessing.{IsGuessable}
use Rattle.init.specs.Making.{IsAsAsked, IsCatalogFor}
use Rattle.init.specs.Saying.{SaysChoices}
use Rattle.load_check.specs.Checking.{IsFolderFit, fit_line}
use Rattle.show.specs.declared.showing.ShowOptions.{ShowOptions}
use Rattle.show.specs.Shown.{HoldsFile, IsWhole, PrintsPartsOf}
use Rattle.tools.specs.Explained.{PrintsEntry}
use Rattle.tools.specs.declared.words.ShowWords.{ShowWords}
use Rattle.tools.specs.declared.words.Tool.{Tool}
use Rattle.tools.specs.declared.words.Tool.TheVariants.{Check, Explain, Init, Refusal, Show, Version}

-- a tool ends with 0 or 1
abbrev pub IsStatus : ℕ → Type 0
IsStatus status = (status ≡ 0) ⊎ (status ≡ 1)

-- a catalogue was written of the tables that the folder's files show, under which those that were held load, of the fact that was
-- named, if one was
abbrev pub WritesCatalog : Holds → (List ℕ → List CsvFile → Type 0) → List ℕ → Option (List ℕ) → Option (List Change) → Option (List Change) → Type 0
WritesCatalog holds lists folder fact before after =
    (text : List ℕ) × IsCatalogFor holds folder text × IsAsAsked fact text × IsGuessable holds lists folder fact text
    × WritesOne (catalog_path folder) (λ given. given ≡ text) before after

-- with the status 0 such a catalogue was written, and with another no file has changed
abbrev pub MakesCatalog : Holds → (List ℕ → List CsvFile → Type 0) → List ℕ → Option (List ℕ) → ℕ → Option (List Change) → Option (List Change) → Type 0
MakesCatalog holds lists folder fact status before after =
    ((status ≡ 0) × WritesCatalog holds lists folder fact before after) ⊎ ((status ≡ 1) × (after ≡ before))

-- no file has changed, and with the status 0 the query has a plan over the folder's tables
abbrev pub ExplainsPlan : Holds → List ℕ → List ℕ → ℕ → Option (List Change) → Option (List Change) → Type 0
ExplainsPlan holds folder query status before after = (after ≡ before) × (status ≡ 0 → IsExplained holds folder query)

-- no file has changed, and with the status 0 the path's file is one of the program's
abbrev pub ShowsFile : Holds → List ℕ → ℕ → Option (List Change) → Option (List Change) → Type 0
ShowsFile holds path status before after =
    (after ≡ before) × (status ≡ 0 → (bytes : List ℕ) × AreHeld (holds path) bytes × IsWhole bytes)

-- no file has changed, and with the status 0 the folder's tables load
abbrev pub ChecksFolder : Holds → List ℕ → ℕ → Option (List Change) → Option (List Change) → Type 0
ChecksFolder holds folder status before after = (after ≡ before) × (status ≡ 0 → IsFolderFit holds folder)

abbrev pub LeavesFiles : Holds → (List ℕ → List CsvFile → Type 0) → Tool → ℕ → Option (List Change) → Option (List Change) → Type 0
LeavesFiles holds lists (Init words) status before after = MakesCatalog holds lists words.folder words.fact status before after
LeavesFiles holds lists (Refusal words) status before after = after ≡ before
LeavesFiles holds lists (Explain words) status before after = ExplainsPlan holds words.folder words.query status before after
LeavesFiles holds lists (Show words) status before after = ShowsFile holds words.path status before after
LeavesFiles holds lists (Check words) status before after = ChecksFolder holds words.folder status before after
LeavesFiles holds lists Version status before after = after ≡ before

-- what was chosen for the catalogue that was written is said
abbrev pub SaysCatalog : Holds → List ℕ → Option (List ℕ) → Option (List Change) → Option (List Change) → Option (List ℕ) → Option (List ℕ) → Type 0
SaysCatalog holds folder fact wrote_before wrote_after before after =
    (text : List ℕ) × WritesOne (catalog_path folder) (λ given. given ≡ text) wrote_before wrote_after × SaysChoices holds folder fact text before after

-- what a tool that ends with 0 leaves of standard error: what was chosen for a catalogue, and else nothing
abbrev pub LeavesErrors : Holds → Tool → Option (List Change) → Option (List Change) → Option (List ℕ) → Option (List ℕ) → Type 0
LeavesErrors holds (Init words) wrote_before wrote_after before after = SaysCatalog holds words.folder words.fact wrote_before wrote_after before after
LeavesErrors holds (Refusal words) wrote_before wrote_after before after = after ≡ before
LeavesErrors holds (Explain words) wrote_before wrote_after before after = after ≡ before
LeavesErrors holds (Show words) wrote_before wrote_after before after = after ≡ before
LeavesErrors holds (Check words) wrote_before wrote_after before after = after ≡ before
LeavesErrors holds Version wrote_before wrote_after before after = after ≡ before

-- The query has no plan for this reason, and nothing was printed unless standard output failed. A file that can't be read was asked
-- for.
abbrev pub IsLeftUnexplained : Holds → (List ℕ → Type 0) → List ℕ → List ℕ → Option (List ℕ) → Option (List ℕ) → Type 0
IsLeftUnexplained holds asks folder query before after =
    (e : ARefusal) × IsUnexplained holds folder query e × IsAskedFor asks e × (e ≢ refusal.CannotPrint → after ≡ before)

-- the plan that the query has over the folder's tables is printed, or it has none
abbrev pub PrintsExplanation : Holds → (List ℕ → Type 0) → List ℕ → List ℕ → ℕ → Option (List ℕ) → Option (List ℕ) → Type 0
PrintsExplanation holds asks folder query status before after =
    (status ≡ 0 → PrintsPlan holds folder query before after) × (status ≡ 1 → IsLeftUnexplained holds asks folder query before after)

-- as the words ask for it
abbrev pub options_of : ShowWords → ShowOptions
options_of words = record { rows = words.rows; groups = words.groups }

-- nothing is printed of a file that begins as none of the program's; of one without a fault its parts or rows are
abbrev pub PrintsFile : Holds → ShowWords → ℕ → Option (List ℕ) → Option (List ℕ) → Type 0
PrintsFile holds words status before after =
    ((after ≡ before) ⊎ HoldsFile holds words.path) × (status ≡ 0 → PrintsPartsOf holds words.path (options_of words) before after)

-- with the status 0 it is said that there is no fault
abbrev pub PrintsFit : List ℕ → ℕ → Option (List ℕ) → Option (List ℕ) → Type 0
PrintsFit folder status before after = status ≡ 0 → Appends before after (fit_line folder)

-- the line of the version
abbrev pub version_line : List ℕ
version_line = codes "xcols " ++ VERSION.now ++ codes "\n"

abbrev pub PrintsVersion : ℕ → Option (List ℕ) → Option (List ℕ) → Type 0
PrintsVersion status before after = status ≡ 0 → Appends before after version_line

-- what a tool leaves of standard output: nothing is printed while a catalogue is made, nor where a query is refused
abbrev pub LeavesOutput : Holds → (List ℕ → Type 0) → Tool → ℕ → Option (List ℕ) → Option (List ℕ) → Type 0
LeavesOutput holds asks (Init words) status before after = after ≡ before
LeavesOutput holds asks (Refusal words) status before after = PrintsEntry words status before after
LeavesOutput holds asks (Explain words) status before after = PrintsExplanation holds asks words.folder words.query status before after
LeavesOutput holds asks (Show words) status before after = PrintsFile holds words status before after
LeavesOutput holds asks (Check words) status before after = PrintsFit words.folder status before after
LeavesOutput holds asks Version status before after = PrintsVersion status before after

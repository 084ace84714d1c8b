-- Which file bytes begin as, and what is known of one that was shown without a fault.
use Rattle.std.specs.Prelude.{◌≡◌, ℕ, List, [], ◌∷◌, ◌++◌, length, drop, codes, decimal, Option, None, Some, Ok, if◌then◌else◌, nat_eq, ⊤}
use Rattle.std.specs.Io.KnownBytes.{Appends}
use Rattle.std.specs.List.{starts_with}
use Rattle.fragment_file.specs.CutFile.{CutFileSpec, IsCutFileOf}
use Rattle.fragment_file.specs.Fragment.{FragmentSpec, IsFileOf}
use Rattle.folders.specs.Folder.{AreHeld, Holds}
use Rattle.answer_fields.specs.declared.format.Content.TheVariants as of
use Rattle.answer_fields.specs.declared.format.Format.{Format}
use Rattle.answer_fields.specs.Format.{format_in}
use Rattle.table_text.specs.CutText.{cut_at, cut_text}
use Rattle.show.specs.Rows.{rows_text}
use Rattle.table_text.specs.TableText.{TableLayout, fragment_of, table_at, table_text}
use Rattle.show.specs.declared.file_kind.FileKind.{FileKind}
use Rattle.show.specs.declared.file_kind.FileKind.TheVariants as kind
use Rattle.show.specs.declared.showing.ShowOptions.{ShowOptions}
use Rattle.answer_fields.specs.Spelling.{Layout, layout_bytes}
use Rattle.wire.specs.Bytes.{sealed}
use Rattle.wire.specs.Reading.{Read}
use Rattle.answer_fields.specs.declared.fault.DecodeFault.{DecodeFault}
use Rattle.answer_fields.specs.StateSpelling.{StateLayout, state_layout_bytes}
use Rattle.answer_text.specs.Journals.{journal_at, journal_text}
use Rattle.answer_text.specs.Reading.{answer_at, state_at}
use Rattle.answer_text.specs.StateTexts.{held_state_text}
use Rattle.answer_text.specs.Texts.{answer_text}
use Rattle.answer_text.specs.declared.detail.Detail.{Detail}
use Rattle.answer_text.specs.declared.detail.Detail.TheVariants as of_detail

-- an answer or a state, by the formats as which the bytes begin
abbrev pub spelled_in : Option Format → Option Format → Option FileKind
spelled_in (Some f) state = Some (kind.Answer f)
spelled_in None (Some f) = Some (kind.State f)
spelled_in None None = None

-- `XCF1`, `XCL1` and `XGJ1`, and what answers and states begin with
abbrev pub kind_of : List ℕ → Option FileKind
kind_of bytes =
    if starts_with nat_eq bytes (88 ∷ 67 ∷ 70 ∷ 49 ∷ []) then Some kind.Table else
    if starts_with nat_eq bytes (88 ∷ 67 ∷ 76 ∷ 49 ∷ []) then Some kind.Cut else
    if starts_with nat_eq bytes (88 ∷ 71 ∷ 74 ∷ 49 ∷ []) then Some kind.Journal else
    spelled_in (format_in of.Answer bytes) (format_in of.State bytes)

-- the bytes begin as one of the files
abbrev pub BeginsAsFile : List ℕ → Type 0
BeginsAsFile bytes = (kind : FileKind) × (kind_of bytes ≡ Some kind)

-- so do the bytes that are held under the path, where they are known
abbrev pub HoldsFile : Holds → List ℕ → Type 0
HoldsFile holds path = (bytes : List ℕ) × AreHeld (holds path) bytes × BeginsAsFile bytes

-- what is known of a file of this kind: one of a table or of a cut is spelled as such
abbrev pub IsTaken : FileKind → List ℕ → Type 0
IsTaken kind.Table bytes = (f : FragmentSpec) × IsFileOf bytes f
IsTaken kind.Cut bytes = (f : CutFileSpec) × IsCutFileOf bytes f
IsTaken (kind.Answer f) bytes = ⊤
IsTaken (kind.State f) bytes = ⊤
IsTaken kind.Journal bytes = ⊤

-- the line in front of the parts of a table's file or of a cut's
abbrev pub front_of : FileKind → ℕ → List ℕ
front_of kind.Table size = codes "file of columns, " ++ decimal size ++ codes " bytes\n"
front_of kind.Cut size = codes "file of a cut, " ++ decimal size ++ codes " bytes\n"
front_of (kind.Answer f) size = []
front_of (kind.State f) size = []
front_of kind.Journal size = []

-- a count of an answer's groups, or each of them
abbrev pub detail_of : ShowOptions → Detail
detail_of options = if options.groups then of_detail.Groups else of_detail.Count

-- the fields that are read behind the magic are these, and the text is theirs
abbrev pub IsRead : {Y : Type 0} → (List ℕ → List ℕ → Read DecodeFault Y) → (Y → List ℕ) → List ℕ → List ℕ → Type 0
IsRead {Y} read text_of bytes text = (y : Y) × (rest : List ℕ) × (read bytes (drop 4 bytes) ≡ Ok (y, rest)) × (text ≡ text_of y)

-- the text of the parts of a file
abbrev pub ArePartsOf : FileKind → List ℕ → Detail → List ℕ → Type 0
ArePartsOf kind.Table bytes detail text = IsRead table_at (table_text 0 (length bytes)) bytes text
ArePartsOf kind.Cut bytes detail text = IsRead cut_at cut_text bytes text
ArePartsOf (kind.Answer f) bytes detail text = IsRead (answer_at f) (answer_text detail (length bytes)) bytes text
ArePartsOf (kind.State f) bytes detail text = IsRead (state_at f) (held_state_text detail (length bytes)) bytes text
ArePartsOf kind.Journal bytes detail text = IsRead journal_at (journal_text detail 0 (length bytes)) bytes text

-- where the bytes are a table's file, the text is that of its first rows
abbrev pub AreRowsOf : List ℕ → ℕ → List ℕ → Type 0
AreRowsOf bytes most text = (t : TableLayout) (rest : List ℕ) → table_at bytes (drop 4 bytes) ≡ Ok (t, rest) → text ≡ rows_text most t

-- where rows of a table's file are asked for, a header and the first rows are printed, as many as are asked for or all that
-- there are; else what stands in a file, behind the line in front of it
abbrev pub IsText : FileKind → List ℕ → ShowOptions → Option ℕ → List ℕ → List ℕ → Type 0
IsText kind.Table bytes options (Some most) front text = (front ≡ []) × AreRowsOf bytes most text
IsText kind bytes options most front text = (front ≡ front_of kind (length bytes)) × ArePartsOf kind bytes (detail_of options) text

-- the text of the fields that are read behind the magic is printed
abbrev pub PrintsRead : {Y : Type 0} → (List ℕ → List ℕ → Read DecodeFault Y) → (Y → List ℕ) → List ℕ → Option (List ℕ) → Option (List ℕ) → Type 0
PrintsRead {Y} read text_of bytes before after = (y : Y) × (rest : List ℕ) × (read bytes (drop 4 bytes) ≡ Ok (y, rest)) × Appends before after (text_of y)

-- The same of what is printed of a file that has no fault. A table, or its first rows, or a cut that is printed is the one that
-- the bytes are the file of, each row group at the byte where it was read. The bytes of an answer or a state are spelled by the fields that are
-- printed; those of a journal are read as them.
abbrev pub IsPrinted : FileKind → List ℕ → ShowOptions → Option ℕ → Option (List ℕ) → Option (List ℕ) → Type 0
IsPrinted kind.Table bytes options (Some most) before after = (t : TableLayout) × (rest : List ℕ) × (table_at bytes (drop 4 bytes) ≡ Ok (t, rest)) × IsFileOf bytes (fragment_of t) × Appends before after (rows_text most t)
IsPrinted kind.Table bytes options None before after = (t : TableLayout) × (rest : List ℕ) × (table_at bytes (drop 4 bytes) ≡ Ok (t, rest)) × IsFileOf bytes (fragment_of t) × Appends before after (front_of kind.Table (length bytes) ++ table_text 0 (length bytes) t)
IsPrinted kind.Cut bytes options most before after = (f : CutFileSpec) × IsCutFileOf bytes f × Appends before after (front_of kind.Cut (length bytes) ++ cut_text f)
IsPrinted (kind.Answer f) bytes options most before after = (l : Layout) × (l.format ≡ f) × (bytes ≡ sealed (layout_bytes l)) × Appends before after (answer_text (detail_of options) (length bytes) l)
IsPrinted (kind.State f) bytes options most before after =
    (l : StateLayout) × (l.format ≡ f) × (bytes ≡ sealed (state_layout_bytes l)) × Appends before after (held_state_text (detail_of options) (length bytes) l)
IsPrinted kind.Journal bytes options most before after = PrintsRead journal_at (journal_text (detail_of options) 0 (length bytes)) bytes before after

-- so it is of bytes that begin as one of the files
abbrev pub PrintsParts : List ℕ → ShowOptions → Option (List ℕ) → Option (List ℕ) → Type 0
PrintsParts bytes options before after = (kind : FileKind) × (kind_of bytes ≡ Some kind) × IsPrinted kind bytes options options.rows before after

-- so it is of the bytes that are held under the path, where they are known
abbrev pub PrintsPartsOf : Holds → List ℕ → ShowOptions → Option (List ℕ) → Option (List ℕ) → Type 0
PrintsPartsOf holds path options before after = (bytes : List ℕ) × AreHeld (holds path) bytes × PrintsParts bytes options before after

-- bytes that begin as one of the files, and are taken as such
pub record IsWhole (bytes : List ℕ) : Type 0 where
  pub kind : FileKind
  pub begins : kind_of bytes ≡ Some kind
  pub taken : IsTaken kind bytes

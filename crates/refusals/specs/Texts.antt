-- What an entry says, which lines without an error code have one, and what is said of all that have one.
use Rattle.std.specs.Prelude.{◌≡◌, ◌⊎◌, ℕ, zero, suc, ◌==◌, Bool, false, true, ◌||◌, if◌then◌else◌, List, [], ◌∷◌, ◌++◌, Option, codes, flat_map, length, bytes_eq}
use Rattle.std.specs.Io.KnownBytes.{Appends}
use Rattle.refusals.specs.Codes.{has_code, word_of}
use Rattle.refusals.specs.Lines.{IsOfCode, code_line}
use Rattle.refusals.specs.declared.entries.Entry.{Entry}
use Rattle.refusals.specs.declared.layers.Layer.{Layer}
use Rattle.refusals.specs.declared.layers.Layer.TheVariants.{Catalog, Cut, Sql, Plan, Load, File, Work, Journal, Gather}

-- a part has a line of its own, where it says anything
abbrev pub part_text : List ℕ → List ℕ → List ℕ
part_text head text = if length text == 0 then [] else codes "\n  " ++ head ++ codes ": " ++ text

abbrev pub entry_text : Entry → List ℕ
entry_text entry =
    entry.lines.now
    ++ (part_text (codes "means") entry.meaning.now ++ (part_text (codes "smallest input") entry.smallest_input.now ++ part_text (codes "what to do") entry.advice.now))

-- the lines without an error code by which a command is refused
abbrev pub is_of_command : List ℕ → Bool
is_of_command line = ((((bytes_eq line (codes "memory") || bytes_eq line (codes "cannot read")) || bytes_eq line (codes "cannot write"))
    || bytes_eq line (codes "cannot write standard error")) || bytes_eq line (codes "cannot write standard output"))
    || (bytes_eq line (codes "usage") || bytes_eq line (codes "error:"))

-- the lines that stand in place of a query's result, and their first words
abbrev pub is_of_report : List ℕ → Bool
is_of_report line = (((((bytes_eq line (codes "missing") || bytes_eq line (codes "missing:"))
    || (bytes_eq line (codes "conflict") || bytes_eq line (codes "conflict:")))
    || (bytes_eq line (codes "arithmetic") || bytes_eq line (codes "arithmetic:")))
    || bytes_eq line (codes "arithmetic: overflow")) || bytes_eq line (codes "arithmetic: division by zero")) || bytes_eq line (codes "arithmetic: sum out of range")

-- the lines of the page that have no error code
abbrev pub is_plain : List ℕ → Bool
is_plain line = is_of_command line || is_of_report line

-- ---- which there are

-- a layer's word and its error codes, for people
abbrev pub span_text : Layer → List ℕ
span_text Catalog = codes "catalog 1 to 6"
span_text Cut = codes "cut 1 to 3"
span_text Sql = codes "sql 1 to 8"
span_text Plan = codes "plan 1 to 13"
span_text Load = codes "load 1 to 9"
span_text File = codes "file 1 to 4 and 7"
span_text Work = codes "work 1 to 5"
span_text Journal = codes "journal 12 to 16"
span_text Gather = codes "gather 1 to 10"

abbrev pub layer_line : Layer → List ℕ
layer_line layer = codes "  " ++ span_text layer ++ codes "\n"

-- in the order of the page
abbrev pub all_layers : List Layer
all_layers = Catalog ∷ Cut ∷ Sql ∷ Plan ∷ Load ∷ File ∷ Work ∷ Journal ∷ Gather ∷ []

-- a line for each layer, and the lines that have no error code
abbrev pub known_text : List ℕ
known_text = flat_map layer_line all_layers ++ codes "  memory, cannot read, cannot write,\n  cannot write standard error, cannot write standard output,\n  usage, arithmetic, missing, conflict\n"

-- ---- the error codes of a layer

-- a code's line and what it means; nothing where the layer doesn't have the code
abbrev pub IsSentence : Layer → ℕ → List ℕ → Type 0
IsSentence layer number text = ((has_code layer number ≡ false) × (text ≡ []))
    ⊎ ((entry : Entry) × (has_code layer number ≡ true) × IsOfCode (word_of layer) number entry
    × (text ≡ (((codes "  " ++ code_line (word_of layer) number) ++ codes ": ") ++ entry.meaning.now) ++ codes "\n"))

-- the sentences of the codes below a number, in their order
abbrev pub AreSentences : Layer → ℕ → List ℕ → Type 0
AreSentences layer zero text = text ≡ []
AreSentences layer (suc number) text = (before sentence : List ℕ) × (text ≡ before ++ sentence) × AreSentences layer number before × IsSentence layer number sentence

-- they are printed
abbrev pub PrintsSentences : Layer → ℕ → Option (List ℕ) → Option (List ℕ) → Type 0
PrintsSentences layer number before after = (text : List ℕ) × AreSentences layer number text × Appends before after text

-- those of all codes of a layer, the greatest of which is 16
abbrev pub PrintsCodes : Layer → Option (List ℕ) → Option (List ℕ) → Type 0
PrintsCodes layer before after = PrintsSentences layer 17 before after

-- Which words are explained, and by which entry: those with which the line of a known refusal begins.
use Rattle.std.specs.Prelude.{◌≡◌, ◌⊎◌, ◌<◌, ◌≤◌, ℕ, ◌==◌, not, false, true, if◌then◌else◌, List, [], ◌∷◌, ◌++◌, Option, codes, filter, length, take, bytes_eq}
use Rattle.std.specs.List.{slice_split}
use Rattle.std.specs.Io.KnownBytes.{Appends}
use Rattle.std.specs.Str.Parse.{IsNumeral, digits_value, without_leading_plus}
use Rattle.refusals.specs.declared.entries.Entry.{Entry}
use Rattle.refusals.specs.declared.layers.Layer.{Layer}
use Rattle.refusals.specs.Codes.{is_known, word_of}
use Rattle.refusals.specs.Lines.{IsOf, IsOfCode}
use Rattle.refusals.specs.Texts.{PrintsCodes, entry_text, is_plain}
use Rattle.tools.specs.declared.explaining.Explanation.{Explanation}
use Rattle.tools.specs.declared.explaining.Explanation.TheVariants as explanation

-- the words behind the program's name, where the whole line is given
abbrev pub behind_name : List (List ℕ) → List (List ℕ)
behind_name [] = []
behind_name (word ∷ words) = if bytes_eq word (codes "xcols:") then words else word ∷ words

-- the number that the digits say is an error code of the word's layer, and the entry is of their line
abbrev pub IsCode : List ℕ → List ℕ → Entry → Type 0
IsCode word digits entry = IsNumeral 10 digits × (is_known word (digits_value 10 digits) ≡ true) × IsOfCode word (digits_value 10 digits) entry

-- a word and an error code of its layer
abbrev pub BeginsWithCode : List (List ℕ) → Entry → Type 0
BeginsWithCode (word ∷ number ∷ words) entry = IsCode word (without_leading_plus number) entry
BeginsWithCode _ entry = ⊥

-- a line with one word more
abbrev pub with_word : List ℕ → List ℕ → List ℕ
with_word line word = if length line == 0 then word else (line ++ codes " ") ++ word

abbrev pub with_words : List ℕ → List (List ℕ) → List ℕ
with_words line [] = line
with_words line (word ∷ words) = with_words (with_word line word) words

-- the line of the first of these words
abbrev pub line_of : List (List ℕ) → ℕ → List ℕ
line_of words count = with_words [] (take count words)

-- a line of more of these words, up to so many, isn't one without an error code
abbrev pub IsLongest : List (List ℕ) → ℕ → ℕ → Type 0
IsLongest words count most = (more : ℕ) → count < more → more ≤ most → is_plain (line_of words more) ≡ false

-- the longest line without an error code that the first of these words are, as far as there are so many, and the entry is of it
abbrev pub BeginsPlainWithin : List (List ℕ) → ℕ → Entry → Type 0
BeginsPlainWithin words most entry = (count : ℕ) × (is_plain (line_of words count) ≡ true) × IsOf (line_of words count) entry × IsLongest words count most

abbrev pub BeginsPlain : List (List ℕ) → Entry → Type 0
BeginsPlain words entry = BeginsPlainWithin words (length words) entry

-- the words of a line, which are what is between blanks
abbrev pub words_between : List ℕ → List (List ℕ)
words_between line = filter (λ word. not (length word == 0)) (slice_split (λ byte. byte == 32) line)

-- the words that were given, whether or not some are one word in quotes
abbrev pub spoken : List (List ℕ) → List (List ℕ)
spoken words = behind_name (words_between (with_words [] words))

-- the entry of an error code, or of a line without one
abbrev pub IsEntryOf : List (List ℕ) → Entry → Type 0
IsEntryOf words entry = BeginsWithCode words entry ⊎ BeginsPlain words entry

-- an entry of which the words begin a line, or the layer whose word is the only one
abbrev pub Explains : List (List ℕ) → Explanation → Type 0
Explains words (explanation.Entry entry) = IsEntryOf words entry
Explains words (explanation.Codes layer) = words ≡ word_of layer ∷ []

abbrev pub IsExplained : List (List ℕ) → Explanation → Type 0
IsExplained words found = Explains (spoken words) found

-- nothing explains the words
abbrev pub AreUnexplained : List (List ℕ) → Type 0
AreUnexplained words = (found : Explanation) → IsExplained words found → ⊥

-- the entry, or what each code of the layer means
abbrev pub PrintsExplained : Explanation → Option (List ℕ) → Option (List ℕ) → Type 0
PrintsExplained (explanation.Entry entry) before after = Appends before after (entry_text entry ++ codes "\n")
PrintsExplained (explanation.Codes layer) before after = PrintsCodes layer before after

-- nothing is printed of words that nothing explains, and with the status 0 what explains them is printed
abbrev pub PrintsEntry : List (List ℕ) → ℕ → Option (List ℕ) → Option (List ℕ) → Type 0
PrintsEntry words status before after = ((after ≡ before) ⊎ ((found : Explanation) × IsExplained words found))
    × (status ≡ 0 → (found : Explanation) × IsExplained words found × PrintsExplained found before after)

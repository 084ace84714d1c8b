-- How many records end among bytes, by what stands between one byte and the next.
use Rattle.std.specs.Prelude.{◌≡◌, ◌++◌, ℕ, length, nat_lt, ◌+◌, ◌==◌, ◌||◌, Bool, true, false, List, [], ◌∷◌, Option, Some}
use Rattle.std.specs.List.{list_any}
use Rattle.std.specs.Int.{from_bool}
use Rattle.csv.specs.Machine.{step, is_end, ends_at_end}
use Rattle.csv.specs.Reading.{default_config}
use Rattle.csv.specs.declared.parser.State.{State}
use Rattle.csv.specs.declared.parser.State.TheVariants as st
use Rattle.loader.specs.declared.counted.Counted.{Counted}
use Rattle.loader.specs.declared.record_state.RecordState.{RecordState}
use Rattle.loader.specs.declared.record_state.RecordState.TheVariants as record_state

-- behind a carriage return a record begins, as behind a line feed
abbrev pub settled : State → State
settled st.StartRecord = st.StartRecord
settled st.StartField = st.StartField
settled st.InField = st.InField
settled st.InQuoted = st.InQuoted
settled st.AfterQuote = st.AfterQuote
settled st.InEscape = st.InEscape
settled st.InComment = st.InComment
settled st.AfterCr = st.StartRecord

-- the state behind a byte
unfoldable pub next_state : State → ℕ → State
next_state s byte = settled (step default_config s byte).0

-- whether a byte ends a record
unfoldable pub ends_record : State → ℕ → Bool
ends_record s byte = is_end (step default_config s byte).1

-- the state behind bytes
abbrev pub state_behind : State → List ℕ → State
state_behind s [] = s
state_behind s (byte ∷ bytes) = state_behind (next_state s byte) bytes

-- how many records end among bytes
abbrev pub ended_in : State → List ℕ → ℕ
ended_in s [] = 0
ended_in s (byte ∷ bytes) = from_bool (ends_record s byte) + ended_in (next_state s byte) bytes

-- the same with the one that the end of the text ends
abbrev pub records_left : State → List ℕ → ℕ
records_left s bytes = ended_in s bytes + from_bool (ends_at_end (state_behind s bytes))

-- the state of the reader
abbrev pub state_at : RecordState → State
state_at record_state.Between = st.StartRecord
state_at record_state.FieldStart = st.StartField
state_at record_state.Field = st.InField
state_at record_state.Quoted = st.InQuoted
state_at record_state.QuoteEnd = st.AfterQuote

-- outside of quotes, and of what only other settings give
abbrev pub is_unquoted : State → Bool
is_unquoted st.StartRecord = true
is_unquoted st.StartField = true
is_unquoted st.InField = true
is_unquoted st.InQuoted = false
is_unquoted st.AfterQuote = true
is_unquoted st.InEscape = false
is_unquoted st.InComment = false
is_unquoted st.AfterCr = false

abbrev pub is_quote : ℕ → Bool
is_quote byte = byte == 34

abbrev pub is_line_end : ℕ → Bool
is_line_end byte = (byte == 13) || (byte == 10)

-- no line end is among bytes
abbrev pub IsOneLine : List ℕ → Type 0
IsOneLine bytes = list_any is_line_end bytes ≡ false

-- the first line end among bytes stands in front of others, and behind some if there are such
abbrev pub EndsLine : List ℕ → Bool → List ℕ → Type 0
EndsLine bytes some others = (line : List ℕ) × (end : ℕ) × (bytes ≡ line ++ end ∷ others) × IsOneLine line × (is_line_end end ≡ true) × (some ≡ nat_lt 0 (length line))

-- the records that were counted, with those that end among these bytes
abbrev pub counted_with : Counted → List ℕ → ℕ
counted_with counted bytes = counted.records + records_left (state_at counted.state) bytes

-- this many are counted with the bytes that a reader has yet to give
abbrev pub GoesOn : {R : Type 0} → (R → Option (List ℕ)) → R → ℕ → Counted → Type 0
GoesOn known reader all counted = (rest : List ℕ) × (known reader ≡ Some rest) × (counted_with counted rest ≡ all)

-- of these bytes, a read gave those in front and left the others; it gave none only at the end
abbrev pub Reads : Option (List ℕ) → List ℕ → List ℕ → Type 0
Reads left bytes front = (rest : List ℕ) × (left ≡ Some rest) × (bytes ≡ front ++ rest) × (front ≡ [] → rest ≡ [])

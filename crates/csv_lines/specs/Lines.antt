-- The line on which a record of a CSV file begins.
use Rattle.std.specs.Prelude.{◌≡◌, ℕ, ◌+◌, ◌==◌, Bool, true, false, ◌&&◌, ◌||◌, not, if◌then◌else◌, List, [], ◌∷◌, ◌++◌, Option, None, Some}
use Rattle.std.specs.Int.{from_bool}
use Rattle.csv.specs.Machine.{ends_at_end}
use Rattle.csv.specs.declared.parser.State.{State}
use Rattle.csv.specs.declared.parser.State.TheVariants as st
use Rattle.loader.specs.Counting.{ends_record, is_line_end, next_state, state_at}
use Rattle.csv_lines.specs.declared.line.Walk.{Walk}
use Rattle.csv_lines.specs.declared.line.Walked.{Walked}
use Rattle.csv_lines.specs.declared.line.Walked.TheVariants as walked

-- What the bytes before a place come to: the state of the reader of records, how many records and how many lines ended, and
-- whether the last byte is a carriage return.
pub record Place : Type 0 where
  pub state : State
  pub records : ℕ
  pub lines : ℕ
  pub after_return : Bool

-- before the first byte
abbrev pub start : Place
start = record { state = st.StartRecord; records = 0; lines = 0; after_return = false }

-- a line end begins with the byte: a carriage return, or a line feed that isn't behind one
abbrev pub ends_line : Bool → ℕ → Bool
ends_line after_return byte = (byte == 13) || ((byte == 10) && not after_return)

-- the place behind a byte
unfoldable pub behind_byte : Place → ℕ → Place
behind_byte p byte = record { state = next_state p.state byte; records = p.records + from_bool (ends_record p.state byte); lines = p.lines + from_bool (ends_line p.after_return byte); after_return = byte == 13 }

-- the place behind bytes
abbrev pub behind : Place → List ℕ → Place
behind p [] = p
behind p (byte ∷ bytes) = behind (behind_byte p byte) bytes

-- so many records ended before the place, none has begun, and one begins with the byte
unfoldable pub begins : ℕ → Place → ℕ → Bool
begins index p byte = (p.records == index) && (not (ends_at_end p.state) && not (is_line_end byte))

-- The record of this index begins behind these bytes of a text, on this line: one more than lines ended before it.
pub record IsLineOf (text : List ℕ) (index line : ℕ) : Type 0 where
  pub front : List ℕ
  pub first : ℕ
  pub others : List ℕ
  pub whole : text ≡ front ++ first ∷ others
  pub begun : begins index (behind start front) first ≡ true
  pub counted : line ≡ (behind start front).lines + 1

-- the line of the record of this index, from a place on, where it begins among the bytes
abbrev pub line_from : ℕ → Place → List ℕ → Option ℕ
line_from index p [] = None
line_from index p (byte ∷ bytes) = if begins index p byte then Some (p.lines + 1) else line_from index (behind_byte p byte) bytes

abbrev pub line_at : ℕ → List ℕ → Option ℕ
line_at index text = line_from index start text

-- ---- a walk

abbrev pub place_of : Walk → Place
place_of walk = record { state = state_at walk.state; records = walk.records; lines = walk.lines; after_return = walk.after_return }

-- the line, if it was found, or else from the place on
abbrev pub line_after : ℕ → Walked → List ℕ → Option ℕ
line_after index (walked.At line) rest = Some line
line_after index (walked.Past walk) rest = line_from index (place_of walk) rest

-- How packed groups are read from front to back.
use Rattle.std.specs.Prelude.{ℕ, ℤ, pos, nat_le, nat_lt, ◌==◌, ◌&&◌, if◌then◌else◌, List, [], Option, None, Result, Ok, Err}
use Rattle.std.specs.Str.{is_utf8}
use Rattle.meaning.specs.declared.value.Value.{Value}
use Rattle.meaning.specs.declared.value.Value.TheVariants.{Null, Int, Text}
use Rattle.meaning.specs.declared.answer.Statistics.{Statistics}
use Rattle.meaning.specs.declared.answer.Group.{Group}
use Rattle.meaning.specs.Fitting.{is_sum_of}
use Rattle.aggregate_states.specs.State.{most_entries}
use Rattle.wire.specs.Reading.{◌>>=◌, Read, bytes_at, number_at, i64_at, i128_at, repeat_at}
use Rattle.answer_fields.specs.declared.fault.DecodeFault.{DecodeFault}
use Rattle.answer_fields.specs.declared.fault.DecodeFault.TheVariants as fault
use Rattle.answer_fields.specs.Fault.{from_wire}
use Rattle.answer_fields.specs.LayoutReading.{unless_null}

-- ---- numbers and values

-- eight bytes behind a 255, and the byte itself else
unfoldable pub tagged_small_at : ℕ → List ℕ → Read DecodeFault ℕ
tagged_small_at tag bytes = if nat_lt tag 255 then Ok (tag, bytes) else from_wire (number_at 8 bytes)

unfoldable pub small_at : List ℕ → Read DecodeFault ℕ
small_at bytes = do
  tag ← from_wire (number_at 1 bytes)
  tagged_small_at tag.0 tag.1

abbrev pub utf8_of : List ℕ → Result (List ℕ) DecodeFault
utf8_of bytes = if is_utf8 bytes then Ok bytes else Err fault.Shape

unfoldable pub text_at : List ℕ → Read DecodeFault (List ℕ)
text_at bytes = do
  n ← small_at bytes
  taken ← from_wire (bytes_at n.0 n.1)
  text ← utf8_of taken.0
  Ok (text, taken.1)

-- NULL behind a 0, an integer behind a 1, a text behind a 2
unfoldable pub tagged_value_at : ℕ → List ℕ → Read DecodeFault Value
tagged_value_at tag bytes =
    if tag == 0 then Ok (Null, bytes)
    else if tag == 1 then (from_wire (i64_at bytes) >>= λ z. Ok (Int z.0, z.1))
    else if tag == 2 then (text_at bytes >>= λ t. Ok (Text t.0, t.1))
    else Err fault.Shape

unfoldable pub value_at : List ℕ → Read DecodeFault Value
value_at bytes = do
  tag ← from_wire (number_at 1 bytes)
  tagged_value_at tag.0 tag.1

-- values behind their number
unfoldable pub values_at : List ℕ → Read DecodeFault (List Value)
values_at bytes = do
  count ← small_at bytes
  repeat_at value_at count.0 count.1

-- ---- states

unfoldable pub tagged_sum_at : ℕ → List ℕ → Read DecodeFault ℤ
tagged_sum_at tag bytes = if tag == 0 then Ok (pos 0, bytes) else from_wire (i128_at bytes)

unfoldable pub sum_at : List ℕ → Read DecodeFault ℤ
sum_at bytes = do
  tag ← from_wire (number_at 1 bytes)
  tagged_sum_at tag.0 tag.1

-- how many entries there are and their sum
pub record Tally : Type 0 where
  pub count : ℕ
  pub sum : ℤ

-- no more entries than a state knows of, and a sum that so many integers can have
abbrev pub possible_tally : Tally → Result Tally DecodeFault
possible_tally t = if nat_le t.count most_entries && is_sum_of t.count t.sum then Ok t else Err fault.Numbers

-- a state without entries, whose numbers are possible
abbrev pub alone : ℕ → ℤ → Option Value → Option Value → Result Statistics DecodeFault
alone count sum least greatest = do
  tally ← possible_tally (record { count = count; sum = sum })
  Ok (record { count = tally.count; sum = tally.sum; least = least; greatest = greatest; entries = [] })

-- all parts
unfoldable pub all_parts_at : ℕ → List ℕ → Read DecodeFault Statistics
all_parts_at count bytes = do
  sum ← sum_at bytes
  tally ← possible_tally (record { count = count; sum = sum.0 })
  least ← value_at sum.1
  greatest ← value_at least.1
  entries ← values_at greatest.1
  Ok (
    record {
      count = tally.count;
      sum = tally.sum;
      least = unless_null least.0;
      greatest = unless_null greatest.0;
      entries = entries.0;
    },
    entries.1,
  )

-- none behind a 0, a sum behind a 1, a least entry behind a 2, a greatest behind a 3, all behind a 4
unfoldable pub tagged_parts_at : ℕ → ℕ → List ℕ → Read DecodeFault Statistics
tagged_parts_at tag count bytes =
    if tag == 0 then (alone count (pos 0) None None >>= λ s. Ok (s, bytes))
    else if tag == 1 then (from_wire (i128_at bytes) >>= λ sum. alone count sum.0 None None >>= λ s. Ok (s, sum.1))
    else if tag == 2 then (value_at bytes >>= λ v. alone count (pos 0) (unless_null v.0) None >>= λ s. Ok (s, v.1))
    else if tag == 3 then (value_at bytes >>= λ v. alone count (pos 0) None (unless_null v.0) >>= λ s. Ok (s, v.1))
    else if tag == 4 then all_parts_at count bytes
    else Err fault.Shape

unfoldable pub state_at : List ℕ → Read DecodeFault Statistics
state_at bytes = do
  tag ← from_wire (number_at 1 bytes)
  count ← small_at tag.1
  tagged_parts_at tag.0 count.0 count.1

-- ---- groups

-- states behind their number
unfoldable pub states_at : List ℕ → Read DecodeFault (List Statistics)
states_at bytes = do
  width ← small_at bytes
  repeat_at state_at width.0 width.1

unfoldable pub group_at : List ℕ → Read DecodeFault Group
group_at bytes = do
  key ← values_at bytes
  rows ← small_at key.1
  states ← states_at rows.1
  Ok (record { key = key.0; rows = rows.0; states = states.0 }, states.1)

abbrev pub read_or_none : Read DecodeFault (List Group) → List Group
read_or_none (Ok x) = x.0
read_or_none (Err e) = []

-- the groups that the bytes are, if they are so many, and none else
abbrev pub packed_in : ℕ → List ℕ → List Group
packed_in many bytes = read_or_none (repeat_at group_at many bytes)

-- How groups are packed: each part behind the last, and of a state the parts that it has. Nothing depends on a plan, so that equal
-- groups, and they alone, have equal bytes.
use Rattle.std.specs.Prelude.{ℕ, zero, suc, ℤ, pos, negsuc, nat_lt, if◌then◌else◌, List, [], ◌++◌, length}
use Rattle.std.specs.List.{flat_map}
use Rattle.meaning.specs.declared.value.Value.{Value}
use Rattle.meaning.specs.declared.value.Value.TheVariants.{Null, Int, Text}
use Rattle.meaning.specs.declared.answer.Statistics.{Statistics}
use Rattle.meaning.specs.declared.answer.Group.{Group}
use Rattle.wire.specs.Bytes.{number_bytes, i64_bytes, i128_bytes}
use Rattle.answer_fields.specs.Spelling.{value_or_null}
use Rattle.packed_groups.specs.declared.parts.Parts.{Parts}
use Rattle.packed_groups.specs.declared.parts.Parts.TheVariants as parts
use Rattle.packed_groups.specs.Parts.{parts_in, tag_of}

-- a number of 64 bits: a byte where it is less than 255, and else eight behind a 255
unfoldable pub small_bytes : ℕ → List ℕ
small_bytes n = if nat_lt n 255 then number_bytes 1 n else number_bytes 1 255 ++ number_bytes 8 n

-- a text behind its length
unfoldable pub text_bytes : List ℕ → List ℕ
text_bytes text = small_bytes (length text) ++ text

-- a tag, and an integer or a text
unfoldable pub value_bytes : Value → List ℕ
value_bytes Null = number_bytes 1 0
value_bytes (Int z) = number_bytes 1 1 ++ i64_bytes z
value_bytes (Text t) = number_bytes 1 2 ++ text_bytes t

-- values behind their number
unfoldable pub values_bytes : List Value → List ℕ
values_bytes values = small_bytes (length values) ++ flat_map value_bytes values

-- nothing behind a 0, another sum behind a 1
unfoldable pub sum_bytes : ℤ → List ℕ
sum_bytes (pos zero) = number_bytes 1 0
sum_bytes (pos (suc n)) = number_bytes 1 1 ++ i128_bytes (pos (suc n))
sum_bytes (negsuc n) = number_bytes 1 1 ++ i128_bytes (negsuc n)

-- the parts, one behind the other
unfoldable pub parts_bytes : Parts → Statistics → List ℕ
parts_bytes parts.Count s = []
parts_bytes parts.Sum s = i128_bytes s.sum
parts_bytes parts.Least s = value_bytes (value_or_null s.least)
parts_bytes parts.Greatest s = value_bytes (value_or_null s.greatest)
parts_bytes parts.All s = sum_bytes s.sum ++ value_bytes (value_or_null s.least) ++ value_bytes (value_or_null s.greatest) ++ values_bytes s.entries

-- which parts there are, how many entries, and the parts
unfoldable pub state_bytes : Statistics → List ℕ
state_bytes s = number_bytes 1 (tag_of (parts_in s)) ++ small_bytes s.count ++ parts_bytes (parts_in s) s

-- states behind their number
unfoldable pub states_bytes : List Statistics → List ℕ
states_bytes states = small_bytes (length states) ++ flat_map state_bytes states

-- the key, how many rows there are, and the states
unfoldable pub group_bytes : Group → List ℕ
group_bytes g = values_bytes g.key ++ small_bytes g.rows ++ states_bytes g.states

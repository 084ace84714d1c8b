-- The values that aggregates take.
use Rattle.std.specs.Prelude.{ℕ, Bool, true, List, map, get_or, Option, Some, None}
use Rattle.std.specs.Str.{is_utf8}
use Rattle.meaning.specs.declared.value.Value.{Value}
use Rattle.meaning.specs.declared.value.Value.TheVariants.{Null, Int, Text}
use Rattle.meaning.specs.Operators.{fits_i64}

-- a text is UTF-8
abbrev pub is_spelled : Value → Bool
is_spelled Null = true
is_spelled (Int n) = true
is_spelled (Text t) = is_utf8 t

-- a value that counts: NULL does not
abbrev pub entry : Value → Option Value
entry Null = None
entry (Int n) = Some (Int n)
entry (Text t) = Some (Text t)

-- the value that counts, and NULL where there is none
abbrev pub or_null : Option Value → Value
or_null None = Null
or_null (Some v) = v

-- the values at some positions
abbrev pub selected : List Value → List ℕ → List Value
selected values positions = map (λ at. get_or values at Null) positions

-- an integer has 64 bits
abbrev pub fits : Value → Bool
fits Null = true
fits (Int n) = fits_i64 n
fits (Text t) = true

-- What a field shows of its column's type.
use Rattle.std.specs.Prelude.{ℕ, ◌==◌, Bool, true, false, not, ◌&&◌, if◌then◌else◌, List, [], ◌∷◌, Option, None, Some, is_some}
use Rattle.std.specs.Str.{is_utf8}
use Rattle.std.specs.Str.Parse.{without_leading_sign}
use Rattle.meaning.specs.Records.{integer_of, spells_null}
use Rattle.init.specs.declared.findings.Findings.{Findings}

-- an integer of 64 bits
abbrev pub has_integer : List ℕ → Bool
has_integer field = is_utf8 field && is_some (integer_of field)

-- a zero stands in front of other digits, which an integer would lose
abbrev pub leads_zero : List ℕ → Bool
leads_zero [] = false
leads_zero (digit ∷ []) = false
leads_zero (digit ∷ other ∷ digits) = digit == 48

-- an integer that is spelled without zeros in front
abbrev pub shows_integer : List ℕ → Bool
shows_integer field = has_integer field && not (leads_zero (without_leading_sign field))

-- a field more: NULL, or a value that may be no integer
abbrev pub with_field : Findings → List ℕ → Findings
with_field found field =
    if spells_null field then record { integers = found.integers; nulls = true }
    else record { integers = found.integers && shows_integer field; nulls = found.nulls }

-- the field of a record, if it has one
abbrev pub with_field_if : Findings → Option (List ℕ) → Findings
with_field_if found None = found
with_field_if found (Some field) = with_field found field

-- The formats of answers and states: what their bytes begin with, and which kinds of aggregates they have. All are read,
-- and the newest is written.
use Rattle.std.specs.Prelude.{ℕ, Bool, true, false, not, if◌then◌else◌, List, [], ◌∷◌, Option, option_map, Result, Ok, Err}
use Rattle.std.specs.List.{list_all}
use Rattle.std.specs.Result.{result_ok}
use Rattle.meaning.specs.declared.plan.AggregateKind.{AggregateKind}
use Rattle.meaning.specs.declared.plan.AggregateKind.TheVariants.{CountRows, Count, Sum, Min, Max, Avg, CountDistinct, SumDistinct}
use Rattle.wire.specs.Reading.{◌>>=◌, Read, bytes_at, same_bytes}
use Rattle.answer_fields.specs.declared.fault.DecodeFault.{DecodeFault}
use Rattle.answer_fields.specs.declared.fault.DecodeFault.TheVariants as fault
use Rattle.answer_fields.specs.declared.format.Content.{Content}
use Rattle.answer_fields.specs.declared.format.Content.TheVariants as of
use Rattle.answer_fields.specs.declared.format.Format.{Format}
use Rattle.answer_fields.specs.declared.format.Format.TheVariants.{First, Second}
use Rattle.answer_fields.specs.declared.shape.AggregateShape.{AggregateShape}
use Rattle.answer_fields.specs.Fault.{from_wire}
use Rattle.answer_fields.specs.Shape.{Shape}

-- the format that is written
abbrev pub newest : Format
newest = Second

abbrev pub number : Format → ℕ
number First = 1
number Second = 2

-- ---- kinds

-- the kinds whose states are sets
abbrev pub keeps_set : AggregateKind → Bool
keeps_set CountRows = false
keeps_set Count = false
keeps_set Sum = false
keeps_set Min = false
keeps_set Max = false
keeps_set Avg = false
keeps_set CountDistinct = true
keeps_set SumDistinct = true

abbrev pub has_kind : Format → AggregateKind → Bool
has_kind First kind = not (keeps_set kind)
has_kind Second kind = true

-- the format has the kinds of all aggregates
abbrev pub has_kinds : Format → Shape → Bool
has_kinds format shape = list_all (λ (a : AggregateShape). has_kind format a.kind) shape.aggregates

-- ---- magics

-- `XGA1`, `XGA2`, `XGS1` and `XGS2`
unfoldable pub magic : Content → Format → List ℕ
magic of.Answer First = 88 ∷ 71 ∷ 65 ∷ 49 ∷ []
magic of.Answer Second = 88 ∷ 71 ∷ 65 ∷ 50 ∷ []
magic of.State First = 88 ∷ 71 ∷ 83 ∷ 49 ∷ []
magic of.State Second = 88 ∷ 71 ∷ 83 ∷ 50 ∷ []

abbrev pub format_of : Content → List ℕ → Result Format DecodeFault
format_of content first =
    if same_bytes first (magic content First) then Ok First
    else if same_bytes first (magic content Second) then Ok Second
    else Err fault.Magic

-- the format that the first four bytes say
unfoldable pub format_at : Content → List ℕ → Read DecodeFault Format
format_at content bytes = do
  first ← from_wire (bytes_at 4 bytes)
  format ← format_of content first.0
  Ok (format, first.1)

-- the format of bytes that begin as answers or states do
abbrev pub format_in : Content → List ℕ → Option Format
format_in content bytes = option_map (λ x. x.0) (result_ok (format_at content bytes))

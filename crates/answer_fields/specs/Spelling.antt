-- The spelling of each part of an answer, one in each format. Numbers stand with their lowest byte first, signed ones in two's complement.
use Rattle.std.specs.Prelude.{ℕ, List, [], ◌∷◌, ◌++◌, length, Option, Some, None}
use Rattle.std.specs.List.{flat_map}
use Rattle.meaning.specs.declared.value.Value.{Value}
use Rattle.meaning.specs.declared.value.Value.TheVariants.{Null, Int, Text}
use Rattle.meaning.specs.declared.plan.AggregateKind.{AggregateKind}
use Rattle.meaning.specs.declared.plan.AggregateKind.TheVariants.{CountRows, Count, Sum, Min, Max, Avg, CountDistinct, SumDistinct}
use Rattle.meaning.specs.declared.answer.Statistics.{Statistics}
use Rattle.meaning.specs.declared.answer.Group.{Group}
use Rattle.meaning.specs.Said.{Body}
use Rattle.meaning.specs.declared.answer.Body.TheVariants.{Groups, Fault}
use Rattle.answer_fields.specs.declared.format.Content.TheVariants as content
use Rattle.answer_fields.specs.declared.format.Format.{Format}
use Rattle.answer_fields.specs.declared.shape.AggregateShape.{AggregateShape}
use Rattle.answer_fields.specs.Format.{magic}
use Rattle.meaning.specs.TypeCodes.{type_code}
use Rattle.answer_fields.specs.Shape.{Shape, kind_code, argument_code}
use Rattle.wire.specs.Bytes.{number_bytes, i64_bytes, i128_bytes, text_bytes}

-- ---- values

-- a tag, and an integer or a text
unfoldable pub value_bytes : Value → List ℕ
value_bytes Null = number_bytes 1 0
value_bytes (Int z) = number_bytes 1 1 ++ i64_bytes z
value_bytes (Text t) = number_bytes 1 2 ++ text_bytes 2 t

-- ---- groups

-- a least or a greatest value, and NULL where there is none
abbrev pub value_or_null : Option Value → Value
value_or_null None = Null
value_or_null (Some v) = v

-- the entries of a set behind their number
unfoldable pub set_bytes : List Value → List ℕ
set_bytes entries = number_bytes 4 (length entries) ++ flat_map value_bytes entries

-- what the aggregate's kind keeps
unfoldable pub state_bytes : AggregateKind → Statistics → List ℕ
state_bytes CountRows s = number_bytes 4 s.count
state_bytes Count s = number_bytes 4 s.count
state_bytes Sum s = number_bytes 4 s.count ++ i128_bytes s.sum
state_bytes Avg s = number_bytes 4 s.count ++ i128_bytes s.sum
state_bytes Min s = number_bytes 4 s.count ++ value_bytes (value_or_null s.least)
state_bytes Max s = number_bytes 4 s.count ++ value_bytes (value_or_null s.greatest)
state_bytes CountDistinct s = set_bytes s.entries
state_bytes SumDistinct s = set_bytes s.entries

-- one state for each aggregate
unfoldable pub states_bytes : List AggregateShape → List Statistics → List ℕ
states_bytes [] states = []
states_bytes (a ∷ shapes) [] = []
states_bytes (a ∷ shapes) (s ∷ states) = state_bytes a.kind s ++ states_bytes shapes states

-- the key, the row count, and the states
unfoldable pub group_bytes : Shape → Group → List ℕ
group_bytes shape g = flat_map value_bytes g.key ++ number_bytes 4 g.rows ++ states_bytes shape.aggregates g.states

-- a fault behind a 0, or groups behind a 1 and their number
unfoldable pub body_bytes : Shape → Body → List ℕ
body_bytes shape (Fault f) = number_bytes 1 0 ++ number_bytes 8 f.row ++ number_bytes 1 f.code
body_bytes shape (Groups gs) = number_bytes 1 1 ++ number_bytes 4 (length gs) ++ flat_map (group_bytes shape) gs

-- ---- the whole

-- the fields that describe the job
unfoldable pub job_bytes : ℕ → List ℕ → List ℕ → List ℕ
job_bytes load text cut = number_bytes 8 load ++ text_bytes 4 text ++ number_bytes 4 (length cut) ++ flat_map (number_bytes 4) cut

abbrev pub aggregate_bytes : AggregateShape → List ℕ
aggregate_bytes a = number_bytes 1 (kind_code a.kind) ++ number_bytes 1 (argument_code a.argument)

unfoldable pub shape_bytes : Shape → List ℕ
shape_bytes shape =
    number_bytes 2 (length shape.keys) ++ flat_map (λ t. number_bytes 1 (type_code t)) shape.keys
    ++ number_bytes 2 (length shape.aggregates) ++ flat_map aggregate_bytes shape.aggregates

-- all of an answer but its seal
pub record Layout : Type 0 where
  pub format : Format
  pub load : ℕ
  pub text : List ℕ
  pub cut : List ℕ
  pub k : ℕ
  pub shape : Shape
  pub body : Body

unfoldable pub layout_bytes : Layout → List ℕ
layout_bytes l =
    magic content.Answer l.format ++ job_bytes l.load l.text l.cut ++ number_bytes 4 l.k ++ shape_bytes l.shape
    ++ body_bytes l.shape l.body

-- How an answer's fields are read from front to back.
use Rattle.std.specs.Prelude.{ℕ, ◌==◌, if◌then◌else◌, List, [], ◌∷◌, length, Option, Some, None, Result, Ok, Err}
use Rattle.meaning.specs.declared.value.ColType.{ColType}
use Rattle.meaning.specs.declared.value.ColType.TheVariants as of_type
use Rattle.meaning.specs.declared.value.Value.{Value}
use Rattle.meaning.specs.declared.value.Value.TheVariants.{Null, Int, Text}
use Rattle.meaning.specs.declared.plan.AggregateKind.{AggregateKind}
use Rattle.meaning.specs.declared.plan.AggregateKind.TheVariants.{CountRows, Count, Sum, Min, Max, Avg, CountDistinct, SumDistinct}
use Rattle.meaning.specs.declared.answer.Statistics.{Statistics}
use Rattle.meaning.specs.declared.answer.Group.{Group}
use Rattle.meaning.specs.Said.{Body}
use Rattle.meaning.specs.declared.answer.Body.TheVariants.{Groups, Fault}
use Rattle.meaning.specs.Aggregate.{no_statistics}
use Rattle.answer_fields.specs.declared.shape.AggregateShape.{AggregateShape}
use Rattle.answer_fields.specs.declared.fault.DecodeFault.{DecodeFault}
use Rattle.answer_fields.specs.declared.fault.DecodeFault.TheVariants as fault
use Rattle.answer_fields.specs.declared.format.Content.TheVariants as content
use Rattle.answer_fields.specs.declared.format.Format.{Format}
use Rattle.wire.specs.Reading.{◌>>=◌, Read, number_at, text_at, repeat_at, i64_at, i128_at}
use Rattle.answer_fields.specs.Shape.{Shape}
use Rattle.answer_fields.specs.Format.{has_kind, format_at}
use Rattle.answer_fields.specs.Spelling.{Layout}
use Rattle.answer_fields.specs.Fault.{from_wire}

-- ---- values

-- NULL behind a 0, an integer behind a 1, a text behind a 2
unfoldable pub tagged_value_at : ℕ → List ℕ → Read DecodeFault Value
tagged_value_at tag bytes =
    if tag == 0 then Ok (Null, bytes)
    else if tag == 1 then (from_wire (i64_at bytes) >>= λ z. Ok (Int z.0, z.1))
    else if tag == 2 then (from_wire (text_at 2 bytes) >>= λ t. Ok (Text t.0, t.1))
    else Err fault.Shape

unfoldable pub value_at : List ℕ → Read DecodeFault Value
value_at bytes = do
  tag ← from_wire (number_at 1 bytes)
  tagged_value_at tag.0 tag.1

-- ---- groups

-- no least or greatest value is NULL
abbrev pub unless_null : Value → Option Value
unless_null Null = None
unless_null (Int z) = Some (Int z)
unless_null (Text t) = Some (Text t)

-- the entries of a set behind their number
unfoldable pub set_at : List ℕ → Read DecodeFault (List Value)
set_at bytes = do
  count ← from_wire (number_at 4 bytes)
  repeat_at value_at count.0 count.1

-- what the aggregate's kind keeps
unfoldable pub state_at : AggregateKind → List ℕ → Read DecodeFault Statistics
state_at CountRows bytes = do
  n ← from_wire (number_at 4 bytes)
  Ok (record no_statistics { count = n.0 }, n.1)
state_at Count bytes = do
  n ← from_wire (number_at 4 bytes)
  Ok (record no_statistics { count = n.0 }, n.1)
state_at Sum bytes = do
  n ← from_wire (number_at 4 bytes)
  sum ← from_wire (i128_at n.1)
  Ok (record no_statistics { count = n.0; sum = sum.0 }, sum.1)
state_at Avg bytes = do
  n ← from_wire (number_at 4 bytes)
  sum ← from_wire (i128_at n.1)
  Ok (record no_statistics { count = n.0; sum = sum.0 }, sum.1)
state_at Min bytes = do
  n ← from_wire (number_at 4 bytes)
  value ← value_at n.1
  Ok (record no_statistics { count = n.0; least = unless_null value.0 }, value.1)
state_at Max bytes = do
  n ← from_wire (number_at 4 bytes)
  value ← value_at n.1
  Ok (record no_statistics { count = n.0; greatest = unless_null value.0 }, value.1)
state_at CountDistinct bytes = do
  entries ← set_at bytes
  Ok (record no_statistics { entries = entries.0 }, entries.1)
state_at SumDistinct bytes = do
  entries ← set_at bytes
  Ok (record no_statistics { entries = entries.0 }, entries.1)

-- one state for each aggregate
unfoldable pub states_at : List AggregateShape → List ℕ → Read DecodeFault (List Statistics)
states_at [] bytes = Ok ([], bytes)
states_at (a ∷ shapes) bytes = do
  first ← state_at a.kind bytes
  others ← states_at shapes first.1
  Ok (first.0 ∷ others.0, others.1)

unfoldable pub group_at : Shape → List ℕ → Read DecodeFault Group
group_at shape bytes = do
  key ← repeat_at value_at (length shape.keys) bytes
  rows ← from_wire (number_at 4 key.1)
  states ← states_at shape.aggregates rows.1
  Ok (record { key = key.0; rows = rows.0; states = states.0 }, states.1)

unfoldable pub groups_at : Shape → List ℕ → Read DecodeFault Body
groups_at shape bytes = do
  count ← from_wire (number_at 4 bytes)
  groups ← repeat_at (group_at shape) count.0 count.1
  Ok (Groups groups.0, groups.1)

unfoldable pub fault_at : List ℕ → Read DecodeFault Body
fault_at bytes = do
  row ← from_wire (number_at 8 bytes)
  code ← from_wire (number_at 1 row.1)
  Ok (Fault (record { row = row.0; code = code.0 }), code.1)

-- a fault behind a 0, groups behind a 1
unfoldable pub tagged_body_at : Shape → ℕ → List ℕ → Read DecodeFault Body
tagged_body_at shape tag bytes =
    if tag == 0 then fault_at bytes
    else if tag == 1 then groups_at shape bytes
    else Err fault.Shape

unfoldable pub body_at : Shape → List ℕ → Read DecodeFault Body
body_at shape bytes = do
  tag ← from_wire (number_at 1 bytes)
  tagged_body_at shape tag.0 tag.1

-- ---- shapes

abbrev pub type_of : ℕ → Result ColType DecodeFault
type_of n = if n == 1 then Ok of_type.Int else if n == 2 then Ok of_type.Text else Err fault.Shape

unfoldable pub type_at : List ℕ → Read DecodeFault ColType
type_at bytes = do
  n ← from_wire (number_at 1 bytes)
  t ← type_of n.0
  Ok (t, n.1)

abbrev pub kind_of : ℕ → Result AggregateKind DecodeFault
kind_of n =
    if n == 1 then Ok CountRows else if n == 2 then Ok Count else if n == 3 then Ok Sum
    else if n == 4 then Ok Min else if n == 5 then Ok Max else if n == 6 then Ok Avg
    else if n == 7 then Ok CountDistinct else if n == 8 then Ok SumDistinct else Err fault.Shape

-- the kind, where the format has it
abbrev pub known_to : Format → AggregateKind → Result AggregateKind DecodeFault
known_to format kind = if has_kind format kind then Ok kind else Err fault.Shape

unfoldable pub kind_at : Format → List ℕ → Read DecodeFault AggregateKind
kind_at format bytes = do
  n ← from_wire (number_at 1 bytes)
  kind ← kind_of n.0
  known ← known_to format kind
  Ok (known, n.1)

-- 0 is the only type for COUNT(*), and for it alone
abbrev pub argument_from : AggregateKind → ℕ → Result (Option ColType) DecodeFault
argument_from CountRows n = if n == 0 then Ok None else Err fault.Shape
argument_from _ n = type_of n >>= λ t. Ok (Some t)

unfoldable pub argument_at : AggregateKind → List ℕ → Read DecodeFault AggregateShape
argument_at kind bytes = do
  n ← from_wire (number_at 1 bytes)
  argument ← argument_from kind n.0
  Ok (record { kind = kind; argument = argument }, n.1)

unfoldable pub aggregate_at : Format → List ℕ → Read DecodeFault AggregateShape
aggregate_at format bytes = do
  kind ← kind_at format bytes
  argument_at kind.0 kind.1

unfoldable pub shape_at : Format → List ℕ → Read DecodeFault Shape
shape_at format bytes = do
  n ← from_wire (number_at 2 bytes)
  keys ← repeat_at type_at n.0 n.1
  m ← from_wire (number_at 2 keys.1)
  aggregates ← repeat_at (aggregate_at format) m.0 m.1
  Ok (record { keys = keys.0; aggregates = aggregates.0 }, aggregates.1)

-- ---- the whole

-- the fields that describe the job: its load, the query's text, and the cut
pub record JobFields : Type 0 where
  pub load : ℕ
  pub text : List ℕ
  pub cut : List ℕ

-- how many rows one fragment has
abbrev pub length_at : List ℕ → Read DecodeFault ℕ
length_at bytes = from_wire (number_at 4 bytes)

unfoldable pub job_at : List ℕ → Read DecodeFault JobFields
job_at bytes = do
  load ← from_wire (number_at 8 bytes)
  text ← from_wire (text_at 4 load.1)
  n ← from_wire (number_at 4 text.1)
  cut ← repeat_at length_at n.0 n.1
  Ok (record { load = load.0; text = text.0; cut = cut.0 }, cut.1)

-- the fields of an answer, by the parts that are read
abbrev pub laid_out : Format → JobFields → ℕ → Shape → Body → Layout
laid_out format job k shape body = record {
  format = format;
  load = job.load;
  text = job.text;
  cut = job.cut;
  k = k;
  shape = shape;
  body = body;
}

unfoldable pub layout_at : List ℕ → Read DecodeFault Layout
layout_at bytes = do
  format ← format_at content.Answer bytes
  job ← job_at format.1
  k ← from_wire (number_at 4 job.1)
  shape ← shape_at format.0 k.1
  body ← body_at shape.0 shape.1
  Ok (laid_out format.0 job.0 k.0 shape.0 body.0, body.1)

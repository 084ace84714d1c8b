-- What is printed of the fields of answers.
use Rattle.std.specs.Prelude.{ℕ, ◌==◌, if◌then◌else◌, List, [], ◌∷◌, ◌++◌, length, sum, codes, decimal, Option, Some, None}
use Rattle.std.specs.Fmt.{signed_decimal}
use Rattle.std.specs.List.{flat_map}
use Rattle.meaning.specs.declared.value.ColType.{ColType}
use Rattle.meaning.specs.declared.value.ColType.TheVariants as of_type
use Rattle.meaning.specs.declared.value.Value.{Value}
use Rattle.meaning.specs.declared.value.Value.TheVariants.{Null, Int, Text}
use Rattle.meaning.specs.declared.plan.AggregateKind.{AggregateKind}
use Rattle.meaning.specs.declared.plan.AggregateKind.TheVariants.{CountRows, Count, Sum, Min, Max, Avg, CountDistinct, SumDistinct}
use Rattle.meaning.specs.declared.answer.Statistics.{Statistics}
use Rattle.meaning.specs.declared.answer.Group.{Group}
use Rattle.meaning.specs.declared.answer.RowFault.{RowFault}
use Rattle.meaning.specs.Said.{Body}
use Rattle.meaning.specs.declared.answer.Body.TheVariants.{Groups, Fault}
use Rattle.answer_fields.specs.declared.shape.AggregateShape.{AggregateShape}
use Rattle.answer_fields.specs.Shape.{Shape}
use Rattle.answer_fields.specs.Format as formats
use Rattle.answer_fields.specs.declared.format.Format.{Format}
use Rattle.answer_fields.specs.LayoutReading.{JobFields}
use Rattle.answer_fields.specs.Spelling.{Layout, value_or_null}
use Rattle.sql_syntax.specs.CanonicalTokens.{doubled}
use Rattle.answer_text.specs.Reading.{capped}
use Rattle.answer_text.specs.declared.detail.Detail.{Detail}
use Rattle.answer_text.specs.declared.detail.Detail.TheVariants as detail

-- ---- words

abbrev pub type_word : ColType → List ℕ
type_word of_type.Int = codes "int"
type_word of_type.Text = codes "text"

abbrev pub aggregate_word : AggregateKind → List ℕ
aggregate_word CountRows = codes "COUNT"
aggregate_word Count = codes "COUNT"
aggregate_word Sum = codes "SUM"
aggregate_word Min = codes "MIN"
aggregate_word Max = codes "MAX"
aggregate_word Avg = codes "AVG"
aggregate_word CountDistinct = codes "COUNT"
aggregate_word SumDistinct = codes "SUM"

-- what stands before an aggregate's argument
abbrev pub before_argument : AggregateKind → List ℕ
before_argument CountRows = []
before_argument Count = []
before_argument Sum = []
before_argument Min = []
before_argument Max = []
before_argument Avg = []
before_argument CountDistinct = codes "DISTINCT "
before_argument SumDistinct = codes "DISTINCT "

-- of COUNT(*) a star
abbrev pub argument_word : Option ColType → List ℕ
argument_word None = codes "*"
argument_word (Some t) = type_word t

abbrev pub aggregate_text : AggregateShape → List ℕ
aggregate_text a = aggregate_word a.kind ++ codes "(" ++ before_argument a.kind ++ argument_word a.argument ++ codes ")"

-- ---- values

-- a text between quotes, with each quote in it twice
unfoldable pub quoted : List ℕ → List ℕ
quoted text = codes "'" ++ doubled text ++ codes "'"

abbrev pub value_text : Value → List ℕ
value_text Null = codes "NULL"
value_text (Int z) = signed_decimal z
value_text (Text t) = quoted t

-- one after the other, with some words before the first, and a comma before each other
unfoldable pub listed : {X : Type 0} → List ℕ → (X → List ℕ) → List X → List ℕ
listed first text [] = []
listed first text (x ∷ xs) = first ++ (text x ++ listed (codes ", ") text xs)

-- ---- what describes the job

-- load, number of fragments and number of rows
unfoldable pub job_front : ℕ → ℕ → ℕ → List ℕ
job_front load fragments rows = codes "load " ++ decimal load ++ codes "\ncut of " ++ decimal fragments ++ codes " fragments, " ++ decimal rows ++ codes " rows\nquery: "

-- the same, and the query
abbrev pub job_lines : ℕ → ℕ → ℕ → List ℕ → List ℕ
job_lines load fragments rows query = job_front load fragments rows ++ (query ++ codes "\n")

abbrev pub job_text : JobFields → List ℕ
job_text job = job_lines job.load (length job.cut) (capped (sum job.cut)) job.text

-- a line of these words, or a line that says that there are none
abbrev pub keys_text : List ColType → List ℕ
keys_text [] = codes "no keys\n"
keys_text (t ∷ ts) = listed (codes "keys: ") type_word (t ∷ ts) ++ codes "\n"

abbrev pub aggregates_text : List AggregateShape → List ℕ
aggregates_text [] = codes "no aggregates\n"
aggregates_text (a ∷ others) = listed (codes "aggregates: ") aggregate_text (a ∷ others) ++ codes "\n"

abbrev pub shape_text : Shape → List ℕ
shape_text shape = keys_text shape.keys ++ aggregates_text shape.aggregates

-- ---- groups

-- how many values there are, and one of them
abbrev pub extreme_text : List ℕ → ℕ × Value → List ℕ
extreme_text word p = codes " of " ++ decimal p.0 ++ word ++ value_text p.1

-- how many entries a set has, and all of them
abbrev pub entries_text : List Value → List ℕ
entries_text entries = codes " of " ++ decimal (length entries) ++ listed (codes ": ") value_text entries

-- what is known of an aggregate's argument in a group
abbrev pub known_text : AggregateKind → Statistics → List ℕ
known_text CountRows s = codes " of " ++ decimal s.count
known_text Count s = codes " of " ++ decimal s.count
known_text Sum s = codes " of " ++ decimal s.count ++ codes ", sum " ++ signed_decimal s.sum
known_text Avg s = codes " of " ++ decimal s.count ++ codes ", sum " ++ signed_decimal s.sum
known_text Min s = extreme_text (codes ", least ") (s.count, value_or_null s.least)
known_text Max s = extreme_text (codes ", greatest ") (s.count, value_or_null s.greatest)
known_text CountDistinct s = entries_text s.entries
known_text SumDistinct s = entries_text s.entries

abbrev pub state_text : AggregateShape → Statistics → List ℕ
state_text a s = codes "; " ++ aggregate_text a ++ known_text a.kind s

unfoldable pub states_text : List AggregateShape → List Statistics → List ℕ
states_text [] states = []
states_text (a ∷ shapes) [] = []
states_text (a ∷ shapes) (s ∷ states) = state_text a s ++ states_text shapes states

-- the values of a key, or a word where there are none
abbrev pub key_text : List Value → List ℕ
key_text [] = codes "  all"
key_text (v ∷ vs) = listed (codes "  ") value_text (v ∷ vs)

-- a group's line
unfoldable pub group_text : Shape → Group → List ℕ
group_text shape g = key_text g.key ++ codes ": " ++ decimal g.rows ++ codes " rows" ++ states_text shape.aggregates g.states ++ codes "\n"

-- ---- bodies

abbrev pub fault_word : ℕ → List ℕ
fault_word code = if code == 1 then codes "overflow" else if code == 2 then codes "division by zero" else codes "an unknown code"

abbrev pub fault_line : RowFault → List ℕ
fault_line f = codes "fault " ++ decimal f.code ++ codes " at row " ++ decimal f.row ++ codes ": " ++ fault_word f.code ++ codes "\n"

-- nothing of a fault or of groups is shown where nothing is asked for
abbrev pub fault_text : Detail → RowFault → List ℕ
fault_text detail.Nothing f = []
fault_text detail.Count f = fault_line f
fault_text detail.Groups f = fault_line f

abbrev pub count_text : Detail → ℕ → List ℕ
count_text detail.Nothing n = []
count_text detail.Count n = codes "groups " ++ decimal n ++ codes "\n"
count_text detail.Groups n = codes "groups " ++ decimal n ++ codes "\n"

-- this, where groups are asked for
abbrev pub where_groups : Detail → List ℕ → List ℕ
where_groups detail.Nothing text = []
where_groups detail.Count text = []
where_groups detail.Groups text = text

abbrev pub body_text : Detail → Shape → Body → List ℕ
body_text detail shape (Fault f) = fault_text detail f
body_text detail shape (Groups gs) = count_text detail (length gs) ++ where_groups detail (flat_map (group_text shape) gs)

-- ---- the whole

-- the line in front of an answer, in a file of so many bytes
abbrev pub numbered_line : ℕ → ℕ → List ℕ
numbered_line number size = codes "answer in format " ++ decimal number ++ codes ", " ++ decimal size ++ codes " bytes\n"

abbrev pub first_line : Format → ℕ → List ℕ
first_line format size = numbered_line (formats.number format) size

abbrev pub fragment_line : ℕ → List ℕ
fragment_line k = codes "fragment " ++ decimal k ++ codes "\n"

-- the shape of groups, and a body of it
abbrev pub shaped_text : Detail → Shape × Body → List ℕ
shaped_text detail p = shape_text p.0 ++ body_text detail p.0 p.1

-- all that is printed of an answer
abbrev pub answer_text : Detail → ℕ → Layout → List ℕ
answer_text detail size l =
    first_line l.format size ++ job_text (record { load = l.load; text = l.text; cut = l.cut }) ++ fragment_line l.k
    ++ shaped_text detail (l.shape, l.body)

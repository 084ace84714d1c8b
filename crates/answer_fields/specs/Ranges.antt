-- What has a spelling: numbers and texts that their fields can hold.
use Rattle.std.specs.Prelude.{◌≡◌, ◌<◌, ◌^◌, List, [], ◌∷◌, length, Option, Some, None, FitsSigned}
use Rattle.std.specs.List.{AllByRecursion}
use Rattle.std.specs.Int.{w64, w128}
use Rattle.meaning.specs.declared.value.Value.{Value}
use Rattle.meaning.specs.declared.value.Value.TheVariants.{Null, Int, Text}
use Rattle.meaning.specs.declared.plan.AggregateKind.{AggregateKind}
use Rattle.meaning.specs.declared.answer.Statistics.{Statistics}
use Rattle.meaning.specs.declared.answer.Group.{Group}
use Rattle.meaning.specs.Said.{Body}
use Rattle.meaning.specs.declared.answer.Body.TheVariants.{Groups, Fault}
use Rattle.meaning.specs.Said.{Cell}
use Rattle.meaning.specs.declared.answer.Cell.TheVariants.{Nothing, One, Conflict}
use Rattle.meaning.specs.Aggregate.{kept_by}
use Rattle.answer_fields.specs.declared.shape.AggregateShape.{AggregateShape}
use Rattle.answer_fields.specs.Shape.{Shape}
use Rattle.wire.specs.Bytes.{IsText}

abbrev pub IsValue : Value → Type 0
IsValue Null = Unit {0}
IsValue (Int z) = FitsSigned w64 z
IsValue (Text t) = IsText 2 t

-- a least or a greatest value, which is not NULL
abbrev pub IsExtreme : Option Value → Type 0
IsExtreme None = Unit {0}
IsExtreme (Some Null) = ⊥
IsExtreme (Some (Int z)) = IsValue (Int z)
IsExtreme (Some (Text t)) = IsValue (Text t)

-- a state that has nothing but what the kind keeps
pub record IsState (kind : AggregateKind) (s : Statistics) : Type 0 where
  pub count : s.count < 2 ^ 32
  pub sum : FitsSigned w128 s.sum
  pub least : IsExtreme s.least
  pub greatest : IsExtreme s.greatest
  pub few : length s.entries < 2 ^ 32
  pub entries : AllByRecursion IsValue s.entries
  pub kept : kept_by kind s ≡ s

-- one state for each aggregate
abbrev pub AreStates : List AggregateShape → List Statistics → Type 0
AreStates [] [] = Unit {0}
AreStates [] (s ∷ states) = ⊥
AreStates (shape ∷ shapes) [] = ⊥
AreStates (shape ∷ shapes) (s ∷ states) = IsState shape.kind s × AreStates shapes states

-- a group of the shape
pub record IsGroup (shape : Shape) (g : Group) : Type 0 where
  pub keys : length g.key ≡ length shape.keys
  pub key : AllByRecursion IsValue g.key
  pub rows : g.rows < 2 ^ 32
  pub states : AreStates shape.aggregates g.states

-- a body of the shape
abbrev pub IsBody : Shape → Body → Type 0
IsBody shape (Fault f) = (f.row < 2 ^ 64) × (f.code < 256)
IsBody shape (Groups gs) = (length gs < 2 ^ 32) × AllByRecursion (IsGroup shape) gs

-- an answer in the cell has a body of the shape
abbrev pub IsCell : Shape → Cell → Type 0
IsCell shape Nothing = Unit {0}
IsCell shape (One body) = IsBody shape body
IsCell shape Conflict = Unit {0}

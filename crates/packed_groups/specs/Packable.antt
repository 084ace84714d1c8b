-- What is packed so that it is read again. Each value, state and group that the code holds is such: its numbers have no more
-- bits than their types, its texts are UTF-8, and a state is what its own invariant says.
use Rattle.std.specs.Prelude.{◌≡◌, ℕ, ◌<◌, ◌^◌, true, List, length, FitsSigned}
use Rattle.std.specs.List.{AllByRecursion, flat_map}
use Rattle.std.specs.Int.{w64, w128}
use Rattle.std.specs.Str.{is_utf8}
use Rattle.meaning.specs.declared.value.Value.{Value}
use Rattle.meaning.specs.declared.value.Value.TheVariants.{Null, Int, Text}
use Rattle.meaning.specs.declared.answer.Statistics.{Statistics}
use Rattle.meaning.specs.declared.answer.Group.{Group}
use Rattle.aggregate_states.specs.State.{IsState}
use Rattle.answer_fields.specs.Spelling.{value_or_null}
use Rattle.packed_groups.specs.Packing.{group_bytes}

abbrev pub IsPackableValue : Value → Type 0
IsPackableValue Null = Unit {0}
IsPackableValue (Int z) = FitsSigned w64 z
IsPackableValue (Text t) = (is_utf8 t ≡ true) × (length t < 2 ^ 64)

-- values behind their number
pub record ArePackableValues (values : List Value) : Type 0 where
  pub few : length values < 2 ^ 64
  pub each : AllByRecursion IsPackableValue values

pub record IsPackableState (s : Statistics) : Type 0 where
  pub state : IsState s
  pub sum : FitsSigned w128 s.sum
  pub least : IsPackableValue (value_or_null s.least)
  pub greatest : IsPackableValue (value_or_null s.greatest)
  pub entries : ArePackableValues s.entries

pub record ArePackableStates (states : List Statistics) : Type 0 where
  pub few : length states < 2 ^ 64
  pub each : AllByRecursion IsPackableState states

pub record IsPackableGroup (g : Group) : Type 0 where
  pub key : ArePackableValues g.key
  pub rows : g.rows < 2 ^ 64
  pub states : ArePackableStates g.states

-- the bytes are so many packed groups, one behind the other
pub record IsPacked (many : ℕ) (bytes : List ℕ) : Type 0 where
  pub groups : List Group
  pub packable : AllByRecursion IsPackableGroup groups
  pub count : many ≡ length groups
  pub packed : bytes ≡ flat_map group_bytes groups

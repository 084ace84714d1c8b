-- What the readers of groups keep of what they read. A state can't hold a sum that so many integers don't give: such a sum
-- is kept as 0, and returned.
use Rattle.std.specs.Prelude.{◌≡◌, ◌≤◌, ℕ, pos, Bool, true, ◌&&◌, if◌then◌else◌, List, map}
use Rattle.std.specs.List.{list_all}
use Rattle.std.specs.Cmp.Lexicographic.{pointwise}
use Rattle.meaning.specs.declared.answer.Statistics.{Statistics}
use Rattle.meaning.specs.declared.answer.Group.{Group}
use Rattle.meaning.specs.Said.{Body, Cell}
use Rattle.meaning.specs.declared.answer.Body.TheVariants.{Groups, Fault}
use Rattle.meaning.specs.declared.answer.Cell.TheVariants.{Nothing, One, Conflict}
use Rattle.meaning.specs.declared.plan.Aggregate.{Aggregate}
use Rattle.meaning.specs.declared.plan.Plan.{Plan}
use Rattle.meaning.specs.Fitting.{is_extreme, is_entry_of, is_key_of, is_sum_of}
use Rattle.aggregate_states.specs.State.{most_entries}
use Rattle.aggregate_states.specs.State as states
use Rattle.aggregate_states.specs.Values.{is_spelled}

-- ---- sums

abbrev pub has_possible_sum : Statistics → Bool
has_possible_sum s = is_sum_of s.count s.sum

abbrev pub kept_state : Statistics → Statistics
kept_state s = record {
  count = s.count;
  sum = if has_possible_sum s then s.sum else pos 0;
  least = s.least;
  greatest = s.greatest;
  entries = s.entries;
}

abbrev pub has_possible_sums : Group → Bool
has_possible_sums g = list_all has_possible_sum g.states

abbrev pub kept_group : Group → Group
kept_group g = record { key = g.key; rows = g.rows; states = map kept_state g.states }

abbrev pub are_sums_possible : Body → Bool
are_sums_possible (Fault f) = true
are_sums_possible (Groups gs) = list_all has_possible_sums gs

abbrev pub kept_body : Body → Body
kept_body (Fault f) = Fault f
kept_body (Groups gs) = Groups (map kept_group gs)

abbrev pub is_cell_possible : Cell → Bool
is_cell_possible Nothing = true
is_cell_possible (One body) = are_sums_possible body
is_cell_possible Conflict = true

abbrev pub kept_cell : Cell → Cell
kept_cell Nothing = Nothing
kept_cell (One body) = One (kept_body body)
kept_cell Conflict = Conflict

-- all of a state but its sum is such as a state can hold
pub record IsKeepable (s : Statistics) : Type 0 where
  pub count : s.count ≤ most_entries
  pub least : states.is_extreme s.least ≡ true
  pub greatest : states.is_extreme s.greatest ≡ true
  pub entries : list_all is_spelled s.entries ≡ true

-- ---- types

-- a least and a greatest value, and the entries of a set, are of the argument's type
abbrev pub is_typed_state : Aggregate → Statistics → Bool
is_typed_state a s =
    is_extreme a.col_type s.least &&
    (is_extreme a.col_type s.greatest && list_all (is_entry_of a.col_type) s.entries)

abbrev pub is_typed_group : Plan → Group → Bool
is_typed_group plan g = is_key_of plan g.key && pointwise is_typed_state plan.aggs g.states

abbrev pub is_typed : Plan → Body → Bool
is_typed plan (Fault f) = true
is_typed plan (Groups gs) = list_all (is_typed_group plan) gs

abbrev pub is_cell_typed : Plan → Cell → Bool
is_cell_typed plan Nothing = true
is_cell_typed plan (One body) = is_typed plan body
is_cell_typed plan Conflict = true

-- ---- what a call gave

-- parts that were kept, whether their sums are possible, and the bytes behind them
pub record AreKept {X : Type 0} (kept : X → X) (possible : X → Bool) (given : List X) (returned : Bool) (rest : List ℕ) (read : List X × List ℕ) : Type 0 where
  pub parts : given ≡ map kept read.0
  pub sums : returned ≡ list_all possible read.0
  pub behind : rest ≡ read.1

-- one part that was kept
pub record IsKept {X : Type 0} (kept : X → X) (possible : X → Bool) (given : X) (returned : Bool) (rest : List ℕ) (read : X × List ℕ) : Type 0 where
  pub part : given ≡ kept read.0
  pub sums : returned ≡ possible read.0
  pub behind : rest ≡ read.1

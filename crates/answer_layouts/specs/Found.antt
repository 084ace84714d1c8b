-- What is found of groups while they are read.
use Rattle.std.specs.Prelude.{◌≡◌, ℕ, ◌≤◌, ◌^◌, nat_le, Bool, true, ◌&&◌, List, [], ◌∷◌, map, sum, Option, Some, None}
use Rattle.std.specs.List.{list_all}
use Rattle.std.specs.Ordering.{is_lt}
use Rattle.meaning.specs.declared.answer.Cell.TheVariants.{Nothing, One, Conflict}
use Rattle.meaning.specs.declared.answer.Group.{Group}
use Rattle.meaning.specs.declared.plan.Plan.{Plan}
use Rattle.meaning.specs.Answer.{groups_of}
use Rattle.meaning.specs.Fitting.{are_sets_ascending, is_group_possible, is_in_order}
use Rattle.meaning.specs.Order.{Row, is_ascending, row_cmp}
use Rattle.meaning.specs.Said.{Body, Cell}
use Rattle.answer_fields.specs.Keeping.{is_typed, is_typed_group}
use Rattle.answer_layouts.specs.declared.findings.Findings.{Findings}
use Rattle.answer_layouts.specs.declared.findings.Judged.{Judged}

-- a number of rows, if 64 bits can hold it
abbrev pub HasRows : Option ℕ → ℕ → Type 0
HasRows (Some rows) total = rows ≡ total
HasRows None total = 2 ^ 64 ≤ total

abbrev pub all_rows : List Group → ℕ
all_rows gs = sum (map (λ g. g.rows) gs)

abbrev pub are_ascending : List Group → Bool
are_ascending gs = is_ascending row_cmp (map (λ g. g.key) gs)

-- what was found of the groups
pub record AreFound (plan : Plan) (gs : List Group) (f : Findings) : Type 0 where
  pub typed : f.are_typed ≡ list_all (is_typed_group plan) gs
  pub order : f.are_in_order ≡ (are_ascending gs && list_all are_sets_ascending gs)
  pub count : HasRows f.rows (all_rows gs)
  pub with_rows : f.have_rows ≡ list_all (λ g. nat_le 1 g.rows) gs
  pub states : f.are_states_possible ≡ list_all (is_group_possible plan) gs

-- what was found of a body
pub record AreFoundIn (plan : Plan) (body : Body) (f : Findings) : Type 0 where
  pub typed : f.are_typed ≡ is_typed plan body
  pub order : f.are_in_order ≡ is_in_order body
  pub groups : AreFound plan (groups_of body) f

-- what was found of the answer in a cell, if it is one
abbrev pub AreFoundInCell : Plan → Cell → Findings → Type 0
AreFoundInCell plan Nothing f = Unit {0}
AreFoundInCell plan (One body) f = AreFoundIn plan body f
AreFoundInCell plan Conflict f = Unit {0}

abbrev pub AreFoundInCells : Plan → List Cell → List Findings → Type 0
AreFoundInCells plan [] [] = Unit {0}
AreFoundInCells plan [] (f ∷ found) = ⊥
AreFoundInCells plan (cell ∷ cells) [] = ⊥
AreFoundInCells plan (cell ∷ cells) (f ∷ found) = AreFoundInCell plan cell f × AreFoundInCells plan cells found

-- ---- one after the other

abbrev pub last_key : List Group → Option Row
last_key [] = None
last_key (g ∷ []) = Some g.key
last_key (g ∷ h ∷ gs) = last_key (h ∷ gs)

-- a key comes after the last, if there is one
abbrev pub comes_after : Option Row → Row → Bool
comes_after None key = true
comes_after (Some last) key = is_lt (row_cmp last key)

-- what was found of the groups so far
pub record HasJudged (plan : Plan) (gs : List Group) (j : Judged) : Type 0 where
  pub typed : j.are_typed ≡ list_all (is_typed_group plan) gs
  pub ascending : j.are_ascending ≡ are_ascending gs
  pub sets : j.are_sets ≡ list_all are_sets_ascending gs
  pub count : HasRows j.rows (all_rows gs)
  pub with_rows : j.have_rows ≡ list_all (λ g. nat_le 1 g.rows) gs
  pub states : j.are_states_possible ≡ list_all (is_group_possible plan) gs
  pub last : j.last ≡ last_key gs

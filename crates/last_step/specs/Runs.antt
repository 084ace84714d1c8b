-- Rows with the number of their repeats.
use Rattle.std.specs.Prelude.{ℕ, ◌-◌, min, Bool, true, false, List, [], ◌∷◌, ◌++◌, map, replicate, Option, Some, None, Result, Ok}
use Rattle.meaning.specs.declared.plan.Plan.{Plan}
use Rattle.meaning.specs.declared.answer.Group.{Group}
use Rattle.meaning.specs.Answer.{read_off}
use Rattle.meaning.specs.Order.{Row}
use Rattle.meaning.specs.Results.{all_ok, and_then}
use Rattle.meaning.specs.Finish.{all_rows, rows_of}
use Rattle.last_step.specs.declared.run.Run.{Run}

-- the rows of a run
abbrev pub repeats : Run → List Row
repeats r = replicate r.times r.row

-- the rows of a run, if there is one
abbrev pub rows_in : Option Run → List Row
rows_in None = []
rows_in (Some r) = repeats r

-- the rows of runs, one after the other
abbrev pub expanded : List Run → List Row
expanded [] = []
expanded (r ∷ rs) = repeats r ++ expanded rs

-- the rows of groups behind others, or the groups' first fault
abbrev pub rows_after : Plan → List Row → List Group → Result (List Row) ℕ
rows_after plan before groups = and_then (all_ok (map (rows_of plan) (map (read_off plan) groups))) (λ parts. Ok (before ++ all_rows parts))

-- how often a key is kept of so many rows: where equal rows are shown once, once is enough
abbrev pub times_kept : Bool → ℕ → ℕ
times_kept true rows = min rows 1
times_kept false rows = rows

-- the keys of groups, each as often as it is kept
abbrev pub plain_rows : Bool → List Group → List Row
plain_rows distinct [] = []
plain_rows distinct (g ∷ gs) = replicate (times_kept distinct g.rows) g.key ++ plain_rows distinct gs

-- how many of so many rows LIMIT leaves behind those that are shown
abbrev pub room : Option ℕ → ℕ → ℕ → ℕ
room None shown times = times
room (Some most) shown times = min times (most - shown)

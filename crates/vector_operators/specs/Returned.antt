-- What loops of arithmetic report of lanes, and the fault that is noted.
use Rattle.std.specs.Prelude.{◌≡◌, ℕ, ◌==◌, Bool, List, get_or, find, Option, Some, None, if◌then◌else◌}
use Rattle.meaning.specs.declared.outcome.Fault.{Fault}
use Rattle.meaning.specs.declared.outcome.Fault.TheVariants.{Overflow, DivisionByZero}
use Rattle.lane_loops.specs.Lanes.{cleared_flag, is_flagged}
use Rattle.vectors.specs.Selection.{IsSelection, Positions}
use Rattle.vector_operators.specs.Evaluated.{Held, IsWithin, noted}

abbrev pub fault_of_code : ℕ → Fault
fault_of_code code = if code == 1 then Overflow else DivisionByZero

-- the fault of the lane at the position
abbrev pub coded : List ℕ → Option ℕ → Held
coded codes None = None
coded codes (Some p) = Some (record { position = p; fault = fault_of_code (get_or codes p 0) })

-- the least of the positions is noted that has a code and isn't NULL. What is left of the codes elsewhere is open
pub record Noted (nulls : List Bool) (codes : List ℕ) (s : Positions) (held new : Held) : Type 0 where
  pub selection : IsSelection s
  pub cleared : List ℕ
  pub flags : (i : ℕ) → IsWithin s i → get_or cleared i 0 ≡ cleared_flag nulls codes i
  pub is_new : new ≡ noted held (coded cleared (find (is_flagged cleared) s.list))

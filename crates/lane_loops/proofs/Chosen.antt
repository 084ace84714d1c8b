-- A loop that chooses one lane after the other.
use Rattle.std.specs.Prelude.{◌≡◌, ℕ, ◌+◌, ◌<◌, Bool, List, length, set}
use Rattle.lane_loops.specs.Lanes.{AreFilled, chosen_lane}
use Rattle.lane_loops.proofs.Filling.{filled_more}

-- the first `i` lanes are chosen, whatever stands past their end
abbrev pub AreChosenBefore : {X : Type 0} → ℕ → ℕ → List Bool → List X → List X → List X → Type 0
AreChosenBefore {X} n i mask these those lanes = (length lanes ≡ n) × ((blank : X) → AreFilled blank n i (chosen_lane blank mask these those) lanes)

pub chosen_more : {X : Type 0} (n : ℕ) (mask : List Bool) (these those out : List X) (i : ℕ) (x : X) → AreChosenBefore n i mask these those out → i < n
    → ((blank : X) → x ≡ chosen_lane blank mask these those i) → AreChosenBefore n (i + 1) mask these those (set out i x)
chosen_more n mask these those out i x so_far within same =
    ((filled_more x n (chosen_lane x mask these those) out i x (so_far.1 x) within (same x)).long, λ blank. filled_more blank n (chosen_lane blank mask these those) out i x (so_far.1 blank) within (same blank))

-- Cells whose answers fit their fragments.
use Rattle.std.specs.Prelude.{◌≡◌, ℕ, Bool, true, List}
use Rattle.std.specs.List.{list_all, enumerate_from}
use Rattle.meaning.specs.declared.plan.Plan.{Plan}
use Rattle.meaning.specs.Said.{Body}
use Rattle.meaning.specs.Said.{Cell}
use Rattle.meaning.specs.declared.answer.Cell.TheVariants.{Nothing, One, Conflict}
use Rattle.meaning.specs.Cut.{Cut}
use Rattle.meaning.specs.Fitting.{fits}

-- a body that fits the fragment
abbrev pub is_fitting_body : Plan → Cut → ℕ → Body → Bool
is_fitting_body plan cut k b = fits plan cut (record { k = k; body = b })

-- the answer in the cell of the fragment, if there is one, fits
abbrev pub is_fitting : Plan → Cut → ℕ → Cell → Bool
is_fitting plan cut k Nothing = true
is_fitting plan cut k (One b) = is_fitting_body plan cut k b
is_fitting plan cut k Conflict = true

-- each cell fits its fragment
pub record AreFitting (plan : Plan) (cut : Cut) (cells : List Cell) : Type 0 where
  pub each : list_all (λ p. is_fitting plan cut p.0 p.1) (enumerate_from 0 cells) ≡ true

-- Laws on evaluation, each of them the contract of a function of `src/laws.rt`.
use Rattle.std.specs.Prelude.{◌≡◌, ◌≢◌, ℕ, true}
use Rattle.meaning.specs.declared.outcome.Fault.{Fault}
use Rattle.meaning.specs.declared.outcome.Outcome.{Outcome}
use Rattle.meaning.specs.declared.outcome.Outcome.TheVariants as gives
use Rattle.vectors.specs.Selection.{IsSelection, Positions, is_among}
use Rattle.vector_operators.specs.Evaluated.{Evaluates, Held, IsEvaluated}

-- where lanes hold no fault, what is found is the fault of the least selected position that has one
abbrev pub LeastIsHeld : Type 0
LeastIsHeld = (meant lanes : ℕ → Outcome) (s : Positions) (held new : Held) → IsSelection s
    → ((i : ℕ) (e : Fault) → lanes i ≢ gives.Fault e)
    → Evaluates meant (λ i. is_among s.list i ≡ true) held new lanes
    → IsEvaluated meant s.list held new lanes

-- Proofs of the goals of `Given::into_vector` (`given`).
use Rattle.vector_operators.proofs.Typed.{null_typed}
use Rattle.vector_operators.proofs.given.Given.into_vector.Goals as goal

pub returns-in-Null-clause-typed : goal.returns-in-Null-clause-typed
returns-in-Null-clause-typed c = λ type kind. null_typed type _ _ c.in-Null.is kind c.nulls.ensures.value

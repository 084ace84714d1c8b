-- What is held for a fragment, by the number in front of it.
use Rattle.std.proofs.Common.{◌≡◌, List, ℕ, refl}
use Rattle.std.specs.Prelude.{Ok}
use Rattle.meaning.specs.Said.{Body}
use Rattle.meaning.specs.declared.answer.Cell.TheVariants.{Nothing, One, Conflict}
use Rattle.wire.specs.Reading.{◌>>=◌, number_at}
use Rattle.answer_fields.specs.Fault.{from_wire}
use Rattle.answer_fields.specs.LayoutReading.{body_at}
use Rattle.answer_fields.specs.Shape.{Shape}
use Rattle.answer_fields.specs.StateSpelling.{cell_at, tagged_cell_at}

module _ (shape : Shape) (bytes between : List ℕ) where
  pub nothing_held : from_wire (number_at 1 bytes) ≡ Ok (0, between) → cell_at shape bytes ≡ Ok (Nothing, between)
  unfolding cell_at tagged_cell_at
  nothing_held tag = rw tag refl

  pub conflict_held : from_wire (number_at 1 bytes) ≡ Ok (2, between) → cell_at shape bytes ≡ Ok (Conflict, between)
  unfolding cell_at tagged_cell_at
  conflict_held tag = rw tag refl

  pub answer_held : from_wire (number_at 1 bytes) ≡ Ok (1, between) → (body : Body) (rest : List ℕ) → body_at shape between ≡ Ok (body, rest) → cell_at shape bytes ≡ Ok (One body, rest)
  unfolding cell_at tagged_cell_at
  answer_held tag body rest read = rw (tag, read) refl

-- What the length of a vector says.
use Rattle.std.specs.Prelude.{◌≡◌, ℕ, ◌≤◌, nat_le, true}
use Rattle.std.proofs.lemmas.Bool.{and_parts, leb-true}
use Rattle.meaning.specs.Limits.{max_vector_rows}
use Rattle.meaning.specs.VectorLength.{is_vector_length}

pub vector_length_within : (n : ℕ) → is_vector_length n ≡ true → (1 ≤ n) × (n ≤ max_vector_rows)
vector_length_within n is =
    let both = and_parts (nat_le 1 n) (nat_le n max_vector_rows) is in
    (leb-true 1 n both.0, leb-true n max_vector_rows both.1)

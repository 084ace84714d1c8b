-- How many rows a vector has.
use Rattle.std.specs.Prelude.{ℕ, nat_le, Bool, ◌&&◌}
use Rattle.meaning.specs.Limits.{max_vector_rows}

-- vectors have 1 to 4,096 rows
abbrev pub is_vector_length : ℕ → Bool
is_vector_length n = nat_le 1 n && nat_le n max_vector_rows

-- How many bits hold a number.
use Rattle.std.specs.Prelude.{ℕ, ◌+◌, ◌*◌, ◌^◌, nat_lt, unwrap_or, ◌≡◌, ◌<◌, ◌≤◌}
use Rattle.std.specs.List.{range_with_len, find}

-- the least width in bits that holds a number below 2 ^ 64
abbrev pub width_for : ℕ → ℕ
width_for n = unwrap_or (find (λ width. nat_lt n (2 ^ width)) (range_with_len 0 65)) 64

-- the least width in bits that holds a number, and what follows of it
pub record IsWidth (n width : ℕ) : Type 0 where
  pub holds : n < 2 ^ width
  pub needed : 2 ^ width ≤ 2 * n + 1
  pub least : width ≡ width_for n
  pub bound : width ≤ 64

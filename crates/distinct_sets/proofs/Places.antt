-- Group indexes that are the same or not.
use Rattle.std.specs.Prelude.{◌≡◌, ℕ, ◌<◌, ◌==◌, true, false}
use Rattle.std.proofs.Common.{arith}
use Rattle.std.proofs.lemmas.Bool.Decides.{nat_tests}

pub same : (p n : ℕ) → p ≡ n → (p == n) ≡ true
same p n e = grind (arith, nat_tests)

pub other : (p n : ℕ) → p < n → (p == n) ≡ false
other p n l = grind (arith, nat_tests)

pub other_above : (p n : ℕ) → n < p → (p == n) ≡ false
other_above p n l = grind (arith, nat_tests)

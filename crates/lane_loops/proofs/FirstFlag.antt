-- A search over a range, number by number.
use Rattle.std.specs.Prelude.{◌≡◌, ℕ, suc, ◌+◌, ◌-◌, ◌<◌, Bool, false, find}
use Rattle.std.specs.List.{range_with_len}
use Rattle.std.proofs.Common.{sym, ap, arith, ◌∙◌}

-- a number that doesn't pass is left behind
pub find_next : (test : ℕ → Bool) (i n : ℕ) → i < n → test i ≡ false → find test (range_with_len (i + 1) (n - (i + 1))) ≡ find test (range_with_len i (n - i))
find_next test i n within fails = sym (ap (λ (k : ℕ). find test (range_with_len i k)) one ∙ step) where
  one : n - i ≡ suc (n - (i + 1))
  one = omega (arith, within)

  next : i + 1 ≡ suc i
  next = omega arith

  step : find test (range_with_len i (suc (n - (i + 1)))) ≡ find test (range_with_len (i + 1) (n - (i + 1)))
  step = rw (fails, next)

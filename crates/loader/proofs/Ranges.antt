-- Ranges of numbers.
use Rattle.std.specs.Prelude.{◌≡◌, ℕ, zero, suc, ◌+◌, [], ◌∷◌, ◌++◌}
use Rattle.std.specs.List.{range_with_len}
use Rattle.std.proofs.Common.{ap, ◌∙◌, arith}

-- a range of one number more
pub range_to_next : (start n : ℕ) → range_with_len start (suc n) ≡ range_with_len start n ++ (start + n) ∷ []
range_to_next start zero = ap (λ k. k ∷ []) (grind arith)
range_to_next start (suc n) =
    let same : (start + 1) + n ≡ start + suc n = omega arith in
    ap (λ ks. start ∷ ks) (range_to_next (start + 1) n ∙ ap (λ k. range_with_len (start + 1) n ++ k ∷ []) same)

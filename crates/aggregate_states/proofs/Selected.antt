-- The values at selected positions, one by one.
use Rattle.std.specs.Prelude.{◌≡◌, ℕ, ◌<◌, length, get_or}
use Rattle.std.proofs.Common.{sym, ap, ◌∙◌, subst, arith}
use Rattle.std.proofs.lemmas.List.FromFn.{length-range_with_len, get_or-range_with_len}
use Rattle.vectors.specs.Selection.{Positions, all_below}

-- where all positions are selected, each one selects itself
module _ (s : Positions) (all : s ≡ all_below s.below) (k : ℕ) (here : k < length s.list) where
  pub all_within : k < s.below
  all_within = subst (λ (n : ℕ). k < n) (ap (λ (t : Positions). length t.list) all ∙ length-range_with_len 0 s.below) here

  pub all_at : k ≡ get_or s.list k 0
  all_at = sym (ap (λ (t : Positions). get_or t.list k 0) all ∙ get_or-range_with_len 0 s.below k 0 all_within ∙ omega arith)

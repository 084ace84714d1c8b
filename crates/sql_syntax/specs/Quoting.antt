-- Cutting texts at quotes.
use Rattle.std.specs.Prelude.{◌≡◌, ◌<◌, ℕ, ◌==◌, if◌then◌else◌, List, [], ◌∷◌, length, Option, Some, None}
use Rattle.std.specs.Borrow.{Bor}
use Rattle.std.specs.List.{before_first, after_first, position_or_len}

-- what stands before the first quote and behind it, or none where there is no quote
abbrev pub IsCutAtQuote : List ℕ → Option (Bor (List ℕ) × Bor (List ℕ)) → Type 0
IsCutAtQuote bs None = position_or_len (λ b. b == 39) bs ≡ length bs
IsCutAtQuote bs (Some x) = (position_or_len (λ b. b == 39) bs < length bs) × (x.0.now ≡ before_first (λ b. b == 39) bs) × (x.1.now ≡ after_first (λ b. b == 39) bs)

-- what stands behind a quote at the front
abbrev pub without_quote : List ℕ → List ℕ
without_quote [] = []
without_quote (b ∷ bs) = if b == 39 then bs else b ∷ bs

-- The sizes of row groups, from the first on.
use Rattle.std.proofs.Common.{◌≡◌, ℕ, suc, ◌-◌, ◌/◌, ◌%◌, ◌≤◌, ◌<◌, false, true, eqb, [], ◌∷◌, if◌then◌else◌, refl, arith}
use Rattle.std.specs.Prelude.{nat_lt}
use Rattle.std.proofs.lemmas.Bool.{ltb-true, ltb-false, ne_eqb}
use Rattle.meaning.specs.Limits.{row_group_rows}
use Rattle.fragment_file.specs.Fragment.{group_sizes}

pub sizes_end : group_sizes 0 ≡ []
sizes_end = refl

pub sizes_last : (n : ℕ) → 0 < n → n < row_group_rows → group_sizes n ≡ n ∷ []
sizes_last n some few =
    let none : n / row_group_rows ≡ 0 = omega arith in
    let rest : n % row_group_rows ≡ n = omega arith in
    let more : eqb n 0 ≡ false = ne_eqb _ _ (λ h. omega (arith, h, some)) in
    rw (none, rest, more) refl

pub sizes_more : (n : ℕ) → row_group_rows ≤ n → group_sizes n ≡ row_group_rows ∷ group_sizes (n - row_group_rows)
sizes_more n many =
    let full : n / row_group_rows ≡ suc ((n - row_group_rows) / row_group_rows) = omega arith in
    let rest : (n - row_group_rows) % row_group_rows ≡ n % row_group_rows = omega arith in
    rw (rest, full) refl

-- how many rows the first row group has
abbrev pub first_size : ℕ → ℕ
first_size left = if nat_lt left row_group_rows then left else row_group_rows

pub sizes_step : (left : ℕ) → 0 < left → group_sizes left ≡ first_size left ∷ group_sizes (left - first_size left)
sizes_step left some =
    elim (nat_lt left row_group_rows) as (λ b. nat_lt left row_group_rows ≡ b → group_sizes left ≡ (if b then left else row_group_rows) ∷ group_sizes (left - (if b then left else row_group_rows))) [
      | true ↦ λ e. small e
      | false ↦ λ e. sizes_more left (ltb-false _ _ e)
    ] refl
  where
    small : nat_lt left row_group_rows ≡ true → group_sizes left ≡ left ∷ group_sizes (left - left)
    small e = let none : left - left ≡ 0 = omega arith in rw none (sizes_last left some (ltb-true _ _ e))

-- How many rows each piece has.
use Rattle.std.proofs.Common.{◌≡◌, ℕ, suc, ◌-◌, ◌/◌, ◌%◌, ◌≤◌, ◌<◌, min, false, true, eqb, List, [], ◌∷◌, refl, ap, sym, ◌∙◌, arith}
use Rattle.std.specs.Prelude.{nat_lt}
use Rattle.std.proofs.lemmas.Bool.{ltb-true, ltb-false, ne_eqb}
use Rattle.std.proofs.Math.Nat.{div-eq_of_lt, div-eq-sub-div, mod-eq-sub-mod, mod-eq_of_lt}
use Rattle.scan_select.specs.Pieces.{sizes}

pub sizes_end : (n : ℕ) → 0 < n → sizes n 0 ≡ []
sizes_end n some =
    let none : 0 / n ≡ 0 = div-eq_of_lt some in
    let rest : 0 % n ≡ 0 = mod-eq_of_lt some in
    rw (none, rest) refl

sizes_last : (n rows : ℕ) → 0 < rows → rows < n → sizes n rows ≡ rows ∷ []
sizes_last n rows some few =
    let none : rows / n ≡ 0 = div-eq_of_lt few in
    let rest : rows % n ≡ rows = mod-eq_of_lt few in
    let more : eqb rows 0 ≡ false = ne_eqb _ _ (λ h. omega (arith, h, some)) in
    rw (none, rest, more) refl

sizes_more : (n rows : ℕ) → 0 < n → n ≤ rows → sizes n rows ≡ n ∷ sizes n (rows - n)
sizes_more n rows some many =
    let full : rows / n ≡ suc ((rows - n) / n) = div-eq-sub-div some many ∙ omega arith in
    let rest : rows % n ≡ (rows - n) % n = mod-eq-sub-mod many in
    rw (rest, full) refl

-- the first piece has as many rows as it may, or all that are left
pub sizes_step : (n rows : ℕ) → 0 < n → 0 < rows → sizes n rows ≡ min n rows ∷ sizes n (rows - min n rows)
sizes_step n rows some left =
    elim (nat_lt rows n) as (λ b. nat_lt rows n ≡ b → sizes n rows ≡ min n rows ∷ sizes n (rows - min n rows)) [
      | true ↦ λ e. small (ltb-true _ _ e)
      | false ↦ λ e. large (ltb-false _ _ e)
    ] refl
  where
    small : rows < n → sizes n rows ≡ min n rows ∷ sizes n (rows - min n rows)
    small few =
        let all : min n rows ≡ rows = omega (arith, few) in
        let none : rows - rows ≡ 0 = omega arith in
        rw (all, none) (sizes_last n rows left few ∙ ap (λ (ns : List ℕ). rows ∷ ns) (sym (sizes_end n some)))

    large : n ≤ rows → sizes n rows ≡ min n rows ∷ sizes n (rows - min n rows)
    large many = let full : min n rows ≡ n = omega (arith, many) in rw full (sizes_more n rows some many)

-- Lists that are determined by their ends.
use Rattle.std.specs.Prelude.{◌≡◌, ℕ, ◌+◌, ◌-◌, ◌*◌, ◌≤◌, List, length, take, drop, get_or}
use Rattle.std.proofs.Common.{sym, ap, ◌∙◌, arith, inl, inr}
use Rattle.std.proofs.lemmas.Bool.{cases_lt}
use Rattle.std.proofs.lemmas.List.{ext_get_or, get_or-take, get_or-drop}

-- lists of one length, of at most twice as many elements as each end has
pub same_ends : (n : ℕ) (one other : List ℕ) → length one ≡ length other → length one ≤ 2 * n → n ≤ length one
    → take n one ≡ take n other → drop (length one - n) one ≡ drop (length other - n) other → one ≡ other
same_ends n one other long short within first last =
    let cut = length one - n in
    let behind : drop cut one ≡ drop cut other = last ∙ ap (λ (m : ℕ). drop (m - n) other) (sym long) in
    ext_get_or 0 one other long (λ j l. elim (cases_lt j n) [
      | inl early ↦ sym (get_or-take n one j 0 early) ∙ ap (λ (xs : List ℕ). get_or xs j 0) first ∙ get_or-take n other j 0 early
      | inr late ↦ (
          let at : j ≡ cut + (j - cut) = omega (arith, late, short, within) in
          ap (λ (i : ℕ). get_or one i 0) at ∙ sym (get_or-drop cut one (j - cut) 0) ∙ ap (λ (xs : List ℕ). get_or xs (j - cut) 0) behind
          ∙ get_or-drop cut other (j - cut) 0 ∙ ap (λ (i : ℕ). get_or other i 0) (sym at))
    ])

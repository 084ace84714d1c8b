-- The lengths of a cut are one again.
use Rattle.std.proofs.Common.{◌≡◌, ℕ, ◌≤◌, false, List, [], ◌∷◌, length, Result, Ok, Err, refl, arith}
use Rattle.std.specs.Prelude.{nat_lt}
use Rattle.std.specs.List.{AllByRecursion, list_any}
use Rattle.std.proofs.lemmas.Bool.{le-ltb, ne_eqb}
use Rattle.std.proofs.lemmas.List.Elements.{recursion_from_All}
use Rattle.meaning.specs.Cut.{IsCut, cut_of}
use Rattle.meaning.specs.Limits.{max_fragments, max_rows}

none_long : (xs : List ℕ) → AllByRecursion (λ n. n ≤ max_rows) xs → list_any (λ n. nat_lt max_rows n) xs ≡ false
none_long [] short = refl
none_long (x ∷ xs) short = rw (le-ltb max_rows x short.0, none_long xs short.1) refl

pub cut_again : (xs : List ℕ) → IsCut xs → cut_of xs ≡ Ok xs
cut_again xs is =
    let some = is.some in
    let none = none_long xs (recursion_from_All (λ n. n ≤ max_rows) xs is.short) in
    rw (ne_eqb (length xs) 0 (λ h. omega (arith, h, some)), le-ltb max_fragments (length xs) is.few, none) refl

pub no_fault : {A E : Type 0} (result : Result A E) (e : E) (a : A) → result ≡ Err e → result ≡ Ok a → ⊥
no_fault result e a failed given = cc

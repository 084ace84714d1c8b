-- Keys that are compared column by column.
use Rattle.std.specs.Prelude.{◌≡◌, ℕ, zero, suc, ◌+◌, ◌<◌, ◌≤◌, true, false, [], ◌∷◌, length, drop}
use Rattle.std.specs.Ordering.{is_eq, ordering_then}
use Rattle.std.specs.declared.cmp.Ordering.{Ordering}
use Rattle.std.specs.declared.cmp.Ordering.TheVariants.{Less, Equal, Greater}
use Rattle.std.proofs.Common.{refl, sym, ap, ◌∙◌, arith}
use Rattle.std.proofs.lemmas.List.{drop_all, ext_get_or}
use Rattle.meaning.specs.declared.value.Value.{Value}
use Rattle.meaning.specs.declared.value.Value.TheVariants.{Null}
use Rattle.meaning.specs.Order.{Row, column, row_cmp, value_cmp}

-- the next column decides, or those behind it
pub next_column : (a b : Row) (k : ℕ) → k < length a → k < length b → row_cmp (drop k a) (drop k b) ≡ ordering_then (value_cmp (column a k) (column b k)) (row_cmp (drop (suc k) a) (drop (suc k) b))
next_column [] b k in_a in_b = absurd (omega (arith, in_a))
next_column (x ∷ a) [] k in_a in_b = absurd (omega (arith, in_b))
next_column (x ∷ a) (y ∷ b) zero in_a in_b = refl
next_column (x ∷ a) (y ∷ b) (suc k) in_a in_b = next_column a b k (omega (arith, in_a)) (omega (arith, in_b))

decided : (o rest : Ordering) → is_eq o ≡ false → ordering_then o rest ≡ o
decided Less rest e = refl
decided Equal rest e = cc
decided Greater rest e = refl

tied : (o rest : Ordering) → is_eq o ≡ true → ordering_then o rest ≡ rest
tied Less rest e = cc
tied Equal rest e = refl
tied Greater rest e = cc

module _ (a b : Row) (k : ℕ) (in_a : k < length a) (in_b : k < length b) (so_far : row_cmp a b ≡ row_cmp (drop k a) (drop k b)) (o : Ordering) (is : o ≡ value_cmp (column a k) (column b k)) where
  step : row_cmp a b ≡ ordering_then o (row_cmp (drop (k + 1) a) (drop (k + 1) b))
  step = so_far ∙ next_column a b k in_a in_b ∙ (λ i. ordering_then (sym is i) (row_cmp (drop (next i) a) (drop (next i) b))) where
    next : suc k ≡ k + 1
    next = omega arith

  pub column_decides : is_eq o ≡ false → o ≡ row_cmp a b
  column_decides e = sym (step ∙ decided o (row_cmp (drop (k + 1) a) (drop (k + 1) b)) e)

  pub column_ties : is_eq o ≡ true → row_cmp a b ≡ row_cmp (drop (k + 1) a) (drop (k + 1) b)
  column_ties e = step ∙ tied o (row_cmp (drop (k + 1) a) (drop (k + 1) b)) e

pub no_column_left : (a b : Row) (k : ℕ) → length a ≤ k → length b ≤ k → row_cmp a b ≡ row_cmp (drop k a) (drop k b) → Equal ≡ row_cmp a b
no_column_left a b k past_a past_b so_far = sym (so_far ∙ (λ i. row_cmp (drop_all k a past_a i) (drop_all k b past_b i)))

pub same_columns : (a b : Row) (k : ℕ) → length a ≡ length b → length b ≤ k → ((j : ℕ) → j < k → column a j ≡ column b j) → a ≡ b
same_columns a b k long past same = ext_get_or Null a b long (λ j l. same j (omega (arith, l, past, long)))

pub only_column : (a : Row) (v : Value) → length a ≡ 1 → column a 0 ≡ v → a ≡ v ∷ []
only_column [] v one is = absurd (omega (arith, one))
only_column (x ∷ []) v one is = ap (λ (y : Value). y ∷ []) is
only_column (x ∷ y ∷ a) v one is = absurd (omega (arith, one))

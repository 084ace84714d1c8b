-- One step of a loop over two lists.
use Rattle.std.proofs.Common.{◌≡◌, ℕ, zero, suc, ◌≤◌, ◌<◌, Bool, true, false, ◌&&◌, List, [], ◌∷◌, length, get_or, drop, refl, arith}
use Rattle.std.specs.Cmp.Lexicographic.{pointwise}
use Rattle.std.proofs.Math.Seq.{drop-cons}
use Rattle.meaning.proofs.Tests.{and_false}

pub pointwise_step : {X Y : Type 0} (test : X → Y → Bool) (xs : List X) (ys : List Y) (i : ℕ) (c : X) (d : Y) → i < length xs → i < length ys
    → pointwise test (drop i xs) (drop i ys) ≡ (test (get_or xs i c) (get_or ys i d) && pointwise test (drop (suc i) xs) (drop (suc i) ys))
pointwise_step test xs ys i c d left right = rw (drop-cons xs i c left, drop-cons ys i d right) refl

pub pointwise_end : {X Y : Type 0} (test : X → Y → Bool) (xs : List X) (ys : List Y) (i : ℕ) → length xs ≡ length ys → length xs ≤ i → pointwise test (drop i xs) (drop i ys) ≡ true
pointwise_end test [] [] zero same le = refl
pointwise_end test [] [] (suc i) same le = refl
pointwise_end test [] (y ∷ ys) i same le = absurd (omega arith)
pointwise_end test (x ∷ xs) [] i same le = absurd (omega arith)
pointwise_end test (x ∷ xs) (y ∷ ys) zero same le = absurd (omega arith)
pointwise_end test (x ∷ xs) (y ∷ ys) (suc i) same le = pointwise_end test xs ys i (omega arith) (omega arith)

pub pointwise_lengths : {X Y : Type 0} (test : X → Y → Bool) (xs : List X) (ys : List Y) → (length xs ≡ length ys → ⊥) → pointwise test xs ys ≡ false
pointwise_lengths test [] [] other = absurd (other refl)
pointwise_lengths test [] (y ∷ ys) other = refl
pointwise_lengths test (x ∷ xs) [] other = refl
pointwise_lengths test (x ∷ xs) (y ∷ ys) other = rw (pointwise_lengths test xs ys (λ e. other (omega (arith, e)))) (and_false (test x y))

-- Two lists whose elements belong to each other, one by one.
use Rattle.std.proofs.Common.{◌≡◌, ℕ, zero, suc, ◌<◌, ◌≤◌, List, [], ◌∷◌, ◌++◌, length, refl, ap, arith, subst, sym, Some}
use Rattle.std.specs.Prelude.{slice_get, slice_set, slice_index_or, replicate}
use Rattle.std.specs.List.{AllZip, AllByRecursion}
use Rattle.std.proofs.lemmas.Option.{same_Some}

module _ {A B : Type 0} (R : A → B → Type 0) where
  pub as_long : (xs : List A) (ys : List B) → AllZip R xs ys → length xs ≡ length ys
  as_long [] [] all = refl
  as_long [] (y ∷ ys) all = absurd all
  as_long (x ∷ xs) [] all = absurd all
  as_long (x ∷ xs) (y ∷ ys) all = ap (λ n. suc n) (as_long xs ys all.1)

  pub one_more : (xs : List A) (ys : List B) (x : A) (y : B) → AllZip R xs ys → R x y → AllZip R (xs ++ x ∷ []) (ys ++ y ∷ [])
  one_more [] [] x y all here = (here, tt)
  one_more [] (b ∷ ys) x y all here = absurd all
  one_more (a ∷ xs) [] x y all here = absurd all
  one_more (a ∷ xs) (b ∷ ys) x y all here = (all.0, one_more xs ys x y all.1 here)

  pub one_set : (xs : List A) (ys : List B) (i : ℕ) (x : A) (y : B) → AllZip R xs ys → R x y → AllZip R (slice_set xs i x) (slice_set ys i y)
  one_set [] [] i x y all here = tt
  one_set [] (b ∷ ys) i x y all here = absurd all
  one_set (a ∷ xs) [] i x y all here = absurd all
  one_set (a ∷ xs) (b ∷ ys) zero x y all here = (here, all.1)
  one_set (a ∷ xs) (b ∷ ys) (suc i) x y all here = (all.0, one_set xs ys i x y all.1 here)

  pub one_there : (xs : List A) (ys : List B) (i : ℕ) (x : A) (d : B) → i < length xs → x ≡ slice_index_or xs i x → AllZip R xs ys → R x (slice_index_or ys i d)
  one_there [] ys i x d below is all = absurd (omega arith)
  one_there (a ∷ xs) [] i x d below is all = absurd all
  one_there (a ∷ xs) (b ∷ ys) zero x d below is all = subst (λ y. R y b) (sym is) all.0
  one_there (a ∷ xs) (b ∷ ys) (suc i) x d below is all = one_there xs ys i x d (omega arith) is all.1

  pub one_at : (xs : List A) (ys : List B) (i : ℕ) (x : A) (d : B) → slice_get xs i ≡ Some x → AllZip R xs ys → R x (slice_index_or ys i d)
  one_at [] ys i x d is all = cc
  one_at (a ∷ xs) [] i x d is all = absurd all
  one_at (a ∷ xs) (b ∷ ys) zero x d is all = subst (λ y. R y b) (same_Some a x is) all.0
  one_at (a ∷ xs) (b ∷ ys) (suc i) x d is all = one_at xs ys i x d is all.1

  pub same_of_all : (xs : List A) (y : B) → AllByRecursion (λ x. R x y) xs → AllZip R xs (replicate (length xs) y)
  same_of_all [] y all = tt
  same_of_all (x ∷ xs) y all = (all.0, same_of_all xs y all.1)

-- an element that isn't there is the default, and one that is set to itself changes nothing
pub none_at : {B : Type 0} (ys : List B) (i : ℕ) (d : B) → length ys ≤ i → slice_index_or ys i d ≡ d
none_at [] i d past = refl
none_at (y ∷ ys) zero d past = absurd (omega arith)
none_at (y ∷ ys) (suc i) d past = none_at ys i d (omega arith)

pub none_set : {B : Type 0} (ys : List B) (i : ℕ) (y : B) → length ys ≤ i → slice_set ys i y ≡ ys
none_set [] i y past = refl
none_set (b ∷ ys) zero y past = absurd (omega arith)
none_set (b ∷ ys) (suc i) y past = ap (λ zs. b ∷ zs) (none_set ys i y (omega arith))

pub same_set : {B : Type 0} (ys : List B) (i : ℕ) (d : B) → slice_set ys i (slice_index_or ys i d) ≡ ys
same_set [] i d = refl
same_set (b ∷ ys) zero d = refl
same_set (b ∷ ys) (suc i) d = ap (λ zs. b ∷ zs) (same_set ys i d)

pub there : {B : Type 0} (ys : List B) (i : ℕ) (d : B) → i < length ys → slice_get ys i ≡ Some (slice_index_or ys i d)
there [] i d below = absurd (omega arith)
there (b ∷ ys) zero d below = refl
there (b ∷ ys) (suc i) d below = there ys i d (omega arith)

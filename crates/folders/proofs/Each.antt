-- Two lists whose elements belong to each other, one by one.
use Rattle.std.proofs.Common.{◌≡◌, ℕ, zero, suc, ◌+◌, ◌<◌, ◌≤◌, List, [], ◌∷◌, ◌++◌, length, take, get_or, refl, sym, subst, ap, ◌∙◌, add-one, arith}
use Rattle.std.specs.Prelude.{zip}
use Rattle.std.specs.List.{enumerate_from}
use Rattle.std.proofs.lemmas.List.{take_more, length-take-le}
use Rattle.folders.specs.Each.{AreEach}

module _ {A B : Type 0} (Fits : A → B → Type 0) where
  pub each_length : (xs : List A) (ys : List B) → AreEach Fits xs ys → length xs ≡ length ys
  each_length [] [] all = refl
  each_length [] (y ∷ ys) all = absurd all
  each_length (x ∷ xs) [] all = absurd all
  each_length (x ∷ xs) (y ∷ ys) all = ap (λ n. suc n) (each_length xs ys all.1)

  pub each_at : (xs : List A) (ys : List B) (k : ℕ) (x : A) (y : B) → k < length xs → AreEach Fits xs ys → Fits (get_or xs k x) (get_or ys k y)
  each_at [] ys k x y below all = absurd (omega arith)
  each_at (a ∷ xs) [] k x y below all = absurd all
  each_at (a ∷ xs) (b ∷ ys) zero x y below all = all.0
  each_at (a ∷ xs) (b ∷ ys) (suc k) x y below all = each_at xs ys k x y (omega arith) all.1

  pub each_more : (xs : List A) (ys : List B) (x : A) (y : B) → AreEach Fits xs ys → Fits x y → AreEach Fits (xs ++ x ∷ []) (ys ++ y ∷ [])
  each_more [] [] x y all here = (here, tt)
  each_more [] (b ∷ ys) x y all here = absurd all
  each_more (a ∷ xs) [] x y all here = absurd all
  each_more (a ∷ xs) (b ∷ ys) x y all here = (all.0, each_more xs ys x y all.1 here)

-- one pair more in front of what is left
pub each_next : {A B : Type 0} (Fits : A → B → Type 0) (xs : List A) (ys after : List B) (k : ℕ) (x : A) (y : B) → k < length xs → x ≡ get_or xs k x → after ≡ ys ++ y ∷ []
    → AreEach Fits (take k xs) ys → Fits x y → AreEach Fits (take (k + 1) xs) after
each_next {A = A} {B = B} Fits xs ys after k x y below is put all here =
    let front : take (k + 1) xs ≡ take k xs ++ x ∷ [] = take_more xs k x below ∙ ap (λ z. take k xs ++ z ∷ []) (sym is) in
    subst (λ (l : List A). AreEach Fits l after) (sym front) (subst (λ (l : List B). AreEach Fits (take k xs ++ x ∷ []) l) (sym put) (each_more Fits (take k xs) ys x y all here))

pub each_so : {A B : Type 0} (Fits Suits : A → B → Type 0) → ((x : A) (y : B) → Fits x y → Suits x y) → (xs : List A) (ys : List B) → AreEach Fits xs ys → AreEach Suits xs ys
each_so Fits Suits so [] [] all = tt
each_so Fits Suits so [] (y ∷ ys) all = absurd all
each_so Fits Suits so (x ∷ xs) [] all = absurd all
each_so Fits Suits so (x ∷ xs) (y ∷ ys) all = (so x y all.0, each_so Fits Suits so xs ys all.1)

-- one element more behind all, with its number
pub numbered_append : {A : Type 0} (n : ℕ) (xs : List A) (x : A) → enumerate_from n (xs ++ x ∷ []) ≡ enumerate_from n xs ++ (n + length xs, x) ∷ []
numbered_append n [] x = ap (λ k. (k, x) ∷ []) (omega arith)
numbered_append n (y ∷ xs) x =
    let same : n + 1 + length xs ≡ n + suc (length xs) = omega arith in
    ap (λ l. (n, y) ∷ l) (numbered_append (n + 1) xs x ∙ ap (λ k. enumerate_from (n + 1) xs ++ (k, x) ∷ []) same)

-- one element more, with its number
pub numbered_more : {A : Type 0} (xs : List A) (k : ℕ) (x : A) → k < length xs → enumerate_from 0 (take (k + 1) xs) ≡ enumerate_from 0 (take k xs) ++ (k, get_or xs k x) ∷ []
numbered_more xs k x below =
    let within : k ≤ length xs = omega arith in
    let long = length-take-le k xs within in
    ap (enumerate_from 0) (take_more xs k x below) ∙ numbered_append 0 (take k xs) (get_or xs k x)
    ∙ ap (λ n. enumerate_from 0 (take k xs) ++ (n, get_or xs k x) ∷ []) (omega (arith, long))

zipped_suc : {A B : Type 0} (xs : List A) (ys : List B) (k : ℕ) (x : A) (y : B) → k < length xs → k < length ys
    → zip (take (suc k) xs) (take (suc k) ys) ≡ zip (take k xs) (take k ys) ++ (get_or xs k x, get_or ys k y) ∷ []
zipped_suc [] ys k x y left right = absurd (omega arith)
zipped_suc (a ∷ xs) [] k x y left right = absurd (omega arith)
zipped_suc (a ∷ xs) (b ∷ ys) zero x y left right = refl
zipped_suc (a ∷ xs) (b ∷ ys) (suc k) x y left right = ap (λ l. (a, b) ∷ l) (zipped_suc xs ys k x y (omega arith) (omega arith))

-- one pair more
pub zipped_more : {A B : Type 0} (xs : List A) (ys : List B) (k : ℕ) (x : A) (y : B) → k < length xs → k < length ys
    → zip (take (k + 1) xs) (take (k + 1) ys) ≡ zip (take k xs) (take k ys) ++ (get_or xs k x, get_or ys k y) ∷ []
zipped_more xs ys k x y left right = rw add-one (zipped_suc xs ys k x y left right)

-- Lists in loops: their elements by index, and judging them one after the other, where those that are left stand
-- behind those that were judged.
use Rattle.std.proofs.Common.{◌≡◌, ℕ, zero, suc, ◌+◌, ◌≤◌, List, [], ◌∷◌, ◌++◌, length, map, drop, take, Some, None, Ok, Err, refl, sym, ap, ◌∙◌, append_assoc, arith, add-one, zero-add}
use Rattle.std.specs.Prelude.{Result, slice_get, zip}
use Rattle.std.specs.List.{enumerate_from}
use Rattle.std.proofs.lemmas.List.{append-nil}
use Rattle.meaning.specs.Results.{all_ok, and_then, with_result}

-- the elements from an index on
from_suc : {A : Type 0} (zs : List A) (i : ℕ) (z : A) → slice_get zs i ≡ Some z → drop i zs ≡ z ∷ drop (suc i) zs
from_suc [] i z e = cc e
from_suc {A = A} (x ∷ zs) zero z e = let same : x ≡ z = cc e in ap (λ (y : A). y ∷ zs) same
from_suc (x ∷ zs) (suc i) z e = from_suc zs i z e

pub from_index : {A : Type 0} (zs : List A) (i : ℕ) (z : A) → slice_get zs i ≡ Some z → drop i zs ≡ z ∷ drop (i + 1) zs
from_index zs i z e = from_suc zs i z e ∙ ap (λ k. z ∷ drop k zs) (sym (add-one i))

past_end : {A : Type 0} (zs : List A) (i : ℕ) → length zs ≤ i → drop i zs ≡ []
past_end [] zero short = refl
past_end [] (suc i) short = refl
past_end (z ∷ zs) zero short = absurd (omega arith)
past_end (z ∷ zs) (suc i) short = past_end zs i (omega arith)

-- the pair at an index
pub zipped : {A B : Type 0} (xs : List A) (ys : List B) (i : ℕ) (x : A) (y : B) → slice_get xs i ≡ Some x → slice_get ys i ≡ Some y → slice_get (zip xs ys) i ≡ Some (x, y)
zipped [] ys i x y e f = cc e
zipped (a ∷ xs) [] i x y e f = cc f
zipped (a ∷ xs) (b ∷ ys) zero x y e f = cc (e, f)
zipped (a ∷ xs) (b ∷ ys) (suc i) x y e f = zipped xs ys i x y e f

-- the element at an index, with its index
pub numbered_at : {A : Type 0} (n : ℕ) (xs : List A) (i : ℕ) (x : A) → slice_get xs i ≡ Some x → slice_get (enumerate_from n xs) i ≡ Some (n + i, x)
numbered_at n [] i x e = cc e
numbered_at n (a ∷ xs) zero x e = let same : n ≡ n + 0 = omega arith in cc (e, same)
numbered_at n (a ∷ xs) (suc i) x e = let same : n + 1 + i ≡ n + suc i = omega arith in numbered_at (n + 1) xs i x e ∙ ap (λ k. Some (k, x)) same

pub numbered_index : {A : Type 0} (xs : List A) (i : ℕ) (x : A) → slice_get xs i ≡ Some x → slice_get (enumerate_from 0 xs) i ≡ Some (i, x)
numbered_index xs i x e = numbered_at 0 xs i x e ∙ ap (λ k. Some (k, x)) (zero-add i)

-- one element more
taken_suc : {A : Type 0} (xs : List A) (i : ℕ) (x : A) → slice_get xs i ≡ Some x → take (suc i) xs ≡ take i xs ++ x ∷ []
taken_suc [] i x e = cc e
taken_suc {A = A} (a ∷ xs) zero x e = let same : a ≡ x = cc e in ap (λ (y : A). y ∷ []) same
taken_suc (a ∷ xs) (suc i) x e = ap (λ ys. a ∷ ys) (taken_suc xs i x e)

pub taken : {A : Type 0} (xs : List A) (i : ℕ) (x : A) → slice_get xs i ≡ Some x → take (i + 1) xs ≡ take i xs ++ x ∷ []
taken xs i x e = ap (λ k. take k xs) (add-one i) ∙ taken_suc xs i x e

-- no element stands past the end
pub none_there : {A : Type 0} (xs : List A) (i : ℕ) → slice_get xs i ≡ None → length xs ≤ i
none_there [] i e = omega arith
none_there (a ∷ xs) zero e = cc e
none_there (a ∷ xs) (suc i) e = let fewer = none_there xs i e in omega arith

pub zip_short_left : {A B : Type 0} (xs : List A) (ys : List B) → length (zip xs ys) ≤ length xs
zip_short_left [] ys = omega arith
zip_short_left (x ∷ xs) [] = omega arith
zip_short_left (x ∷ xs) (y ∷ ys) = let fewer = zip_short_left xs ys in omega arith

pub zip_short_right : {A B : Type 0} (xs : List A) (ys : List B) → length (zip xs ys) ≤ length ys
zip_short_right [] ys = omega arith
zip_short_right (x ∷ xs) [] = omega arith
zip_short_right (x ∷ xs) (y ∷ ys) = let fewer = zip_short_right xs ys in omega arith

module _ {A X E : Type 0} (judge : A → Result X E) where
  abbrev behind_all : List X → Result (List X) E → Result (List X) E
  behind_all before all = and_then all (λ behind. Ok (before ++ behind))

  -- what becomes of the elements, behind those that were judged
  abbrev pub judged_behind : List X → List A → Result (List X) E
  judged_behind before zs = behind_all before (all_ok (map judge zs))

  moved : (before : List X) (x : X) (all : Result (List X) E) → behind_all before (with_result (Ok x) all) ≡ behind_all (before ++ x ∷ []) all
  moved before x (Ok behind) = ap Ok (sym (append_assoc before (x ∷ []) behind))
  moved before x (Err e) = refl

  pub goes_on : (before : List X) (zs : List A) (i : ℕ) (z : A) (x : X) (all : Result (List X) E) → slice_get zs i ≡ Some z → judge z ≡ Ok x
      → judged_behind before (drop i zs) ≡ all → judged_behind (before ++ x ∷ []) (drop (i + 1) zs) ≡ all
  goes_on before zs i z x all here good so_far =
      let next : judged_behind before (drop i zs) ≡ judged_behind (before ++ x ∷ []) (drop (i + 1) zs) = rw (from_index zs i z here, good) (moved before x (all_ok (map judge (drop (i + 1) zs)))) in
      sym next ∙ so_far

  pub fails : (before : List X) (zs : List A) (i : ℕ) (z : A) (e : E) (all : Result (List X) E) → slice_get zs i ≡ Some z → judge z ≡ Err e
      → judged_behind before (drop i zs) ≡ all → all ≡ Err e
  fails before zs i z e all here bad so_far =
      let next : judged_behind before (drop i zs) ≡ Err e = rw (from_index zs i z here, bad) refl in
      sym so_far ∙ next

  pub finishes : (before : List X) (zs : List A) (i : ℕ) (all : Result (List X) E) → length zs ≤ i → judged_behind before (drop i zs) ≡ all → all ≡ Ok before
  finishes before zs i all end so_far =
      let next : judged_behind before (drop i zs) ≡ Ok before = rw (past_end zs i end) (ap Ok (append-nil before)) in
      sym so_far ∙ next

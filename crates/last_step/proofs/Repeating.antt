-- Rows that stand several times, and how many of them LIMIT leaves.
use Rattle.std.proofs.Common.{◌≡◌, ℕ, zero, suc, ◌+◌, ◌-◌, List, [], ◌∷◌, ◌++◌, length, take, replicate, Some, None, refl, ap, ◌∙◌, sym, arith, add-one, append_assoc, append-nil, reverse}
use Rattle.std.specs.Prelude.{Option, min}
use Rattle.std.proofs.lemmas.List.{reverse-append}
use Rattle.meaning.specs.Order.{Row}
use Rattle.meaning.specs.Finish.{limited}
use Rattle.last_step.specs.declared.run.Run.{Run}
use Rattle.last_step.specs.Runs.{expanded, room}
use Rattle.last_step.proofs.Gathering.{pushed}

again : {X : Type 0} (n : ℕ) (x : X) → replicate n x ++ x ∷ [] ≡ replicate (suc n) x
again zero x = refl
again {X = X} (suc n) x = ap (λ (ys : List X). x ∷ ys) (again n x)

pub once_more : {X : Type 0} (n : ℕ) (x : X) → replicate n x ++ x ∷ [] ≡ replicate (n + 1) x
once_more n x = again n x ∙ ap (λ k. replicate k x) (sym (add-one n))

module _ {X : Type 0} where
  first_of : (n t : ℕ) (x : X) → take n (replicate t x) ≡ replicate (min t n) x
  first_of zero zero x = refl
  first_of zero (suc t) x = let none : 0 ≡ min (suc t) 0 = omega arith in ap (λ k. replicate k x) none
  first_of (suc n) zero x = let none : 0 ≡ min 0 (suc n) = omega arith in ap (λ k. replicate k x) none
  first_of (suc n) (suc t) x =
      let one : suc (min t n) ≡ min (suc t) (suc n) = omega arith in
      ap (λ (ys : List X). x ∷ ys) (first_of n t x) ∙ ap (λ k. replicate k x) one

  cut : (n t : ℕ) (x : X) (ys : List X) → take n (ys ++ replicate t x) ≡ take n ys ++ replicate (min t (n - length (take n ys))) x
  cut zero t x [] = first_of zero t x
  cut (suc n) t x [] = let whole : min t (suc n) ≡ min t (suc n - 0) = omega arith in first_of (suc n) t x ∙ ap (λ k. replicate k x) whole
  cut zero t x (y ∷ ys) = let none : 0 ≡ min t 0 = omega arith in ap (λ k. replicate k x) none
  cut (suc n) t x (y ∷ ys) =
      let same : min t (n - length (take n ys)) ≡ min t (suc n - suc (length (take n ys))) = omega arith in
      ap (λ (zs : List X). y ∷ zs) (cut n t x ys) ∙ ap (λ k. y ∷ take n ys ++ replicate k x) same

pub within : (limit : Option ℕ) (t : ℕ) (x : Row) (rows : List Row) → limited limit (rows ++ replicate t x) ≡ limited limit rows ++ replicate (room limit (length (limited limit rows)) t) x
within None t x rows = refl
within (Some n) t x rows = cut n t x rows

-- these rows are what LIMIT leaves of those that stand before what is left of the runs
pub record AreLeft (limit : Option ℕ) (rows : List Row) (left all : List Run) : Type 0 where
  pub before : List Row
  pub shown : rows ≡ limited limit before
  pub whole : before ++ expanded (reverse left) ≡ expanded (reverse all)

pub left_start : (limit : Option ℕ) (rows : List Row) (all : List Run) → rows ≡ [] → limited limit [] ≡ [] → AreLeft limit rows all all
left_start limit rows all none cut = record { before = []; shown = none ∙ sym cut; whole = refl }

pub none_within : (limit : Option ℕ) → limited limit [] ≡ []
none_within None = refl
none_within (Some zero) = refl
none_within (Some (suc n)) = refl

pub left_more : (limit : Option ℕ) (rows more : List Row) (now new all : List Run) (row : Row) (times : ℕ) → now ≡ new ++ record { row = row; times = times } ∷ []
    → more ≡ rows ++ replicate (room limit (length rows) times) row → AreLeft limit rows now all → AreLeft limit more new all
left_more limit rows more now new all row times popped pushed left =
    let next : reverse now ≡ record { row = row; times = times } ∷ reverse new = ap reverse popped ∙ reverse-append new (record { row = row; times = times } ∷ []) in
    record {
      before = left.before ++ replicate times row;
      shown =
          pushed ∙ (λ i. left.shown i ++ replicate (room limit (length (left.shown i)) times) row)
          ∙ sym (within limit times row left.before);
      whole =
          append_assoc left.before (replicate times row) (expanded (reverse new))
          ∙ ap (λ rs. left.before ++ expanded rs) (sym next)
          ∙ left.whole;
    }

pub left_end : (limit : Option ℕ) (rows : List Row) (left all : List Run) → left ≡ [] → AreLeft limit rows left all → rows ≡ limited limit (expanded (reverse all))
left_end limit rows left all none are =
    are.shown ∙ ap (limited limit) (sym (append-nil are.before) ∙ ap (λ rs. are.before ++ expanded (reverse rs)) (sym none) ∙ are.whole)

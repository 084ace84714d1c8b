-- Judging elements one after the other, where those that are left stand behind those that were judged.
use Rattle.std.proofs.Common.{◌≡◌, ℕ, zero, suc, ◌+◌, ◌<◌, ◌≤◌, List, [], ◌∷◌, ◌++◌, length, map, drop, get_or, Ok, Err, refl, sym, ap, ◌∙◌, append_assoc, arith, add-one}
use Rattle.std.specs.Prelude.{Result, zip, slice_get, Some}
use Rattle.std.proofs.lemmas.List.{append-nil}
use Rattle.meaning.specs.Results.{all_ok, and_then, with_result}
use Rattle.last_step.specs.declared.stop.Stop.{Stop}
use Rattle.last_step.specs.declared.stop.Stop.TheVariants.{Memory, Fault}
use Rattle.meaning.specs.Wanting.{ReportsIfMemory}
use Rattle.last_step.specs.Given.{fault_returned}

-- the elements from an index on
from_suc : {A : Type 0} (zs : List A) (i : ℕ) (z : A) → i < length zs → z ≡ get_or zs i z → drop i zs ≡ z ∷ drop (suc i) zs
from_suc [] i z l e = absurd (omega (arith, l))
from_suc {A = A} (x ∷ zs) zero z l e = ap (λ (y : A). y ∷ zs) (sym e)
from_suc (x ∷ zs) (suc i) z l e = from_suc zs i z (omega (arith, l)) e

pub from_index : {A : Type 0} (zs : List A) (i : ℕ) (z : A) → i < length zs → z ≡ get_or zs i z → drop i zs ≡ z ∷ drop (i + 1) zs
from_index zs i z l e = from_suc zs i z l e ∙ ap (λ k. z ∷ drop k zs) (sym (add-one i))

pub past_end : {A : Type 0} (zs : List A) (i : ℕ) → length zs ≤ i → drop i zs ≡ []
past_end [] zero short = refl
past_end [] (suc i) short = refl
past_end (z ∷ zs) zero short = absurd (omega (arith, short))
past_end (z ∷ zs) (suc i) short = past_end zs i (omega (arith, short))

pub from_get : {A : Type 0} (zs : List A) (i : ℕ) (z : A) → slice_get zs i ≡ Some z → drop i zs ≡ z ∷ drop (i + 1) zs
from_get zs i z e = got zs i z e ∙ ap (λ k. z ∷ drop k zs) (sym (add-one i))
  where
    got : {A : Type 0} (zs : List A) (i : ℕ) (z : A) → slice_get zs i ≡ Some z → drop i zs ≡ z ∷ drop (suc i) zs
    got [] i z e = cc e
    got {A = A} (x ∷ zs) zero z e = let same : x ≡ z = cc e in ap (λ (y : A). y ∷ zs) same
    got (x ∷ zs) (suc i) z e = got zs i z e

zip_none : {A B : Type 0} (xs : List A) (ys : List B) → ys ≡ [] → zip xs ys ≡ []
zip_none [] ys e = refl
zip_none (x ∷ xs) [] e = refl
zip_none (x ∷ xs) (y ∷ ys) e = cc e

pub zip_more : {A B : Type 0} (xs : List A) (ys : List B) (i : ℕ) (x : A) (y : B) → drop i xs ≡ x ∷ drop (i + 1) xs → drop i ys ≡ y ∷ drop (i + 1) ys
    → zip (drop i xs) (drop i ys) ≡ (x, y) ∷ zip (drop (i + 1) xs) (drop (i + 1) ys)
zip_more xs ys i x y e f = λ k. zip (e k) (f k)

pub zip_end_left : {A B : Type 0} (xs : List A) (ys : List B) (i : ℕ) → length xs ≤ i → zip (drop i xs) (drop i ys) ≡ []
zip_end_left xs ys i short = ap (λ zs. zip zs (drop i ys)) (past_end xs i short)

pub zip_end_right : {A B : Type 0} (xs : List A) (ys : List B) (i : ℕ) → length ys ≤ i → zip (drop i xs) (drop i ys) ≡ []
zip_end_right xs ys i short = zip_none (drop i xs) (drop i ys) (past_end ys i short)

module _ {A X : Type 0} (judge : A → Result X ℕ) where
  abbrev pub behind_all : List X → Result (List X) ℕ → Result (List X) ℕ
  behind_all before all = and_then all (λ behind. Ok (before ++ behind))

  -- what becomes of the elements, behind those that were judged
  abbrev pub judged_behind : List X → List A → Result (List X) ℕ
  judged_behind before zs = behind_all before (all_ok (map judge zs))

  moved : (before : List X) (x : X) (all : Result (List X) ℕ) → behind_all before (with_result (Ok x) all) ≡ behind_all (before ++ x ∷ []) all
  moved before x (Ok behind) = ap Ok (sym (append_assoc before (x ∷ []) behind))
  moved before x (Err e) = refl

  none_behind : (all : Result (List X) ℕ) → behind_all [] all ≡ all
  none_behind (Ok xs) = refl
  none_behind (Err e) = refl

  pub starts : (zs : List A) → judged_behind [] zs ≡ all_ok (map judge zs)
  starts zs = none_behind (all_ok (map judge zs))

  pub goes_on : (before : List X) (zs rest : List A) (z : A) (x : X) (all : Result (List X) ℕ) → zs ≡ z ∷ rest → judge z ≡ Ok x
      → judged_behind before zs ≡ all → judged_behind (before ++ x ∷ []) rest ≡ all
  goes_on before zs rest z x all here good so_far =
      let next : judged_behind before zs ≡ judged_behind (before ++ x ∷ []) rest =
      ap (judged_behind before) here ∙ ap (λ r. behind_all before (with_result r (all_ok (map judge rest)))) good ∙ moved before x (all_ok (map judge rest)) in
      sym next ∙ so_far

  pub stops : (before : List X) (zs rest : List A) (z : A) (e : Stop) (all : Result (List X) ℕ) → zs ≡ z ∷ rest → ReportsIfMemory fault_returned (λ x. x) (Err e) (judge z)
      → judged_behind before zs ≡ all → ReportsIfMemory fault_returned (λ x. x) (Err e) all
  stops before zs rest z Memory all here bad so_far = tt
  stops before zs rest z (Fault c) all here bad so_far =
      sym so_far ∙ ap (judged_behind before) here ∙ ap (λ r. behind_all before (with_result r (all_ok (map judge rest)))) bad

  pub ends : (before : List X) (zs : List A) (all : Result (List X) ℕ) → zs ≡ [] → judged_behind before zs ≡ all → all ≡ Ok before
  ends before zs all none so_far = sym so_far ∙ ap (judged_behind before) none ∙ ap Ok (append-nil before)

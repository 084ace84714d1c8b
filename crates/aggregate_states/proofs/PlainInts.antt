-- Integers, all of which are entries.
use Rattle.std.specs.Prelude.{◌≡◌, ℕ, ℤ, ◌+◌, pos, ◌+ℤ◌, ◌<◌, ◌≤◌, Bool, true, false, cond, List, [], ◌∷◌, length, map, drop, get_or, Option, Some}
use Rattle.std.specs.Int.Signed.{lt_z}
use Rattle.std.specs.Ordering.{int_cmp, is_lt, ord_min, ordering_then}
use Rattle.std.specs.declared.cmp.Ordering.{Ordering}
use Rattle.std.specs.declared.cmp.Ordering.TheVariants.{Less, Equal, Greater}
use Rattle.std.specs.Cmp.{IsTotalOrder}
use Rattle.std.proofs.Common.{refl, sym, ap, ◌∙◌, FitsSigned, w64, to_z, of_z}
use Rattle.std.proofs.lemmas.Int.{to_z-of_z}
use Rattle.std.proofs.Math.ListN.{drop_of_length-le}
use Rattle.meaning.specs.declared.value.Value.{Value}
use Rattle.meaning.specs.declared.value.Value.TheVariants.{Int, Null}
use Rattle.meaning.specs.declared.plan.AggregateKind.TheVariants.{Sum}
use Rattle.meaning.specs.Aggregate.{no_statistics, merge, present, total}
use Rattle.meaning.specs.Order.{least, lesser, value_cmp}
use Rattle.meaning.proofs.Least.{lesser-assoc}
use Rattle.meaning.proofs.Merge.{merge-none}
use Rattle.aggregate_states.specs.declared.end.End.{End}
use Rattle.aggregate_states.specs.declared.end.End.TheVariants as end
use Rattle.aggregate_states.specs.Entries.{state_of}
use Rattle.aggregate_states.specs.Kinds.{cmp_from, end_state, kind_from, sum_state}
use Rattle.aggregate_states.proofs.Growing.{first_left, present_ints}

pub present_of_ints : (zs : List ℤ) → present (map Int zs) ≡ map Int zs
present_of_ints [] = refl
present_of_ints (z ∷ zs) = ap (λ (vs : List Value). Int z ∷ vs) (present_of_ints zs)

-- the sum of integers, from the k-th on
pub total_left : (zs : List ℤ) (k : ℕ) → k < length zs → total (map Int (drop k zs)) ≡ get_or zs k (pos 0) +ℤ total (map Int (drop (k + 1) zs))
total_left zs k here = ap (λ (ys : List ℤ). total (map Int ys)) (first_left zs k (pos 0) here)

pub sum_of_ints : (zs : List ℤ) (count : ℕ) (sum : ℤ) → count ≡ length zs → sum ≡ total (map Int zs) → sum_state count sum ≡ state_of Sum (map Int zs)
sum_of_ints zs count sum counted is =
    λ i. sum_state ((counted ∙ sym (present_ints zs)) i) ((is ∙ sym (ap total (present_of_ints zs))) i)

-- ---- the nearest to an end

ints_cmp : (m n : ℤ) → value_cmp (Int m) (Int n) ≡ int_cmp m n
ints_cmp m n = elim (int_cmp m n) as (λ o. ordering_then o Equal ≡ o) [ Less ↦ refl | Equal ↦ refl | Greater ↦ refl ]

first_test : (x y : Bool) → is_lt (cond x Less (cond y Greater Equal)) ≡ x
first_test true y = refl
first_test false true = refl
first_test false false = refl

less_ints : (m n : ℤ) → lt_z m n ≡ is_lt (value_cmp (Int m) (Int n))
less_ints m n = sym (ap is_lt (ints_cmp m n) ∙ first_test (lt_z m n) (lt_z n m))

-- the same of numbers as code reads them
pub less_read : (m n : ℤ) → FitsSigned w64 m → FitsSigned w64 n → lt_z (to_z w64 (of_z w64 m)) (to_z w64 (of_z w64 n)) ≡ is_lt (value_cmp (Int m) (Int n))
less_read m n fits_m fits_n = (λ i. lt_z (to_z-of_z w64 m fits_m i) (to_z-of_z w64 n fits_n i)) ∙ less_ints m n

module _ {cmp : Value → Value → Ordering} (o : IsTotalOrder cmp) where
  -- what is best so far, with what is left, is the best of all
  best_more : (zs : List ℤ) (k : ℕ) (best better : ℤ) (all : Option Value) → k < length zs → Int better ≡ ord_min cmp (Int best) (Int (get_or zs k (pos 0)))
      → lesser cmp (Some (Int best)) (least cmp (map Int (drop k zs))) ≡ all → lesser cmp (Some (Int better)) (least cmp (map Int (drop (k + 1) zs))) ≡ all
  best_more zs k best better all here is so_far =
      ap (λ (v : Value). lesser cmp (Some v) (least cmp (map Int (drop (k + 1) zs)))) is
      ∙ lesser-assoc o (Some (Int best)) (Some (Int (get_or zs k (pos 0)))) (least cmp (map Int (drop (k + 1) zs)))
      ∙ ap (λ (ys : List ℤ). lesser cmp (Some (Int best)) (least cmp (map Int ys))) (sym (first_left zs k (pos 0) here))
      ∙ so_far

  -- the same of a better one as code passes it on
  pub better_read : (zs : List ℤ) (k : ℕ) (best better : ℤ) (all : Option Value) → FitsSigned w64 better → k < length zs → Int better ≡ ord_min cmp (Int best) (Int (get_or zs k (pos 0)))
      → lesser cmp (Some (Int best)) (least cmp (map Int (drop k zs))) ≡ all → lesser cmp (Some (Int (to_z w64 (of_z w64 better)))) (least cmp (map Int (drop (k + 1) zs))) ≡ all
  better_read zs k best better all fits here is so_far =
      ap (λ (z : ℤ). lesser cmp (Some (Int z)) (least cmp (map Int (drop (k + 1) zs)))) (to_z-of_z w64 better fits) ∙ best_more zs k best better all here is so_far

  pub best_end : (zs : List ℤ) (k : ℕ) (best : ℤ) (all : Option Value) → length zs ≤ k
      → lesser cmp (Some (Int best)) (least cmp (map Int (drop k zs))) ≡ all → Some (Int best) ≡ all
  best_end zs k best all past so_far = sym (ap (λ (ys : List ℤ). lesser cmp (Some (Int best)) (least cmp (map Int ys))) (drop_of_length-le zs past)) ∙ so_far

pub found_none : (e : End) → end_state e 0 Null ≡ merge no_statistics (state_of (kind_from e) [])
found_none end.Least = refl
found_none end.Greatest = refl

pub found_ints : (e : End) (zs : List ℤ) (best : ℤ) (count : ℕ) → Some (Int best) ≡ least (cmp_from e) (map Int zs) → count ≡ length zs
    → end_state e count (Int best) ≡ merge no_statistics (state_of (kind_from e) (map Int zs))
found_ints end.Least zs best count is counted =
    (λ i. record no_statistics { count = (counted ∙ sym (present_ints zs)) i; least = (is ∙ sym (ap (least (cmp_from end.Least)) (present_of_ints zs))) i })
    ∙ sym (merge-none (state_of (kind_from end.Least) (map Int zs)))
found_ints end.Greatest zs best count is counted =
    (λ i. record no_statistics { count = (counted ∙ sym (present_ints zs)) i; greatest = (is ∙ sym (ap (least (cmp_from end.Greatest)) (present_of_ints zs))) i })
    ∙ sym (merge-none (state_of (kind_from end.Greatest) (map Int zs)))

-- the same of what code reads
pub found_read : (e : End) (ints : List ℤ) (first best : ℤ) (rest : List ℤ) (count : ℕ) → ints ≡ first ∷ rest → FitsSigned w64 best
    → Some (Int best) ≡ least (cmp_from e) (Int first ∷ map Int rest) → count ≡ length ints
    → end_state e count (Int (to_z w64 (of_z w64 best))) ≡ merge no_statistics (state_of (kind_from e) (map Int ints))
found_read e ints first best rest count are fits is counted =
    ap (λ (z : ℤ). end_state e count (Int z)) (to_z-of_z w64 best fits)
    ∙ found_ints e ints best count (is ∙ sym (ap (λ (zs : List ℤ). least (cmp_from e) (map Int zs)) are)) counted

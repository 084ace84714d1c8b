-- The statistics of entries of a type are such as an answer may have.
use Rattle.std.specs.Prelude.{◌≡◌, ℕ, suc, ◌==◌, nat_le, ◌≤◌, ◌<◌, ◌^◌, ℤ, pos, negsuc, ◌+ℤ◌, ◌*ℤ◌, ◌≤ℤ◌, int_le, Bool, true, false, cond, ◌&&◌, not, List, [], ◌∷◌, length, Option, Some, None, is_none, is_some}
use Rattle.std.specs.List.{list_all}
use Rattle.std.specs.declared.cmp.Ordering.{Ordering}
use Rattle.std.specs.Ordering.{is_lt}
use Rattle.std.proofs.Math.IntN.{suc_ℤ-*ℤ}
use Rattle.std.proofs.lemmas.Int.{ints}
use Rattle.meaning.specs.Operators.{fits_i64}
use Rattle.std.proofs.Common.{refl, ap, ◌∙◌, arith}
use Rattle.std.proofs.lemmas.Bool.{eq-eqb, ltb-true}
use Rattle.std.proofs.lemmas.Bool.Decides.{nat_tests}
use Rattle.meaning.specs.declared.value.Value.{Value}
use Rattle.meaning.specs.declared.value.Value.TheVariants.{Null, Int, Text}
use Rattle.meaning.specs.declared.value.ColType.{ColType}
use Rattle.meaning.specs.declared.value.ColType.TheVariants as of_type
use Rattle.meaning.specs.declared.plan.AggregateKind.{AggregateKind}
use Rattle.meaning.specs.declared.plan.AggregateKind.TheVariants.{CountRows, Count, Sum, Min, Max, Avg, CountDistinct, SumDistinct}
use Rattle.meaning.specs.declared.plan.Aggregate.{Aggregate}
use Rattle.meaning.specs.declared.answer.Statistics.{Statistics}
use Rattle.meaning.specs.Order.{is_null, number, lesser, least, value_cmp, is_ascending}
use Rattle.meaning.specs.Aggregate.{present, different, total, down_cmp, statistics, kept_by}
use Rattle.meaning.specs.Typing.{is_of_type, is_taken_by, is_argument_of}
use Rattle.meaning.specs.Fitting.{is_extreme, is_entry_of, is_state_of, least_integer, greatest_integer, is_sum_of, is_there, is_possible}
use Rattle.meaning.proofs.Same.{statistics_exact}
use Rattle.meaning.proofs.Tests.{first_of, second_of, both, all_first, all_rest, all_imply, all_set}
use Rattle.meaning.proofs.Orders.{value_total}
use Rattle.meaning.proofs.Sets.{is_ascending-ascending_set}
use Rattle.meaning.proofs.Unions.{few_in_set}

module _ (kind : ColType) where
  present_entries : (xs : List Value) → list_all (is_of_type kind) xs ≡ true → list_all (is_entry_of kind) (present xs)
      ≡ true
  present_entries [] e = refl
  present_entries (x ∷ xs) e =
      elim (is_null x) as (λ b. is_null x
      ≡ b → list_all (is_entry_of kind) (cond (not b) (x ∷ present xs) (present xs)) ≡ true) [
        | true ↦ λ _. present_entries xs (all_rest (is_of_type kind) x xs e)
        | false ↦ λ there. both _ _ (both _ _ (ap not there) (all_first (is_of_type kind) x xs e))
            (present_entries xs (all_rest (is_of_type kind) x xs e))
      ] refl

  -- the lesser of two
  pub lesser_extreme : (cmp : Value → Value → Ordering) (a b : Option Value) → is_extreme kind a ≡ true
      → is_extreme kind b ≡ true → is_extreme kind (lesser cmp a b) ≡ true
  lesser_extreme cmp None b p q = q
  lesser_extreme cmp (Some x) None p q = p
  lesser_extreme cmp (Some x) (Some y) p q =
      elim (is_lt (cmp y x)) as (λ b. is_extreme kind (Some (cond b y x)) ≡ true) [ true ↦ q | false ↦ p ]

  least_extreme : (cmp : Value → Value → Ordering) (ys : List Value) → list_all (is_entry_of kind) ys
      ≡ true → is_extreme kind (least cmp ys) ≡ true
  least_extreme cmp [] e = refl
  least_extreme cmp (y ∷ ys) e = lesser_extreme cmp (Some y) (least cmp ys) (all_first (is_entry_of kind) y ys e)
      (least_extreme cmp ys (all_rest (is_entry_of kind) y ys e))

kept_twice : (kind : AggregateKind) (s : Statistics) → kept_by kind (kept_by kind s) ≡ kept_by kind s
kept_twice CountRows s = refl
kept_twice Count s = refl
kept_twice Sum s = refl
kept_twice Min s = refl
kept_twice Max s = refl
kept_twice Avg s = refl
kept_twice CountDistinct s = refl
kept_twice SumDistinct s = refl

-- the extremes and the set of some statistics are of a type
abbrev pub are_of_type : ColType → Statistics → Bool
are_of_type t s = is_extreme t s.least && (is_extreme t s.greatest && list_all (is_entry_of t) s.entries)

kept_of_type : (kind : AggregateKind) (t : ColType) (s : Statistics) → is_extreme t s.least
    ≡ true → is_extreme t s.greatest ≡ true → list_all (is_entry_of t) s.entries
    ≡ true → are_of_type t (kept_by kind s) ≡ true
kept_of_type CountRows t s p q r = refl
kept_of_type Count t s p q r = refl
kept_of_type Sum t s p q r = refl
kept_of_type Min t s p q r = both _ _ p refl
kept_of_type Max t s p q r = both _ _ refl (both _ _ q refl)
kept_of_type Avg t s p q r = refl
kept_of_type CountDistinct t s p q r = r
kept_of_type SumDistinct t s p q r = r

typed_entries : (a : Aggregate) (xs : List Value) → list_all (is_argument_of a) xs
    ≡ true → list_all (is_entry_of a.col_type) (present xs) ≡ true
typed_entries a xs e = present_entries a.col_type xs
    (all_imply (is_argument_of a) (is_of_type a.col_type)
    (λ v. first_of (is_of_type a.col_type v) (is_taken_by a.kind v)) xs e)

-- an aggregate's statistics are of its argument's type
pub state_of_type : (a : Aggregate) (xs : List Value) → list_all (is_argument_of a) xs
    ≡ true → is_state_of a (kept_by a.kind (statistics xs)) ≡ true
state_of_type a xs e =
    both _ _ ((statistics_exact _ _).1 (kept_twice a.kind (statistics xs)))
    (kept_of_type a.kind a.col_type (statistics xs)
    (least_extreme a.col_type value_cmp (present xs) (typed_entries a xs e))
    (least_extreme a.col_type down_cmp (present xs) (typed_entries a xs e))
    (all_set value_cmp (is_entry_of a.col_type) (present xs) (typed_entries a xs e)))

-- a set ascends
pub set_ascends : (kind : AggregateKind) (xs : List Value) → is_ascending value_cmp (kept_by kind (statistics xs)).entries
    ≡ true
set_ascends CountRows xs = refl
set_ascends Count xs = refl
set_ascends Sum xs = refl
set_ascends Min xs = refl
set_ascends Max xs = refl
set_ascends Avg xs = refl
set_ascends CountDistinct xs = is_ascending-ascending_set value_total (present xs)
set_ascends SumDistinct xs = is_ascending-ascending_set value_total (present xs)

-- ---- numbers

few_present : (xs : List Value) → length (present xs) ≤ length xs
few_present [] = omega arith
few_present (x ∷ xs) =
    let rest = few_present xs in
    elim (is_null x) as (λ b. length (cond (not b) (x ∷ present xs) (present xs)) ≤ suc
    (length xs)) [ true ↦ omega arith | false ↦ omega arith ]

few_different : (xs : List Value) → length (different xs) ≤ length xs
few_different xs = let fewer = few_in_set value_cmp (present xs) in let few = few_present xs in omega arith

all_present : (xs : List Value) → list_all (λ v. not (is_null v)) xs ≡ true → length (present xs) ≡ length xs
all_present [] e = refl
all_present (x ∷ xs) e =
    ap (λ b. length (cond b (x ∷ present xs) (present xs))) (all_first (λ v. not (is_null v)) x xs e)
    ∙ ap (λ n. suc n) (all_present xs (all_rest (λ v. not (is_null v)) x xs e))

pub nat_le_yes : (m n : ℕ) → m ≤ n → nat_le m n ≡ true
nat_le_yes m n h = grind (arith, nat_tests)

there_is_one : (cmp : Value → Value → Ordering) (ys : List Value) → is_there (length ys) (least cmp ys) ≡ true
there_is_one cmp [] = refl
there_is_one cmp (y ∷ ys) =
    ap (λ b. cond b (is_none (lesser cmp (Some y) (least cmp ys))) (is_some (lesser cmp (Some y) (least cmp ys))))
    (suc_not_zero (length ys))
    ∙ elim (least cmp ys) as (λ o. is_some (lesser cmp (Some y) o) ≡ true) [ None ↦ refl | Some z ↦ refl ]
  where
    suc_not_zero : (n : ℕ) → (suc n == 0) ≡ false
    suc_not_zero n = grind arith

-- ---- sums

-- a bound by a test, and the other way
pub passes : (a b : ℤ) → a ≤ℤ b → int_le a b ≡ true
passes a b h = grind (arith, ints)

within_64_bits : (n : ℤ) → fits_i64 n ≡ true → (least_integer ≤ℤ n) × (n ≤ℤ greatest_integer)
within_64_bits (pos m) e = let h : m < 2 ^ 63 = ltb-true m (2 ^ 63) e in (omega (arith, ints), omega (arith, ints))
within_64_bits (negsuc m) e = let h : m < 2 ^ 63 = ltb-true m (2 ^ 63) e in (omega (arith, ints), omega (arith, ints))

number_within : (kind : ColType) (v : Value) → is_of_type kind v
    ≡ true → (least_integer ≤ℤ number v) × (number v ≤ℤ greatest_integer)
number_within kind Null e = (omega (arith, ints), omega (arith, ints))
number_within of_type.Int (Int n) e = within_64_bits n e
number_within of_type.Int (Text t) e = cc
number_within of_type.Text (Int n) e = cc
number_within of_type.Text (Text t) e = (omega (arith, ints), omega (arith, ints))

-- one more between two bounds
one_more : (n : ℕ) (x z : ℤ) → (least_integer ≤ℤ x) × (x ≤ℤ greatest_integer)
    → ((pos n *ℤ least_integer) ≤ℤ z) × (z ≤ℤ (pos n *ℤ greatest_integer))
    → ((pos (suc n) *ℤ least_integer) ≤ℤ (x +ℤ z)) × ((x +ℤ z) ≤ℤ (pos (suc n) *ℤ greatest_integer))
one_more n x z here rest =
    let low = suc_ℤ-*ℤ (pos n) least_integer in
    let high = suc_ℤ-*ℤ (pos n) greatest_integer in
    let low_here = here.0 in
    let high_here = here.1 in
    let low_rest = rest.0 in
    let high_rest = rest.1 in
    (omega (arith, ints), omega (arith, ints))

sum_within : (kind : ColType) (ys : List Value) → list_all (is_entry_of kind) ys
    ≡ true → ((pos (length ys) *ℤ least_integer) ≤ℤ total ys) × (total ys ≤ℤ (pos (length ys) *ℤ greatest_integer))
sum_within kind [] e = (omega (arith, ints), omega (arith, ints))
sum_within kind (y ∷ ys) e =
    one_more (length ys) (number y) (total ys)
    (number_within kind y (second_of _ _ (all_first (is_entry_of kind) y ys e)))
    (sum_within kind ys (all_rest (is_entry_of kind) y ys e))

sum_possible : (kind : ColType) (ys : List Value) → list_all (is_entry_of kind) ys
    ≡ true → is_sum_of (length ys) (total ys) ≡ true
sum_possible kind ys e = let h = sum_within kind ys e in both _ _ (passes _ _ h.0) (passes _ _ h.1)

-- an aggregate's statistics are such as its entries' number of rows can give
possible : (kind : AggregateKind) (t : ColType) (xs : List Value) → list_all (is_entry_of t) (present xs)
    ≡ true → list_all (is_taken_by kind) xs ≡ true → is_possible kind (length xs) (kept_by kind (statistics xs)) ≡ true
possible CountRows t xs typed taken = eq-eqb (length (present xs)) (length xs) (all_present xs taken)
possible Count t xs typed taken = nat_le_yes _ _ (few_present xs)
possible Sum t xs typed taken = both _ _ (nat_le_yes _ _ (few_present xs)) (sum_possible t (present xs) typed)
possible Avg t xs typed taken = both _ _ (nat_le_yes _ _ (few_present xs)) (sum_possible t (present xs) typed)
possible Min t xs typed taken = both _ _ (nat_le_yes _ _ (few_present xs)) (there_is_one value_cmp (present xs))
possible Max t xs typed taken = both _ _ (nat_le_yes _ _ (few_present xs)) (there_is_one down_cmp (present xs))
possible CountDistinct t xs typed taken = nat_le_yes _ _ (few_different xs)
possible SumDistinct t xs typed taken = nat_le_yes _ _ (few_different xs)

pub state_possible : (a : Aggregate) (xs : List Value) → list_all (is_argument_of a) xs
    ≡ true → is_possible a.kind (length xs) (kept_by a.kind (statistics xs)) ≡ true
state_possible a xs e = possible a.kind a.col_type xs (typed_entries a xs e)
    (all_imply (is_argument_of a) (is_taken_by a.kind)
    (λ v. second_of (is_of_type a.col_type v) (is_taken_by a.kind v)) xs e)

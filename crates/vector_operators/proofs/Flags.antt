-- The least fault of a loop of arithmetic.
use Rattle.std.specs.Prelude.{◌≡◌, ℕ, ◌<◌, ◌==◌, ℤ, Bool, true, false, if◌then◌else◌, ◌||◌, pos, neg_ℤ, List, length, find, get_or, Option, Some, None}
use Rattle.std.proofs.Common.{refl, sym, ◌∙◌, ap, subst, inl, inr, arith}
use Rattle.meaning.specs.declared.value.Value.TheVariants.{Null, Int}
use Rattle.meaning.specs.declared.outcome.Outcome.{Outcome}
use Rattle.meaning.specs.declared.outcome.Outcome.TheVariants as gives
use Rattle.std.specs.Int.{int_wrap, w64}
use Rattle.meaning.specs.declared.value.Value.{Value}
use Rattle.meaning.specs.declared.expr.ArithmeticOperator.{ArithmeticOperator}
use Rattle.meaning.specs.declared.expr.ArithmeticOperator.TheVariants.{Add, Subtract, Multiply, Divide}
use Rattle.meaning.specs.Operators.{arith_values, minus_value}
use Rattle.vectors.specs.declared.nulls.Nulls.{Nulls}
use Rattle.vectors.specs.Lanes.{lane_value, lane_values, nulls_of}
use Rattle.vectors.proofs.Lanes.{lanes_long, lane_at}
use Rattle.vectors.specs.Selection.{Positions, IsSelection, is_among}
use Rattle.lane_loops.specs.Lanes.{AreLanes, int_at, is_flag, null_at, overflow_bit}
use Rattle.lane_loops.specs.Outcomes.{returned_outcome}
use Rattle.vector_operators.specs.Evaluated.{Held, IsBefore, IsWithin, Evaluates, noted}
use Rattle.lane_loops.proofs.Returned.{lanes_returned}
use Rattle.vector_operators.specs.Broadcast.{AreEither, AreParts}
use Rattle.lane_loops.specs.Small.{arith_code, arith_int}
use Rattle.vector_operators.specs.Returned.{coded, fault_of_code, Noted}
use Rattle.vector_operators.proofs.Among.{find_passes, none_passes, before_fails, within_among}
use Rattle.vector_operators.proofs.Composes.{noted_cases}

-- without a flag there is a value
no_flag : (null : Bool) (code : ℕ) (n : ℤ) → is_flag (if null then 0 else code) ≡ false → gives.Value (lane_value Int (null, n)) ≡ returned_outcome null code n
no_flag true code n e = refl
no_flag false code n e = elim (code == 0) as (λ b. code == 0 ≡ b → gives.Value (Int n) ≡ returned_outcome false code n) [
  | true ↦ λ z. rw z
  | false ↦ λ z. absurd (let w : is_flag code ≡ true = rw z in cc)
] refl

-- with one there is a fault
a_flag : (null : Bool) (code : ℕ) (n : ℤ) → is_flag (if null then 0 else code) ≡ true → returned_outcome null code n ≡ gives.Fault (fault_of_code (if null then 0 else code))
a_flag true code n e = absurd cc
a_flag false code n e = elim (code == 0) as (λ b. code == 0 ≡ b → returned_outcome false code n ≡ gives.Fault (fault_of_code code)) [
  | true ↦ λ z. absurd (let w : is_flag code ≡ false = rw z in cc)
  | false ↦ λ z. elim (code == 1) as (λ b. code == 1 ≡ b → returned_outcome false code n ≡ gives.Fault (fault_of_code code)) [
    | true ↦ λ o. rw (z, o)
    | false ↦ λ o. rw (z, o)
  ] refl
] refl

module _ (s : Positions) (is : IsSelection s) (n : ℕ) (below : s.below ≡ n) (nulls : List Bool) (code : ℕ → ℕ) (int : ℕ → ℤ)
    (cleared : List ℕ) (flags_are : (i : ℕ) → IsWithin s i → get_or cleared i 0 ≡ (if null_at nulls i then 0 else code i))
    (lanes : ℕ → Outcome) (lanes_are : (i : ℕ) → i < n → lanes i ≡ gives.Value (lane_value Int (null_at nulls i, int i))) where
  abbrev returned : ℕ → Outcome
  returned i = returned_outcome (null_at nulls i) (code i) (int i)

  abbrev test : ℕ → Bool
  test p = is_flag (get_or cleared p 0)

  inside : (i : ℕ) → IsWithin s i → i < n
  inside i w = subst (λ (k : ℕ). i < k) below w.0

  value_at : (i : ℕ) → IsWithin s i → test i ≡ false → lanes i ≡ returned i
  value_at i w fails = lanes_are i (inside i w) ∙ no_flag (null_at nulls i) (code i) (int i) (sym (ap (λ (k : ℕ). is_flag k) (flags_are i w)) ∙ fails)

  fault_there : (p : ℕ) → IsWithin s p → test p ≡ true → returned p ≡ gives.Fault (fault_of_code (get_or cleared p 0))
  fault_there p w passes =
      a_flag (null_at nulls p) (code p) (int p) (sym (ap (λ (k : ℕ). is_flag k) (flags_are p w)) ∙ passes)
      ∙ ap (λ (k : ℕ). gives.Fault (fault_of_code k)) (sym (flags_are p w))

  by_found : (h : Held) (found : Option ℕ) → find test s.list ≡ found → Evaluates returned (IsWithin s) h (noted h (coded cleared found)) lanes
  by_found h None e = record { exact = λ i w b. value_at i w (none_passes test s.list e i w.1); origin = inl refl }
  by_found h (Some p) e = elim (noted_cases h (record { position = p; fault = fault_of_code (get_or cleared p 0) })) [
    | inl new ↦ record {
      exact = λ i w b. value_at i w (before_fails test s.list p is.ascending e i w.1 (subst (λ (x : Held). IsBefore i x) new.1 b));
      origin = inr (record { position = p; fault = fault_of_code (get_or cleared p 0); is_new = new.1; is_selected = here; is_before = new.0; is_meant = fault_there p here passes.1 });
    }
    | inr old ↦ record {
      exact = λ i w b. value_at i w (before_fails test s.list p is.ascending e i w.1 (old.1 i (subst (λ (x : Held). IsBefore i x) old.0 b)));
      origin = inl old.0;
    }
  ] where
    passes : (is_among s.list p ≡ true) × (test p ≡ true)
    passes = find_passes test s.list p e

    here : IsWithin s p
    here = (within_among s.below s.list p is.within passes.0, passes.0)

  pub flags_report : (h new : Held) → new ≡ noted h (coded cleared (find test s.list)) → Evaluates returned (IsWithin s) h new lanes
  flags_report h new e = subst (λ (x : Held). Evaluates returned (IsWithin s) h x lanes) (sym e) (by_found h (find test s.list) refl)

-- what is noted of codes, and the lanes
module _ (s : Positions) (codes slice : List ℕ) (ints : List ℤ) (nulls : Nulls) (lanes : List Value) (h new : Held) (same : slice ≡ codes)
    (noted_is : Noted (nulls_of (length slice) nulls) slice s h new)
    (ints_long : length ints ≡ s.below) (codes_long : length codes ≡ s.below) (nulls_are_long : length (nulls_of s.below nulls) ≡ s.below)
    (is : lanes ≡ lane_values Int (nulls_of (length ints) nulls) ints) where
  abbrev returned_nulls : List Bool
  returned_nulls = nulls_of s.below nulls

  slice_long : length slice ≡ s.below
  slice_long = ap (λ (xs : List ℕ). length xs) same ∙ codes_long

  nulls_same : nulls_of (length ints) nulls ≡ returned_nulls
  nulls_same = ap (λ (k : ℕ). nulls_of k nulls) ints_long

  lanes_same : lanes ≡ lane_values Int returned_nulls ints
  lanes_same = is ∙ ap (λ (bs : List Bool). lane_values Int bs ints) nulls_same

  pub returned_long : length lanes ≡ s.below
  returned_long = ap (λ (vs : List Value). length vs) lanes_same ∙ lanes_long Int returned_nulls ints (nulls_are_long ∙ sym ints_long) ∙ ints_long

  flags_there : (i : ℕ) → IsWithin s i → get_or noted_is.cleared i 0 ≡ (if null_at returned_nulls i then 0 else get_or codes i 0)
  flags_there i within =
      noted_is.flags i within
      ∙ ap (λ (k : ℕ). if null_at (nulls_of k nulls) i then 0 else get_or slice i 0) slice_long
      ∙ ap (λ (xs : List ℕ). if null_at returned_nulls i then 0 else get_or xs i 0) same

  lanes_there : (i : ℕ) → i < s.below → gives.Value (get_or lanes i Null) ≡ gives.Value (lane_value Int (null_at returned_nulls i, int_at ints i))
  lanes_there i within =
      ap gives.Value (ap (λ (vs : List Value). get_or vs i Null) lanes_same
      ∙ lane_at Int returned_nulls ints i (pos 0) (nulls_are_long ∙ sym ints_long) (subst (λ (k : ℕ). i < k) (sym ints_long) within))

  pub noted_reports : Evaluates (λ i. returned_outcome (null_at returned_nulls i) (get_or codes i 0) (int_at ints i)) (IsWithin s) h new (λ i. gives.Value (get_or lanes i Null))
  noted_reports =
      flags_report s noted_is.selection s.below refl returned_nulls (λ i. get_or codes i 0) (λ i. int_at ints i) noted_is.cleared flags_there
      (λ i. gives.Value (get_or lanes i Null)) lanes_there h new noted_is.is_new

-- ---- operators

arith_returned : (op : ArithmeticOperator) (l r : Bool) (m n : ℤ) → returned_outcome (l || r) (arith_code op m n) (arith_int op m n) ≡ arith_values op (lane_value Int (l, m)) (lane_value Int (r, n))
arith_returned Add l r m n = sym (lanes_returned.arithmetic l r m n).add
arith_returned Subtract l r m n = sym (lanes_returned.arithmetic l r m n).subtract
arith_returned Multiply l r m n = sym (lanes_returned.arithmetic l r m n).multiply
arith_returned Divide l r m n = sym (lanes_returned.arithmetic l r m n).divide

part_at : (n : ℕ) (lanes : List Value) (cells : List ℤ) (nulls : Nulls) → length lanes ≡ n → AreParts Int (pos 0) lanes cells nulls
    → (i : ℕ) → i < n → get_or lanes i Null ≡ lane_value Int (null_at (nulls_of n nulls) i, int_at cells i)
part_at n lanes cells nulls long are i within =
    are.each i (subst (λ (k : ℕ). i < k) (sym long) within) ∙ ap (λ (k : ℕ). lane_value Int (null_at (nulls_of k nulls) i, int_at cells i)) long

pub arith_reports : (op : ArithmeticOperator) (n : ℕ) (left right : List Value) (lc rc ints : List ℤ) (codes : List ℕ) (ln rn nulls : Nulls)
    → AreParts Int (pos 0) left lc ln → AreParts Int (pos 0) right rc rn → length left ≡ n → length right ≡ n
    → AreEither (nulls_of n ln) (nulls_of n rn) n nulls
    → AreLanes (pos 0) (length lc) (λ i. arith_int op (int_at lc i) (int_at rc i)) ints
    → AreLanes 0 (length lc) (λ i. arith_code op (int_at lc i) (int_at rc i)) codes
    → (i : ℕ) → i < n → returned_outcome (null_at (nulls_of n nulls) i) (get_or codes i 0) (int_at ints i) ≡ arith_values op (get_or left i Null) (get_or right i Null)
arith_reports op n left right lc rc ints codes ln rn nulls of_left of_right left_long right_long either ints_are codes_are i within =
    let inside : i < length lc = omega (arith, of_left.long, left_long, within) in
    let l = null_at (nulls_of n ln) i in
    let r = null_at (nulls_of n rn) i in
    ap (λ (b : Bool). returned_outcome b (get_or codes i 0) (int_at ints i)) (either.each i within)
    ∙ ap (λ (k : ℕ). returned_outcome (l || r) k (int_at ints i)) (codes_are.each i inside)
    ∙ ap (λ (z : ℤ). returned_outcome (l || r) (arith_code op (int_at lc i) (int_at rc i)) z) (ints_are.each i inside)
    ∙ arith_returned op l r (int_at lc i) (int_at rc i)
    ∙ ap (λ (v : Value). arith_values op v (lane_value Int (r, int_at rc i))) (sym (part_at n left lc ln left_long of_left i within))
    ∙ ap (λ (v : Value). arith_values op (get_or left i Null) v) (sym (part_at n right rc rn right_long of_right i within))

pub minus_reports : (n : ℕ) (lanes : List Value) (cells ints : List ℤ) (codes : List ℕ) (given nulls : Nulls)
    → AreParts Int (pos 0) lanes cells given → length lanes ≡ n → nulls_of n nulls ≡ nulls_of n given
    → AreLanes (pos 0) (length cells) (λ i. int_wrap w64 (neg_ℤ (int_at cells i))) ints
    → AreLanes 0 (length cells) (λ i. overflow_bit (neg_ℤ (int_at cells i))) codes
    → (i : ℕ) → i < n → returned_outcome (null_at (nulls_of n nulls) i) (get_or codes i 0) (int_at ints i) ≡ minus_value (get_or lanes i Null)
minus_reports n lanes cells ints codes given nulls are long same ints_are codes_are i within =
    let inside : i < length cells = omega (arith, are.long, long, within) in
    let l = null_at (nulls_of n given) i in
    ap (λ (bs : List Bool). returned_outcome (null_at bs i) (get_or codes i 0) (int_at ints i)) same
    ∙ ap (λ (k : ℕ). returned_outcome l k (int_at ints i)) (codes_are.each i inside)
    ∙ ap (λ (z : ℤ). returned_outcome l (overflow_bit (neg_ℤ (int_at cells i))) z) (ints_are.each i inside)
    ∙ sym (lanes_returned.arithmetic l true (int_at cells i) (pos 0)).negate
    ∙ ap minus_value (sym (part_at n lanes cells given long are i within))

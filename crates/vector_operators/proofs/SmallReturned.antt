-- What arithmetic gives where no lane has a fault.
use Rattle.std.specs.Prelude.{◌≡◌, ℕ, ◌<◌, ℤ, pos, Bool, true, false, List, length, replicate, get_or}
use Rattle.std.proofs.Common.{refl, sym, ap, arith, ◌∙◌, inl}
use Rattle.std.proofs.lemmas.List.{length-replicate, get_or-replicate}
use Rattle.meaning.specs.declared.value.Value.{Value}
use Rattle.meaning.specs.declared.value.Value.TheVariants.{Null, Int}
use Rattle.meaning.specs.declared.outcome.Outcome.{Outcome}
use Rattle.meaning.specs.declared.outcome.Outcome.TheVariants as gives
use Rattle.meaning.specs.declared.expr.ArithmeticOperator.{ArithmeticOperator}
use Rattle.meaning.specs.Operators.{arith_values}
use Rattle.vectors.specs.declared.nulls.Nulls.{Nulls}
use Rattle.vectors.specs.Lanes.{lane_value, lane_values, nulls_of}
use Rattle.vectors.specs.Selection.{Positions}
use Rattle.vectors.proofs.Lanes.{lane_at}
use Rattle.lane_loops.specs.Lanes.{AreLanes, int_at, null_at}
use Rattle.lane_loops.specs.Small.{AreResults, arith_code, arith_int}
use Rattle.lane_loops.specs.Outcomes.{returned_outcome}
use Rattle.vector_operators.specs.Evaluated.{Evaluates, Held, IsWithin}
use Rattle.vector_operators.specs.Broadcast.{AreEither, AreParts}
use Rattle.vector_operators.proofs.Flags.{arith_reports}

no_code : (null : Bool) (n : ℤ) → gives.Value (lane_value Int (null, n)) ≡ returned_outcome null 0 n
no_code true n = refl
no_code false n = refl

pub returned_without : (ints : List ℤ) (nulls : List Bool) (lanes : List Value) → length nulls ≡ length ints → lanes ≡ lane_values Int nulls ints
    → (i : ℕ) → i < length ints → gives.Value (get_or lanes i Null) ≡ returned_outcome (null_at nulls i) 0 (int_at ints i)
returned_without ints nulls lanes long is i within =
    ap gives.Value (ap (λ (vs : List Value). get_or vs i Null) is ∙ lane_at Int nulls ints i (pos 0) long within) ∙ no_code (null_at nulls i) (int_at ints i)

pub small_reports : (op : ArithmeticOperator) (n : ℕ) (left right : List Value) (lc rc ints : List ℤ) (ln rn nulls : Nulls)
    → AreParts Int (pos 0) left lc ln → AreParts Int (pos 0) right rc rn → length left ≡ n → length right ≡ n
    → AreEither (nulls_of n ln) (nulls_of n rn) n nulls
    → AreResults op (length lc) (length lc) (int_at lc) (int_at rc) ints
    → (i : ℕ) → i < n → returned_outcome (null_at (nulls_of n nulls) i) 0 (int_at ints i) ≡ arith_values op (get_or left i Null) (get_or right i Null)
small_reports op n left right lc rc ints ln rn nulls of_left of_right left_long right_long either results i within =
    let k = length lc in
    let inside : i < k = omega (arith, of_left.long, left_long, within) in
    let codes_are : AreLanes 0 k (λ j. arith_code op (int_at lc j) (int_at rc j)) (replicate k 0) =
    record { long = length-replicate k 0; each = λ j below. get_or-replicate k j 0 0 below ∙ sym (results.held j below) } in
    let ints_are : AreLanes (pos 0) k (λ j. arith_int op (int_at lc j) (int_at rc j)) ints = record { long = results.long; each = results.each } in
    ap (λ (code : ℕ). returned_outcome (null_at (nulls_of n nulls) i) code (int_at ints i)) (sym (get_or-replicate k i 0 0 inside))
    ∙ arith_reports op n left right lc rc ints (replicate k 0) ln rn nulls of_left of_right left_long right_long either ints_are codes_are i within

pub no_fault : (s : Positions) (meant lanes : ℕ → Outcome) (held : Held) → ((i : ℕ) → i < s.below → lanes i ≡ meant i) → Evaluates meant (IsWithin s) held held lanes
no_fault s meant lanes held same = record { exact = λ i w before. same i w.0; origin = inl refl }

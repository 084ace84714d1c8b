-- Rows of typed expressions are kept with keys and arguments of their types, and fault by known codes.
use Rattle.std.specs.Prelude.{◌≡◌, ℕ, ◌≤◌, ◌==◌, Bool, true, ◌&&◌, ◌||◌, List, [], ◌∷◌, map, length, Option, Some, None, Result, Ok, Err, MatchResult}
use Rattle.std.specs.List.{list_all}
use Rattle.std.specs.Cmp.Lexicographic.{pointwise}
use Rattle.std.proofs.Common.{refl, arith, length-append}
use Rattle.meaning.specs.declared.value.Value.{Value}
use Rattle.meaning.specs.declared.outcome.Truth.{Truth}
use Rattle.meaning.specs.declared.outcome.Truth.TheVariants.{False, Unknown, True}
use Rattle.meaning.specs.declared.outcome.Fault.{Fault}
use Rattle.meaning.specs.declared.outcome.Fault.TheVariants.{Overflow, DivisionByZero}
use Rattle.meaning.specs.declared.outcome.Outcome.{Outcome}
use Rattle.meaning.specs.declared.outcome.Outcome.TheVariants as gives
use Rattle.meaning.specs.declared.joined_row.JoinedRow.{JoinedRow}
use Rattle.meaning.specs.declared.expr.Expr.{Expr}
use Rattle.meaning.specs.declared.plan.Aggregate.{Aggregate}
use Rattle.meaning.specs.declared.plan.GroupingKey.{GroupingKey}
use Rattle.meaning.specs.declared.plan.Plan.{Plan}
use Rattle.meaning.specs.Order.{Row}
use Rattle.meaning.specs.Operators.{code_of}
use Rattle.meaning.specs.Expr.{eval, with_value, values}
use Rattle.meaning.specs.Cut.{Numbered}
use Rattle.meaning.specs.Joined.{combos}
use Rattle.meaning.specs.Judge.{Judged, behind_condition, behind_conditions, keep, judged, first_fault, pairs, kept_rows}
use Rattle.meaning.specs.Judge as judge
use Rattle.meaning.specs.Typing.{is_of_type, gives_type, is_argument_of, gives_argument, is_typed_at, is_typed_on}
use Rattle.meaning.specs.Fitting.{is_key_of}
use Rattle.meaning.specs.Dimensions.{AreDimensionsOf}
use Rattle.meaning.proofs.Tests.{first_of, second_of, both, all_first, all_rest, all_append}
use Rattle.meaning_laws.proofs.UniqueKeys.{one_combo}

-- overflow and division by zero
abbrev pub is_code : ℕ → Bool
is_code c = (c == 1) || (c == 2)

-- ---- lists of expressions

code_known : (f : Fault) → is_code (code_of f) ≡ true
code_known Overflow = refl
code_known DivisionByZero = refl

module _ {X : Type 0} (expr : X → Expr) (fits_value : X → Value → Bool) (fits_outcome : X → Outcome → Bool)
    (of_value : (x : X) (v : Value) → fits_outcome x (gives.Value v) ≡ true → fits_value x v ≡ true)
    (no_truth : (x : X) (t : Truth) → fits_outcome x (gives.Truth t) ≡ true → ⊥) where
  -- values that fit, or a known fault
  abbrev FitOrFault : List X → Result Row ℕ → Type 0
  FitOrFault xs r = MatchResult r (λ vs. pointwise fits_value xs vs ≡ true) (λ c. is_code c ≡ true)

  step : (x : X) (xs : List X) (o : Outcome) (r : Result Row ℕ) → fits_outcome x o
      ≡ true → FitOrFault xs r → FitOrFault (x ∷ xs) (with_value o r)
  step x xs (gives.Fault f) r here rest = code_known f
  step x xs (gives.Truth t) r here rest = absurd (no_truth x t here)
  step x xs (gives.Value v) (Ok vs) here rest = both _ _ (of_value x v here) rest
  step x xs (gives.Value v) (Err c) here rest = rest

  pub values_fit : (xs : List X) (s : JoinedRow) → list_all (λ x. fits_outcome x (eval (expr x) s)) xs
      ≡ true → FitOrFault xs (values (map expr xs) s)
  values_fit [] s e = refl
  values_fit (x ∷ xs) s e =
      step x xs (eval (expr x) s) (values (map expr xs) s) (all_first (λ x. fits_outcome x (eval (expr x) s)) x xs e)
      (values_fit xs s (all_rest (λ x. fits_outcome x (eval (expr x) s)) x xs e))

module _ (plan : Plan) where
  -- a key row and an argument row of their types
  abbrev pub is_kept : Row × Row → Bool
  is_kept p = is_key_of plan p.0 && pointwise is_argument_of plan.aggs p.1

  -- what becomes of a typed row
  abbrev IsJudged : Judged → Type 0
  IsJudged (judge.kept key args) = is_kept (key, args) ≡ true
  IsJudged judge.dropped = Unit {0}
  IsJudged (judge.fault c) = is_code c ≡ true

  abbrev KeysFit : Result Row ℕ → Type 0
  KeysFit r = MatchResult r (λ vs. is_key_of plan vs ≡ true) (λ c. is_code c ≡ true)

  abbrev ArgumentsFit : Result Row ℕ → Type 0
  ArgumentsFit r = MatchResult r (λ vs. pointwise is_argument_of plan.aggs vs ≡ true) (λ c. is_code c ≡ true)

  keep_judged : (r q : Result Row ℕ) → KeysFit r → ArgumentsFit q → IsJudged (keep r q)
  keep_judged (Err c) q a b = a
  keep_judged (Ok key) (Err c) a b = b
  keep_judged (Ok key) (Ok args) a b = both _ _ a b

  behind_judged : (o : Outcome) (j : Judged) → IsJudged j → IsJudged (behind_condition o j)
  behind_judged (gives.Fault f) j e = code_known f
  behind_judged (gives.Truth True) j e = e
  behind_judged (gives.Truth Unknown) j e = tt
  behind_judged (gives.Truth False) j e = tt
  behind_judged (gives.Value v) j e = tt

  all_behind_judged : (conditions : List Expr) (s : JoinedRow) (j : Judged) → IsJudged j
      → IsJudged (behind_conditions conditions s j)
  all_behind_judged [] s j e = e
  all_behind_judged (c ∷ cs) s j e = behind_judged (eval c s) (behind_conditions cs s j) (all_behind_judged cs s j e)

  judge_judged : (s : JoinedRow) → is_typed_at plan s ≡ true → IsJudged (judge.judge plan s)
  judge_judged s e =
      all_behind_judged plan.conjuncts s _ (keep_judged _ _
      (values_fit (λ (k : GroupingKey). k.expr) (λ k v. is_of_type k.col_type v) (λ k o. gives_type k.col_type o)
      (λ k v h. h) (λ k t h. cc) plan.keys s (first_of _ _ e))
      (values_fit (λ (a : Aggregate). a.argument) is_argument_of gives_argument (λ a v h. h) (λ a t h. cc) plan.aggs s
      (second_of _ _ e)))

  -- the pairs that are kept of some judged rows, of which there are as many at most
  pairs_kept : (s : JoinedRow) (ss : List JoinedRow) (j : Judged) → IsJudged j
      → list_all is_kept (pairs (map (judge.judge plan) ss))
      ≡ true → list_all is_kept (pairs (j ∷ map (judge.judge plan) ss)) ≡ true
  pairs_kept s ss (judge.kept key args) here rest = both _ _ here rest
  pairs_kept s ss judge.dropped here rest = rest
  pairs_kept s ss (judge.fault c) here rest = rest

  scopes_kept : (ss : List JoinedRow) → list_all (is_typed_at plan) ss
      ≡ true → list_all is_kept (pairs (map (judge.judge plan) ss)) ≡ true
  scopes_kept [] e = refl
  scopes_kept (s ∷ ss) e = pairs_kept s ss (judge.judge plan s) (judge_judged s (all_first (is_typed_at plan) s ss e))
      (scopes_kept ss (all_rest (is_typed_at plan) s ss e))

  -- the first fault of some judged rows has a known code
  abbrev pub IsCode : Option ℕ → Type 0
  IsCode None = Unit {0}
  IsCode (Some c) = is_code c ≡ true

  first_known : (ss : List JoinedRow) (j : Judged) → IsJudged j → IsCode (first_fault (map (judge.judge plan) ss))
      → IsCode (first_fault (j ∷ map (judge.judge plan) ss))
  first_known ss (judge.kept key args) here rest = rest
  first_known ss judge.dropped here rest = rest
  first_known ss (judge.fault c) here rest = here

  pub scopes_known : (ss : List JoinedRow) → list_all (is_typed_at plan) ss
      ≡ true → IsCode (first_fault (map (judge.judge plan) ss))
  scopes_known [] e = tt
  scopes_known (s ∷ ss) e = first_known ss (judge.judge plan s) (judge_judged s (all_first (is_typed_at plan) s ss e))
      (scopes_known ss (all_rest (is_typed_at plan) s ss e))

  one_more_pair : (s : JoinedRow) (ss : List JoinedRow) (j : Judged)
      → length (pairs (map (judge.judge plan) ss)) ≤ length ss
      → length (pairs (j ∷ map (judge.judge plan) ss)) ≤ length (s ∷ ss)
  one_more_pair s ss (judge.kept key args) rest = omega arith
  one_more_pair s ss judge.dropped rest = omega arith
  one_more_pair s ss (judge.fault c) rest = omega arith

  few_pairs : (ss : List JoinedRow) → length (pairs (map (judge.judge plan) ss)) ≤ length ss
  few_pairs [] = omega arith
  few_pairs (s ∷ ss) = one_more_pair s ss (judge.judge plan s) (few_pairs ss)

  module _ (dims : List (List Row)) where
    -- the kept rows of typed rows are typed
    pub rows_kept : (rows : Numbered) → is_typed_on plan dims rows ≡ true → list_all is_kept (kept_rows plan dims rows)
        ≡ true
    rows_kept [] e = refl
    rows_kept (r ∷ rows) e =
        all_append is_kept (pairs (judged plan dims r.1)) (kept_rows plan dims rows)
        (scopes_kept (combos plan dims r.1)
        (all_first (λ (r : ℕ × Row). list_all (is_typed_at plan) (combos plan dims r.1)) r rows e))
        (rows_kept rows (all_rest (λ (r : ℕ × Row). list_all (is_typed_at plan) (combos plan dims r.1)) r rows e))

    -- a row is kept once at most
    pub few_kept : (rows : Numbered) → AreDimensionsOf plan dims → length (kept_rows plan dims rows) ≤ length rows
    few_kept [] are = omega arith
    few_kept (r ∷ rows) are =
        let here = few_pairs (combos plan dims r.1) in
        let one = one_combo plan dims r.1 are in
        let rest = few_kept rows are in
        let all = length-append (pairs (judged plan dims r.1)) (kept_rows plan dims rows) in
        omega arith

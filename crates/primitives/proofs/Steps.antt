-- Nodes of two operands.
use Rattle.std.specs.Prelude.{◌≡◌, ◌≢◌, ℕ, ◌<◌, Bool, true, false}
use Rattle.std.proofs.Common.{refl, inl}
use Rattle.meaning.specs.declared.value.ColType.{ColType}
use Rattle.meaning.specs.declared.outcome.Truth.TheVariants.{True, False, Unknown}
use Rattle.meaning.specs.declared.outcome.Fault.{Fault}
use Rattle.meaning.specs.declared.outcome.Outcome.{Outcome}
use Rattle.meaning.specs.declared.outcome.Outcome.TheVariants as gives
use Rattle.meaning.specs.declared.expr.ArithmeticOperator.{ArithmeticOperator}
use Rattle.meaning.specs.declared.expr.ComparisonOperator.{ComparisonOperator}
use Rattle.meaning.specs.Operators.{arith_of, compare_of, and_of, or_of}
use Rattle.meaning.specs.Typing.{Valued}
use Rattle.vectors.specs.Selection.{Positions}
use Rattle.vector_operators.specs.declared.given.Given.{Given}
use Rattle.vector_operators.specs.declared.given.Given.TheVariants as given
use Rattle.meaning.specs.declared.value.ColType.TheVariants as of_type
use Rattle.vector_operators.specs.Evaluated.{Held, IsWithin, Evaluates}
use Rattle.vector_operators.specs.Given.{are_alike, given_at, is_not_false, is_not_true, is_of_kind}
use Rattle.primitives.specs.Nodes.{IsExact, IsNoLater, IsWhere}
use Rattle.vector_operators.proofs.Composes.{Node, composes, reselected, pointwise, before_old, lane_is}

abbrev pub always : Outcome → Bool
always o = true

arith_strict : (op : ArithmeticOperator) (a : Outcome) (e : Fault) → ((f : Fault) → a ≢ gives.Fault f) → arith_of op a (gives.Fault e) ≡ gives.Fault e
arith_strict op (gives.Fault f) e never = absurd (never f refl)
arith_strict op (gives.Value v) e never = refl
arith_strict op (gives.Truth t) e never = refl

pub arith_node : (op : ArithmeticOperator) → Node (arith_of op) always
arith_node op = record { left_fault = λ e b. refl; right_fault = λ a e never h. arith_strict op a e never; unneeded = λ a b c h. absurd cc }

compare_strict : (op : ComparisonOperator) (a : Outcome) (e : Fault) → ((f : Fault) → a ≢ gives.Fault f) → compare_of op a (gives.Fault e) ≡ gives.Fault e
compare_strict op (gives.Fault f) e never = absurd (never f refl)
compare_strict op (gives.Value v) e never = refl
compare_strict op (gives.Truth t) e never = refl

pub compare_node : (op : ComparisonOperator) → Node (compare_of op) always
compare_node op = record { left_fault = λ e b. refl; right_fault = λ a e never h. compare_strict op a e never; unneeded = λ a b c h. absurd cc }

and_strict : (a : Outcome) (e : Fault) → ((f : Fault) → a ≢ gives.Fault f) → is_not_false a ≡ true → and_of a (gives.Fault e) ≡ gives.Fault e
and_strict (gives.Fault f) e never h = absurd (never f refl)
and_strict (gives.Value v) e never h = refl
and_strict (gives.Truth True) e never h = refl
and_strict (gives.Truth Unknown) e never h = refl
and_strict (gives.Truth False) e never h = absurd cc

and_unneeded : (a b c : Outcome) → is_not_false a ≡ false → and_of a b ≡ and_of a c
and_unneeded (gives.Fault f) b c h = refl
and_unneeded (gives.Value v) b c h = absurd cc
and_unneeded (gives.Truth True) b c h = absurd cc
and_unneeded (gives.Truth Unknown) b c h = absurd cc
and_unneeded (gives.Truth False) b c h = refl

pub and_node : Node and_of is_not_false
and_node = record { left_fault = λ e b. refl; right_fault = and_strict; unneeded = and_unneeded }

or_strict : (a : Outcome) (e : Fault) → ((f : Fault) → a ≢ gives.Fault f) → is_not_true a ≡ true → or_of a (gives.Fault e) ≡ gives.Fault e
or_strict (gives.Fault f) e never h = absurd (never f refl)
or_strict (gives.Value v) e never h = refl
or_strict (gives.Truth False) e never h = refl
or_strict (gives.Truth Unknown) e never h = refl
or_strict (gives.Truth True) e never h = absurd cc

or_unneeded : (a b c : Outcome) → is_not_true a ≡ false → or_of a b ≡ or_of a c
or_unneeded (gives.Fault f) b c h = refl
or_unneeded (gives.Value v) b c h = absurd cc
or_unneeded (gives.Truth False) b c h = absurd cc
or_unneeded (gives.Truth Unknown) b c h = absurd cc
or_unneeded (gives.Truth True) b c h = refl

pub or_node : Node or_of is_not_true
or_node = record { left_fault = λ e b. refl; right_fault = or_strict; unneeded = or_unneeded }

-- both operands are evaluated on each lane
pub both : (g : Outcome → Outcome → Outcome) → Node g always → (a b : ℕ → Outcome) (S : ℕ → Type 0) (h h1 h2 h3 : Held) (left right : Given) (out : ℕ → Outcome)
    → Evaluates a S h h1 (given_at left) → Evaluates b S h1 h2 (given_at right) → Evaluates (λ i. g (given_at left i) (given_at right i)) S h2 h3 out
    → Evaluates (λ i. g (a i) (b i)) S h h3 out
both g node a b S h h1 h2 h3 left right out on_left on_right loop =
    composes g always node a b S h h1 h2 h3 (given_at left) (given_at right) out (lane_is left) on_left
    (reselected b S (λ i. S i × (always (given_at left i) ≡ true)) h1 h2 (given_at right) (λ i s. (s, refl)) (λ i s. s.0) on_right) loop

-- the right one on the lanes that the left one leaves
pub narrowed_both : (g : Outcome → Outcome → Outcome) (needs : Outcome → Bool) → Node g needs → (a b : ℕ → Outcome) (s : Positions) (h h1 h2 : Held) (left right out : Given)
    → Evaluates a (IsWithin s) h h1 (given_at left) → Evaluates b (IsWhere (λ i. needs (given_at left i)) s) h1 h2 (given_at right)
    → ((i : ℕ) → i < s.below → given_at out i ≡ g (given_at left i) (given_at right i))
    → Evaluates (λ i. g (a i) (b i)) (IsWithin s) h h2 (given_at out)
narrowed_both g needs node a b s h h1 h2 left right out on_left on_right loop =
    composes g needs node a b (IsWithin s) h h1 h2 h2 (given_at left) (given_at right) (given_at out) (lane_is left) on_left on_right
    (pointwise (λ i. g (given_at left i) (given_at right i)) (IsWithin s) h2 (given_at out) (λ i w. loop i w.0))

-- an operand that was evaluated before, and one behind it
pub beside : (g : Outcome → Outcome → Outcome) → Node g always → (x b : ℕ → Outcome) (s : Positions) (test : ℕ → Bool) (h h1 : Held) (left right out : Given)
    → IsExact x (IsWithin s) h (given_at left) → Evaluates b (IsWhere test s) h h1 (given_at right)
    → ((i : ℕ) → i < s.below → given_at out i ≡ g (given_at left i) (given_at right i))
    → Evaluates (λ i. g (x i) (b i)) (IsWhere test s) h h1 (given_at out)
beside g node x b s test h h1 left right out exact on_right loop =
    both g node x b (IsWhere test s) h h h1 h1 left right (given_at out)
    (record { exact = λ i w before. exact i w.0 before; origin = inl refl }) on_right
    (pointwise (λ i. g (given_at left i) (given_at right i)) (IsWhere test s) h1 (given_at out) (λ i w. loop i w.0.0))

pub given_no_later : (m : ℕ → Outcome) (S : ℕ → Type 0) (h n : Held) (v : ℕ → Outcome) → Evaluates m S h n v → IsNoLater h n
given_no_later m S h n v ev = before_old m S h n ev.origin

-- values of one type stand beside one another
pub are_alike_kinds : (kind : ColType) (a b : Given) → is_of_kind (Valued kind) a ≡ true → is_of_kind (Valued kind) b ≡ true → are_alike a b ≡ true
are_alike_kinds kind given.Null b of_a of_b = refl
are_alike_kinds kind (given.Truths l) b of_a of_b = refl
are_alike_kinds kind (given.Ints l) given.Null of_a of_b = refl
are_alike_kinds kind (given.Ints l) (given.Ints r) of_a of_b = refl
are_alike_kinds kind (given.Ints l) (given.Truths r) of_a of_b = refl
are_alike_kinds of_type.Int (given.Ints l) (given.Texts r) of_a of_b = absurd cc
are_alike_kinds of_type.Text (given.Ints l) (given.Texts r) of_a of_b = absurd cc
are_alike_kinds kind (given.Texts l) given.Null of_a of_b = refl
are_alike_kinds kind (given.Texts l) (given.Texts r) of_a of_b = refl
are_alike_kinds kind (given.Texts l) (given.Truths r) of_a of_b = refl
are_alike_kinds of_type.Int (given.Texts l) (given.Ints r) of_a of_b = absurd cc
are_alike_kinds of_type.Text (given.Texts l) (given.Ints r) of_a of_b = absurd cc

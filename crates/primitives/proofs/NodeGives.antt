-- What a function of the recursion gives, from what its calls give.
use Rattle.std.specs.Prelude.{◌≡◌, ℕ, ◌<◌, true, false, Bool, List, [], ◌∷◌, map, length, All, get_or, Result, Ok, Err, IfOk}
use Rattle.std.proofs.Common.{refl, sym, ◌∙◌, ap, subst, arith}
use Rattle.meaning.specs.declared.value.Value.{Value}
use Rattle.meaning.specs.declared.value.Value.TheVariants.{Null, Int, Text}
use Rattle.meaning.specs.declared.value.ColType.{ColType}
use Rattle.meaning.specs.declared.value.ColType.TheVariants as of_type
use Rattle.meaning.specs.declared.outcome.Fault.{Fault}
use Rattle.meaning.specs.declared.outcome.Outcome.{Outcome}
use Rattle.meaning.specs.declared.outcome.Outcome.TheVariants as gives
use Rattle.meaning.specs.declared.expr.ArithmeticOperator.{ArithmeticOperator}
use Rattle.meaning.specs.declared.expr.ComparisonOperator.{ComparisonOperator}
use Rattle.meaning.specs.declared.expr.Expr.{Expr}
use Rattle.meaning.specs.declared.expr.Arm.{Arm}
use Rattle.meaning.specs.declared.joined_row.JoinedRow.{JoinedRow}
use Rattle.meaning.specs.Expr.{arms_at, eval_arm}
use Rattle.meaning.specs.Operators.{arith_of, case_of, cases_of, coalesce_of, compare_of}
use Rattle.meaning.specs.Typing.{ExprType, Valued, Boolean, RowTypes}
use Rattle.vectors.specs.Selection.{Positions, without}
use Rattle.vectors.specs.Vector.{BatchSpec}
use Rattle.vector_operators.specs.declared.given.Given.{Given}
use Rattle.vector_operators.specs.declared.given.Given.TheVariants as given
use Rattle.primitives.specs.declared.nodes.Cases.{Cases}
use Rattle.primitives.specs.declared.nodes.Taken.{Taken}
use Rattle.vector_operators.specs.Evaluated.{Evaluates, Held, IsWithin}
use Rattle.primitives.specs.Meant.{meant_at, row_at}
use Rattle.primitives.specs.Fitting.{AreTypedRows, Fits}
use Rattle.vector_operators.specs.Given.{AreNarrowed, are_alike, given_at, is_null_lane, is_of_kind, is_true_lane, ArePut}
use Rattle.primitives.specs.Nodes.{Decides, ExprGives, FitsArm, Gives, IsExact, IsNoLater, IsTaken, IsWhere, Passes}
use Rattle.primitives.proofs.Arms.{decides_more, decides_rest, decides_start, passes_where, put_inside, put_outside}
use Rattle.vector_operators.proofs.Composes.{Node, pointwise, reselected}
use Rattle.primitives.proofs.Steps.{are_alike_kinds, arith_node, beside, both, compare_node, given_no_later, narrowed_both}

-- ---- two operands

pub arithmetic_gives : {E : Type 0} (op : ArithmeticOperator) (batch : BatchSpec) (e : Expr) (s : Positions) (h1 h2 h3 : Held) (left right : Given) (r : Result Given E)
    → ExprGives batch e (IsWithin s) h1 h2 right
    → (is_of_kind (Valued of_type.Int) left ≡ true → is_of_kind (Valued of_type.Int) right ≡ true
    → IfOk r (λ g. Evaluates (λ i. arith_of op (given_at left i) (given_at right i)) (IsWithin s) h2 h3 (given_at g)))
    → IfOk r (λ g. is_of_kind (Valued of_type.Int) g ≡ true)
    → IfOk r (λ g. (types : RowTypes) (rows : List JoinedRow) (a : ℕ → Outcome) (held : Held)
    → AreTypedRows types batch rows → Fits types batch.columns e (Valued of_type.Int)
    → is_of_kind (Valued of_type.Int) left ≡ true
    → Evaluates a (IsWithin s) held h1 (given_at left)
    → Gives (Valued of_type.Int) (λ i. arith_of op (a i) (meant_at e rows i)) (IsWithin s) held h3 g)
arithmetic_gives op batch e s h1 h2 h3 left right (Err x) on_right exact kind = tt
arithmetic_gives op batch e s h1 h2 h3 left right (Ok g) on_right exact kind = λ types rows a held typed fits of_left on_left.
    (let there = on_right types (Valued of_type.Int) rows typed fits in
    record {
      evaluates = both (arith_of op) (arith_node op) a (meant_at e rows) (IsWithin s) held h1 h2 h3 left right (given_at g) on_left there.evaluates (exact of_left there.kind);
      kind = kind;
    })

pub compare_gives : {E : Type 0} (op : ComparisonOperator) (batch : BatchSpec) (e : Expr) (s : Positions) (h1 h2 : Held) (left right : Given) (n : ℕ) (r : Result Given E)
    → s.below ≡ n → ExprGives batch e (IsWithin s) h1 h2 right
    → (are_alike left right ≡ true → IfOk r (λ g. (i : ℕ) → i < n → given_at g i ≡ compare_of op (given_at left i) (given_at right i)))
    → IfOk r (λ g. is_of_kind Boolean g ≡ true)
    → IfOk r (λ g. (types : RowTypes) (rows : List JoinedRow) (kind : ColType) (a : ℕ → Outcome) (held : Held)
    → AreTypedRows types batch rows → Fits types batch.columns e (Valued kind)
    → is_of_kind (Valued kind) left ≡ true
    → Evaluates a (IsWithin s) held h1 (given_at left)
    → Gives Boolean (λ i. compare_of op (a i) (meant_at e rows i)) (IsWithin s) held h2 g × IsNoLater h1 h2)
compare_gives op batch e s h1 h2 left right n (Err x) long on_right value kind = tt
compare_gives op batch e s h1 h2 left right n (Ok g) long on_right value kind = λ types rows k a held typed fits of_left on_left.
    (let there = on_right types (Valued k) rows typed fits in
    let is = value (are_alike_kinds k left right of_left there.kind) in (
      record {
        evaluates = both (compare_of op) (compare_node op) a (meant_at e rows) (IsWithin s) held h1 h2 h2 left right (given_at g) on_left there.evaluates
            (pointwise (λ i. compare_of op (given_at left i) (given_at right i)) (IsWithin s) h2 (given_at g) (λ i w. is i (subst (λ (k : ℕ). i < k) long w.0)));
        kind = kind;
      },
      given_no_later (meant_at e rows) (IsWithin s) h1 h2 (given_at right) there.evaluates,
    ))

-- ---- fewer lanes

pub narrowed_gives : {E : Type 0} (batch : BatchSpec) (e : Expr) (s narrowed : Positions) (test : ℕ → Bool) (h h2 : Held) (r : Result Given E)
    → AreNarrowed test s narrowed → IfOk r (ExprGives batch e (IsWithin narrowed) h h2)
    → IfOk r (ExprGives batch e (IsWhere test s) h h2)
narrowed_gives batch e s narrowed test h h2 (Err x) are on = tt
narrowed_gives batch e s narrowed test h h2 (Ok g) are on = λ types type rows typed fits.
    (let there = on types type rows typed fits in
    record {
      evaluates = reselected (meant_at e rows) (IsWithin narrowed) (IsWhere test s) h h2 (given_at g) (λ i w. are.stood i w) (λ i w. are.stays i w.0 w.1) there.evaluates;
      kind = there.kind;
    })

-- AND and OR
pub operator_gives : {E : Type 0} (f : Outcome → Outcome → Outcome) (needs : Outcome → Bool) → Node f needs
    → (batch : BatchSpec) (e : Expr) (s : Positions) (h1 h2 : Held) (left right : Given) (n : ℕ) (r : Result Given E)
    → s.below ≡ n → ExprGives batch e (IsWhere (λ i. needs (given_at left i)) s) h1 h2 right
    → IfOk r (λ g. (i : ℕ) → i < n → given_at g i ≡ f (given_at left i) (given_at right i))
    → IfOk r (λ g. is_of_kind Boolean g ≡ true)
    → IfOk r (λ g. (types : RowTypes) (rows : List JoinedRow) (a : ℕ → Outcome) (held : Held)
    → AreTypedRows types batch rows → Fits types batch.columns e Boolean
    → Evaluates a (IsWithin s) held h1 (given_at left)
    → Gives Boolean (λ i. f (a i) (meant_at e rows i)) (IsWithin s) held h2 g)
operator_gives f needs node batch e s h1 h2 left right n (Err x) long on_right value kind = tt
operator_gives f needs node batch e s h1 h2 left right n (Ok g) long on_right value kind = λ types rows a held typed fits on_left.
    (let there = on_right types Boolean rows typed fits in
    record {
      evaluates = narrowed_both f needs node a (meant_at e rows) s held h1 h2 left right g on_left there.evaluates (λ i w. value i (subst (λ (k : ℕ). i < k) long w));
      kind = kind;
    })

-- ---- a subject that was evaluated before

abbrev pub TestGives : ComparisonOperator → BatchSpec → Expr → Positions → (ℕ → Bool) → Held → Held → Given → Given → Type 0
TestGives op batch e s test h1 h2 subject g = (types : RowTypes) (rows : List JoinedRow) (kind : ColType) (x : ℕ → Outcome)
    → AreTypedRows types batch rows → Fits types batch.columns e (Valued kind)
    → is_of_kind (Valued kind) subject ≡ true
    → IsExact x (IsWithin s) h1 (given_at subject)
    → Gives Boolean (λ i. compare_of op (x i) (meant_at e rows i)) (IsWhere test s) h1 h2 g

pub test_gives : {E : Type 0} (op : ComparisonOperator) (batch : BatchSpec) (e : Expr) (s : Positions) (test : ℕ → Bool) (h1 h2 : Held) (subject right : Given) (n : ℕ) (r : Result Given E)
    → s.below ≡ n → ExprGives batch e (IsWhere test s) h1 h2 right
    → (are_alike subject right ≡ true → IfOk r (λ g. (i : ℕ) → i < n → given_at g i ≡ compare_of op (given_at subject i) (given_at right i)))
    → IfOk r (λ g. is_of_kind Boolean g ≡ true)
    → IfOk r (TestGives op batch e s test h1 h2 subject)
test_gives op batch e s test h1 h2 subject right n (Err x) long on_right value kind = tt
test_gives op batch e s test h1 h2 subject right n (Ok g) long on_right value kind = λ types rows k x typed fits of_subject exact.
    (let there = on_right types (Valued k) rows typed fits in
    let is = value (are_alike_kinds k subject right of_subject there.kind) in
    record {
      evaluates = beside (compare_of op) (compare_node op) x (meant_at e rows) s test h1 h2 subject right g exact there.evaluates (λ i w. is i (subst (λ (k : ℕ). i < k) long w));
      kind = kind;
    })

-- the second test of BETWEEN, one more of IN
pub second_gives : {E : Type 0} (f : Outcome → Outcome → Outcome) (needs : Outcome → Bool) → Node f needs
    → (op : ComparisonOperator) (batch : BatchSpec) (e : Expr) (s : Positions) (h1 h2 : Held) (subject left right : Given) (n : ℕ) (r : Result Given E)
    → s.below ≡ n → TestGives op batch e s (λ i. needs (given_at left i)) h1 h2 subject right
    → IfOk r (λ g. (i : ℕ) → i < n → given_at g i ≡ f (given_at left i) (given_at right i))
    → IfOk r (λ g. is_of_kind Boolean g ≡ true)
    → IfOk r (λ g. (types : RowTypes) (rows : List JoinedRow) (kind : ColType) (x a : ℕ → Outcome) (held : Held)
    → AreTypedRows types batch rows → Fits types batch.columns e (Valued kind)
    → is_of_kind (Valued kind) subject ≡ true
    → IsExact x (IsWithin s) h1 (given_at subject)
    → Evaluates a (IsWithin s) held h1 (given_at left)
    → Gives Boolean (λ i. f (a i) (compare_of op (x i) (meant_at e rows i))) (IsWithin s) held h2 g × IsNoLater h1 h2)
second_gives f needs node op batch e s h1 h2 subject left right n (Err x) long on_right value kind = tt
second_gives f needs node op batch e s h1 h2 subject left right n (Ok g) long on_right value kind = λ types rows k x a held typed fits of_subject exact on_left.
    (let there = on_right types rows k x typed fits of_subject exact in
    let meant : ℕ → Outcome = λ i. compare_of op (x i) (meant_at e rows i) in (
      record {
        evaluates = narrowed_both f needs node a meant s held h1 h2 left right g on_left there.evaluates (λ i w. value i (subst (λ (k : ℕ). i < k) long w));
        kind = kind;
      },
      given_no_later meant (IsWhere (λ i. needs (given_at left i)) s) h1 h2 (given_at right) there.evaluates,
    ))

abbrev pub HighGives : (Outcome → Outcome → Outcome) → ComparisonOperator → BatchSpec → Expr → Positions → Held → Held → Given → Given → Given → Type 0
HighGives f op batch e s h1 h2 subject left g = (types : RowTypes) (rows : List JoinedRow) (kind : ColType) (x a : ℕ → Outcome) (held : Held)
    → AreTypedRows types batch rows → Fits types batch.columns e (Valued kind)
    → is_of_kind (Valued kind) subject ≡ true
    → IsExact x (IsWithin s) h1 (given_at subject)
    → Evaluates a (IsWithin s) held h1 (given_at left)
    → Gives Boolean (λ i. f (a i) (compare_of op (x i) (meant_at e rows i))) (IsWithin s) held h2 g

pub second_alone : {E : Type 0} (f : Outcome → Outcome → Outcome) (op : ComparisonOperator) (batch : BatchSpec) (e : Expr) (s : Positions) (h1 h2 : Held) (subject left : Given) (r : Result Given E)
    → IfOk r (λ g. (types : RowTypes) (rows : List JoinedRow) (kind : ColType) (x a : ℕ → Outcome) (held : Held)
    → AreTypedRows types batch rows → Fits types batch.columns e (Valued kind)
    → is_of_kind (Valued kind) subject ≡ true
    → IsExact x (IsWithin s) h1 (given_at subject)
    → Evaluates a (IsWithin s) held h1 (given_at left)
    → Gives Boolean (λ i. f (a i) (compare_of op (x i) (meant_at e rows i))) (IsWithin s) held h2 g × IsNoLater h1 h2)
    → IfOk r (HighGives f op batch e s h1 h2 subject left)
second_alone f op batch e s h1 h2 subject left (Err x) on = tt
second_alone f op batch e s h1 h2 subject left (Ok g) on = λ types rows k x a held typed fits of_subject exact on_left. (on types rows k x a held typed fits of_subject exact on_left).0

-- behind a first test that memory may have refused
pub behind_gives : {E F : Type 0} (f : Outcome → Outcome → Outcome) (op : ComparisonOperator) (batch : BatchSpec) (e : Expr) (s : Positions) (h1 h2 : Held) (subject left : Given) (entry : Result Given F) (r : Result Given E)
    → entry ≡ Ok left → IfOk r (HighGives f op batch e s h1 h2 subject left)
    → IfOk r (λ g. (types : RowTypes) (rows : List JoinedRow) (kind : ColType) (x a : ℕ → Outcome) (held : Held)
    → AreTypedRows types batch rows → Fits types batch.columns e (Valued kind)
    → is_of_kind (Valued kind) subject ≡ true
    → IfOk entry (λ b. IsExact x (IsWithin s) h1 (given_at subject) × Evaluates a (IsWithin s) held h1 (given_at b))
    → Gives Boolean (λ i. f (a i) (compare_of op (x i) (meant_at e rows i))) (IsWithin s) held h2 g)
behind_gives f op batch e s h1 h2 subject left entry (Err x) is on = tt
behind_gives f op batch e s h1 h2 subject left entry (Ok g) is on = λ types rows k x a held typed fits of_subject before.
    (let w = subst (λ r. IfOk r (λ b. IsExact x (IsWithin s) h1 (given_at subject) × Evaluates a (IsWithin s) held h1 (given_at b))) is before in
    on types rows k x a held typed fits of_subject w.0 w.1)

-- ---- COALESCE

abbrev is_null_value : Outcome → Bool
is_null_value (gives.Value Null) = true
is_null_value (gives.Value (Int n)) = false
is_null_value (gives.Value (Text t)) = false
is_null_value (gives.Truth t) = false
is_null_value (gives.Fault e) = false

coalesce_strict : (a : Outcome) (e : Fault) → is_null_value a ≡ true → coalesce_of a (gives.Fault e) ≡ gives.Fault e
coalesce_strict (gives.Value Null) e h = refl
coalesce_strict (gives.Value (Int n)) e h = absurd cc
coalesce_strict (gives.Value (Text t)) e h = absurd cc
coalesce_strict (gives.Truth t) e h = absurd cc
coalesce_strict (gives.Fault f) e h = absurd cc

coalesce_unneeded : (a b c : Outcome) → is_null_value a ≡ false → coalesce_of a b ≡ coalesce_of a c
coalesce_unneeded (gives.Value Null) b c h = absurd cc
coalesce_unneeded (gives.Value (Int n)) b c h = refl
coalesce_unneeded (gives.Value (Text t)) b c h = refl
coalesce_unneeded (gives.Truth t) b c h = refl
coalesce_unneeded (gives.Fault f) b c h = refl

coalesce_node : Node coalesce_of is_null_value
coalesce_node = record { left_fault = λ e b. refl; right_fault = λ a e never h. coalesce_strict a e h; unneeded = coalesce_unneeded }

null_value : (v : Value) → is_null_lane (gives.Value v) ≡ is_null_value (gives.Value v)
null_value Null = refl
null_value (Int n) = refl
null_value (Text t) = refl

-- lanes of values are NULL or not
null_lane : (kind : ColType) (g : Given) (i : ℕ) → is_of_kind (Valued kind) g ≡ true → is_null_lane (given_at g i) ≡ is_null_value (given_at g i)
null_lane kind given.Null i h = refl
null_lane kind (given.Ints l) i h = null_value (get_or l i Null)
null_lane kind (given.Texts l) i h = null_value (get_or l i Null)
null_lane kind (given.Truths l) i h = absurd cc

pub coalesce_gives : {E : Type 0} (batch : BatchSpec) (e : Expr) (s : Positions) (h1 h2 : Held) (left right : Given) (n : ℕ) (r : Result Given E)
    → s.below ≡ n → ExprGives batch e (IsWhere (λ i. is_null_lane (given_at left i)) s) h1 h2 right
    → ((kind : ColType) → is_of_kind (Valued kind) left ≡ true → is_of_kind (Valued kind) right ≡ true
    → IfOk r (λ g. (i : ℕ) → i < n → given_at g i ≡ coalesce_of (given_at left i) (given_at right i)))
    → ((kind : ColType) → is_of_kind (Valued kind) left ≡ true → is_of_kind (Valued kind) right ≡ true → IfOk r (λ g. is_of_kind (Valued kind) g ≡ true))
    → IfOk r (λ g. (types : RowTypes) (rows : List JoinedRow) (kind : ColType) (a : ℕ → Outcome) (held : Held)
    → AreTypedRows types batch rows → Fits types batch.columns e (Valued kind)
    → is_of_kind (Valued kind) left ≡ true
    → Evaluates a (IsWithin s) held h1 (given_at left)
    → Gives (Valued kind) (λ i. coalesce_of (a i) (meant_at e rows i)) (IsWithin s) held h2 g)
coalesce_gives batch e s h1 h2 left right n (Err x) long on_right value kind = tt
coalesce_gives batch e s h1 h2 left right n (Ok g) long on_right value kind = λ types rows k a held typed fits of_left on_left.
    (let there = on_right types (Valued k) rows typed fits in
    let is = value k of_left there.kind in
    record {
      evaluates = narrowed_both coalesce_of is_null_value coalesce_node a (meant_at e rows) s held h1 h2 left right g on_left
          (reselected (meant_at e rows) (IsWhere (λ i. is_null_lane (given_at left i)) s) (IsWhere (λ i. is_null_value (given_at left i)) s) h1 h2 (given_at right)
          (λ i w. (w.0, sym (null_lane k left i of_left) ∙ w.1)) (λ i w. (w.0, null_lane k left i of_left ∙ w.1)) there.evaluates)
          (λ i w. is i (subst (λ (k : ℕ). i < k) long w));
      kind = kind k of_left there.kind;
    })

-- ---- CASE

pub when_passes : {E : Type 0} (batch : BatchSpec) (e : Expr) (left : Positions) (h n : Held) (w : Given) (r : Result Positions E)
    → ExprGives batch e (IsWithin left) h n w → IfOk r (AreNarrowed (λ i. is_true_lane (given_at w i)) left)
    → IfOk r (λ lanes. (types : RowTypes) (rows : List JoinedRow) → AreTypedRows types batch rows → Fits types batch.columns e Boolean
    → Passes (meant_at e rows) left lanes h n)
when_passes batch e left h n w (Err x) on are = tt
when_passes batch e left h n w (Ok lanes) on are = λ types rows typed fits. passes_where (meant_at e rows) left lanes h n w (on types Boolean rows typed fits).evaluates are

pub rest_gives : {E : Type 0} (batch : BatchSpec) (e : Expr) (left : Positions) (h h2 : Held) (g o : Given) (r : Result Given E)
    → ExprGives batch e (IsWithin left) h h2 o
    → ((kind : ColType) → is_of_kind (Valued kind) g ≡ true → is_of_kind (Valued kind) o ≡ true → IfOk r (ArePut left o g))
    → ((kind : ColType) → is_of_kind (Valued kind) g ≡ true → is_of_kind (Valued kind) o ≡ true → IfOk r (λ out. is_of_kind (Valued kind) out ≡ true))
    → IfOk r (λ out. (types : RowTypes) (rows : List JoinedRow) (kind : ColType) (meant : ℕ → Outcome) (s : Positions) (held : Held)
    → AreTypedRows types batch rows → Fits types batch.columns e (Valued kind)
    → Decides kind meant (meant_at e rows) (IsWithin s) left held h g
    → Gives (Valued kind) meant (IsWithin s) held h2 out)
rest_gives batch e left h h2 g o (Err x) on put kind = tt
rest_gives batch e left h h2 g o (Ok out) on put kind = λ types rows k meant s held typed fits so_far.
    (let there = on types (Valued k) rows typed fits in
    decides_rest k meant (meant_at e rows) s left held h h2 g o out so_far there (put k so_far.kind_is there.kind) (kind k so_far.kind_is there.kind))

pub arm_gives : {E : Type 0} (batch : BatchSpec) (arm : Arm) (cases : Cases) (taken : Taken) (h h2 : Held) (r : Result Cases E)
    → ((types : RowTypes) (rows : List JoinedRow) (kind : ColType) → AreTypedRows types batch rows → FitsArm types batch.columns kind arm
    → IsTaken kind (meant_at arm.when rows) (meant_at arm.then rows) cases.left taken.lanes h h2 taken.then)
    → taken.lanes.below ≡ cases.left.below
    → IfOk r (λ c. c.left ≡ record { below = cases.left.below; list = without cases.left.list taken.lanes.list })
    → ((kind : ColType) → is_of_kind (Valued kind) cases.given ≡ true → is_of_kind (Valued kind) taken.then ≡ true → IfOk r (λ c. ArePut taken.lanes taken.then cases.given c.given))
    → ((kind : ColType) → is_of_kind (Valued kind) cases.given ≡ true → is_of_kind (Valued kind) taken.then ≡ true → IfOk r (λ c. is_of_kind (Valued kind) c.given ≡ true))
    → IfOk r (λ c. (types : RowTypes) (rows : List JoinedRow) (kind : ColType) (meant rest : ℕ → Outcome) (s : Positions) (held : Held)
    → AreTypedRows types batch rows → FitsArm types batch.columns kind arm
    → Decides kind meant (λ i. case_of (meant_at arm.when rows i) (meant_at arm.then rows i) (rest i)) (IsWithin s) cases.left held h cases.given
    → Decides kind meant rest (IsWithin s) c.left held h2 c.given)
arm_gives batch arm cases taken h h2 (Err x) on same left put kind = tt
arm_gives batch arm cases taken h h2 (Ok c) on same left put kind = λ types rows k meant rest s held typed fits so_far.
    (let there = on types rows k typed fits in
    subst (λ (l : Positions). Decides k meant rest (IsWithin s) l held h2 c.given) (sym left)
    (decides_more k meant (meant_at arm.when rows) (meant_at arm.then rows) rest s cases.left taken.lanes held h h2 cases.given taken.then c.given so_far there same
    (λ i w. put_inside taken.lanes taken.then cases.given c.given (put k so_far.kind_is there.gives.kind) i w.0 w.1)
    (λ i w out apart. put_outside taken.lanes taken.then cases.given c.given (put k so_far.kind_is there.gives.kind) i (subst (λ (m : ℕ). i < m) (sym same) (so_far.below i w)) apart)
    (kind k so_far.kind_is there.gives.kind)))

pub first_gives : {E : Type 0} (batch : BatchSpec) (arm : Arm) (s : Positions) (taken : Taken) (h h2 : Held) (r : Result Cases E)
    → ((types : RowTypes) (rows : List JoinedRow) (kind : ColType) → AreTypedRows types batch rows → FitsArm types batch.columns kind arm
    → IsTaken kind (meant_at arm.when rows) (meant_at arm.then rows) s taken.lanes h h2 taken.then)
    → taken.lanes.below ≡ s.below
    → IfOk r (λ c. c.given ≡ taken.then)
    → IfOk r (λ c. c.left ≡ record { below = s.below; list = without s.list taken.lanes.list })
    → IfOk r (λ c. (types : RowTypes) (rows : List JoinedRow) (kind : ColType) (rest : ℕ → Outcome)
    → AreTypedRows types batch rows → FitsArm types batch.columns kind arm
    → Decides kind (λ i. case_of (meant_at arm.when rows i) (meant_at arm.then rows i) (rest i)) rest (IsWithin s) c.left h h2 c.given)
first_gives batch arm s taken h h2 (Err x) on same given left = tt
first_gives batch arm s taken h h2 (Ok c) on same is left = λ types rows k rest typed fits.
    (let there = on types rows k typed fits in
    let meant : ℕ → Outcome = λ i. case_of (meant_at arm.when rows i) (meant_at arm.then rows i) (rest i) in
    subst (λ (l : Positions). Decides k meant rest (IsWithin s) l h h2 c.given) (sym left)
    (decides_more k meant (meant_at arm.when rows) (meant_at arm.then rows) rest s s taken.lanes h h h2 given.Null taken.then c.given (decides_start k meant s h) there same
    (λ i w. ap (λ (g : Given). given_at g i) is)
    (λ i w out apart. absurd (let among = w.1 in cc))
    (subst (λ (g : Given). is_of_kind (Valued k) g ≡ true) (sym is) there.gives.kind)))

-- where there is no arm, all is left to the rest
pub none_gives : {E : Type 0} (batch : BatchSpec) (arms : List Arm) (s : Positions) (h : Held) (r : Result Cases E) → length arms ≡ 0
    → IfOk r (λ c. c.given ≡ given.Null) → IfOk r (λ c. c.left ≡ s)
    → IfOk r (λ c. (types : RowTypes) (rows : List JoinedRow) (kind : ColType) (rest : ℕ → Outcome)
    → AreTypedRows types batch rows → All (FitsArm types batch.columns kind) arms
    → Decides kind (λ i. cases_of (arms_at (row_at rows i) (map eval_arm arms)) (rest i)) rest (IsWithin s) c.left h h c.given)
none_gives batch arms s h (Err x) none is left = tt
none_gives batch [] s h (Ok c) none is left = λ types rows k rest typed fits.
    subst (λ (g : Given). Decides k rest rest (IsWithin s) c.left h h g) (sym is)
    (subst (λ (l : Positions). Decides k rest rest (IsWithin s) l h h given.Null) (sym left) (decides_start k rest s h))
none_gives batch (a ∷ more) s h (Ok c) none is left = absurd (omega (arith, none))

-- What a node gives, from what its parts give.
use Rattle.std.specs.Prelude.{◌≡◌, ℕ, zero, suc, ◌<◌, true, false, Bool, List, [], ◌∷◌, map, length, get_or, find, All, option_map, Result, Ok, Err, IfOk}
use Rattle.std.specs.List.{AllByRecursion}
use Rattle.std.specs.Str.{is_utf8}
use Rattle.std.proofs.Common.{rules, refl, sym, ◌∙◌, ap, subst, inl, arith}
use Rattle.std.proofs.lemmas.List.Elements.{recursion_from_All}
use Rattle.meaning.specs.declared.value.Value.{Value}
use Rattle.meaning.specs.declared.value.Value.TheVariants.{Null, Int, Text}
use Rattle.meaning.specs.declared.value.ColType.{ColType}
use Rattle.meaning.specs.declared.value.ColType.TheVariants as of_type
use Rattle.meaning.specs.declared.outcome.Fault.{Fault}
use Rattle.meaning.specs.declared.outcome.Truth.TheVariants.{False}
use Rattle.meaning.specs.declared.outcome.Outcome.{Outcome}
use Rattle.meaning.specs.declared.outcome.Outcome.TheVariants as gives
use Rattle.meaning.specs.declared.expr.ArithmeticOperator.{ArithmeticOperator}
use Rattle.meaning.specs.declared.expr.ComparisonOperator.{ComparisonOperator}
use Rattle.meaning.specs.declared.expr.ComparisonOperator.TheVariants.{GreaterOrEqual, LessOrEqual}
use Rattle.meaning.specs.declared.expr.Arm.{Arm}
use Rattle.meaning.specs.declared.expr.Expr.{Expr}
use Rattle.meaning.specs.declared.expr.Expr.TheVariants as node
use Rattle.meaning.specs.declared.expr.Expr.TheFolds.{the_lemmas}
use Rattle.meaning.specs.declared.joined_row.JoinedRow.{JoinedRow}
use Rattle.meaning.specs.Expr.{arms_at, eval, eval_arm, outcomes}
use Rattle.meaning.specs.Operators.{and_of, arith_of, between_of, cases_of, compare_of, first_of, is_null_of, like_of, minus_of, not_if, not_of, or_of}
use Rattle.meaning.specs.References.{Reference, FactColumn, JoinColumn, GroupKey, GroupAggregate, columns_used, referenced}
use Rattle.meaning.specs.Typing.{ExprType, Valued, Boolean, RowTypes, fits_row_types, gives_expr_type, has_type, is_boolean, is_column_type, is_integer, is_literal_type}
use Rattle.meaning.proofs.Tests.{first_of as first_test}
use Rattle.meaning.proofs.Typed.{typed}
use Rattle.meaning.proofs.Evaluation.{eval-Minus, eval-Arithmetic, eval-Compare, eval-Not, eval-And, eval-Or, eval-IsNull, eval-Between, eval-In, eval-Like, eval-Coalesce, eval-Case, eval-Literal}
use Rattle.vectors.specs.Selection.{Positions}
use Rattle.vectors.specs.Vector.{BatchSpec, same_reference}
use Rattle.vector_operators.specs.declared.given.Given.{Given}
use Rattle.vector_operators.specs.declared.given.Given.TheVariants as given
use Rattle.vector_operators.specs.Evaluated.{Evaluates, Held, IsWithin}
use Rattle.primitives.specs.Meant.{meant_at, row_at}
use Rattle.primitives.specs.Fitting.{AreTypedRows, Fits, has_column, column_reference, referenced_type}
use Rattle.vector_operators.specs.Given.{AreNegatedIf, IsSpelled, IsSpelledIn, given_at, given_of, is_of_kind}
use Rattle.primitives.specs.Nodes.{Decides, ExprGives, FitsArm, Gives, IsExact, IsNoLater, one_of_subject}
use Rattle.primitives.proofs.Columns.{column_gives}
use Rattle.vector_operators.proofs.Composes.{after, pointwise, restated}
use Rattle.primitives.proofs.Fitted.{fits_and, fits_arithmetic, fits_between, fits_case, fits_coalesce, fits_compare, fits_in, fits_is_null, fits_like, fits_minus, fits_not, fits_or}
use Rattle.primitives.proofs.Lists.{one_of_subject_is}

boolean_is : (type : ExprType) → is_boolean type ≡ true → Boolean ≡ type
boolean_is Boolean h = refl
boolean_is (Valued kind) h = absurd cc

integer_is : (type : ExprType) → is_integer type ≡ true → Valued of_type.Int ≡ type
integer_is (Valued of_type.Int) h = refl
integer_is (Valued of_type.Text) h = absurd cc
integer_is Boolean h = absurd cc

-- one meaning and one type for others
regives : (type type' : ExprType) (m m' : ℕ → Outcome) (s : Positions) (h n : Held) (g : Given) → type ≡ type' → ((i : ℕ) → m i ≡ m' i)
    → Gives type m (IsWithin s) h n g → Gives type' m' (IsWithin s) h n g
regives type type' m m' s h n g is same there = record {
  evaluates = restated m m' (IsWithin s) h n (given_at g) (λ i w. same i) there.evaluates;
  kind = subst (λ (t : ExprType). is_of_kind t g ≡ true) is there.kind;
}

-- ---- columns and literals

reference_gives : (batch : BatchSpec) (s : Positions) (h : Held) (e : Expr) (u : Reference) (g : Given)
    → ((types : RowTypes) (type : ExprType) → has_type types e type ≡ is_column_type (referenced_type types u) type)
    → columns_used e ≡ u ∷ [] → ((r : JoinedRow) → eval e r ≡ gives.Value (referenced r u)) → s.below ≡ batch.rows
    → g ≡ given_of (option_map (λ column. column.lanes) (find (λ column. same_reference column.reference (column_reference u)) batch.columns))
    → ExprGives batch e (IsWithin s) h h g
reference_gives batch s h e u g type_is used means long is types type rows are fits =
    let present = subst (AllByRecursion (λ v. has_column batch.columns v ≡ true)) used (recursion_from_All (λ v. has_column batch.columns v ≡ true) (columns_used e) fits.present) in
    let w = column_gives types batch rows u type are present.0 (sym (type_is types type) ∙ fits.typed) in
    record {
      evaluates = pointwise (meant_at e rows) (IsWithin s) h (given_at g)
          (λ i at. ap (λ (x : Given). given_at x i) is ∙ w.0 i (subst (λ (k : ℕ). i < k) long at.0) ∙ sym (means (row_at rows i)));
      kind = ap (λ (x : Given). is_of_kind type x) is ∙ w.1;
    }

pub column_node : (batch : BatchSpec) (s : Positions) (h : Held) (at : ℕ) (g : Given) → s.below ≡ batch.rows
    → g ≡ given_of (option_map (λ column. column.lanes) (find (λ column. same_reference column.reference (column_reference (FactColumn at))) batch.columns))
    → ExprGives batch (node.Column at) (IsWithin s) h h g
column_node batch s h at g long is = reference_gives batch s h (node.Column at) (FactColumn at) g (λ types type. search (rules, the_lemmas)) (search (rules, the_lemmas)) (λ r. search (rules, the_lemmas)) long is

pub joined_node : (batch : BatchSpec) (s : Positions) (h : Held) (join at : ℕ) (g : Given) → s.below ≡ batch.rows
    → g ≡ given_of (option_map (λ column. column.lanes) (find (λ column. same_reference column.reference (column_reference (JoinColumn join at))) batch.columns))
    → ExprGives batch (node.Joined join at) (IsWithin s) h h g
joined_node batch s h join at g long is = reference_gives batch s h (node.Joined join at) (JoinColumn join at) g (λ types type. search (rules, the_lemmas)) (search (rules, the_lemmas)) (λ r. search (rules, the_lemmas)) long is

pub key_node : (batch : BatchSpec) (s : Positions) (h : Held) (at : ℕ) (g : Given) → s.below ≡ batch.rows
    → g ≡ given_of (option_map (λ column. column.lanes) (find (λ column. same_reference column.reference (column_reference (GroupKey at))) batch.columns))
    → ExprGives batch (node.Key at) (IsWithin s) h h g
key_node batch s h at g long is = reference_gives batch s h (node.Key at) (GroupKey at) g (λ types type. search (rules, the_lemmas)) (search (rules, the_lemmas)) (λ r. search (rules, the_lemmas)) long is

pub aggregate_node : (batch : BatchSpec) (s : Positions) (h : Held) (at : ℕ) (g : Given) → s.below ≡ batch.rows
    → g ≡ given_of (option_map (λ column. column.lanes) (find (λ column. same_reference column.reference (column_reference (GroupAggregate at))) batch.columns))
    → ExprGives batch (node.Aggregate at) (IsWithin s) h h g
aggregate_node batch s h at g long is = reference_gives batch s h (node.Aggregate at) (GroupAggregate at) g (λ types type. search (rules, the_lemmas)) (search (rules, the_lemmas)) (λ r. search (rules, the_lemmas)) long is

has-Literal : (types : RowTypes) (v : Value) (type : ExprType) → has_type types (node.Literal v) type ≡ is_literal_type v type
has-Literal types v type = search (rules, the_lemmas)

pub literal_where : (batch : BatchSpec) (S : ℕ → Type 0) (h : Held) (v : Value) (n : ℕ) (g : Given) → ((i : ℕ) → S i → i < n)
    → ((i : ℕ) → i < n → given_at g i ≡ gives.Value v) → ((type : ExprType) → is_literal_type v type ≡ true → is_of_kind type g ≡ true)
    → ExprGives batch (node.Literal v) S h h g
literal_where batch S h v n g below value kind types type rows are fits = record {
  evaluates = pointwise (meant_at (node.Literal v) rows) S h (given_at g) (λ i at. value i (below i at) ∙ sym (eval-Literal v (row_at rows i)));
  kind = kind type (sym (has-Literal types v type) ∙ fits.typed);
}

pub literal_node : (batch : BatchSpec) (s : Positions) (h : Held) (v : Value) (n : ℕ) (g : Given) → s.below ≡ n
    → ((i : ℕ) → i < n → given_at g i ≡ gives.Value v) → ((type : ExprType) → is_literal_type v type ≡ true → is_of_kind type g ≡ true)
    → ExprGives batch (node.Literal v) (IsWithin s) h h g
literal_node batch s h v n g long = literal_where batch (IsWithin s) h v n g (λ i at. subst (λ (k : ℕ). i < k) long at.0)

-- ---- one operand

pub minus_node : {E : Type 0} (batch : BatchSpec) (s : Positions) (h h1 h2 : Held) (a : Expr) (left : Given) (r : Result Given E)
    → ExprGives batch a (IsWithin s) h h1 left
    → (is_of_kind (Valued of_type.Int) left ≡ true → IfOk r (λ g. Evaluates (λ i. minus_of (given_at left i)) (IsWithin s) h1 h2 (given_at g)))
    → IfOk r (λ g. is_of_kind (Valued of_type.Int) g ≡ true)
    → IfOk r (ExprGives batch (node.Minus a) (IsWithin s) h h2)
minus_node batch s h h1 h2 a left (Err x) on exact kind = tt
minus_node batch s h h1 h2 a left (Ok g) on exact kind = λ types type rows are fits.
    (let f = fits_minus types batch.columns a type fits in
    let there = on types (Valued of_type.Int) rows are f.1 in
    regives (Valued of_type.Int) type (λ i. minus_of (meant_at a rows i)) (meant_at (node.Minus a) rows) s h h2 g (integer_is type f.0) (λ i. sym (eval-Minus a (row_at rows i)))
    (record { evaluates = after minus_of (λ e. refl) (meant_at a rows) (IsWithin s) h h1 h2 (given_at left) (given_at g) there.evaluates (exact there.kind); kind = kind }))

-- a test that faults nowhere
tested : (f : Outcome → Outcome) → ((e : Fault) → f (gives.Fault e) ≡ gives.Fault e) → (m : ℕ → Outcome) (s : Positions) (h h1 : Held) (n : ℕ) (type : ExprType) (left g : Given)
    → s.below ≡ n → Gives type m (IsWithin s) h h1 left → ((i : ℕ) → i < n → given_at g i ≡ f (given_at left i)) → is_of_kind Boolean g ≡ true
    → Gives Boolean (λ i. f (m i)) (IsWithin s) h h1 g
tested f strict m s h h1 n type left g long there value kind = record {
  evaluates = after f strict m (IsWithin s) h h1 h1 (given_at left) (given_at g) there.evaluates
      (pointwise (λ i. f (given_at left i)) (IsWithin s) h1 (given_at g) (λ i at. value i (subst (λ (k : ℕ). i < k) long at.0)));
  kind = kind;
}

pub not_node : {E : Type 0} (batch : BatchSpec) (s : Positions) (h h1 : Held) (n : ℕ) (a : Expr) (left : Given) (r : Result Given E) → s.below ≡ n
    → ExprGives batch a (IsWithin s) h h1 left
    → IfOk r (λ g. (i : ℕ) → i < n → given_at g i ≡ not_of (given_at left i)) → IfOk r (λ g. is_of_kind Boolean g ≡ true)
    → IfOk r (ExprGives batch (node.Not a) (IsWithin s) h h1)
not_node batch s h h1 n a left (Err x) long on value kind = tt
not_node batch s h h1 n a left (Ok g) long on value kind = λ types type rows are fits.
    (let f = fits_not types batch.columns a type fits in
    regives Boolean type (λ i. not_of (meant_at a rows i)) (meant_at (node.Not a) rows) s h h1 g (boolean_is type f.0) (λ i. sym (eval-Not a (row_at rows i)))
    (tested not_of (λ e. refl) (meant_at a rows) s h h1 n Boolean left g long (on types Boolean rows are f.1) value kind))

not_if-strict : (negated : Bool) (e : Fault) → not_if negated (gives.Fault e) ≡ gives.Fault e
not_if-strict true e = refl
not_if-strict false e = refl

pub is_null_node : {E : Type 0} (batch : BatchSpec) (s : Positions) (h h1 : Held) (n : ℕ) (negated : Bool) (a : Expr) (left : Given) (r : Result Given E) → s.below ≡ n
    → ExprGives batch a (IsWithin s) h h1 left
    → IfOk r (λ g. (i : ℕ) → i < n → given_at g i ≡ not_if negated (is_null_of (given_at left i))) → IfOk r (λ g. is_of_kind Boolean g ≡ true)
    → IfOk r (ExprGives batch (node.IsNull negated a) (IsWithin s) h h1)
is_null_node batch s h h1 n negated a left (Err x) long on value kind = tt
is_null_node batch s h h1 n negated a left (Ok g) long on value kind = λ types type rows are fits.
    (let f = fits_is_null types batch.columns negated a type fits in
    regives Boolean type (λ i. not_if negated (is_null_of (meant_at a rows i))) (meant_at (node.IsNull negated a) rows) s h h1 g (boolean_is type f.0) (λ i. sym (eval-IsNull negated a (row_at rows i)))
    (tested (λ o. not_if negated (is_null_of o)) (λ e. not_if-strict negated e) (meant_at a rows) s h h1 n (Valued f.1.0) left g long (on types (Valued f.1.0) rows are f.1.1) value kind))

-- ---- two operands

pub arithmetic_node : {E : Type 0} (batch : BatchSpec) (s : Positions) (h h1 h2 : Held) (op : ArithmeticOperator) (a b : Expr) (left : Given) (r : Result Given E)
    → ExprGives batch a (IsWithin s) h h1 left
    → IfOk r (λ g. (types : RowTypes) (rows : List JoinedRow) (m : ℕ → Outcome) (held : Held)
    → AreTypedRows types batch rows → Fits types batch.columns b (Valued of_type.Int)
    → is_of_kind (Valued of_type.Int) left ≡ true
    → Evaluates m (IsWithin s) held h1 (given_at left)
    → Gives (Valued of_type.Int) (λ i. arith_of op (m i) (meant_at b rows i)) (IsWithin s) held h2 g)
    → IfOk r (ExprGives batch (node.Arithmetic op a b) (IsWithin s) h h2)
arithmetic_node batch s h h1 h2 op a b left (Err x) on behind = tt
arithmetic_node batch s h h1 h2 op a b left (Ok g) on behind = λ types type rows are fits.
    (let f = fits_arithmetic types batch.columns op a b type fits in
    let there = on types (Valued of_type.Int) rows are f.1.0 in
    regives (Valued of_type.Int) type (λ i. arith_of op (meant_at a rows i) (meant_at b rows i)) (meant_at (node.Arithmetic op a b) rows) s h h2 g (integer_is type f.0)
    (λ i. sym (eval-Arithmetic op a b (row_at rows i)))
    (behind types rows (meant_at a rows) h are f.1.1 there.kind there.evaluates))

pub compare_node : {E : Type 0} (batch : BatchSpec) (s : Positions) (h h1 h2 : Held) (op : ComparisonOperator) (a b : Expr) (left : Given) (r : Result Given E)
    → ExprGives batch a (IsWithin s) h h1 left
    → IfOk r (λ g. (types : RowTypes) (rows : List JoinedRow) (kind : ColType) (m : ℕ → Outcome) (held : Held)
    → AreTypedRows types batch rows → Fits types batch.columns b (Valued kind)
    → is_of_kind (Valued kind) left ≡ true
    → Evaluates m (IsWithin s) held h1 (given_at left)
    → Gives Boolean (λ i. compare_of op (m i) (meant_at b rows i)) (IsWithin s) held h2 g × IsNoLater h1 h2)
    → IfOk r (ExprGives batch (node.Compare op a b) (IsWithin s) h h2)
compare_node batch s h h1 h2 op a b left (Err x) on behind = tt
compare_node batch s h h1 h2 op a b left (Ok g) on behind = λ types type rows are fits.
    (let f = fits_compare types batch.columns op a b type fits in
    let there = on types (Valued f.1.0) rows are f.1.1.0 in
    regives Boolean type (λ i. compare_of op (meant_at a rows i) (meant_at b rows i)) (meant_at (node.Compare op a b) rows) s h h2 g (boolean_is type f.0)
    (λ i. sym (eval-Compare op a b (row_at rows i)))
    (behind types rows f.1.0 (meant_at a rows) h are f.1.1.1 there.kind there.evaluates).0)

pub and_node : {E : Type 0} (batch : BatchSpec) (s : Positions) (h h1 h2 : Held) (a b : Expr) (left : Given) (r : Result Given E)
    → ExprGives batch a (IsWithin s) h h1 left
    → IfOk r (λ g. (types : RowTypes) (rows : List JoinedRow) (m : ℕ → Outcome) (held : Held)
    → AreTypedRows types batch rows → Fits types batch.columns b Boolean
    → Evaluates m (IsWithin s) held h1 (given_at left)
    → Gives Boolean (λ i. and_of (m i) (meant_at b rows i)) (IsWithin s) held h2 g)
    → IfOk r (ExprGives batch (node.And a b) (IsWithin s) h h2)
and_node batch s h h1 h2 a b left (Err x) on behind = tt
and_node batch s h h1 h2 a b left (Ok g) on behind = λ types type rows are fits.
    (let f = fits_and types batch.columns a b type fits in
    regives Boolean type (λ i. and_of (meant_at a rows i) (meant_at b rows i)) (meant_at (node.And a b) rows) s h h2 g (boolean_is type f.0)
    (λ i. sym (eval-And a b (row_at rows i)))
    (behind types rows (meant_at a rows) h are f.1.1 (on types Boolean rows are f.1.0).evaluates))

pub or_node : {E : Type 0} (batch : BatchSpec) (s : Positions) (h h1 h2 : Held) (a b : Expr) (left : Given) (r : Result Given E)
    → ExprGives batch a (IsWithin s) h h1 left
    → IfOk r (λ g. (types : RowTypes) (rows : List JoinedRow) (m : ℕ → Outcome) (held : Held)
    → AreTypedRows types batch rows → Fits types batch.columns b Boolean
    → Evaluates m (IsWithin s) held h1 (given_at left)
    → Gives Boolean (λ i. or_of (m i) (meant_at b rows i)) (IsWithin s) held h2 g)
    → IfOk r (ExprGives batch (node.Or a b) (IsWithin s) h h2)
or_node batch s h h1 h2 a b left (Err x) on behind = tt
or_node batch s h h1 h2 a b left (Ok g) on behind = λ types type rows are fits.
    (let f = fits_or types batch.columns a b type fits in
    regives Boolean type (λ i. or_of (meant_at a rows i) (meant_at b rows i)) (meant_at (node.Or a b) rows) s h h2 g (boolean_is type f.0)
    (λ i. sym (eval-Or a b (row_at rows i)))
    (behind types rows (meant_at a rows) h are f.1.1 (on types Boolean rows are f.1.0).evaluates))

-- ---- what may be negated

negated : (negated : Bool) (m : ℕ → Outcome) (s : Positions) (h h1 : Held) (n : ℕ) (w g : Given) → s.below ≡ n
    → Gives Boolean m (IsWithin s) h h1 w → ((i : ℕ) → i < n → given_at g i ≡ not_if negated (given_at w i)) → is_of_kind Boolean g ≡ true
    → Gives Boolean (λ i. not_if negated (m i)) (IsWithin s) h h1 g
negated is m s h h1 n w g long there value kind = tested (not_if is) (not_if-strict is) m s h h1 n Boolean w g long there value kind

pub between_node : {E F G : Type 0} (batch : BatchSpec) (s : Positions) (h h1 h2 h3 : Held) (n : ℕ) (is : Bool) (x low high : Expr) (subject : Given) (above : Result Given F) (within : Result Given G) (r : Result Given E)
    → s.below ≡ n → ExprGives batch x (IsWithin s) h h1 subject
    → IfOk above (λ g. (types : RowTypes) (rows : List JoinedRow) (kind : ColType) (m : ℕ → Outcome) (held : Held)
    → AreTypedRows types batch rows → Fits types batch.columns low (Valued kind)
    → is_of_kind (Valued kind) subject ≡ true
    → Evaluates m (IsWithin s) held h1 (given_at subject)
    → Gives Boolean (λ i. compare_of GreaterOrEqual (m i) (meant_at low rows i)) (IsWithin s) held h2 g × IsNoLater h1 h2)
    → IfOk within (λ g. (types : RowTypes) (rows : List JoinedRow) (kind : ColType) (m a : ℕ → Outcome) (held : Held)
    → AreTypedRows types batch rows → Fits types batch.columns high (Valued kind)
    → is_of_kind (Valued kind) subject ≡ true
    → IfOk above (λ b. IsExact m (IsWithin s) h2 (given_at subject) × Evaluates a (IsWithin s) held h2 (given_at b))
    → Gives Boolean (λ i. and_of (a i) (compare_of LessOrEqual (m i) (meant_at high rows i))) (IsWithin s) held h3 g)
    → IfOk r (AreNegatedIf is n within) → (IfOk within (λ a. is_of_kind Boolean a ≡ true) → IfOk r (λ g. is_of_kind Boolean g ≡ true))
    → IfOk r (ExprGives batch (node.Between is x low high) (IsWithin s) h h3)
between_node batch s h h1 h2 h3 n is x low high subject above within (Err e) long on on_low on_high value kind = tt
between_node batch s h h1 h2 h3 n is x low high subject above (Err e) (Ok g) long on on_low on_high value kind = absurd value
between_node batch s h h1 h2 h3 n is x low high subject above (Ok w) (Ok g) long on on_low on_high value kind = λ types type rows are fits.
    (let f = fits_between types batch.columns is x low high type fits in
    let there = on types (Valued f.1.0) rows are f.1.1.0 in
    let m : ℕ → Outcome = meant_at x rows in
    let a : ℕ → Outcome = λ i. compare_of GreaterOrEqual (m i) (meant_at low rows i) in
    let lower = lift above (λ b at. (let u = at types rows f.1.0 m h are f.1.1.1 there.kind there.evaluates in
    ((λ i w before. there.evaluates.exact i w (u.1 i before)), u.0.evaluates))) on_low in
    let both = on_high types rows f.1.0 m a h are f.1.1.2 there.kind lower in
    regives Boolean type (λ i. not_if is (between_of (m i) (meant_at low rows i) (meant_at high rows i))) (meant_at (node.Between is x low high) rows) s h h3 g (boolean_is type f.0)
    (λ i. sym (eval-Between is x low high (row_at rows i)))
    (negated is (λ i. between_of (m i) (meant_at low rows i) (meant_at high rows i)) s h h3 n w g long both value (kind both.kind)))
  where
    lift : {A E : Type 0} {P Q : A → Type 0} (r : Result A E) → ((y : A) → P y → Q y) → IfOk r P → IfOk r Q
    lift (Ok y) to p = to y p
    lift (Err e) to p = tt

pub in_nothing : {E : Type 0} (batch : BatchSpec) (s : Positions) (h : Held) (n : ℕ) (is : Bool) (x : Expr) (list : List Expr) (w : Given) (r : Result Given E)
    → s.below ≡ n → length list ≡ 0 → ((i : ℕ) → i < n → given_at w i ≡ gives.Truth False) → is_of_kind Boolean w ≡ true
    → IfOk r (λ g. (i : ℕ) → i < n → given_at g i ≡ not_if is (given_at w i)) → (is_of_kind Boolean w ≡ true → IfOk r (λ g. is_of_kind Boolean g ≡ true))
    → IfOk r (ExprGives batch (node.In is x list) (IsWithin s) h h)
in_nothing batch s h n is x (e ∷ es) w r long none false_there of_kind value kind = absurd cc
in_nothing batch s h n is x [] w (Err e) long none false_there of_kind value kind = tt
in_nothing batch s h n is x [] w (Ok g) long none false_there of_kind value kind = λ types type rows are fits.
    (let f = fits_in types batch.columns is x [] type fits in
    regives Boolean type (λ i. not_if is (gives.Truth False)) (meant_at (node.In is x []) rows) s h h g (boolean_is type f.0)
    (λ i. sym (eval-In is x [] (row_at rows i)))
    (record {
      evaluates = pointwise (λ i. not_if is (gives.Truth False)) (IsWithin s) h (given_at g) (λ i at. (let within = subst (λ (k : ℕ). i < k) long at.0 in value i within ∙ ap (not_if is) (false_there i within)));
      kind = kind of_kind;
    }))

pub in_node : {E F : Type 0} (batch : BatchSpec) (s : Positions) (h h1 h2 : Held) (n : ℕ) (is : Bool) (x : Expr) (list : List Expr) (subject : Given) (found : Result Given F) (r : Result Given E)
    → s.below ≡ n → (length list ≡ 0 → ⊥) → ExprGives batch x (IsWithin s) h h1 subject
    → IfOk found (λ g. (types : RowTypes) (rows : List JoinedRow) (kind : ColType) (m : ℕ → Outcome) (held : Held)
    → AreTypedRows types batch rows → All (λ e. Fits types batch.columns e (Valued kind)) list
    → is_of_kind (Valued kind) subject ≡ true
    → Evaluates m (IsWithin s) held h1 (given_at subject)
    → Gives Boolean (λ i. one_of_subject (m i) (outcomes list (row_at rows i))) (IsWithin s) held h2 g)
    → IfOk r (AreNegatedIf is n found) → (IfOk found (λ a. is_of_kind Boolean a ≡ true) → IfOk r (λ g. is_of_kind Boolean g ≡ true))
    → IfOk r (ExprGives batch (node.In is x list) (IsWithin s) h h2)
in_node batch s h h1 h2 n is x [] subject found r long some on on_list value kind = absurd (some refl)
in_node batch s h h1 h2 n is x (e ∷ es) subject found (Err _) long some on on_list value kind = tt
in_node batch s h h1 h2 n is x (e ∷ es) subject (Err _) (Ok g) long some on on_list value kind = absurd value
in_node batch s h h1 h2 n is x (e ∷ es) subject (Ok w) (Ok g) long some on on_list value kind = λ types type rows are fits.
    (let f = fits_in types batch.columns is x (e ∷ es) type fits in
    let there = on types (Valued f.1.0) rows are f.1.1.0 in
    let one = on_list types rows f.1.0 (meant_at x rows) h are f.1.1.1 there.kind there.evaluates in
    regives Boolean type (λ i. not_if is (one_of_subject (meant_at x rows i) (outcomes (e ∷ es) (row_at rows i)))) (meant_at (node.In is x (e ∷ es)) rows) s h h2 g (boolean_is type f.0)
    (λ i. ap (not_if is) (one_of_subject_is (meant_at x rows i) (eval e (row_at rows i)) (outcomes es (row_at rows i))) ∙ sym (eval-In is x (e ∷ es) (row_at rows i)))
    (negated is (λ i. one_of_subject (meant_at x rows i) (outcomes (e ∷ es) (row_at rows i))) s h h2 n w g long one value (kind one.kind)))

-- ---- LIKE

spelled : (g : Given) (i : ℕ) → gives_expr_type (Valued of_type.Text) (given_at g i) ≡ true → IsSpelledIn g i
spelled given.Null i h = tt
spelled (given.Ints l) i h = tt
spelled (given.Truths l) i h = tt
spelled (given.Texts l) i h = elim (get_or l i Null) as (λ v. gives_expr_type (Valued of_type.Text) (gives.Value v) ≡ true → IsSpelled v) [
  | Null ↦ λ e. tt
  | Int n ↦ λ e. tt
  | Text t ↦ λ e. first_test (is_utf8 t) _ e
] h

each_at : (P : JoinedRow → Type 0) (rows : List JoinedRow) (i : ℕ) (d : JoinedRow) → AllByRecursion P rows → i < length rows → P (get_or rows i d)
each_at P [] i d all within = absurd (omega (arith, within))
each_at P (r ∷ rs) zero d all within = all.0
each_at P (r ∷ rs) (suc i) d all within = each_at P rs i d all.1 (omega (arith, within))

pub like_node : {E F : Type 0} (batch : BatchSpec) (s : Positions) (h h1 : Held) (n n2 : ℕ) (is : Bool) (x : Expr) (pattern : List ℕ) (subject : Given) (found : Result Given F) (r : Result Given E)
    → s.below ≡ n → s.below ≡ n2 → s.below ≡ batch.rows → ExprGives batch x (IsWithin s) h h1 subject
    → (is_of_kind (Valued of_type.Text) subject ≡ true → IfOk found (λ g. (i : ℕ) → i < n → IsSpelledIn subject i → given_at g i ≡ like_of pattern (given_at subject i)))
    → IfOk found (λ g. is_of_kind Boolean g ≡ true)
    → IfOk r (AreNegatedIf is n2 found) → (IfOk found (λ a. is_of_kind Boolean a ≡ true) → IfOk r (λ g. is_of_kind Boolean g ≡ true))
    → IfOk r (ExprGives batch (node.Like is x pattern) (IsWithin s) h h1)
like_node batch s h h1 n n2 is x pattern subject found (Err _) long long2 rows_long on returned of_kind value kind = tt
like_node batch s h h1 n n2 is x pattern subject (Err _) (Ok g) long long2 rows_long on returned of_kind value kind = absurd value
like_node batch s h h1 n n2 is x pattern subject (Ok w) (Ok g) long long2 rows_long on returned of_kind value kind = λ types type rows are fits.
    (let f = fits_like types batch.columns is x pattern type fits in
    let there = on types (Valued of_type.Text) rows are f.1 in
    let like_is = returned there.kind in
    let m : ℕ → Outcome = meant_at x rows in
    let row_fits = recursion_from_All (λ r. fits_row_types types r ≡ true) rows are.values in
    regives Boolean type (λ i. not_if is (like_of pattern (m i))) (meant_at (node.Like is x pattern) rows) s h h1 g (boolean_is type f.0)
    (λ i. sym (eval-Like is x pattern (row_at rows i)))
    (record {
      evaluates = after (λ o. not_if is (like_of pattern o)) (λ e. not_if-strict is e) m (IsWithin s) h h1 h1 (given_at subject) (given_at g) there.evaluates
          (record {
            exact = λ i at before. (let within = subst (λ (k : ℕ). i < k) long at.0 in
                let below : i < length rows = subst (λ (k : ℕ). i < k) (rows_long ∙ sym are.are_rows.counted) at.0 in
                let typed_there = typed types (row_at rows i) (each_at (λ r. fits_row_types types r ≡ true) rows i (record { fact = []; joins = []; key = []; aggregates = [] }) row_fits below) x (Valued of_type.Text) f.1.typed in
                value i (subst (λ (k : ℕ). i < k) long2 at.0) ∙ ap (not_if is) (like_is i within
                (spelled subject i (ap (gives_expr_type (Valued of_type.Text)) (there.evaluates.exact i at before) ∙ typed_there))));
            origin = inl refl;
          });
      kind = kind of_kind;
    }))

-- ---- COALESCE and CASE

pub coalesce_node : {E : Type 0} (batch : BatchSpec) (s : Positions) (h h2 : Held) (list : List Expr) (r : Result Given E)
    → IfOk r (λ g. (types : RowTypes) (rows : List JoinedRow) (kind : ColType)
    → AreTypedRows types batch rows → All (λ e. Fits types batch.columns e (Valued kind)) list
    → Gives (Valued kind) (λ i. first_of (outcomes list (row_at rows i))) (IsWithin s) h h2 g)
    → IfOk r (ExprGives batch (node.Coalesce list) (IsWithin s) h h2)
coalesce_node batch s h h2 list (Err x) on = tt
coalesce_node batch s h h2 list (Ok g) on = λ types type rows are fits.
    (let f = fits_coalesce types batch.columns list type fits in
    regives (Valued f.0) type (λ i. first_of (outcomes list (row_at rows i))) (meant_at (node.Coalesce list) rows) s h h2 g (sym f.1.0)
    (λ i. sym (eval-Coalesce list (row_at rows i))) (on types rows f.0 are f.1.1))

pub case_node : {E : Type 0} (batch : BatchSpec) (s left : Positions) (h h1 h2 : Held) (arms : List Arm) (otherwise : Expr) (given_so_far : Given) (r : Result Given E)
    → ((types : RowTypes) (rows : List JoinedRow) (kind : ColType) (rest : ℕ → Outcome)
    → AreTypedRows types batch rows → All (FitsArm types batch.columns kind) arms
    → Decides kind (λ i. cases_of (arms_at (row_at rows i) (map eval_arm arms)) (rest i)) rest (IsWithin s) left h h1 given_so_far)
    → IfOk r (λ g. (types : RowTypes) (rows : List JoinedRow) (kind : ColType) (meant : ℕ → Outcome) (selected : Positions) (held : Held)
    → AreTypedRows types batch rows → Fits types batch.columns otherwise (Valued kind)
    → Decides kind meant (meant_at otherwise rows) (IsWithin selected) left held h1 given_so_far
    → Gives (Valued kind) meant (IsWithin selected) held h2 g)
    → IfOk r (ExprGives batch (node.Case arms otherwise) (IsWithin s) h h2)
case_node batch s left h h1 h2 arms otherwise given_so_far (Err x) decided on = tt
case_node batch s left h h1 h2 arms otherwise given_so_far (Ok g) decided on = λ types type rows are fits.
    (let f = fits_case types batch.columns arms otherwise type fits in
    let meant : ℕ → Outcome = λ i. cases_of (arms_at (row_at rows i) (map eval_arm arms)) (meant_at otherwise rows i) in
    regives (Valued f.0) type meant (meant_at (node.Case arms otherwise) rows) s h h2 g (sym f.1.0)
    (λ i. sym (eval-Case arms otherwise (row_at rows i)))
    (on types rows f.0 meant s h are f.1.1.1 (decided types rows f.0 (meant_at otherwise rows) are f.1.1.0)))

-- what is promised of a node holds of the expression that it is
pub as_node : {E : Type 0} (batch : BatchSpec) (s : Positions) (h h2 : Held) (r : Result Given E) (e e' : Expr) → e ≡ e'
    → IfOk r (ExprGives batch e' (IsWithin s) h h2) → IfOk r (ExprGives batch e (IsWithin s) h h2)
as_node batch s h h2 r e e' is on = subst (λ (x : Expr). IfOk r (ExprGives batch x (IsWithin s) h h2)) (sym is) on

pub as_lent_where : (batch : BatchSpec) (S : ℕ → Type 0) (h h2 : Held) (g : Given) (e e' : Expr) → e ≡ e'
    → ExprGives batch e' S h h2 g → ExprGives batch e S h h2 g
as_lent_where batch S h h2 g e e' is on = subst (λ (x : Expr). ExprGives batch x S h h2 g) (sym is) on

pub as_lent : (batch : BatchSpec) (s : Positions) (h h2 : Held) (g : Given) (e e' : Expr) → e ≡ e'
    → ExprGives batch e' (IsWithin s) h h2 g → ExprGives batch e (IsWithin s) h h2 g
as_lent batch s = as_lent_where batch (IsWithin s)

-- What a vector gives, made of what evaluation gave.
use Rattle.std.specs.Prelude.{◌≡◌, ℕ, ◌<◌, true, List, Result, Ok, Err, IfOk}
use Rattle.std.proofs.Common.{◌∙◌, subst}
use Rattle.meaning.specs.declared.expr.Expr.{Expr}
use Rattle.meaning.specs.declared.joined_row.JoinedRow.{JoinedRow}
use Rattle.meaning.specs.declared.outcome.Outcome.{Outcome}
use Rattle.meaning.specs.Typing.{ExprType, RowTypes}
use Rattle.vectors.specs.declared.vector.Vector.{Vector}
use Rattle.vectors.specs.Selection.{IsSelection, Positions, is_among}
use Rattle.vectors.specs.Vector.{BatchSpec}
use Rattle.vector_operators.specs.declared.given.Given.{Given}
use Rattle.vector_operators.specs.Evaluated.{Evaluates, Held, IsEvaluated, IsWithin, lane_of}
use Rattle.primitives.specs.Nodes.{ExprGives}
use Rattle.primitives.specs.Meant.{meant_at}
use Rattle.primitives.specs.Fitting.{AreTypedRows, Fits}
use Rattle.vector_operators.specs.Given.{IsOfType, given_at, is_of_kind}
use Rattle.vector_operators.proofs.Among.{within_among}
use Rattle.vector_operators.proofs.Composes.{lane_is, reselected}
use Rattle.vector_operators.proofs.Least.{evaluated}

-- ---- types

pub vector_typed : {E : Type 0} (batch : BatchSpec) (e : Expr) (s : Positions) (h h2 : Held) (g : Given) (r : Result Vector E)
    → ExprGives batch e (IsWithin s) h h2 g → ((type : ExprType) → is_of_kind type g ≡ true → IfOk r (IsOfType type))
    → IfOk r (λ v. (types : RowTypes) (type : ExprType) (rows : List JoinedRow)
    → AreTypedRows types batch rows → Fits types batch.columns e type
    → IsOfType type v)
vector_typed batch e s h h2 g (Err x) on typed = tt
vector_typed batch e s h h2 g (Ok v) on typed = λ types type rows are fits. typed type (on types type rows are fits).kind

-- ---- lanes

module _ (meant : ℕ → Outcome) (s : Positions) (is : IsSelection s) (n : ℕ) (long : s.below ≡ n) (h h2 : Held) (g : Given) (v : Vector)
    (value : (i : ℕ) → i < n → lane_of v i ≡ given_at g i) (ev : Evaluates meant (IsWithin s) h h2 (given_at g)) where
  below : (i : ℕ) → is_among s.list i ≡ true → i < s.below
  below i among = within_among s.below s.list i is.within among

  same : (i : ℕ) → is_among s.list i ≡ true → lane_of v i ≡ given_at g i
  same i among = value i (subst (λ (k : ℕ). i < k) long (below i among))

  selected : Evaluates meant (λ i. is_among s.list i ≡ true) h h2 (given_at g)
  selected = reselected meant (IsWithin s) (λ i. is_among s.list i ≡ true) h h2 (given_at g) (λ i w. w.1) (λ i among. (below i among, among)) ev

  vector_is : IsEvaluated meant s.list h h2 (lane_of v)
  vector_is =
      let w = evaluated meant s.list h h2 (given_at g) (lane_is g) selected is.ascending in
      record { least = w.least; exact = λ i among before. same i among ∙ w.exact i among before }

pub vector_evaluated : {E : Type 0} (batch : BatchSpec) (e : Expr) (s : Positions) (n : ℕ) (h h2 : Held) (g : Given) (r : Result Vector E)
    → IsSelection s → s.below ≡ n → ExprGives batch e (IsWithin s) h h2 g → IfOk r (λ v. (i : ℕ) → i < n → lane_of v i ≡ given_at g i)
    → IfOk r (λ v. (types : RowTypes) (type : ExprType) (rows : List JoinedRow)
    → AreTypedRows types batch rows → Fits types batch.columns e type
    → IsEvaluated (meant_at e rows) s.list h h2 (lane_of v))
vector_evaluated batch e s n h h2 g (Err x) is long on value = tt
vector_evaluated batch e s n h h2 g (Ok v) is long on value = λ types type rows are fits.
    vector_is (meant_at e rows) s is n long h h2 g v value (on types type rows are fits).evaluates

-- One expression, evaluated at the selected positions.
use Rattle.std.proofs.Common.{◌≡◌, ℕ, ◌<◌, true, List, [], get_or, length, refl, ap, sym, subst, ◌∙◌, arith}
use Rattle.std.proofs.lemmas.List.Elements.{recursion_from_All}
use Rattle.meaning.specs.declared.value.ColType.{ColType}
use Rattle.meaning.specs.declared.value.Value.TheVariants.{Null}
use Rattle.meaning.specs.declared.outcome.Outcome.{Outcome}
use Rattle.meaning.specs.declared.outcome.Outcome.TheVariants as gives
use Rattle.meaning.specs.declared.expr.Expr.{Expr}
use Rattle.meaning.specs.declared.joined_row.JoinedRow.{JoinedRow}
use Rattle.meaning.specs.Expr.{eval}
use Rattle.meaning.specs.Operators.{value_of}
use Rattle.meaning.specs.Typing.{RowTypes, Valued, gives_expr_type, fits_row_types}
use Rattle.meaning.proofs.Typed.{typed}
use Rattle.aggregate_states.specs.Values.{is_spelled}
use Rattle.aggregate_states.proofs.Spelled.{spelled_of_type}
use Rattle.vectors.specs.Selection.{IsSelection, Positions, is_among}
use Rattle.vectors.specs.Vector.{BatchSpec, outcomes_of, values_of}
use Rattle.vectors.specs.declared.vector.Vector.{Vector}
use Rattle.vector_operators.specs.Evaluated.{Held, IsBefore, Evaluates, lane_of}
use Rattle.vector_operators.specs.Given.{IsOfType}
use Rattle.vector_operators.proofs.LaneValues.{lane_value, values_long}
use Rattle.primitives.specs.Fitting.{AreTypedRows, Fits}
use Rattle.primitives.specs.Meant.{meant_at, row_at}
use Rattle.scan_select.proofs.Rows.{all_at}
use Rattle.worker.specs.Evaluated.{IsOnly, IsVectorOf}
use Rattle.worker.proofs.VectorLanes.{expression_narrows}
use Rattle.vectors.proofs.Ascending.{among_within}

spelled_outcome : (kind : ColType) (o : Outcome) → gives_expr_type (Valued kind) o ≡ true → is_spelled (value_of o) ≡ true
spelled_outcome kind (gives.Value v) e = spelled_of_type kind v e
spelled_outcome kind (gives.Truth t) e = refl
spelled_outcome kind (gives.Fault f) e = refl

pub vector_of : (types : RowTypes) (kind : ColType) (e : Expr) (batch : BatchSpec) (rows : List JoinedRow) (s : Positions) (held now : Held) (given v : Vector)
    → IsSelection s → s.below ≡ batch.rows → AreTypedRows types batch rows → Fits types batch.columns e (Valued kind)
    → Evaluates (meant_at e rows) (λ i. is_among s.list i ≡ true) held now (lane_of given) → IsOfType (Valued kind) given → length (outcomes_of given) ≡ batch.rows
    → IsOnly s.list (values_of given) (values_of v) → IsVectorOf e rows s held now v
vector_of types kind e batch rows s held now given v sound same are fits evaluates type long only =
    let narrows = expression_narrows (meant_at e rows) s.list held now given evaluates in
    let exact : (i : ℕ) → is_among s.list i ≡ true → IsBefore i now → get_or (values_of given) i Null ≡ value_of (eval e (row_at rows i)) =
    λ i among before. sym (lane_value given i) ∙ ap value_of (evaluates.exact i among before) in
    let counted = are.are_rows.counted in
    record {
      narrows = narrows;
      exact = λ i among before. only.same i among ∙ exact i among before;
      long = only.long ∙ values_long kind given type ∙ long ∙ sym same;
      spelled = λ none. only.spelled (λ i among.
          let lt = among_within s.below s.list i (recursion_from_All (λ p. p < s.below) s.list sound.within) among in
          let row = all_at (λ r. fits_row_types types r ≡ true) rows i (record { fact = []; joins = []; key = []; aggregates = [] }) (recursion_from_All (λ r. fits_row_types types r ≡ true) rows are.values) (omega (arith, lt, same, counted)) in
          ap is_spelled (exact i among (subst (λ (h : Held). IsBefore i h) (sym none) tt)) ∙ spelled_outcome kind (eval e (row_at rows i)) (typed types (row_at rows i) row e (Valued kind) fits.typed));
    }

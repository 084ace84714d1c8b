-- Proofs of the goals of `marks_of` (`evaluating`).
use Rattle.std.proofs.Common.{◌≡◌, ◌∙◌, ℕ, List, length, ap, sym, subst}
use Rattle.std.specs.List.{range_with_len}
use Rattle.std.proofs.lemmas.List.{length-map}
use Rattle.std.proofs.lemmas.Result.{IfOk-weaker}
use Rattle.meaning.specs.declared.outcome.Outcome.{Outcome}
use Rattle.meaning.specs.declared.outcome.Outcome.TheVariants as gives
use Rattle.meaning.specs.Typing.{Boolean}
use Rattle.vectors.specs.Selection.{IsMask, Positions}
use Rattle.vectors.specs.Vector.{BatchSpec}
use Rattle.vector_operators.specs.Evaluated.{Held}
use Rattle.primitives.specs.Fitting.{AreTypedRows, Fits}
use Rattle.primitives.specs.Meant.{meant_at}
use Rattle.primitives.specs.Narrowed.{Narrows}
use Rattle.block_predicates.proofs.OneColumn.{filled_rows, fits, marks_are, rows_typed}
use Rattle.block_predicates.proofs.evaluating.marks_of.Goals as goal

pub returns-clause-marked : goal.returns-clause-marked
returns-clause-marked c = IfOk-weaker c.mask.result _ _ (λ marks mask types type vs are kind of stands there typed.
    let e = c.args.condition.now in
    let at = c.args.column in
    let n = c.args.count in
    let new = c.keep_where.new.selection.list in
    let now = c.keep_where.new.fault.held in
    let counted : length vs ≡ n = sym (length-map vs gives.Value) ∙ ap (λ (os : List Outcome). length os) (sym are) ∙ c.requires.long in
    let rows = filled_rows types at type e stands typed there vs in
    let batch = sym c.in_ok-batch.ensures in
    let of_rows = subst (λ (b : BatchSpec). AreTypedRows types b rows) batch (rows_typed types at type e stands typed there vs c.args.lanes n counted are kind of) in
    let fitting = subst (λ (b : BatchSpec). Fits types b.columns e Boolean) batch (fits types at type e stands typed there vs c.args.lanes n counted are kind of) in
    let narrows = c.in_ok-keep_where.ensures.kept types rows of_rows fitting in
    let from_all = subst (λ (s : Positions). Narrows (meant_at e rows) s.list new c.new-fault.result.held now) c.in_ok-selection.ensures narrows in
    let from_none = subst (λ (h : Held). Narrows (meant_at e rows) (range_with_len 0 n) new h now) c.new-fault.ensures from_all in
    let below = c.in_ok-keep_where.ensures.below ∙ ap (λ (s : Positions). s.below) c.in_ok-selection.ensures in
    marks_are types at type e stands typed there vs n new now marks.items counted from_none (subst (λ (b : ℕ). IsMask new b marks.items) below mask)) c.mask.ensures

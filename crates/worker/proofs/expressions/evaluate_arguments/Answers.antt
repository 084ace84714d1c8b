-- Proofs of the goals of `evaluate_arguments` (`expressions`).
use Rattle.std.proofs.Common.{List, map, take, sym, ap, subst, ◌∙◌, ◌++◌, ◌∷◌, [], ◌≡◌, ◌+◌}
use Rattle.std.proofs.lemmas.List.{map-append, take_all, take_more}
use Rattle.std.proofs.lemmas.List.Elements.{recursion_from_All}
use Rattle.meaning.specs.declared.expr.Expr.{Expr}
use Rattle.meaning.specs.declared.plan.Aggregate.{Aggregate}
use Rattle.meaning.specs.Typing.{Valued}
use Rattle.vectors.specs.declared.vector.Vector.{Vector}
use Rattle.primitives.specs.Fitting.{Fits}
use Rattle.scan_select.proofs.Rows.{all_at}
use Rattle.worker.specs.Evaluated.{AreVectorsOf}
use Rattle.worker.proofs.VectorLanes.{more_vectors}
use Rattle.worker.proofs.expressions.evaluate_arguments.Goals as goal

pub loop-aggregate-preserved : goal.loop-aggregate-preserved
loop-aggregate-preserved c = λ types rows typed fits.
    let xs = c.args.aggregates.now in
    let k = c.loop-aggregate.aggregate-index in
    let x = c.aggregate-item.result in
    let at = c.aggregate-item.is in
    let es : List Expr = map (λ y. y.argument) (take k xs) in
    let fitting = subst (λ (y : Aggregate). Fits types c.args.batch.now.columns y.argument (Valued y.col_type)) (sym at)
    (all_at (λ y. Fits types c.args.batch.now.columns y.argument (Valued y.col_type)) xs k x (recursion_from_All (λ y. Fits types c.args.batch.now.columns y.argument (Valued y.col_type)) xs fits) c.loop-aggregate-test.true) in
    let more : map (λ y. y.argument) (take (k + 1) xs) ≡ es ++ x.argument ∷ [] =
    ap (map (λ y. y.argument)) (take_more xs k x c.loop-aggregate-test.true ∙ ap (λ (y : Aggregate). take k xs ++ y ∷ []) (sym at)) ∙ map-append (λ y. y.argument) (take k xs) (x ∷ []) in
    let old = c.loop-aggregate.invariant types rows typed fits in
    let new = c.in_ok-evaluate.ensures types x.col_type rows typed fitting in
    let both = more_vectors es x.argument rows c.args.selection.now c.args.fault.now.held c.loop-aggregate.fault.held c.evaluate.new.fault.held c.loop-aggregate.vectors.items c.in_ok-evaluate.field-0 old new in
    subst (λ (vs : List Vector). AreVectorsOf (map (λ y. y.argument) (take (k + 1) xs)) rows c.args.selection.now c.args.fault.now.held c.evaluate.new.fault.held vs) (sym c.in_ok-push.ensures.items)
    (subst (λ (ds : List Expr). AreVectorsOf ds rows c.args.selection.now c.args.fault.now.held c.evaluate.new.fault.held (c.loop-aggregate.vectors.items ++ c.in_ok-evaluate.field-0 ∷ [])) (sym more) both)

pub returns : goal.returns
returns c = λ types rows typed fits.
    let all = take_all c.loop-aggregate.aggregate-index c.args.aggregates.now c.loop-aggregate-test.false in
    subst (λ (xs : List Aggregate). AreVectorsOf (map (λ y. y.argument) xs) rows c.args.selection.now c.args.fault.now.held c.loop-aggregate.fault.held c.loop-aggregate.vectors.items) all (c.loop-aggregate.invariant types rows typed fits)

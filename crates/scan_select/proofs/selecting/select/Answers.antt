-- Proofs of the goals of `select` (`selecting`).
use Rattle.std.proofs.Common.{List, take, sym, ap, subst, ◌∙◌, ◌++◌, ◌∷◌, []}
use Rattle.std.proofs.lemmas.List.{take_all, take_more}
use Rattle.std.proofs.lemmas.List.Elements.{recursion_from_All}
use Rattle.meaning.specs.declared.expr.Expr.{Expr}
use Rattle.meaning.specs.Typing.{Boolean}
use Rattle.primitives.specs.Fitting.{Fits}
use Rattle.primitives.specs.Narrowed.{Narrows}
use Rattle.scan_select.specs.Selected.{conditions_at}
use Rattle.scan_select.proofs.Narrowing.{one_more_condition, selects}
use Rattle.scan_select.proofs.Rows.{all_at}
use Rattle.scan_select.proofs.selecting.select.Goals as goal

pub loop-condition-preserved : goal.loop-condition-preserved
loop-condition-preserved c =
    let cs = c.args.conditions.now in
    let k = c.loop-condition.condition-index in
    let item = c.condition-item.result in
    let at = c.condition-item.is in (
      λ types rows typed fits.
          let fitting = subst (λ (e : Expr). Fits types c.args.scanned.now.batch.columns e Boolean) (sym at) (all_at (λ e. Fits types c.args.scanned.now.batch.columns e Boolean) cs k item (recursion_from_All (λ e. Fits types c.args.scanned.now.batch.columns e Boolean) cs fits) c.loop-condition-test.true) in
          one_more_condition cs k item rows c.args.selection.now.list c.loop-condition.selection.list c.keep_where.new.selection.list c.args.fault.now.held c.loop-condition.fault.held c.keep_where.new.fault.held
          (take_more cs k item c.loop-condition-test.true ∙ ap (λ (e : Expr). take k cs ++ e ∷ []) (sym at)) (c.loop-condition.invariant.0 types rows typed fits) (c.in_ok-keep_where.ensures.kept types rows typed fitting),
      c.keep_where.ensures.below ∙ c.loop-condition.invariant.1,
    )

pub returns-clause-selects : goal.returns-clause-selects
returns-clause-selects c = λ types rows typed fits.
    let all = take_all c.loop-condition.condition-index c.args.conditions.now c.loop-condition-test.false in
    selects _ _ _ _ _ c.len-positions.ensures.sound.ascending
    (subst (λ (es : List Expr). Narrows (conditions_at es rows) c.args.selection.now.list c.loop-condition.selection.list c.args.fault.now.held c.loop-condition.fault.held) all (c.loop-condition.invariant.0 types rows typed fits))

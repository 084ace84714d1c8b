-- Proofs of the goals of `select_marked` (`marked`).
use Rattle.std.proofs.Common.{◌∙◌, ◌++◌, ◌∷◌, [], List, take, sym, ap, subst, arith}
use Rattle.std.proofs.lemmas.List.{take_all, take_more}
use Rattle.meaning.specs.declared.expr.Expr.{Expr}
use Rattle.fragment_file.specs.Lent.{blocks_in}
use Rattle.primitives.specs.Narrowed.{Narrows}
use Rattle.scan_select.specs.OnBlocks.{FitsEither, IsMarkedIf}
use Rattle.scan_select.specs.Selected.{conditions_at}
use Rattle.scan_select.proofs.MarkedBlocks.{as_many, zip_at}
use Rattle.scan_select.proofs.Narrowing.{one_more_condition, selects}
use Rattle.scan_select.proofs.marked.select_marked.Goals as goal

pub bounds-marks-at : goal.bounds-marks-at
bounds-marks-at c =
    let many = as_many (IsMarkedIf (blocks_in c.args.scanned.now.group)) c.args.conditions.now c.args.marks.now c.requires.marks in
    let lt = c.loop-at-test.true in
    omega (arith, many, lt)

pub select_one-requires-clause-marks : goal.select_one-requires-clause-marks
select_one-requires-clause-marks c =
    zip_at (IsMarkedIf (blocks_in c.args.scanned.now.group)) c.args.conditions.now c.args.marks.now c.loop-at.at c.index-conditions-at.result c.index-marks-at.result c.requires.marks c.loop-at-test.true
    c.index-conditions-at.is c.index-marks-at.is

pub loop-at-preserved : goal.loop-at-preserved
loop-at-preserved c =
    let scanned = c.args.scanned.now in
    let cs = c.args.conditions.now in
    let k = c.loop-at.at in
    let e = c.index-conditions-at.result in (
      λ types rows typed from fits.
          let fitting = zip_at (FitsEither types scanned.batch.columns (blocks_in scanned.group)) cs c.args.marks.now k e c.index-marks-at.result fits c.loop-at-test.true c.index-conditions-at.is c.index-marks-at.is in
          let so_far = c.loop-at.invariant.0 types rows typed from fits in
          one_more_condition cs k e rows c.args.selection.now.list c.loop-at.selection.list c.select_one.new.selection.list c.args.fault.now.held c.loop-at.fault.held c.select_one.new.fault.held
          (take_more cs k e c.loop-at-test.true ∙ ap (λ (x : Expr). take k cs ++ x ∷ []) (sym c.index-conditions-at.is)) so_far (c.in_ok-select_one.ensures.narrows types rows typed (λ i among. from i (so_far.within i among)) fitting),
      c.select_one.ensures.below ∙ c.loop-at.invariant.1,
    )

pub returns-clause-selects : goal.returns-clause-selects
returns-clause-selects c = λ types rows typed from fits.
    let all = take_all c.loop-at.at c.args.conditions.now c.loop-at-test.false in
    selects _ _ _ _ _ c.len-positions.ensures.sound.ascending
    (subst (λ (es : List Expr). Narrows (conditions_at es rows) c.args.selection.now.list c.loop-at.selection.list c.args.fault.now.held c.loop-at.fault.held) all (c.loop-at.invariant.0 types rows typed from fits))

-- Proofs of the goals of `is_in_conditions` (`group_marks`).
use Rattle.std.proofs.Common.{◌<◌, ◌∙◌, length, true, false, sym, arith}
use Rattle.worker.proofs.PackedColumns.{unmarked_next}
use Rattle.worker.proofs.group_marks.is_in_conditions.Goals as goal

pub returns-then-is_in_condition : goal.returns-then-is_in_condition
returns-then-is_in_condition c =
    let lt = c.loop-at-test.true in
    let long = c.requires in
    let also : c.loop-at.at < length c.args.marks.now = omega (arith, lt, long) in
    sym (sym c.loop-at.invariant ∙ unmarked_next c.args.column c.args.conditions.now c.args.marks.now c.loop-at.at c.index-conditions-at.result c.index-marks-at.result lt also c.index-conditions-at.is c.index-marks-at.is true
    (sym c.is_in_condition.ensures ∙ c.if-is_in_condition.true))

pub loop-at-preserved : goal.loop-at-preserved
loop-at-preserved c =
    let lt = c.loop-at-test.true in
    let long = c.requires in
    let also : c.loop-at.at < length c.args.marks.now = omega (arith, lt, long) in
    sym (unmarked_next c.args.column c.args.conditions.now c.args.marks.now c.loop-at.at c.index-conditions-at.result c.index-marks-at.result lt also c.index-conditions-at.is c.index-marks-at.is false
    (sym c.is_in_condition.ensures ∙ c.if-is_in_condition.false)) ∙ c.loop-at.invariant

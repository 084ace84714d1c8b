-- Proofs of the goals of `put_runs` (`spreading`).
use Rattle.std.proofs.Common.{◌≤◌, ◌∙◌, length, take, sym, arith}
use Rattle.std.proofs.lemmas.List.{take_all}
use Rattle.block_predicates.proofs.RowMarks.{all_spread, none_left}
use Rattle.block_predicates.proofs.spreading.put_runs.Goals as goal

pub returns : goal.returns
returns c =
    let lengths = c.args.runs.now.lengths in
    let rows = c.loop-run.rows in
    let done = c.loop-run.done in
    let end = c.loop-run-test.false in
    let same = c.len-run-end.ensures.same in
    let past : length lengths ≤ c.loop-run.run = omega (arith, end, same) in
    let none = none_left lengths c.loop-run.run past in
    let total = c.loop-run.invariant.1 in
    let long = c.loop-run.invariant.2 in
    sym (take_all done rows (omega (arith, none, total, long))) ∙ all_spread (take done rows) c.args.marks.now lengths c.loop-run.run past c.loop-run.invariant.0

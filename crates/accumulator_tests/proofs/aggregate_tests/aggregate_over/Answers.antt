-- Proofs of the goals of `aggregate_over` (`aggregate_tests`).
use Rattle.std.proofs.Common.{length, ap, arith, ◌∙◌}
use Rattle.std.proofs.lemmas.List.FromFn.{length-range_with_len}
use Rattle.meaning.specs.declared.answer.Statistics.{Statistics}
use Rattle.vectors.specs.Selection.{Positions}
use Rattle.accumulator_tests.proofs.aggregate_tests.aggregate_over.Goals as goal

pub update_batch-requires-clause-few : goal.update_batch-requires-clause-few
update_batch-requires-clause-few c =
    let none = ap (λ (s : Statistics). s.count) c.new-acc.ensures.held in
    let long = ap (λ (s : Positions). length s.list) c.in_ok-selection.ensures ∙ length-range_with_len 0 c.args.many in
    omega (arith, none, long, c.requires.few)

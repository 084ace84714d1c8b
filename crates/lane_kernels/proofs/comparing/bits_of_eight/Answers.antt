-- Proofs of the goals of `bits_of_eight` (`comparing`).
use Rattle.std.proofs.Common.{ap, sym, ◌∙◌}
use Rattle.std.specs.Int.{from_bool}
use Rattle.std.specs.Ordering.{int_cmp}
use Rattle.std.specs.Simd.Lanes.{chunk, zip2}
use Rattle.meaning.specs.declared.expr.ComparisonOperator.{ComparisonOperator}
use Rattle.meaning.specs.Operators.{test}
use Rattle.lane_kernels.proofs.Tested.{equal_bits, not_equal_bits, less_bits, less_or_equal_bits, greater_bits, greater_or_equal_bits}
use Rattle.lane_kernels.proofs.comparing.bits_of_eight.Goals as goal
use Rattle.lane_kernels.proofs.comparing.bits_of_eight.Goals.{in-Equal, in-NotEqual, in-Less, in-LessOrEqual, in-Greater, in-GreaterOrEqual}

pub returns : goal.returns
returns c =
    let xs = chunk c.args.start 8 c.args.left.now in
    let ys = chunk c.args.start 8 c.args.right.now in
    let by = λ (op : ComparisonOperator). zip2 (λ a b. from_bool (test op (int_cmp a b))) xs ys in
    elim c.match-op.branch [
      | in-Equal w ↦ w.result-is ∙ w.choose_equal.ensures ∙ equal_bits xs ys ∙ ap by (sym w.in-Equal.is)
      | in-NotEqual w ↦ w.result-is ∙ w.choose_equal-in-NotEqual.ensures ∙ not_equal_bits xs ys ∙ ap by (sym w.in-NotEqual.is)
      | in-Less w ↦ w.result-is ∙ w.choose_less.ensures ∙ less_bits xs ys ∙ ap by (sym w.in-Less.is)
      | in-LessOrEqual w ↦ w.result-is ∙ w.choose_less-in-LessOrEqual.ensures ∙ less_or_equal_bits xs ys ∙ ap by (sym w.in-LessOrEqual.is)
      | in-Greater w ↦ w.result-is ∙ w.choose_less-in-Greater.ensures ∙ greater_bits xs ys ∙ ap by (sym w.in-Greater.is)
      | in-GreaterOrEqual w ↦ w.result-is ∙ w.choose_less-in-GreaterOrEqual.ensures ∙ greater_or_equal_bits xs ys ∙ ap by (sym w.in-GreaterOrEqual.is)
    ]

-- Proofs of the goals of `bits_of_eight_to` (`comparing`).
use Rattle.std.proofs.Common.{map, ap, sym, ◌∙◌}
use Rattle.std.specs.Int.{from_bool}
use Rattle.std.specs.Ordering.{int_cmp}
use Rattle.std.specs.Simd.Lanes.{chunk}
use Rattle.meaning.specs.declared.expr.ComparisonOperator.{ComparisonOperator}
use Rattle.meaning.specs.Operators.{test}
use Rattle.lane_kernels.proofs.Tested.{equal_bits_to, not_equal_bits_to, less_bits_to, less_or_equal_bits_to, greater_bits_to, greater_or_equal_bits_to}
use Rattle.lane_kernels.proofs.comparing.bits_of_eight_to.Goals as goal
use Rattle.lane_kernels.proofs.comparing.bits_of_eight_to.Goals.{in-Equal, in-NotEqual, in-Less, in-LessOrEqual, in-Greater, in-GreaterOrEqual}

pub returns : goal.returns
returns c =
    let xs = chunk c.args.start 8 c.args.left.now in
    let y = c.args.right.now in
    let by = λ (op : ComparisonOperator). map (λ a. from_bool (test op (int_cmp a y))) xs in
    elim c.match-op.branch [
      | in-Equal w ↦ w.result-is ∙ w.choose_equal_to.ensures ∙ equal_bits_to xs y ∙ ap by (sym w.in-Equal.is)
      | in-NotEqual w ↦ w.result-is ∙ w.choose_equal_to-in-NotEqual.ensures ∙ not_equal_bits_to xs y ∙ ap by (sym w.in-NotEqual.is)
      | in-Less w ↦ w.result-is ∙ w.choose_less_than.ensures ∙ less_bits_to xs y ∙ ap by (sym w.in-Less.is)
      | in-LessOrEqual w ↦ w.result-is ∙ w.choose_greater_than.ensures ∙ less_or_equal_bits_to xs y ∙ ap by (sym w.in-LessOrEqual.is)
      | in-Greater w ↦ w.result-is ∙ w.choose_greater_than-in-Greater.ensures ∙ greater_bits_to xs y ∙ ap by (sym w.in-Greater.is)
      | in-GreaterOrEqual w ↦ w.result-is ∙ w.choose_less_than-in-GreaterOrEqual.ensures ∙ greater_or_equal_bits_to xs y ∙ ap by (sym w.in-GreaterOrEqual.is)
    ]

-- Loop invariants of `are_shapes_of` (`shape`).
use Rattle.std.proofs.Common.{◌≡◌, drop}
use Rattle.std.specs.Cmp.Lexicographic.{pointwise}
use Rattle.answer_fields.specs.Shape.{is_same_aggregate, shape_of_aggregate}
use Rattle.answer_fields.proofs.shape.are_shapes_of.Given as goal

abbrev pub invariant-loop-i : goal.invariant-loop-i
invariant-loop-i l = pointwise (λ s a. is_same_aggregate s (shape_of_aggregate a)) l.shapes l.aggregates ≡ pointwise (λ s a. is_same_aggregate s (shape_of_aggregate a)) (drop l.i l.shapes) (drop l.i l.aggregates)

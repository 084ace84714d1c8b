-- Loop invariants of `are_types_of` (`shape`).
use Rattle.std.proofs.Common.{◌≡◌, drop}
use Rattle.std.specs.Cmp.Lexicographic.{pointwise}
use Rattle.answer_fields.specs.Shape.{is_same_type}
use Rattle.answer_fields.proofs.shape.are_types_of.Given as goal

abbrev pub invariant-loop-i : goal.invariant-loop-i
invariant-loop-i l = pointwise (λ t k. is_same_type t k.col_type) l.types l.keys ≡ pointwise (λ t k. is_same_type t k.col_type) (drop l.i l.types) (drop l.i l.keys)

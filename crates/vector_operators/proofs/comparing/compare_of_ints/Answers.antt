-- Proofs of the goals of `compare_of_ints` (`comparing`).
use Rattle.std.proofs.Common.{refl, ap, ◌∙◌, pos, length, ℤ, List}
use Rattle.std.specs.Int.{from_bool}
use Rattle.std.specs.Ordering.{int_cmp}
use Rattle.meaning.specs.declared.value.Value.TheVariants.{Int}
use Rattle.meaning.specs.Operators.{test}
use Rattle.vectors.specs.Lanes.{ints_of}
use Rattle.vector_operators.proofs.Tested.{reports, ints_returned}
use Rattle.vector_operators.proofs.comparing.compare_of_ints.Goals as goal

pub returns : goal.returns
returns c =
    let n = length c.args.left.now in
    let lc = ints_of c.int_parts.result.0.now in
    let same = c.as_slice.ensures ∙ c.in_ok-left_cells.ensures in
    reports Int (pos 0) c.args.op (λ x y. from_bool (test c.args.op (int_cmp x y))) (ints_returned c.args.op)
    n (length c.as_slice.result.now) c.len.result c.args.left.now c.args.right.now lc (ints_of c.int_parts-2.result.0.now) c.as_slice.result.now
    c.in_ok-bits.bits.items c.as_slice-2.result.now c.int_parts.result.1.now c.int_parts-2.result.1.now c.in_ok-nulls.nulls _ c.truths_from.result
    c.int_parts.ensures c.int_parts-2.ensures refl c.requires c.len.ensures c.in_ok-nulls.ensures same
    (ap (λ (xs : List ℤ). length xs) same ∙ c.int_parts.ensures.long) c.in_ok-bits.ensures c.as_slice-2.ensures.value c.truths_from.ensures.value

-- Proofs of the goals of `IntBuf::nulls` (`int_buf`).
use Rattle.std.proofs.Common.{take, map, ap, ◌∙◌}
use Rattle.meaning.specs.declared.value.ColType.TheVariants as of_type
use Rattle.meaning.specs.Order.{is_null}
use Rattle.blocks.specs.VectorBuf.{no_texts}
use Rattle.blocks.proofs.ReadVectors.{nulls-of}
use Rattle.blocks.proofs.int_buf.IntBuf.nulls.Goals as goal

pub returns : goal.returns
returns c =
    let f = c.self.inside in
    ap (take f.len) c.as_slice.ensures.value
    ∙ nulls-of of_type.Int f.len f.nulls.items f.ints.items (no_texts f.nulls.items) c.self.invariant
    ∙ ap (λ v. map is_null v.values) c.self.view_is

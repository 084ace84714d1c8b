-- Proofs of the goals of `IntBuf::ints` (`int_buf`).
use Rattle.std.proofs.Common.{take, map, sym, ap, ◌∙◌}
use Rattle.meaning.specs.Order.{number}
use Rattle.blocks.proofs.int_buf.IntBuf.ints.Goals as goal

pub returns : goal.returns
returns c =
    let f = c.self.inside in
    ap (take f.len) c.as_slice.ensures.value
    ∙ sym c.self.invariant.blank
    ∙ ap (λ v. map number v.values) c.self.view_is

-- Proofs of the goals of `short_at` (`numbers`).
use Rattle.std.proofs.Common.{◌∙◌, ap, get_or, []}
use Rattle.std.specs.Int.{w16, from_le_bytes}
use Rattle.bit_packing.proofs.Chunks.{get_or-first_chunks}
use Rattle.bit_packing.proofs.numbers.short_at.Goals as goal

pub returns : goal.returns
returns c =
    c.from_le_bytes.ensures ∙ ap (from_le_bytes w16) (ap (λ xs. get_or xs c.args.i []) c.as_chunks.ensures.front ∙ get_or-first_chunks 2 _ c.args.i c.args.bytes.now c.requires)

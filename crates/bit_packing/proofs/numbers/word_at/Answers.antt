-- Proofs of the goals of `word_at` (`numbers`).
use Rattle.std.proofs.Common.{◌∙◌, ap, get_or, []}
use Rattle.std.specs.Int.{w32, from_le_bytes}
use Rattle.bit_packing.proofs.Chunks.{get_or-first_chunks}
use Rattle.bit_packing.proofs.numbers.word_at.Goals as goal

pub returns : goal.returns
returns c =
    c.from_le_bytes.ensures ∙ ap (from_le_bytes w32) (ap (λ xs. get_or xs c.args.i []) c.as_chunks.ensures.front ∙ get_or-first_chunks 4 _ c.args.i c.args.bytes.now c.requires)

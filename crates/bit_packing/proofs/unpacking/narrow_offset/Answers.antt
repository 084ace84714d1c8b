-- Proofs of the goals of `narrow_offset` (`unpacking`).
use Rattle.std.proofs.Common.{ℕ, ◌/◌, ◌%◌, ◌^◌, ap, ◌∙◌, arith}
use Rattle.bit_packing.proofs.UnpackNumbers.{from_le_bytes-64, masked_64, number-take_all}
use Rattle.bit_packing.proofs.unpacking.narrow_offset.Goals as goal

pub returns : goal.returns
returns c =
    masked_64 _ c.args.width (omega arith)
    ∙ ap (λ (n : ℕ). n / 2 ^ c.args.shift % 2 ^ c.args.width)
    (c.from_le_bytes.ensures ∙ from_le_bytes-64 c.args.chunk.now ∙ number-take_all 8 c.args.chunk.now (omega arith))

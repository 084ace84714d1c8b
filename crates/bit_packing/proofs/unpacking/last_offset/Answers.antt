-- Proofs of the goals of `last_offset` (`unpacking`).
use Rattle.std.proofs.Common.{ℕ, ◌/◌, ◌%◌, ◌^◌, ap, ◌∙◌, arith}
use Rattle.bit_packing.proofs.UnpackNumbers.{masked_128}
use Rattle.bit_packing.proofs.unpacking.last_offset.Goals as goal

pub returns : goal.returns
returns c =
    masked_128 _ c.args.width (omega arith)
    ∙ ap (λ (n : ℕ). n / 2 ^ c.args.shift % 2 ^ c.args.width) c.number.ensures

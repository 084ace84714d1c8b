-- Proofs of the goals of `wide_offset` (`unpacking`).
use Rattle.std.proofs.Common.{◌≡◌, ℕ, ◌+◌, ◌*◌, ◌/◌, ◌%◌, ◌^◌, ap, ◌∙◌, arith}
use Rattle.bit_packing.specs.Bytes.{number_of}
use Rattle.bit_packing.proofs.UnpackNumbers.{from_le_bytes-64, masked_128, number-take_all}
use Rattle.bit_packing.proofs.unpacking.wide_offset.Goals as goal

pub returns : goal.returns
returns c =
    let e : c.from_le_bytes.result ≡ number_of c.args.chunk.now
    = c.from_le_bytes.ensures ∙ from_le_bytes-64 c.args.chunk.now ∙ number-take_all 8 c.args.chunk.now (omega arith) in
    let f : c.args.last * 2 ^ 64 + c.from_le_bytes.result ≡ number_of c.args.chunk.now + c.args.last * 2 ^ 64 = omega (arith, e) in
    masked_128 _ c.args.width (omega arith) ∙ ap (λ (n : ℕ). n / 2 ^ c.args.shift % 2 ^ c.args.width) f

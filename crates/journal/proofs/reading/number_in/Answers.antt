-- Proofs of the goals of `number_in` (`reading`).
use Rattle.std.proofs.Common.{◌≡◌, length, ap, sym, ◌∙◌, rules}
use Rattle.wire.specs.Bytes.{number_bytes}
use Rattle.byteorder.specs.Endian.{little_number}
use Rattle.journal.proofs.NextBytes.{four_bytes}
use Rattle.journal.proofs.reading.number_in.Goals as goal

pub returns : goal.returns
returns c =
    let four : length c.args.bytes.now ≡ 4 = search rules in
    let number : c.read_u32.result ≡ little_number 4 c.args.bytes.now = search rules in
    four_bytes c.args.bytes.now c.fits-bytes four ∙ ap (number_bytes 4) (sym number)

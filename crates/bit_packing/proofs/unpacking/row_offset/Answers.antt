-- Proofs of the goals of `row_offset` (`unpacking`).
use Rattle.std.proofs.Common.{ℕ, ◌*◌, ◌/◌, ◌%◌, ◌^◌, ◌≤◌, List, ap, sym, ◌∙◌, arith}
use Rattle.std.proofs.lemmas.List.{take_rest}
use Rattle.std.proofs.lemmas.Nat.{mul-le}
use Rattle.meaning.specs.Limits.{row_group_rows}
use Rattle.bit_packing.specs.Bytes.{number_of}
use Rattle.bit_packing.proofs.UnpackNumbers.{are_bytes, offset_at-drop}
use Rattle.bit_packing.proofs.unpacking.row_offset.Goals as goal

pub overflow_mul-bit : goal.overflow_mul-bit
overflow_mul-bit c =
    let h : c.args.i * c.args.width ≤ row_group_rows * 64 = mul-le c.args.i c.args.width row_group_rows 64 c.requires.few c.requires.width in
    omega arith

pub returns : goal.returns
returns c =
    let xs : List ℕ = c.args.bytes.now in
    let bit : ℕ = c.args.i * c.args.width in
    c.first_offset.ensures
    ∙ ap (λ ys. number_of ys / 2 ^ (bit % 8) % 2 ^ c.args.width) (take_rest xs (bit / 8))
    ∙ sym (offset_at-drop c.args.width (bit / 8) (bit % 8) c.args.i xs (are_bytes xs c.type_inv.bytes) (omega arith))

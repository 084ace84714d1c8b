-- Proofs of the goals of `first_offset` (`unpacking`).
use Rattle.std.proofs.Common.{◌≡◌, ℕ, ◌+◌, ◌*◌, ◌/◌, ◌%◌, ◌^◌, ap, sym, ◌∙◌, arith, take, get_or}
use Rattle.bit_packing.specs.Bytes.{number_of}
use Rattle.bit_packing.proofs.UnpackNumbers.{are_bytes, digit-take, number-take_9}
use Rattle.bit_packing.proofs.unpacking.first_offset.Goals as goal

pub returns : goal.returns
returns c =
    let xs = c.args.bytes.now in
    let s : c.in-Some.chunk.now ≡ take 8 xs = c.in-Some.ensures.cases.same in
    let e : number_of c.in-Some.chunk.now + get_or xs 8 0 * 2 ^ 64 ≡ number_of (take 9 xs)
    = ap (λ (n : ℕ). n + get_or xs 8 0 * 2 ^ 64) (ap number_of s) ∙ number-take_9 xs in
    c.wide_offset.ensures
    ∙ ap (λ (n : ℕ). n / 2 ^ c.args.shift % 2 ^ c.args.width) e
    ∙ sym (digit-take 9 c.args.width c.args.shift xs (are_bytes c.args.bytes.now c.type_inv.bytes) (omega arith))

pub returns-then-width-le57 : goal.returns-then-width-le57
returns-then-width-le57 c =
    let xs = c.args.bytes.now in
    let s : c.in-Some.chunk.now ≡ take 8 xs = c.in-Some.ensures.cases.same in
    c.narrow_offset.ensures
    ∙ ap (λ (n : ℕ). n / 2 ^ c.args.shift % 2 ^ c.args.width) (ap number_of s)
    ∙ sym (digit-take 8 c.args.width c.args.shift xs (are_bytes c.args.bytes.now c.type_inv.bytes) (omega arith))

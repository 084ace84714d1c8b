-- Proofs of the goals of `number` (`unpacking`).
use Rattle.std.proofs.Common.{◌≡◌, ℕ, ◌+◌, ◌-◌, ◌*◌, ◌^◌, ◌<◌, length, get_or, drop, arith, ap}
use Rattle.bit_packing.specs.Bytes.{number_of}
use Rattle.bit_packing.proofs.UnpackNumbers.{are_bytes, byte_below, few_bytes_below, number-drop_less}
use Rattle.bit_packing.proofs.unpacking.number.Goals as goal

pub overflow_mul-number : goal.overflow_mul-number
overflow_mul-number c =
    let k : ℕ = c.loop-k.k in
    let h : c.loop-k.number * 256 + 0 < 2 ^ (8 * (k + 1)) = byte_below c.loop-k.number 0 k c.loop-k.invariant.1 (omega arith) in
    let l : c.loop-k.number * 256 + 0 < 2 ^ 128 = few_bytes_below _ (k + 1) h (omega arith) in
    omega arith

pub overflow_add-number : goal.overflow_add-number
overflow_add-number c =
    let k : ℕ = c.loop-k.k in
    let b : ℕ = get_or c.args.bytes.now (length c.args.bytes.now - 1 - k) 0 in
    let h : c.loop-k.number * 256 + b < 2 ^ (8 * (k + 1)) = byte_below c.loop-k.number b k c.loop-k.invariant.1 (are_bytes c.args.bytes.now c.type_inv.bytes (length c.args.bytes.now - 1 - k)) in
    let l : c.loop-k.number * 256 + b < 2 ^ 128 = few_bytes_below _ (k + 1) h (omega arith) in
    omega arith

pub loop-k-preserved : goal.loop-k-preserved
loop-k-preserved c =
    let xs = c.args.bytes.now in
    let k : ℕ = c.loop-k.k in
    let e : number_of (drop (length xs - (k + 1)) xs) ≡ get_or xs (length xs - (k + 1)) 0 + 256 * number_of (drop (length xs - k) xs)
    = number-drop_less xs (length xs - (k + 1)) (length xs - k) (omega arith) (omega arith) in
    let f : length xs - 1 - k ≡ length xs - (k + 1) = omega arith in
    let g : get_or xs (length xs - 1 - k) 0 ≡ get_or xs (length xs - (k + 1)) 0 = ap (λ (j : ℕ). get_or xs j 0) f in
    let i : c.loop-k.number ≡ number_of (drop (length xs - k) xs) = c.loop-k.invariant.0 in (
      omega (arith, e, g, i),
      byte_below c.loop-k.number (get_or xs (length xs - 1 - k) 0) k c.loop-k.invariant.1 (are_bytes c.args.bytes.now c.type_inv.bytes (length c.args.bytes.now - 1 - k)),
    )

-- Proofs of the goals of `small_number` (`windows`).
use Rattle.std.proofs.Common.{◌≡◌, ◌-◌, ◌<◌, length, get_or, arith, rules}
use Rattle.bit_packing.proofs.Digits.{byte_more, eight_next, room_for_byte}
use Rattle.bit_packing.proofs.windows.small_number.Goals as goal

pub overflow_mul-number : goal.overflow_mul-number
overflow_mul-number c =
    let low = room_for_byte c.loop-i.i c.loop-i.number (omega arith) c.loop-i.invariant.small in
    omega arith

pub overflow_add-number : goal.overflow_add-number
overflow_add-number c =
    let low = room_for_byte c.loop-i.i c.loop-i.number (omega arith) c.loop-i.invariant.small in
    let byte : c.from.result < 256 = search rules in
    omega arith

pub loop-i-preserved : goal.loop-i-preserved
loop-i-preserved c =
    let bytes = c.args.bytes.now in
    let read : c.from.result ≡ get_or bytes (length bytes - 1 - c.loop-i.i) 0 = search rules in
    let byte : c.from.result < 256 = search rules in
    let more = eight_next c.loop-i.i in
    record {
      value = byte_more bytes c.loop-i.i c.loop-i.number c.from.result c.loop-i-test.true c.loop-i.invariant.value read;
      small = omega arith;
    }

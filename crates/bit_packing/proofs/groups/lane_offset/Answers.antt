-- Proofs of the goals of `lane_offset` (`groups`).
use Rattle.std.proofs.Common.{◌≡◌, ℕ, List, ◌+◌, ◌-◌, ◌*◌, ◌/◌, ◌%◌, ◌^◌, ◌<◌, ◌≤◌, get_or, sym, ap, ◌∙◌, arith}
use Rattle.std.proofs.lemmas.Nat.{mod_below, pow_pos, shl_whole}
use Rattle.std.proofs.Math.Nat.{pow-le-pow_right}
use Rattle.bit_packing.specs.Offsets.{offset_at}
use Rattle.bit_packing.specs.Bytes.{number_of}
use Rattle.bit_packing.proofs.Digits.{AreBytes, narrow_offset, wide_offset}
use Rattle.bit_packing.proofs.groups.lane_offset.Goals as goal

pub returns-then-width-shift-le64 : goal.returns-then-width-shift-le64
returns-then-width-shift-le64 c =
    let bytes : List ℕ = c.args.group.now in
    let bit : ℕ = c.args.width * c.args.lane in
    let start : ℕ = c.window_start-start.result in
    let shift : ℕ = bit - 8 * start in
    let small : AreBytes bytes = λ k. (c.type_inv.group k).fits in
    let before : 8 * start ≤ bit = c.window_start-start.ensures.before in
    let in_window : shift < 64 = c.window_start-start.ensures.in_window in
    let offset = narrow_offset c.args.width c.args.lane start shift bytes small (omega (arith, before)) (omega (arith, in_window)) (omega arith) in
    c.low_bits.ensures ∙ ap (λ n. n / 2 ^ shift % 2 ^ c.args.width) c.window_at.ensures ∙ sym offset

pub overflow_add-result : goal.overflow_add-result
overflow_add-result c =
    let width = c.args.width in
    let bytes : List ℕ = c.args.group.now in
    let bit : ℕ = c.args.width * c.args.lane in
    let start : ℕ = c.window_start-start.result in
    let shift : ℕ = bit - 8 * start in
    let high = c.low_bits-high.result in
    let small : AreBytes bytes = λ k. (c.type_inv.group k).fits in
    let before : 8 * start ≤ bit = c.window_start-start.ensures.before in
    let wide : 64 < width + shift = omega arith in
    let in_window : shift < 8 = c.window_start-start.ensures.lane wide in
    let offset = wide_offset width c.args.lane start shift bytes small (omega (arith, before)) (omega (arith, in_window)) in_window wide (omega arith) in
    let read : high ≡ get_or bytes (start + 8) 0 % 2 ^ (width + shift - 64) = c.low_bits-high.ensures ∙ ap (λ n. n % 2 ^ (width + shift - 64)) c.from.ensures in
    let below : high < 2 ^ (width + shift - 64) = rw read (mod_below (get_or bytes (start + 8) 0) (2 ^ (width + shift - 64)) (pow_pos (width + shift - 64))) in
    let whole : high * 2 ^ (64 - shift) % 18446744073709551616 ≡ high * 2 ^ (64 - shift) = shl_whole high (width + shift - 64) (64 - shift) 64 below (omega arith) in
    let sum : high * 2 ^ (64 - shift) % 18446744073709551616 + c.window_at.result / 2 ^ shift ≡ offset_at width bytes c.args.lane = ap (λ n. n + c.window_at.result / 2 ^ shift) (whole ∙ ap (λ n. n * 2 ^ (64 - shift)) read) ∙ ap (λ n. get_or bytes (start + 8) 0 % 2 ^ (width + shift - 64) * 2 ^ (64 - shift) + n / 2 ^ shift) c.window_at.ensures ∙ sym offset in
    let less : offset_at width bytes c.args.lane < 2 ^ width = mod_below (number_of bytes / 2 ^ (width * c.args.lane)) (2 ^ width) (pow_pos width) in
    let top : 2 ^ width ≤ 2 ^ 64 = pow-le-pow_right {n = 2} (omega arith) {i = width} {j = 64} (omega arith) in
    let fits : high * 2 ^ (64 - shift) % 18446744073709551616 + c.window_at.result / 2 ^ shift < 18446744073709551616 = omega arith in
    record { fits = fits }

pub returns : goal.returns
returns c =
    let width = c.args.width in
    let bytes : List ℕ = c.args.group.now in
    let bit : ℕ = c.args.width * c.args.lane in
    let start : ℕ = c.window_start-start.result in
    let shift : ℕ = bit - 8 * start in
    let high = c.low_bits-high.result in
    let small : AreBytes bytes = λ k. (c.type_inv.group k).fits in
    let before : 8 * start ≤ bit = c.window_start-start.ensures.before in
    let wide : 64 < width + shift = omega arith in
    let in_window : shift < 8 = c.window_start-start.ensures.lane wide in
    let offset = wide_offset width c.args.lane start shift bytes small (omega (arith, before)) (omega (arith, in_window)) in_window wide (omega arith) in
    let read : high ≡ get_or bytes (start + 8) 0 % 2 ^ (width + shift - 64) = c.low_bits-high.ensures ∙ ap (λ n. n % 2 ^ (width + shift - 64)) c.from.ensures in
    let below : high < 2 ^ (width + shift - 64) = rw read (mod_below (get_or bytes (start + 8) 0) (2 ^ (width + shift - 64)) (pow_pos (width + shift - 64))) in
    let whole : high * 2 ^ (64 - shift) % 18446744073709551616 ≡ high * 2 ^ (64 - shift) = shl_whole high (width + shift - 64) (64 - shift) 64 below (omega arith) in
    ap (λ n. n + c.window_at.result / 2 ^ shift) (whole ∙ ap (λ n. n * 2 ^ (64 - shift)) read) ∙ ap (λ n. get_or bytes (start + 8) 0 % 2 ^ (width + shift - 64) * 2 ^ (64 - shift) + n / 2 ^ shift) c.window_at.ensures ∙ sym offset

-- Proofs of the goals of `are_within` (`offsets`).
use Rattle.std.proofs.Common.{◌≡◌, ◌^◌, ◌≤◌, ◌+◌, ◌≤ℤ◌, ◌+ℤ◌, pos, negsuc, not, map, sym, ap, ◌∙◌, arith, rules}
use Rattle.std.specs.List.{range_with_len}
use Rattle.std.specs.Int.{w64}
use Rattle.std.specs.Int.RustNames.{FitsSigned}
use Rattle.std.proofs.lemmas.Int.{ints, to_z-of_z}
use Rattle.bit_packing.specs.Offsets.{offset_at}
use Rattle.bit_packing.proofs.OffsetPieces.{none_above, fit_unless_above}
use Rattle.bit_packing.proofs.offsets.are_within.Goals as goal

pub returns-then-greatest_of_width-room : goal.returns-then-greatest_of_width-room
returns-then-greatest_of_width-room c =
    let offsets = map (offset_at c.args.width c.args.packed.now) (range_with_len 0 c.args.rows) in
    let room = c.room_above-room.result in
    let fits : FitsSigned w64 c.args.base = search rules in
    let low : negsuc 9223372036854775807 ≤ℤ c.args.base = omega (arith, ints) in
    let top : c.args.base +ℤ pos room ≡ pos 9223372036854775807 = ap (λ b. b +ℤ pos room) (sym (to_z-of_z w64 c.args.base fits)) ∙ c.room_above-room.ensures in
    let wide : 2 ^ c.args.width ≤ room + 1 = omega arith in
    ap not (sym (none_above c.args.width c.args.packed.now (room + 1) wide (range_with_len 0 c.args.rows))) ∙ fit_unless_above c.args.base room low top offsets

pub returns : goal.returns
returns c =
    let offsets = map (offset_at c.args.width c.args.packed.now) (range_with_len 0 c.args.rows) in
    let room = c.room_above-room.result in
    let fits : FitsSigned w64 c.args.base = search rules in
    let low : negsuc 9223372036854775807 ≤ℤ c.args.base = omega (arith, ints) in
    let top : c.args.base +ℤ pos room ≡ pos 9223372036854775807 = ap (λ b. b +ℤ pos room) (sym (to_z-of_z w64 c.args.base fits)) ∙ c.room_above-room.ensures in
    ap not c.has_offset_from.ensures ∙ fit_unless_above c.args.base room low top offsets

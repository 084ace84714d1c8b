-- Loop invariants of `are_bits_clear` (`masks`).
use Rattle.std.proofs.Common.{◌≡◌, ◌-◌, not}
use Rattle.std.specs.List.{list_all, range_with_len}
use Rattle.bit_packing.specs.Bits.{bit_at}
use Rattle.bit_packing.proofs.masks.are_bits_clear.Given as goal

abbrev pub invariant-loop-i : goal.invariant-loop-i
invariant-loop-i l =
    list_all (λ j. not (bit_at l.mask j)) (range_with_len l.i (l.end - l.i)) ≡ list_all (λ j. not (bit_at l.mask j)) (range_with_len l.start (l.end - l.start))

-- Loop invariants of `are_marked` (`marked`).
use Rattle.std.proofs.Common.{◌≡◌, ◌-◌, ◌*◌, ◌||◌, ◌==◌, not}
use Rattle.std.specs.List.{list_all, range_with_len}
use Rattle.bit_packing.specs.Bits.{bit_at}
use Rattle.bit_packing.specs.Offsets.{offset_at}
use Rattle.bit_packing.proofs.marked.are_marked.Given as goal

abbrev pub invariant-loop-k : goal.invariant-loop-k
invariant-loop-k l =
    list_all (λ i. not (bit_at l.mask i) || offset_at l.width l.packed i == l.number) (range_with_len (64 * l.k) (l.rows - 64 * l.k))
    ≡ list_all (λ i. not (bit_at l.mask i) || offset_at l.width l.packed i == l.number) (range_with_len 0 l.rows)

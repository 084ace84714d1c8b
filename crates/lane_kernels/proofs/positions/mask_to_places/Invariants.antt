-- Loop invariants of `mask_to_places` (`positions`).
use Rattle.std.proofs.Common.{◌≡◌, ◌≤◌, ◌==◌, ◌*◌, not, length, filter, get_or, take}
use Rattle.std.specs.List.{range_with_len}
use Rattle.lane_kernels.proofs.positions.mask_to_places.Given as goal

abbrev pub invariant-loop-eight : goal.invariant-loop-eight
invariant-loop-eight l =
    (take l.count l.positions ≡ filter (λ i. not (get_or l.mask i 0 == 0)) (range_with_len 0 (8 * l.eight)))
    × (l.count ≤ 8 * l.eight)
    × (length l.positions ≡ length l.fn.positions)

abbrev pub invariant-loop-i : goal.invariant-loop-i
invariant-loop-i l =
    (take l.count l.positions ≡ filter (λ i. not (get_or l.mask i 0 == 0)) (range_with_len 0 l.i))
    × (l.count ≤ l.i)
    × (length l.positions ≡ length l.fn.positions)

-- Proofs of the goals of `places_of` (`positions`).
use Rattle.std.proofs.Common.{◌≡◌, ◌<◌, ◌==◌, ◌/◌, ◌%◌, ◌^◌, filter, subst, sym, take, count_ones}
use Rattle.std.specs.List.{range_with_len}
use Rattle.std.specs.Simd.Lanes.{Each1}
use Rattle.lane_kernels.proofs.Placed.{row_places, row_small}
use Rattle.lane_kernels.proofs.positions.places_of.Goals as goal

pub returns-clause-places : goal.returns-clause-places
returns-clause-places c = subst (λ row. take (count_ones c.args.bits) row ≡ filter (λ i. c.args.bits / 2 ^ i % 2 == 1) (range_with_len 0 8)) (sym c.to_le_bytes.ensures) (row_places c.args.bits c.requires)

pub returns-clause-small : goal.returns-clause-small
returns-clause-small c = subst (Each1 (λ place. place < 8)) (sym c.to_le_bytes.ensures) (row_small c.args.bits c.requires)

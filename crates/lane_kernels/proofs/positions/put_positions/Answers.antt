-- Proofs of the goals of `put_positions` (`positions`).
use Rattle.std.proofs.Common.{rules, ◌≡◌, ◌≤◌, ◌==◌, not, count_ones, length, arith}
use Rattle.lane_kernels.proofs.Gathered.{gathered}
use Rattle.lane_kernels.proofs.positions.put_positions.Goals as goal

pub returns-clause-positions : goal.returns-clause-positions
returns-clause-positions c =
    let row = c.places_of.result in
    let long : length row ≡ 8 = omega (arith, c.well_formed) in
    let few : count_ones c.bits_of_eight-bits.result ≤ 8 = search rules in
    gathered (λ byte. not (byte == 0)) c.args.mask.now c.args.start c.requires.within (omega (arith, c.requires.within, c.requires.few)) row long c.places_of.ensures.small
    (count_ones c.bits_of_eight-bits.result) c.bits_of_eight-bits.result c.args.count c.args.positions.now c.bits_of_eight-bits.ensures.bits c.places_of.ensures.places few c.requires.room

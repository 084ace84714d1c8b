-- Proofs of the goals of `Selection::all` (`selection`).
use Rattle.std.proofs.Common.{◌≡◌, ◌<◌, ◌^◌, arith, length}
use Rattle.vectors.proofs.Positions.{all_is_held}
use Rattle.vectors.proofs.selection.Selection.all.Goals as goal

pub invariant_of-result : goal.invariant_of-result
invariant_of-result c =
    let few : c.args.n < 2 ^ 32 = omega (arith, c.ranges.n.fits) in
    let long : c.args.n ≡ length c.in_ok-positions.positions.items = omega (arith, c.in_ok-positions.ensures.len) in
    all_is_held c.args.n c.in_ok-positions.positions.items long few

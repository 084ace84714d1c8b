-- Proofs of the goals of `Selection::reset` (`selection`).
use Rattle.std.proofs.Common.{◌≡◌, ◌<◌, ◌^◌, arith, length}
use Rattle.vectors.proofs.Positions.{all_is_held}
use Rattle.vectors.proofs.selection.Selection.reset.Goals as goal

pub invariant_of-self : goal.invariant_of-self
invariant_of-self c =
    let n = c.len-self-inside.result in
    let long : n ≡ length c.self.inside.positions.items = omega (arith, c.len-self-inside.ensures) in
    let few : n < 2 ^ 32 = omega (arith, long, c.self.invariant.few) in
    all_is_held n c.self.inside.positions.items long few

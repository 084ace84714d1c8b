-- Proofs of the goals of `Gather::merges` (`gather`).
use Rattle.std.proofs.Common.{subst, arith}
use Rattle.meaning.specs.Cut.{IsCut}
use Rattle.gathering.proofs.LiveTotals.{merges_few}
use Rattle.gathering.proofs.gather.Gather.merges.Goals as goal

pub merges-requires : goal.merges-requires
merges-requires c =
    let few = merges_few c.self.inside.job c.self.inside.cells.items c.self.inside.totals (subst IsCut c.cut.ensures c.lengths-lengths.ensures.within_limits) c.self.invariant in
    omega (arith, few)

pub returns-clause-few : goal.returns-clause-few
returns-clause-few c =
    let few = merges_few c.self.inside.job c.self.inside.cells.items c.self.inside.totals (subst IsCut c.cut.ensures c.lengths-lengths.ensures.within_limits) c.self.invariant in
    let is = c.merges.ensures in
    omega (arith, few, is)

-- Proofs of the goals of `Ahead::of` (`ahead`).
use Rattle.std.proofs.Common.{arith}
use Rattle.loader.proofs.FactSteps.{rows_few}
use Rattle.loader.proofs.ahead.Ahead.of.Goals as goal

pub invariant_of-result : goal.invariant_of-result
invariant_of-result c =
    let few = rows_few c.lengths.result.now (rw c.lengths.ensures.value c.lengths.ensures.within_limits) in
    record { few = omega (arith, few) }

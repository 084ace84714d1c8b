-- Proofs of the goals of `Ints::plain` (`ints`).
use Rattle.std.proofs.Common.{ap, sym, ◌∙◌}
use Rattle.vectors.specs.Lanes.{ints_of}
use Rattle.vectors.proofs.PlainLanes.{plain_is}
use Rattle.vectors.proofs.ints.Ints.plain.Goals as goal

pub returns-in-Lent : goal.returns-in-Lent
returns-in-Lent c = plain_is c.parts.result.0.now c.parts.result.1.now c.in-Lent.cells.now c.args.self.now c.parts.ensures.value (ap ints_of c.in-Lent.is) c.in-None.ensures

pub returns-in-Owned : goal.returns-in-Owned
returns-in-Owned c = plain_is c.parts.result.0.now c.parts.result.1.now c.as_slice.result.now c.args.self.now c.parts.ensures.value (ap ints_of c.in-Owned.is ∙ sym c.as_slice.ensures.value) c.in-None.ensures

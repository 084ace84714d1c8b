-- Proofs of the goals of `Ints::len` (`ints`).
use Rattle.std.proofs.Common.{◌∙◌}
use Rattle.meaning.specs.declared.value.Value.TheVariants.{Int}
use Rattle.vectors.specs.Lanes.{ints_of}
use Rattle.vectors.proofs.Lanes.{long}
use Rattle.vectors.proofs.ints.Ints.len.Goals as goal

pub returns : goal.returns
returns c = c.len.ensures ∙ long Int (ints_of c.self.inside.cells) c.self.inside.nulls c.args.self.now c.self.invariant c.self.view_is

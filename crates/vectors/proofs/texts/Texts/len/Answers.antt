-- Proofs of the goals of `Texts::len` (`texts`).
use Rattle.std.proofs.Common.{◌∙◌}
use Rattle.meaning.specs.declared.value.Value.TheVariants.{Text}
use Rattle.vectors.specs.Lanes.{texts_of}
use Rattle.vectors.proofs.Lanes.{long}
use Rattle.vectors.proofs.texts.Texts.len.Goals as goal

pub returns : goal.returns
returns c = c.len.ensures ∙ long Text (texts_of c.self.inside.cells) c.self.inside.nulls c.args.self.now c.self.invariant c.self.view_is

-- Proofs of the goals of `plain_cells` (`plain_texts`).
use Rattle.std.proofs.Common.{ap, sym, ◌∙◌}
use Rattle.vectors.specs.Lanes.{texts_of}
use Rattle.group_keys.proofs.Texts.{read, texts_are}
use Rattle.group_keys.proofs.plain_texts.plain_cells.Goals as goal

pub returns-in-Lent : goal.returns-in-Lent
returns-in-Lent c = texts_are c.parts.result.0.now c.parts.result.1.now c.in-Lent.cells.now c.args.texts.now c.parts.ensures.value (ap texts_of c.in-Lent.is) c.in-None.ensures

pub returns-in-Owned : goal.returns-in-Owned
returns-in-Owned c = texts_are c.parts.result.0.now c.parts.result.1.now c.as_slice.result.now c.args.texts.now c.parts.ensures.value (ap texts_of c.in-Owned.is ∙ ap read (sym c.as_slice.ensures.value)) c.in-None.ensures

-- Proofs of the goals of `entry_in` (`explaining`).
use Rattle.tools.proofs.PlainLines.{no_entry}
use Rattle.tools.proofs.explaining.entry_in.Goals as goal

pub returns-in-None-clause-only : goal.returns-in-None-clause-only
returns-in-None-clause-only c = no_entry _ c.plain.result (c.numbered.ensures.only c.in-None.is) c.plain.ensures.only

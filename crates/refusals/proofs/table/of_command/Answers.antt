use Rattle.std.proofs.Common.{refl, codes}
use Rattle.refusals.proofs.FoundLines.{of_lines, of_text}
use Rattle.refusals.proofs.table.of_command.Goals as goal

pub returns-in-memory-clause-line : goal.returns-in-memory-clause-line
returns-in-memory-clause-line c = of_text _ (codes "memory") _ c.in-memory.is refl

pub returns-in-text-clause-line : goal.returns-in-text-clause-line
returns-in-text-clause-line c = of_text _ (codes "cannot read") _ c.in-text.is refl

pub returns-in-text-2-clause-line : goal.returns-in-text-2-clause-line
returns-in-text-2-clause-line c = of_text _ (codes "cannot write") _ c.in-text-2.is refl

pub returns-in-text-3-clause-line : goal.returns-in-text-3-clause-line
returns-in-text-3-clause-line c = of_text _ (codes "cannot write standard error") _ c.in-text-3.is refl

pub returns-in-text-4-clause-line : goal.returns-in-text-4-clause-line
returns-in-text-4-clause-line c = of_text _ (codes "cannot write standard output") _ c.in-text-4.is refl

pub returns-in-usage-clause-line : goal.returns-in-usage-clause-line
returns-in-usage-clause-line c = of_lines _ (codes "usage") (codes "usage, error: TEXT") _ c.in-usage.is c.usage.ensures refl

pub returns-in-text-5-clause-line : goal.returns-in-text-5-clause-line
returns-in-text-5-clause-line c = of_lines _ (codes "error:") (codes "usage, error: TEXT") _ c.in-text-5.is c.usage-in-text-5.ensures refl

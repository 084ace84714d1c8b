use Rattle.std.proofs.Common.{refl, codes}
use Rattle.refusals.proofs.FoundLines.{of_lines}
use Rattle.refusals.proofs.reports.of_report.Goals as goal

pub returns-in-missing-clause-line : goal.returns-in-missing-clause-line
returns-in-missing-clause-line c = of_lines _ (codes "missing") (codes "missing: NUMBERS") _ c.in-missing.is c.missing.ensures refl

pub returns-in-text-clause-line : goal.returns-in-text-clause-line
returns-in-text-clause-line c = of_lines _ (codes "missing:") (codes "missing: NUMBERS") _ c.in-text.is c.missing-in-text.ensures refl

pub returns-in-conflict-clause-line : goal.returns-in-conflict-clause-line
returns-in-conflict-clause-line c = of_lines _ (codes "conflict") (codes "conflict: NUMBERS") _ c.in-conflict.is c.conflict.ensures refl

pub returns-in-text-2-clause-line : goal.returns-in-text-2-clause-line
returns-in-text-2-clause-line c = of_lines _ (codes "conflict:") (codes "conflict: NUMBERS") _ c.in-text-2.is c.conflict-in-text-2.ensures refl

pub returns-in-arithmetic-clause-line : goal.returns-in-arithmetic-clause-line
returns-in-arithmetic-clause-line c = of_lines _ (codes "arithmetic") (codes "arithmetic: FAULT") _ c.in-arithmetic.is c.arithmetic.ensures refl

pub returns-in-text-3-clause-line : goal.returns-in-text-3-clause-line
returns-in-text-3-clause-line c = of_lines _ (codes "arithmetic:") (codes "arithmetic: FAULT") _ c.in-text-3.is c.arithmetic-in-text-3.ensures refl

pub returns-in-text-4-clause-line : goal.returns-in-text-4-clause-line
returns-in-text-4-clause-line c = of_lines _ (codes "arithmetic: overflow") (codes "arithmetic: overflow, arithmetic: overflow at row N") _ c.in-text-4.is c.overflow.ensures refl

pub returns-in-text-5-clause-line : goal.returns-in-text-5-clause-line
returns-in-text-5-clause-line c = of_lines _ (codes "arithmetic: division by zero") (codes "arithmetic: division by zero, arithmetic: division by zero at row N") _ c.in-text-5.is c.division.ensures refl

pub returns-in-text-6-clause-line : goal.returns-in-text-6-clause-line
returns-in-text-6-clause-line c = of_lines _ (codes "arithmetic: sum out of range") (codes "arithmetic: sum out of range") _ c.in-text-6.is c.sum.ensures refl

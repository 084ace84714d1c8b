use Rattle.std.proofs.Common.{refl, arith}
use Rattle.refusals.proofs.FoundLines.{of_code}
use Rattle.refusals.proofs.table.of_rows.Goals as goal

pub returns-in-7-clause-line : goal.returns-in-7-clause-line
returns-in-7-clause-line c = of_code _ _ _ 7 c.in-7.is (omega arith) refl

pub returns-in-8-clause-line : goal.returns-in-8-clause-line
returns-in-8-clause-line c = of_code _ _ _ 8 c.in-8.is (omega arith) refl

pub returns-in-9-clause-line : goal.returns-in-9-clause-line
returns-in-9-clause-line c = of_code _ _ _ 9 c.in-9.is (omega arith) refl

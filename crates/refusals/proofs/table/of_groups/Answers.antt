use Rattle.std.proofs.Common.{refl, arith}
use Rattle.refusals.proofs.FoundLines.{of_code}
use Rattle.refusals.proofs.table.of_groups.Goals as goal

pub returns-in-8-clause-line : goal.returns-in-8-clause-line
returns-in-8-clause-line c = of_code _ _ _ 8 c.in-8.is (omega arith) refl

pub returns-in-9-clause-line : goal.returns-in-9-clause-line
returns-in-9-clause-line c = of_code _ _ _ 9 c.in-9.is (omega arith) refl

pub returns-in-10-clause-line : goal.returns-in-10-clause-line
returns-in-10-clause-line c = of_code _ _ _ 10 c.in-10.is (omega arith) refl

pub returns-in-11-clause-line : goal.returns-in-11-clause-line
returns-in-11-clause-line c = of_code _ _ _ 11 c.in-11.is (omega arith) refl

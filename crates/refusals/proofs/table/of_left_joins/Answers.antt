use Rattle.std.proofs.Common.{refl, arith}
use Rattle.refusals.proofs.FoundLines.{of_code}
use Rattle.refusals.proofs.table.of_left_joins.Goals as goal

pub returns-in-12-clause-line : goal.returns-in-12-clause-line
returns-in-12-clause-line c = of_code _ _ _ 12 c.in-12.is (omega arith) refl

pub returns-in-13-clause-line : goal.returns-in-13-clause-line
returns-in-13-clause-line c = of_code _ _ _ 13 c.in-13.is (omega arith) refl

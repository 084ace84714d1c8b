use Rattle.std.proofs.Common.{refl, arith}
use Rattle.refusals.proofs.FoundLines.{of_code, of_either}
use Rattle.refusals.proofs.table.of_cut.Goals as goal

pub returns-in-1-clause-line : goal.returns-in-1-clause-line
returns-in-1-clause-line c = of_either _ _ _ 1 3 c.in-1.is (omega arith) (omega arith) refl refl

pub returns-in-2-clause-line : goal.returns-in-2-clause-line
returns-in-2-clause-line c = of_code _ _ _ 2 c.in-2.is (omega arith) refl

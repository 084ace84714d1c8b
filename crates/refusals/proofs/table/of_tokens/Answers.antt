use Rattle.std.proofs.Common.{refl, arith}
use Rattle.refusals.proofs.FoundLines.{of_code}
use Rattle.refusals.proofs.table.of_tokens.Goals as goal

pub returns-in-1-clause-line : goal.returns-in-1-clause-line
returns-in-1-clause-line c = of_code _ _ _ 1 c.in-1.is (omega arith) refl

pub returns-in-2-clause-line : goal.returns-in-2-clause-line
returns-in-2-clause-line c = of_code _ _ _ 2 c.in-2.is (omega arith) refl

pub returns-in-3-clause-line : goal.returns-in-3-clause-line
returns-in-3-clause-line c = of_code _ _ _ 3 c.in-3.is (omega arith) refl

pub returns-in-4-clause-line : goal.returns-in-4-clause-line
returns-in-4-clause-line c = of_code _ _ _ 4 c.in-4.is (omega arith) refl

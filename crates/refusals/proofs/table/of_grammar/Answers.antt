use Rattle.std.proofs.Common.{refl, arith}
use Rattle.refusals.proofs.FoundLines.{of_code}
use Rattle.refusals.proofs.table.of_grammar.Goals as goal

pub returns-in-5-clause-line : goal.returns-in-5-clause-line
returns-in-5-clause-line c = of_code _ _ _ 5 c.in-5.is (omega arith) refl

pub returns-in-6-clause-line : goal.returns-in-6-clause-line
returns-in-6-clause-line c = of_code _ _ _ 6 c.in-6.is (omega arith) refl

pub returns-in-7-clause-line : goal.returns-in-7-clause-line
returns-in-7-clause-line c = of_code _ _ _ 7 c.in-7.is (omega arith) refl

pub returns-in-8-clause-line : goal.returns-in-8-clause-line
returns-in-8-clause-line c = of_code _ _ _ 8 c.in-8.is (omega arith) refl

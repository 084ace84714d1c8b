use Rattle.std.proofs.Common.{refl, rules, arith}
use Rattle.refusals.proofs.FoundLines.{of_code, of_three}
use Rattle.refusals.proofs.table.of_file.Goals as goal

pub returns-in-1-clause-line : goal.returns-in-1-clause-line
returns-in-1-clause-line c = of_code _ _ _ 1 c.in-1.is (omega arith) refl

pub returns-in-2-clause-line : goal.returns-in-2-clause-line
returns-in-2-clause-line c = of_three _ _ _ 2 (search rules) (search rules) (omega arith) refl refl refl

pub returns-in-7-clause-line : goal.returns-in-7-clause-line
returns-in-7-clause-line c = of_code _ _ _ 7 c.in-7.is (omega arith) refl

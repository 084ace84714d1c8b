use Rattle.std.proofs.Common.{refl, rules, arith}
use Rattle.refusals.proofs.FoundLines.{of_code, of_either, one_of_two, of_three}
use Rattle.refusals.proofs.table.of_gather.Goals as goal

pub returns-in-1-clause-line : goal.returns-in-1-clause-line
returns-in-1-clause-line c = of_code _ _ _ 1 c.in-1.is (omega arith) refl

pub returns-in-2-clause-line : goal.returns-in-2-clause-line
returns-in-2-clause-line c = of_three _ _ _ 2 (search rules) (search rules) (omega arith) refl refl refl

pub returns-in-5-clause-line : goal.returns-in-5-clause-line
returns-in-5-clause-line c = of_three _ _ _ 5 (search rules) (search rules) (omega arith) refl refl refl

pub returns-in-8-clause-line : goal.returns-in-8-clause-line
returns-in-8-clause-line c = of_code _ _ _ 8 c.in-8.is (omega arith) refl

pub returns-in-9-clause-line : goal.returns-in-9-clause-line
returns-in-9-clause-line c = of_either _ _ _ 9 10 (one_of_two c.args.number 9 (search rules) (search rules)) (omega arith) (omega arith) refl refl

use Rattle.std.proofs.Common.{refl, rules, arith}
use Rattle.refusals.proofs.FoundLines.{of_code, of_either, one_of_two}
use Rattle.refusals.proofs.table.of_journal.Goals as goal

pub returns-in-12-clause-line : goal.returns-in-12-clause-line
returns-in-12-clause-line c = of_either _ _ _ 12 13 (one_of_two c.args.number 12 (search rules) (search rules)) (omega arith) (omega arith) refl refl

pub returns-in-14-clause-line : goal.returns-in-14-clause-line
returns-in-14-clause-line c = of_code _ _ _ 14 c.in-14.is (omega arith) refl

pub returns-in-15-clause-line : goal.returns-in-15-clause-line
returns-in-15-clause-line c = of_code _ _ _ 15 c.in-15.is (omega arith) refl

pub returns-in-16-clause-line : goal.returns-in-16-clause-line
returns-in-16-clause-line c = of_code _ _ _ 16 c.in-16.is (omega arith) refl

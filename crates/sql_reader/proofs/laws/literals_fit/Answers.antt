-- Proofs of the goals of `literals_fit` (`laws`).
use Rattle.sql_reader.proofs.FittingLiterals.{literals_fit}
use Rattle.sql_reader.proofs.laws.literals_fit.Goals as goal

pub returns : goal.returns
returns c = literals_fit

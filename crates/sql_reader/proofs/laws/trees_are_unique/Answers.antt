-- Proofs of the goals of `trees_are_unique` (`laws`).
use Rattle.sql_reader.proofs.Answering.{one_tree}
use Rattle.sql_reader.proofs.laws.trees_are_unique.Goals as goal

pub returns : goal.returns
returns c = one_tree

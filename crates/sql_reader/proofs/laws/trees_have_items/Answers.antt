-- Proofs of the goals of `trees_have_items` (`laws`).
use Rattle.sql_reader.proofs.FittingLiterals.{items_there}
use Rattle.sql_reader.proofs.laws.trees_have_items.Goals as goal

pub returns : goal.returns
returns c = items_there

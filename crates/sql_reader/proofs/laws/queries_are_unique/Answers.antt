-- Proofs of the goals of `queries_are_unique`.
use Rattle.sql_reader.proofs.CompleteQuery.{unique_query}
use Rattle.sql_reader.proofs.laws.queries_are_unique.Goals as goal

pub returns : goal.returns
returns c = λ ts q r s t. unique_query s t

-- Proofs of the goals of `loaded_tables_fit` (`laws`).
use Rattle.meaning_laws.proofs.LoadedQueries.{loaded_tables}
use Rattle.meaning_laws.proofs.laws.loaded_tables_fit.Goals as goal

pub returns : goal.returns
returns c = loaded_tables

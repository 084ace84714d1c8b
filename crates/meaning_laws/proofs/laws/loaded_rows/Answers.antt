-- Proofs of the goals of `loaded_rows` (`laws`).
use Rattle.meaning_laws.proofs.LoadedTables.{rows_typed, keys_unique}
use Rattle.meaning_laws.proofs.laws.loaded_rows.Goals as goal

pub returns-clause-typed : goal.returns-clause-typed
returns-clause-typed c = rows_typed

pub returns-clause-unique : goal.returns-clause-unique
returns-clause-unique c = keys_unique

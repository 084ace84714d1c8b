-- Proofs of the goals of `checked_tables` (`tables`).
use Rattle.std.proofs.lemmas.Result.{err_from_is_err_and}
use Rattle.coordinator.specs.Whole.{files_in}
use Rattle.coordinator.proofs.TableFaults.{tables_refused}
use Rattle.coordinator.proofs.tables.checked_tables.Goals as goal

pub returns-in_err-tables-clause-refused : goal.returns-in_err-tables-clause-refused
returns-in_err-tables-clause-refused c =
    let p = err_from_is_err_and c.from_residual.result c.from_residual.ensures.1 in
    rw (p.1, p.2) (tables_refused c.args.catalog.now (files_in c.args.sources.csvs.now) c.args.sources.cut.now c.args.plan.now c.args.sources.vector_len c.in_err-tables.field-0.0 c.in_err-tables.ensures.refused)

-- Proofs of the goals of `plan_of` (`job`).
use Rattle.jobs.proofs.Refusals.{no_query}
use Rattle.jobs.proofs.job.plan_of.Goals as goal

pub returns-in-Err-Sql-clause-refused : goal.returns-in-Err-Sql-clause-refused
returns-in-Err-Sql-clause-refused c =
    no_query c.args.catalog.now c.args.query.now c.as_bytes.result.now c.in-Err-Sql.field-0 c.in-Err-Sql.fault c.as_bytes.ensures.value c.in-Err-Sql.field-0-is c.in-Err-Sql.ensures.refused

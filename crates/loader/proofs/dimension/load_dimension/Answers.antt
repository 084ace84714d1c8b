-- Proofs of the goals of `load_dimension` (`dimension`).
use Rattle.std.proofs.Common.{◌∙◌, subst}
use Rattle.meaning.specs.Limits.{max_rows}
use Rattle.loader.specs.Source.{csv_records}
use Rattle.loader.specs.Steps.{keyed_rows, TakesTable}
use Rattle.loader.proofs.DimensionSteps.{opened_dimension, table_loaded}
use Rattle.loader.proofs.dimension.load_dimension.Goals as goal

pub returns-clause-loaded : goal.returns-clause-loaded
returns-clause-loaded g c bytes known =
    let rows = c.in_ok-rows.rows in
    let d = c.args.dimension.now in
    let (header, others, all, ordered, left) = c.in_ok-rows.ensures.opened bytes known in
    let table = opened_dimension d rows.declared.now (csv_records bytes) header others rows.order.columns.items (c.in_ok-rows.ensures.declared.0 ∙ c.as_slice.ensures) all (rw c.in_ok-rows.ensures.declared.0 ordered) in
    rw table (table_loaded rows.declared.now (keyed_rows rows.declared.now rows.order.columns.items d.key max_rows others) c.keyed_columns-columns.result (subst (λ most. TakesTable rows.declared.now (keyed_rows rows.declared.now rows.order.columns.items d.key most others) c.keyed_columns-columns.result) c.from.ensures (c.keyed_columns-columns.ensures.taken others left)))

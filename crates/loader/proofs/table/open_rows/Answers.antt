-- Proofs of the goals of `open_rows` (`table`).
use Rattle.loader.specs.Source.{csv_records}
use Rattle.loader.proofs.table.open_rows.Goals as goal

pub returns-in-Ok-clause-opened : goal.returns-in-Ok-clause-opened
returns-in-Ok-clause-opened g c bytes known = c.in-Ok.ensures.opened (csv_records bytes) (c.csv_reader-reader.ensures bytes known)

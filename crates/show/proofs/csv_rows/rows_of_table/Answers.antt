-- Proofs of the goals of `rows_of_table` (`csv_rows`).
use Rattle.std.proofs.Common.{Some, rules}
use Rattle.std.proofs.lemmas.Result.{on_ok_weaker}
use Rattle.show.specs.Rows.{rows_text}
use Rattle.show.proofs.RowsShown.{csv_is}
use Rattle.show.proofs.csv_rows.rows_of_table.Goals as goal

pub returns-in-Ok : goal.returns-in-Ok
returns-in-Ok c =
    let fresh = c.from_writer-writer.ensures in
    let none = c.new-2.ensures.items in
    on_ok_weaker c.write_table-written.result (λ said t rest is.
    csv_is c.from_writer-writer.result c.write_table-written.new.writer (λ v. Some v.items) c.in-Ok.csv.items (rows_text c.args.most t) (search rules) (said t rest is) c.in-Ok.ensures.ok) c.write_table-written.ensures

-- Proofs of the goals of `write_table` (`csv_rows`).
use Rattle.std.proofs.Common.{◌∙◌}
use Rattle.std.proofs.lemmas.Result.{on_ok_weaker}
use Rattle.show.proofs.RowsShown.{table_written}
use Rattle.show.proofs.csv_rows.write_table.Goals as goal

pub returns : goal.returns
returns g c =
    let (front, front_is, shown, rows) = c.in_ok-rows.ensures.shown in
    let (columns, columns_are, shown_too, same) = c.in_ok-columns.ensures.shown in
    on_ok_weaker c.write_groups.result
    (table_written c.args.most c.args.cursor.now.bytes.now c.args.cursor.now.rest.now front c.show_front.new.cursor.rest.now columns c.show_columns.new.cursor.rest.now c.as_slice-columns.result.now c.in_ok-rows.rows c.show_columns.new.cursor.bytes.now _ _ _ front_is columns_are rows
    (c.as_slice-columns.ensures.value ∙ same) (c.in_ok-columns.ensures.part.1 ∙ c.in_ok-rows.ensures.part.1) c.in_ok-write_header.ensures.text) c.write_groups.ensures

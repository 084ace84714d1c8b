-- Proofs of the goals of `csv_of` (`showing`).
use Rattle.std.proofs.Common.{◌∙◌}
use Rattle.std.proofs.lemmas.Result.{on_ok_weaker}
use Rattle.table_text.specs.TableText.{table_at}
use Rattle.show.proofs.Parts.{behind_magic}
use Rattle.show.proofs.showing.csv_of.Goals as goal

pub returns-in-Ok : goal.returns-in-Ok
returns-in-Ok c =
    let bytes = c.args.bytes.now in
    let taken = c.in-Ok.ensures in
    let behind = behind_magic bytes c.new-cursor.result.rest.now c.in-Ok.field-0.now c.take_bytes.new.self.rest.now c.new-cursor.ensures.rest taken.read in
    let whole = taken.part.1 ∙ c.new-cursor.ensures.bytes in
    on_ok_weaker c.rows_of_table.result.1 (λ said t rest is. said t rest ((λ i. table_at (whole i) (behind i)) ∙ is)) c.rows_of_table.ensures

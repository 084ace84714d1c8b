-- Proofs of the goals of `table_file` (`table_files`).
use Rattle.std.proofs.Common.{IfOk, Ok, Err, sym, refl, arith}
use Rattle.std.specs.Prelude.{Result}
use Rattle.fragment_file.specs.Fragment.{table_header}
use Rattle.job_files.proofs.RowFiles.{file_of_columns}
use Rattle.coordinator.proofs.TableFiles.{all_fileable, counted_first, table_stands}
use Rattle.coordinator.proofs.table_files.table_file.Goals as goal

weaker : {X E : Type 0} {P Q : X → Type 0} (r : Result X E) → ((x : X) → P x → Q x) → IfOk r P → IfOk r Q
weaker (Ok x) more p = more x p
weaker (Err e) more p = tt

pub overflow_cast-slice : goal.overflow_cast-slice
overflow_cast-slice c =
    let (rows, are) = c.requires in
    let counted = counted_first c.args.table.now rows c.args.columns.now c.count_rows.result are c.count_rows.ensures in
    let few = are.few in
    omega (arith, counted, few)

pub file_of-requires : goal.file_of-requires
file_of-requires c =
    let (rows, are) = c.requires in
    all_fileable (record { table = c.args.table; columns = c.args.columns; slice = record { fragment = 0; first_row = 0; rows = c.count_rows.result } }) rows c.count_rows.result are
    (counted_first c.args.table.now rows c.args.columns.now c.count_rows.result are c.count_rows.ensures) refl

pub returns-clause-rows : goal.returns-clause-rows
returns-clause-rows c = weaker c.file_of.result (λ bytes stands rows are.
    file_of_columns bytes.items (table_header 0 c.args.table.now (record { fragment = 0; first_row = 0; rows = c.count_rows.result })) c.args.columns.now rows stands are.columns_are
    (sym (counted_first c.args.table.now rows c.args.columns.now c.count_rows.result are c.count_rows.ensures)) are.typed) c.file_of.ensures

pub returns-clause-file : goal.returns-clause-file
returns-clause-file c = weaker c.file_of.result (λ bytes stands rows are.
    table_stands c.args.table.now rows c.args.columns.now c.count_rows.result bytes.items are (counted_first c.args.table.now rows c.args.columns.now c.count_rows.result are c.count_rows.ensures) stands) c.file_of.ensures

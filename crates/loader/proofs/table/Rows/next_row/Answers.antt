-- Proofs of the goals of `Rows::next_row` (`table`).
use Rattle.std.proofs.Common.{refl}
use Rattle.std.proofs.lemmas.Result.{err_from_is_err_and}
use Rattle.csv.specs.Records.{fields_of}
use Rattle.loader.proofs.Steps.{none_taken, one_taken, row_refused}
use Rattle.loader.proofs.table.Rows.next_row.Goals as goal

pub returns-then-not-branch-clause-taken : goal.returns-then-not-branch-clause-taken
returns-then-not-branch-clause-taken g c rest left =
    (none_taken g.R.Read.remaining c.next_record.new.reader rest (fields_of c.next_record.new.row) c.in_ok-next_record.field-0 c.if-not-branch.true (c.in_ok-next_record.ensures.taken rest left), refl)

pub returns-in_err-take_record-clause-taken : goal.returns-in_err-take_record-clause-taken
returns-in_err-take_record-clause-taken g c rest left =
    let (others, first, on) = one_taken g.R.Read.remaining c.next_record.new.reader rest (fields_of c.next_record.new.row) c.in_ok-next_record.field-0 c.if-not-branch.false (c.in_ok-next_record.ensures.taken rest left) in
    let p = err_from_is_err_and c.from_residual-in_err-take_record.result c.from_residual-in_err-take_record.ensures.1 in
    rw (p.1, p.2) (row_refused g.R.Read.remaining c.next_record.new.reader rest (fields_of c.next_record.new.row) c.args.self.now.declared.now c.args.self.now.order.columns.items c.args.row c.args.columns.now c.take_record.new.columns others first c.in_err-take_record.field-0.0 c.in_err-take_record.ensures.taken)

pub returns-clause-taken : goal.returns-clause-taken
returns-clause-taken g c rest left =
    let (others, first, on) = one_taken g.R.Read.remaining c.next_record.new.reader rest (fields_of c.next_record.new.row) c.in_ok-next_record.field-0 c.if-not-branch.false (c.in_ok-next_record.ensures.taken rest left) in
    let (row, judged, columns) = c.in_ok-take_record.ensures.taken in
    (fields_of c.next_record.new.row, others, row, first, judged, columns, rw c.take_record.ensures.reader on)

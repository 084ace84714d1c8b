-- Proofs of the goals of `read_header` (`table`).
use Rattle.std.proofs.Common.{refl}
use Rattle.csv.specs.Records.{fields_of}
use Rattle.loader.proofs.Steps.{none_taken, one_taken, opened}
use Rattle.loader.proofs.TextFields.{order_returned}
use Rattle.loader.proofs.table.read_header.Goals as goal

pub returns-then-not-branch-clause-opened : goal.returns-then-not-branch-clause-opened
returns-then-not-branch-clause-opened g c rest left =
    rw (none_taken g.R.Read.remaining c.next_record.new.reader rest (fields_of c.next_record.new.row) c.in_ok-next_record.field-0 c.if-not-branch.true (c.in_ok-next_record.ensures.taken rest left)) refl

pub returns-clause-opened : goal.returns-clause-opened
returns-clause-opened g c rest left =
    let (others, first, on) = one_taken g.R.Read.remaining c.next_record.new.reader rest (fields_of c.next_record.new.row) c.in_ok-next_record.field-0 c.if-not-branch.false (c.in_ok-next_record.ensures.taken rest left) in
    opened g.R.Read.remaining c.next_record.new.reader c.args.declared.now (λ order. order.columns.items) rest others (fields_of c.next_record.new.row) first on c.order_of.result c.order_of.ensures.read

pub returns-clause-declared : goal.returns-clause-declared
returns-clause-declared g c = order_returned c.args.declared.now (fields_of c.next_record.new.row) c.order_of.result c.order_of.ensures.read

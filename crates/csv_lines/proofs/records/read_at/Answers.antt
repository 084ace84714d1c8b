-- Proofs of the goals of `read_at` (`records`).
use Rattle.std.proofs.Common.{drop}
use Rattle.std.proofs.lemmas.Result.{IfOk-weaker}
use Rattle.csv.specs.Records.{fields_of}
use Rattle.csv_lines.proofs.Passing.{skips_all, skips_none, taken_at}
use Rattle.csv_lines.proofs.records.read_at.Goals as goal

pub returns-then-not-branch-clause-taken : goal.returns-then-not-branch-clause-taken
returns-then-not-branch-clause-taken g c = λ rest left.
    skips_none g.R.Read.remaining c.skip_records.new.reader c.args.index rest c.in_ok-skip_records.field-0 c.if-not-branch.true (c.in_ok-skip_records.ensures.skipped rest left)

pub returns-clause-taken : goal.returns-clause-taken
returns-clause-taken g c = IfOk-weaker c.next_record.result _ _ (λ found taken rest left.
    taken_at g.R.Read.remaining c.next_record.new.reader c.args.index rest found (fields_of c.next_record.new.row)
    (taken (drop c.args.index rest) (skips_all g.R.Read.remaining c.skip_records.new.reader c.args.index rest c.in_ok-skip_records.field-0 c.if-not-branch.false (c.in_ok-skip_records.ensures.skipped rest left)))) c.next_record.ensures.taken

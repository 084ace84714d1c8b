-- Proofs of the goals of `read_names` (`reading`).
use Rattle.std.proofs.Common.{sym, subst}
use Rattle.std.proofs.lemmas.Result.{IfErr-weaker, IfOk-weaker}
use Rattle.csv.specs.Records.{fields_of}
use Rattle.init.specs.Shown.{IsLack, shown}
use Rattle.init.proofs.Showing.{lacking_shown, no_header, none_next, one_next}
use Rattle.init.proofs.reading.read_names.Goals as goal

pub returns-then-not-branch-clause-lacking : goal.returns-then-not-branch-clause-lacking
returns-then-not-branch-clause-lacking g c = λ rows left.
    no_header c.as_str.result.now rows c.of_path.result (none_next g.R.Read.remaining c.next_row.new.reader rows c.in_ok-next_row.field-0 (fields_of c.next_row.new.row) c.if-not-branch.true (c.in_ok-next_row.ensures.taken rows left)) c.of_path.ensures

pub returns-clause-named : goal.returns-clause-named
returns-clause-named g c = IfOk-weaker c.names_of.result _ _ (λ names is rows left.
    let header = fields_of c.next_row.new.row in
    let (others, are, later) = one_next g.R.Read.remaining c.next_row.new.reader rows c.in_ok-next_row.field-0 header c.if-not-branch.false (c.in_ok-next_row.ensures.taken rows left) in
    (header, others, are, is, later)) c.names_of.ensures.named

pub returns-clause-lacking : goal.returns-clause-lacking
returns-clause-lacking g c = IfErr-weaker c.names_of.result _ _ (λ e of rows left.
    let header = fields_of c.next_row.new.row in
    let (others, are, later) = one_next g.R.Read.remaining c.next_row.new.reader rows c.in_ok-next_row.field-0 header c.if-not-branch.false (c.in_ok-next_row.ensures.taken rows left) in
    subst (λ rs. IsLack (shown rs) e) (sym are) (lacking_shown header others e of)) c.names_of.ensures.lacking

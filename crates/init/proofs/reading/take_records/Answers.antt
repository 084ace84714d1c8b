-- Proofs of the goals of `take_records` (`reading`).
use Rattle.std.proofs.Common.{◌∷◌, [], ◌++◌, ◌∙◌, length}
use Rattle.csv.specs.Records.{fields_of}
use Rattle.init.proofs.Showing.{grown, none_left, none_next, one_gone, one_next}
use Rattle.init.proofs.reading.take_records.Goals as goal

pub returns-then-not-branch-clause-taken : goal.returns-then-not-branch-clause-taken
returns-then-not-branch-clause-taken g c = λ rows left empty.
    let (seen, rest, are, now, found) = c.loop.invariant.1 rows left empty in
    let none = none_next g.R.Read.remaining c.next_row.new.reader rest c.in_ok-next_row.field-0 (fields_of c.next_row.new.row) c.if-not-branch.true (c.in_ok-next_row.ensures.taken rest now) in
    none_left (length c.args.findings.now) rows seen rest c.loop.findings are none found

pub loop-preserved : goal.loop-preserved
loop-preserved g c = (
  c.take_fields.ensures.length ∙ c.loop.invariant.0,
  λ rows left empty.
      let (seen, rest, are, now, found) = c.loop.invariant.1 rows left empty in
      let row = fields_of c.next_row.new.row in
      let (others, is, later) = one_next g.R.Read.remaining c.next_row.new.reader rest c.in_ok-next_row.field-0 row c.if-not-branch.false (c.in_ok-next_row.ensures.taken rest now) in
      (seen ++ row ∷ [], others, one_gone rows seen rest row others are is, later, grown (length c.loop.findings) (length c.args.findings.now) seen row c.loop.findings c.take_fields.new.findings c.loop.invariant.0 c.take_fields.ensures.taken found),
)

-- Proofs of the goals of `skip_records` (`records`).
use Rattle.std.proofs.Common.{◌≡◌, drop, subst, arith}
use Rattle.csv.specs.Records.{fields_of}
use Rattle.loader.specs.Source.{IsLeft}
use Rattle.csv_lines.proofs.Passing.{none_there, one_skipped}
use Rattle.csv_lines.proofs.records.skip_records.Goals as goal

pub returns-then-not-branch-clause-skipped : goal.returns-then-not-branch-clause-skipped
returns-then-not-branch-clause-skipped g c = λ rest left.
    none_there g.R.Read.remaining c.next_record.new.reader rest c.loop.counter c.args.count c.in_ok-next_record.field-0 (fields_of c.next_record.new.row) c.if-not-branch.true c.loop.invariant.0
    (c.in_ok-next_record.ensures.taken (drop c.loop.counter rest) (c.loop.invariant.1 rest left))

pub loop-preserved : goal.loop-preserved
loop-preserved g c = (
  omega (arith, c.loop-test.true),
  λ rest left.
      one_skipped g.R.Read.remaining c.next_record.new.reader rest c.loop.counter c.in_ok-next_record.field-0 (fields_of c.next_record.new.row) c.if-not-branch.false
      (c.in_ok-next_record.ensures.taken (drop c.loop.counter rest) (c.loop.invariant.1 rest left)),
)

pub returns-clause-skipped : goal.returns-clause-skipped
returns-clause-skipped g c = λ rest left.
    let all : c.loop.counter ≡ c.args.count = let past = c.loop-test.false in let within = c.loop.invariant.0 in omega (arith, past, within) in
    subst (λ n. IsLeft g.R.Read.remaining c.loop.reader (drop n rest)) all (c.loop.invariant.1 rest left)

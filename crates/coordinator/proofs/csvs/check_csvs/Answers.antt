-- Proofs of the goals of `check_csvs` (`csvs`).
use Rattle.std.proofs.Common.{[], ◌∷◌, ◌++◌, arith}
use Rattle.std.proofs.lemmas.Result.{err_from_is_err_and}
use Rattle.coordinator.specs.Whole.{csv_of, files_in}
use Rattle.coordinator.proofs.InTurn.{begins, next, stops, ends}
use Rattle.coordinator.proofs.csvs.check_csvs.Goals as goal

pub loop-join-init : goal.loop-join-init
loop-join-init c = ([], begins (λ j. csv_of (files_in c.args.csvs.now) j.dim.name) c.args.joins.now)

pub loop-join-preserved : goal.loop-join-preserved
loop-join-preserved c =
    let (before, judged) = c.loop-join.invariant in (
      before ++ c.in_ok-csv_of.field-0.now ∷ [],
      next (λ j. csv_of (files_in c.args.csvs.now) j.dim.name) c.args.joins.now c.loop-join.join-index before c.join-item.result c.in_ok-csv_of.field-0.now c.loop-join-test.true c.join-item.is
          c.in_ok-csv_of.ensures judged,
    )

pub returns-in_err-csv_of-clause-refused : goal.returns-in_err-csv_of-clause-refused
returns-in_err-csv_of-clause-refused c =
    let (before, judged) = c.loop-join.invariant in
    let p = err_from_is_err_and c.from_residual.result c.from_residual.ensures.1 in
    rw (p.1, p.2) (λ other. stops (λ j. csv_of (files_in c.args.csvs.now) j.dim.name) c.args.joins.now c.loop-join.join-index before c.join-item.result c.in_err-csv_of.field-0.0 c.loop-join-test.true c.join-item.is
    (c.in_err-csv_of.ensures other) judged)

pub returns-clause-found : goal.returns-clause-found
returns-clause-found c =
    let (before, judged) = c.loop-join.invariant in (
      before,
      ends (λ j. csv_of (files_in c.args.csvs.now) j.dim.name) c.args.joins.now c.loop-join.join-index before (omega (arith, c.loop-join-test.false)) judged,
    )

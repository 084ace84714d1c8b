-- Proofs of the goals of `save_and_print` (`load`).
use Rattle.std.proofs.Common.{List, inl, inr}
use Rattle.std.proofs.lemmas.Result.{err_from_is_err_and}
use Rattle.loads.proofs.Finished.{begun_left, printed_left}
use Rattle.loads.proofs.Printed.{files_apart}
use Rattle.loads.proofs.Planned.{whole_stopped, whole_unprinted}
use Rattle.loads.proofs.load.save_and_print.Goals as goal

pub returns-in_err-saved-clause-left : goal.returns-in_err-saved-clause-left
returns-in_err-saved-clause-left g c =
    let p = err_from_is_err_and c.from_residual.result c.from_residual.ensures.1 in
    let target = c.args.target.now in
    let apart = files_apart target.directory.now target.catalog.now c.args.fact.cut c.in_err-saved.field-0.0 c.in_err-saved.ensures.refused in
    rw (p.1, p.2) (begun_left apart c.in_err-saved.ensures.left)

pub returns-clause-left : goal.returns-clause-left
returns-clause-left g c = printed_left _ _ _ c.print_line.result c.print_line.ensures.refused (λ fragments closed. c.in_ok-saved.ensures.written fragments closed)

pub returns-in_err-saved-clause-whole : goal.returns-in_err-saved-clause-whole
returns-in_err-saved-clause-whole g c =
    let p = err_from_is_err_and c.from_residual.result c.from_residual.ensures.1 in
    rw (p.1, p.2) (whole_stopped c.in_err-saved.ensures.whole)

pub returns-clause-whole : goal.returns-clause-whole
returns-clause-whole g c = whole_unprinted _ _ _ c.print_line.result c.print_line.ensures.refused

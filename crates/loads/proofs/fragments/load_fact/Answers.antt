-- Proofs of the goals of `load_fact` (`fragments`).
use Rattle.std.proofs.Common.{inr}
use Rattle.std.proofs.lemmas.Result.{err_from_is_err_and}
use Rattle.loads.proofs.fragments.load_fact.Goals as goal

pub returns-in_err-files-clause-refused : goal.returns-in_err-files-clause-refused
returns-in_err-files-clause-refused g c =
    let p = err_from_is_err_and c.from_residual-in_err-files.result c.from_residual-in_err-files.ensures.1 in
    rw (p.1, p.2) (inr (c.in_ok-counted.counted, c.in_ok-counted.ensures.counted, inr (c.in_ok-cut.cut, c.in_ok-cut.ensures.evenly, c.in_err-files.ensures.refused)))

-- Proofs of the goals of `read_cells` (`gather`).
use Rattle.std.proofs.lemmas.Result.{err_from_is_err_and}
use Rattle.gathering.proofs.StateFiles.{stopped_by_memory}
use Rattle.gathering.proofs.gather.read_cells.Goals as goal

pub returns-in_err-decode_state-clause-complete : goal.returns-in_err-decode_state-clause-complete
returns-in_err-decode_state-clause-complete c =
    let p = err_from_is_err_and c.from_residual.result c.from_residual.ensures.1 in
    λ cells spells. rw (p.1, p.2) (stopped_by_memory cells c.in_err-decode_state.field-0.0 (c.in_err-decode_state.ensures.complete cells spells))

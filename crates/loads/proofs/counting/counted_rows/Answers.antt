-- Proofs of the goals of `counted_rows` (`counting`).
use Rattle.std.proofs.Common.{subst}
use Rattle.folders.specs.Refused.{IsReturnedAs, load_refusal}
use Rattle.loads.proofs.Refusals.{uncounted}
use Rattle.loads.proofs.counting.counted_rows.Goals as goal

pub returns-in-Err-clause-refused : goal.returns-in-Err-clause-refused
returns-in-Err-clause-refused c =
    let directory = c.args.directory.now in
    uncounted directory c.args.table.now c.in-Err.fault c.load_refusal.result c.in-Err.ensures.refused
    (subst (λ t. IsReturnedAs (load_refusal directory t c.in-Err.fault) c.load_refusal.result) c.as_str.ensures c.load_refusal.ensures.returned)

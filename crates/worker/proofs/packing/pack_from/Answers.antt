-- Proofs of the goals of `pack_from` (`packing`).
use Rattle.std.proofs.Common.{◌∙◌, ◌++◌}
use Rattle.std.proofs.lemmas.Result.{IfOk-weaker}
use Rattle.group_by.proofs.Pieces.{up_to}
use Rattle.worker.proofs.packing.pack_from.Goals as goal

pub returns-in-Ok : goal.returns-in-Ok
returns-in-Ok c =
    let behind = (λ i. c.requires.before i ++ c.in-Ok.ensures i) ∙ up_to c.args.from c.args.to c.args.groups.now c.requires.ordered in
    IfOk-weaker c.pack_batch.result _ _ (λ x is. is ∙ behind) c.pack_batch.ensures

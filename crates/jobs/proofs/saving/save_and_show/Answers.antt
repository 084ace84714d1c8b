-- Proofs of the goals of `save_and_show` (`saving`).
use Rattle.std.proofs.lemmas.Result.{IfErr-weaker, err_from_is_err_and}
use Rattle.folders.proofs.Others.{other_tried}
use Rattle.jobs.proofs.Printed.{save_apart}
use Rattle.jobs.proofs.Unwritten.{unprinted_other}
use Rattle.jobs.proofs.saving.save_and_show.Goals as goal

pub returns-clause-unwritten : goal.returns-clause-unwritten
returns-clause-unwritten g c =
    IfErr-weaker c.show.result _ _ (λ e unprinted. other_tried (g.F.Folder.tries c.args.folder.now) e (unprinted_other e unprinted)) c.show.ensures.refused

pub returns-in_err-save_state-clause-saved : goal.returns-in_err-save_state-clause-saved
returns-in_err-save_state-clause-saved g c =
    let e = c.in_err-save_state.field-0.0 in
    let p = err_from_is_err_and c.from_residual.result c.from_residual.ensures.1 in
    rw (p.1, p.2) (λ is. absurd (save_apart c.args.command.now.save e c.in_err-save_state.ensures.refused is))

pub returns-clause-saved : goal.returns-clause-saved
returns-clause-saved g c =
    IfErr-weaker c.show.result _ _ (λ e unprinted is. c.in_ok-save_state.ensures.saved) c.show.ensures.refused

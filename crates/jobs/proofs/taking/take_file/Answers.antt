-- Proofs of the goals of `take_file` (`taking`).
use Rattle.std.proofs.Common.{subst, sym}
use Rattle.std.proofs.lemmas.Result.{IfErr-weaker}
use Rattle.folders.specs.Folder.{AreHeld}
use Rattle.jobs.proofs.TakenFiles.{file_refused}
use Rattle.jobs.proofs.taking.take_file.Goals as goal

pub returns-clause-refused : goal.returns-clause-refused
returns-clause-refused g c =
    let holds = g.F.Folder.holds c.args.folder.now in
    let held = subst (AreHeld (holds c.args.path.now)) (sym c.as_slice.ensures.value) c.in_ok-bytes.ensures.held in
    IfErr-weaker c.take_or_name.result _ _ (λ e unreturned. file_refused g.T.TakesAnswers.journaled holds c.args.path.now c.as_slice.result.now e held unreturned) c.take_or_name.ensures.refused

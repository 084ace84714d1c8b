-- Proofs of the goals of `answer_files` (`working`).
use Rattle.std.proofs.Common.{List, ℕ, Err, Ok, ap, map, subst, ◌∙◌}
use Rattle.partial_codec.proofs.Answers.{written_spells}
use Rattle.worker.specs.Held.{IsAnswered, IsTold}
use Rattle.jobs.proofs.ReadFiles.{told_refused}
use Rattle.jobs.proofs.working.answer_files.Goals as goal

pub returns-clause-refused : goal.returns-clause-refused
returns-clause-refused g c =
    let lent = ap (map (λ d. d.now)) c.as_slice.ensures.value ∙ c.in_ok-lent.ensures in
    told_refused c.args.job.now c.args.k c.args.vector c.args.path.now g.R.Read.remaining c.args.fragment c.args.dims.now c.in-Err.fault c.work_refusal.result
    (subst (λ (ds : List (List ℕ)). IsTold (Err c.in-Err.fault) (IsAnswered g.R.Read.remaining c.args.fragment c.args.job.now c.args.k c.args.vector ds)) lent c.in-Err.ensures.told)
    c.work_refusal.ensures.unread c.work_refusal.ensures.other

pub returns-in-Ok-clause-spelled : goal.returns-in-Ok-clause-spelled
returns-in-Ok-clause-spelled g c =
    let lent = ap (map (λ d. d.now)) c.as_slice.ensures.value ∙ c.in_ok-lent.ensures in
    let (fragment, may, meant) =
    subst (λ (ds : List (List ℕ)). IsTold (Ok c.in-Ok.answer) (IsAnswered g.R.Read.remaining c.args.fragment c.args.job.now c.args.k c.args.vector ds)) lent c.in-Ok.ensures.told in
    (fragment, may, record { answer = c.in-Ok.answer; meant = meant; spelled = written_spells c.args.job.now c.in_ok-bytes-in-Ok.field-0.items c.in-Ok.answer c.in-Ok.ensures.fits c.in_ok-bytes-in-Ok.ensures; written = c.in_ok-bytes-in-Ok.ensures })

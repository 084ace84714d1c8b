-- Proofs of the goals of `take_job` (`fields`).
use Rattle.std.proofs.Common.{rules}
use Rattle.answer_fields.proofs.ReadFields.{job_kept}
use Rattle.answer_fields.proofs.fields.take_job.Goals as goal

pub returns : goal.returns
returns c =
    job_kept c.args.bytes.now c.in_ok-load.rest.now c.in_ok-text.rest.now c.in_ok-fragments.rest.now (record { load = c.in_ok-load.load; text = c.in_ok-text.text; fragments = c.in_ok-fragments.fragments; cut = c.in_ok-cut.cut }) c.in_ok-cut.rest.now
    (search rules) (search rules) (search rules) (search rules) (search rules)

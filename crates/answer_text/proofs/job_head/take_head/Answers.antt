-- Proofs of the goals of `take_head` (`job_head`).
use Rattle.answer_fields.specs.declared.fields.JobFields.{JobFields}
use Rattle.answer_fields.proofs.ReadFields.{job_kept}
use Rattle.answer_text.proofs.Took.{kept}
use Rattle.answer_text.proofs.job_head.take_head.Goals as goal

pub returns-clause-read : goal.returns-clause-read
returns-clause-read c =
    let bytes = c.args.cursor.now.rest.now in
    let job : JobFields = record { load = c.in_ok-load.load; text = c.in_ok-text.text; fragments = c.in_ok-fragments.fragments; cut = c.in_ok-cut.cut } in
    let rest = c.take_lengths.new.cursor.rest.now in
    let (y, read, (are, same)) = job_kept bytes c.take_u64.new.self.rest.now c.take_query.new.cursor.rest.now c.take_u32.new.self.rest.now job rest
    c.in_ok-load.ensures.read c.in_ok-text.ensures.read c.in_ok-fragments.ensures.read c.in_ok-cut.ensures.read c.in_ok-cut.ensures.long in
    kept bytes rest job y read are same

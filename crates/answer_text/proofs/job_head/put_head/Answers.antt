-- Proofs of the goals of `put_head` (`job_head`).
use Rattle.std.proofs.Common.{◌++◌, ◌∙◌, ap, string_bytes}
use Rattle.std.proofs.lemmas.Result.{on_ok_weaker}
use Rattle.answer_text.specs.Texts.{job_lines}
use Rattle.answer_text.proofs.job_head.put_head.Goals as goal

pub returns : goal.returns
returns c =
    let job = c.args.job.now in
    on_ok_weaker c.put_job_lines.result (λ shown read are. shown ∙ (λ i. string_bytes c.args.out.now ++ job_lines (are.load i) (are.count i) (c.rows_in.ensures read are i) (are.text i))) c.put_job_lines.ensures

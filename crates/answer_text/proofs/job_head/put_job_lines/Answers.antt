-- Proofs of the goals of `put_job_lines` (`job_head`).
use Rattle.std.proofs.Common.{◌++◌, ◌∙◌, ap, append_assoc, codes, string_bytes}
use Rattle.answer_text.specs.Texts.{job_front, job_lines}
use Rattle.answer_text.proofs.Lists.{pushed}
use Rattle.answer_text.proofs.job_head.put_job_lines.Goals as goal

pub returns : goal.returns
returns c =
    let old = string_bytes c.args.out.now in
    let front = job_front c.args.load c.args.fragments c.args.rows in
    let query = c.args.query.now in
    pushed c.push_str-2.result (string_bytes c.push_str-2.new.self) (string_bytes c.push_str.new.self) (codes "\n") (old ++ job_lines c.args.load c.args.fragments c.args.rows query) c.push_str-2.ensures.bytes
    (ap (λ t. t ++ codes "\n") (c.in_ok-push_str.ensures.bytes ∙ ap (λ t. t ++ query) c.in_ok-put_job_front.ensures) ∙ append_assoc (old ++ front) query (codes "\n") ∙ append_assoc old front (query ++ codes "\n"))

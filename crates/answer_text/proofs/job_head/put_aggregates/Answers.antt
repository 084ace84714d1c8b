-- Proofs of the goals of `put_aggregates` (`job_head`).
use Rattle.std.proofs.Common.{◌++◌, ◌≡◌, ◌∙◌, ap, append_assoc, codes, string_bytes, sym}
use Rattle.answer_text.specs.Texts.{aggregate_text, aggregates_text, listed}
use Rattle.answer_text.proofs.Lists.{pushed, some_aggregates}
use Rattle.answer_text.proofs.job_head.put_aggregates.Goals as goal

pub returns : goal.returns
returns c =
    let all = c.args.aggregates.now in
    let listing = listed (codes "aggregates: ") aggregate_text all in
    let text : (string_bytes c.args.out.now ++ listing) ++ codes "\n" ≡ string_bytes c.args.out.now ++ aggregates_text all =
    append_assoc (string_bytes c.args.out.now) listing (codes "\n") ∙ ap (λ t. string_bytes c.args.out.now ++ t) (sym (some_aggregates all (sym c.is_empty.ensures ∙ c.if-is_empty.false))) in
    pushed c.push_str-2.result (string_bytes c.push_str-2.new.self) (string_bytes c.put_all.new.out) (codes "\n") (string_bytes c.args.out.now ++ aggregates_text all) c.push_str-2.ensures.bytes
    (ap (λ t. t ++ codes "\n") c.in_ok-put_all.ensures ∙ text)

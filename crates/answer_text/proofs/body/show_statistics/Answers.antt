-- Proofs of the goals of `show_statistics` (`body`).
use Rattle.std.proofs.Common.{◌++◌, ◌∙◌, ap, append_assoc, codes, string_bytes, sym}
use Rattle.answer_fields.specs.LayoutReading.{state_at}
use Rattle.answer_text.specs.Texts.{aggregate_text, known_text, state_text}
use Rattle.answer_text.proofs.Showing.{shows_in_front}
use Rattle.answer_text.proofs.body.show_statistics.Goals as goal

pub returns-clause-shown : goal.returns-clause-shown
returns-clause-shown c =
    let a = c.args.aggregate in
    shows_in_front (state_at a.kind c.args.cursor.now.rest.now) (known_text a.kind) (state_text a) (codes "; " ++ aggregate_text a) c.show_known.result (string_bytes c.args.out.now) (string_bytes c.put_aggregate.new.out)
    (string_bytes c.show_known.new.out) c.show_known.new.cursor.rest.now
    (c.in_ok-put_aggregate.ensures ∙ ap (λ t. t ++ aggregate_text a) c.in_ok-push_str.ensures.bytes ∙ append_assoc (string_bytes c.args.out.now) (codes "; ") (aggregate_text a))
    (λ s. sym (append_assoc (codes "; ") (aggregate_text a) (known_text a.kind s))) c.show_known.ensures.shown

-- Proofs of the goals of `plain` (`explaining`).
use Rattle.std.proofs.Common.{◌+◌, ap, subst, sym, ◌∙◌}
use Rattle.std.specs.Prelude.{IfSome, string_bytes}
use Rattle.refusals.specs.Lines.{IsOf}
use Rattle.refusals.specs.Texts.{is_plain}
use Rattle.tools.specs.Explained.{with_word}
use Rattle.tools.proofs.PlainLines.{IsSoFar, next_word}
use Rattle.tools.proofs.explaining.plain.Goals as goal

pub loop-word-preserved : goal.loop-word-preserved
loop-word-preserved c =
    let words = c.args.words.now in
    let count = c.loop-word.word-index in
    let line = string_bytes c.loop-word.line in
    let after = string_bytes c.add_word.new.line in
    let more = c.in_ok-add_word.ensures ∙ ap (with_word line) c.as_str.ensures in
    let text = c.as_str-in-loop-word.ensures.value in
    let plain = c.of_words.ensures.known ∙ ap is_plain text in
    let of = subst (λ l. IfSome c.of_words.result (IsOf l)) text c.of_words.ensures.line in
    subst (IsSoFar words (count + 1) after) (sym c.or-found.ensures)
    (next_word words count c.word-item.result line after c.of_words.result c.loop-word.found c.loop-word-test.true c.word-item.is c.loop-word.invariant more plain of)

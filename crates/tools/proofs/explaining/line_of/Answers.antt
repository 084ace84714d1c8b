-- Proofs of the goals of `line_of` (`explaining`).
use Rattle.std.proofs.Common.{ap, ◌∙◌}
use Rattle.std.specs.Prelude.{string_bytes}
use Rattle.tools.specs.Explained.{with_word}
use Rattle.tools.proofs.PlainLines.{next_line, whole_line}
use Rattle.tools.proofs.explaining.line_of.Goals as goal

pub loop-word-preserved : goal.loop-word-preserved
loop-word-preserved c =
    let line = string_bytes c.loop-word.line in
    next_line c.args.words.now c.loop-word.word-index c.word-item.result line (string_bytes c.add_word.new.line)
    c.loop-word-test.true c.word-item.is c.loop-word.invariant (c.in_ok-add_word.ensures ∙ ap (with_word line) c.as_str.ensures)

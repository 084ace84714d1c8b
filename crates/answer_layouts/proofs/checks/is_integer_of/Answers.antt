-- Proofs of the goals of `is_integer_of` (`checks`).
use Rattle.std.proofs.Common.{◌∙◌}
use Rattle.meaning.proofs.Words.{word_fits}
use Rattle.answer_layouts.proofs.Types.{integer_type}
use Rattle.answer_layouts.proofs.checks.is_integer_of.Goals as goal

pub returns : goal.returns
returns c = c.is_integer_type.ensures ∙ integer_type c.args.col_type c.args.int (word_fits c.args.int c.ranges.int)

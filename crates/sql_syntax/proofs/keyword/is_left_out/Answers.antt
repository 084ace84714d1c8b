-- Proofs of the goals of `is_left_out` (`keyword`).
use Rattle.sql_syntax.specs.Words.{is_left_out}
use Rattle.sql_syntax.proofs.keyword.is_left_out.Goals as goal

pub returns : goal.returns
unfolding is_left_out
returns c = c.is_among.ensures

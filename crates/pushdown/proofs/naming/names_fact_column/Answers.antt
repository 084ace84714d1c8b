-- Proofs of the goals of `names_fact_column` (`naming`).
use Rattle.std.proofs.Common.{◌∙◌}
use Rattle.pushdown.proofs.NamedIn.{finds}
use Rattle.pushdown.proofs.naming.names_fact_column.Goals as goal

pub returns : goal.returns
returns c = c.names.ensures ∙ finds c.args.column c.args.expr.now

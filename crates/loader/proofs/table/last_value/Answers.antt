-- Proofs of the goals of `last_value` (`table`).
use Rattle.std.proofs.Common.{sym, ◌∙◌, arith}
use Rattle.loader.proofs.TextFields.{column_text}
use Rattle.loader.proofs.table.last_value.Goals as goal

pub to_value-requires : goal.to_value-requires
to_value-requires c = λ text e. column_text c.args.column.now _ text c.len.ensures.column (omega (arith, c.len.ensures.value, c.len-2.ensures.value)) (sym c.get.ensures ∙ e)

-- Loop invariants of `Printer::put_more_items` (`printer`).
use Rattle.std.proofs.Common.{◌≡◌, drop}
use Rattle.sql_syntax.specs.Printing.{written, with_tokens, more_items}
use Rattle.sql_syntax.proofs.printer.Printer.put_more_items.Given as goal

abbrev pub invariant-loop-item : goal.invariant-loop-item
invariant-loop-item l = with_tokens (written l.self) (more_items (drop l.item-index l.items)) ≡ with_tokens (written l.initial.self) (more_items l.items)

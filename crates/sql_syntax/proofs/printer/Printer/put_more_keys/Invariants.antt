-- Loop invariants of `Printer::put_more_keys` (`printer`).
use Rattle.std.proofs.Common.{◌≡◌, drop}
use Rattle.sql_syntax.specs.Printing.{written, with_tokens, more_keys}
use Rattle.sql_syntax.proofs.printer.Printer.put_more_keys.Given as goal

abbrev pub invariant-loop-key : goal.invariant-loop-key
invariant-loop-key l = with_tokens (written l.self) (more_keys (drop l.key-index l.keys)) ≡ with_tokens (written l.initial.self) (more_keys l.keys)

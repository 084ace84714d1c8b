-- Loop invariants of `Printer::put_others` (`printer`).
use Rattle.std.proofs.Common.{◌≡◌, drop}
use Rattle.sql_syntax.specs.Printing.{written, with_tokens}
use Rattle.sql_syntax.specs.Queries.{others_tokens_of}
use Rattle.sql_syntax.proofs.printer.Printer.put_others.Given as goal

abbrev pub invariant-loop-joined : goal.invariant-loop-joined
invariant-loop-joined l = with_tokens (written l.self) (others_tokens_of (drop l.joined-index l.others)) ≡ with_tokens (written l.initial.self) (others_tokens_of l.others)

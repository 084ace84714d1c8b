-- Proofs of the goals of `print_journal` (`refusal_lines`).
use Rattle.std.proofs.Common.{sym}
use Rattle.cli.proofs.refusal_lines.print_journal.Goals as goal

pub returns : goal.returns
returns g c = rw (sym c.number.ensures) c.print_number.ensures

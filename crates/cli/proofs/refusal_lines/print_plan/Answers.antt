-- Proofs of the goals of `print_plan` (`refusal_lines`).
use Rattle.std.proofs.Common.{sym}
use Rattle.cli.proofs.refusal_lines.print_plan.Goals as goal

pub returns : goal.returns
returns g c = rw (sym c.number.ensures) c.print_number.ensures

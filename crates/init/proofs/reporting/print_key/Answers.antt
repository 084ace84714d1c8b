-- Proofs of the goals of `print_key` (`reporting`).
use Rattle.std.proofs.Common.{append_assoc, rules}
use Rattle.init.proofs.reporting.print_key.Goals as goal

pub returns : goal.returns
returns g c = search (rules, append_assoc)

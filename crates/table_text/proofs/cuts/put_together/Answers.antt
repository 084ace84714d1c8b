-- Proofs of the goals of `put_together` (`cuts`).
use Rattle.std.proofs.Common.{append_assoc, rules}
use Rattle.table_text.proofs.cuts.put_together.Goals as goal

pub returns : goal.returns
returns c = search (rules, append_assoc)

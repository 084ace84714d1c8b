-- Proofs of the goals of `put_numbered` (`journals`).
use Rattle.std.proofs.Common.{append_assoc, rules}
use Rattle.answer_text.proofs.journals.put_numbered.Goals as goal

pub returns : goal.returns
returns c = search (rules, append_assoc)

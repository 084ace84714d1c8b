-- Proofs of the goals of `lean_journals_open` (`laws`).
use Rattle.journal.proofs.Needed.{lean_few, lean_opens}
use Rattle.journal.proofs.laws.lean_journals_open.Goals as goal

pub returns-clause-few : goal.returns-clause-few
returns-clause-few c = lean_few

pub returns-clause-never_refused : goal.returns-clause-never_refused
returns-clause-never_refused c = lean_opens

-- Proofs of the goals of `more_rows` (`findings`).
use Rattle.std.proofs.Common.{subst}
use Rattle.answer_layouts.specs.Found.{HasRows}
use Rattle.answer_layouts.proofs.Judging.{more_than_some, more_than_none}
use Rattle.answer_layouts.proofs.findings.more_rows.Goals as goal

pub returns-in-Some : goal.returns-in-Some
returns-in-Some c = λ total has. more_than_some c.checked_add.result c.in-Some.rows c.args.more total c.checked_add.ensures (subst (λ o. HasRows o total) c.in-Some.is has)

pub returns-in-None : goal.returns-in-None
returns-in-None c = λ total has. more_than_none total c.args.more (subst (λ o. HasRows o total) c.in-None.is has)

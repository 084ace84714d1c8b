-- Proofs of the goals of `FactReader::end` (`fact`).
use Rattle.loader.proofs.Handing.{all_handed, too_many}
use Rattle.loader.proofs.fact.FactReader.end.Goals as goal

pub returns-then-branch-clause-taken : goal.returns-then-branch-clause-taken
returns-then-branch-clause-taken g c meant coming = too_many g.R.Read.remaining c.args.self.now meant coming c.requires c.in_ok-has_more.field-0 c.in_ok-has_more.ensures.found c.if-branch.true

pub returns-clause-taken : goal.returns-clause-taken
returns-clause-taken g c meant coming = all_handed g.R.Read.remaining c.args.self.now meant coming c.requires c.in_ok-has_more.field-0 c.in_ok-has_more.ensures.found c.if-branch.false

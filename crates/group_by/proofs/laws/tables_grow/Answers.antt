use Rattle.group_by.proofs.Growing.{grow}
use Rattle.group_by.proofs.laws.tables_grow.Goals as goal

pub returns : goal.returns
returns c = grow c.args.plan.now

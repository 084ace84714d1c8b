use Rattle.group_by.proofs.Shapes.{says}
use Rattle.group_by.proofs.laws.says_as.Goals as goal

pub returns : goal.returns
returns c = says c.args.plan.now

use Rattle.command_line.proofs.Values.{found_more}
use Rattle.command_line.proofs.parts.Parts.find.Goals as goal

pub loop-given-preserved : goal.loop-given-preserved
loop-given-preserved c = found_more _ _ _ _ _ _ c.loop-given-test.true c.loop-given.invariant c.after-found.ensures

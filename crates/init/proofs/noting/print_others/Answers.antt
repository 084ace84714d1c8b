-- Proofs of the goals of `print_others` (`noting`).
use Rattle.init.proofs.Saying.{notes_more}
use Rattle.init.proofs.noting.print_others.Goals as goal

pub loop-name-preserved : goal.loop-name-preserved
loop-name-preserved g c = notes_more (g.E.Write.contents c.args.err.now) (g.E.Write.contents c.loop-name.err) (g.E.Write.contents c.print_other.new.err) c.loop-name.invariant c.in_ok-print_other.ensures

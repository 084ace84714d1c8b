-- Proofs of the goals of `report_tables` (`noting`).
use Rattle.init.proofs.Saying.{notes_more}
use Rattle.init.proofs.noting.report_tables.Goals as goal

pub loop-dim-preserved : goal.loop-dim-preserved
loop-dim-preserved g c = notes_more (g.E.Write.contents c.args.err.now) (g.E.Write.contents c.loop-dim.err) (g.E.Write.contents c.report_table-in-loop-dim.new.err) c.loop-dim.invariant c.in_ok-report_table-2.ensures.said

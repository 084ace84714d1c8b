-- Proofs of the goals of `report_evidence` (`noting`).
use Rattle.init.proofs.Saying.{notes_more}
use Rattle.init.proofs.noting.report_evidence.Goals as goal

pub loop-index-preserved : goal.loop-index-preserved
loop-index-preserved g c = notes_more (g.E.Write.contents c.args.err.now) (g.E.Write.contents c.loop-index.err) (g.E.Write.contents c.report_column.new.err) c.loop-index.invariant c.in_ok-report_column.ensures.said

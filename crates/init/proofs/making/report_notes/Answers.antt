-- Proofs of the goals of `report_notes` (`making`).
use Rattle.std.proofs.lemmas.Result.{on_ok_weaker}
use Rattle.init.proofs.Saying.{notes_more}
use Rattle.init.proofs.making.report_notes.Goals as goal

pub returns-clause-said : goal.returns-clause-said
returns-clause-said g c = on_ok_weaker c.report_others.result (λ more.
    notes_more (g.E.Write.contents c.args.err.now) (g.E.Write.contents c.report_columns.new.err) (g.E.Write.contents c.report_others.new.err) c.in_ok-report_columns.ensures.said more) c.report_others.ensures.said

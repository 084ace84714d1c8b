-- Proofs of the goals of `answer_run` (`answering`).
use Rattle.coordinator.proofs.Returned.{returned}
use Rattle.coordinator.proofs.answering.answer_run.Goals as goal

pub returns-clause-answered : goal.returns-clause-answered
returns-clause-answered g c =
    returned c.args.run.plan c.args.fact.now c.args.sources.cut.now c.args.run.tables.fragments.items c.args.run.tables.dims.items (g.W.Write.contents c.args.out.now) (g.W.Write.contents c.print_gathered.new.out) c.in_ok-gathered.field-0
    c.in_ok-gathered.ensures.state c.print_gathered.result c.print_gathered.ensures.printed c.print_gathered.ensures.ended c.print_gathered.ensures.same

-- Proofs of the goals of `answer_plan` (`answering`).
use Rattle.std.proofs.Common.{refl, sym}
use Rattle.coordinator.specs.Fragment.{job_of}
use Rattle.coordinator.proofs.AcceptedFiles.{dimensions_accepted}
use Rattle.coordinator.proofs.Runs.{are_fragments, answered, refused_at_end}
use Rattle.coordinator.proofs.answering.answer_plan.Goals as goal

pub answer_run-requires-clause-fragments : goal.answer_run-requires-clause-fragments
answer_run-requires-clause-fragments g c =
    let tables = c.in-Ok.tables in (
      c.in-Ok.ensures.loaded.rows,
      are_fragments c.args.catalog.now c.args.sources c.args.plan tables.fragments.items tables.dims.items c.in-Ok.ensures.loaded c.in-Ok.ensures.vectors,
    )

pub answer_run-requires-clause-dims : goal.answer_run-requires-clause-dims
answer_run-requires-clause-dims g c =
    dimensions_accepted (job_of c.args.plan c.args.sources.cut.now) c.args.catalog.now refl c.in-Ok.tables.dims.items c.requires.declared.joins c.in-Ok.ensures.joined

pub answer_run-requires-clause-fact : goal.answer_run-requires-clause-fact
answer_run-requires-clause-fact g c = record { name = sym c.requires.declared.fact; columns = c.requires.declared.columns }

pub returns-in-Ok-clause-answered : goal.returns-in-Ok-clause-answered
returns-in-Ok-clause-answered g c =
    let tables = c.in-Ok.tables in
    answered c.args.catalog.now c.args.sources c.args.plan tables.fragments.items tables.dims.items c.in-Ok.ensures.loaded c.in-Ok.ensures.vectors
    (g.W.Write.contents c.args.out.now) (g.W.Write.contents c.answer_run.new.out) c.answer_run.result c.answer_run.ensures.answered

pub returns-in-Ok-clause-refused : goal.returns-in-Ok-clause-refused
returns-in-Ok-clause-refused g c =
    let tables = c.in-Ok.tables in
    refused_at_end c.args.catalog.now c.args.sources c.args.plan tables.fragments.items tables.dims.items c.in-Ok.ensures.loaded c.in-Ok.ensures.vectors
    c.answer_run.result c.answer_run.ensures.refused

-- Proofs of the goals of `answer_planned` (`running`).
use Rattle.std.proofs.Common.{List, inl, subst}
use Rattle.std.proofs.lemmas.Result.{IfErr-weaker}
use Rattle.meaning.specs.declared.plan.Join.{Join}
use Rattle.cli.specs.Refusing.{AreJoinedAsked}
use Rattle.cli.proofs.AskedFiles.{asked_of_plan}
use Rattle.cli.proofs.Questions.{answered_over, refused_over}
use Rattle.cli.proofs.running.answer_planned.Goals as goal

pub returns-in-Ok-clause-answered : goal.returns-in-Ok-clause-answered
returns-in-Ok-clause-answered g c =
    let question = c.args.question.now in
    answered_over (g.F.Folder.holds c.args.folder.now) question.directory.now question.catalog.now question.query.now question.rows question.vector c.args.plan (record { fact = c.args.fact.fact; dims = c.in-Ok.dims; cut = c.args.fact.cut }) (g.O.Write.contents c.args.out.now)
    (g.O.Write.contents c.answer_over.new.out) c.answer_over.result (record { fact = c.requires.fact.fact; dims = c.in-Ok.ensures.held; evenly = c.requires.fact.evenly }) c.answer_over.ensures.answered

pub returns-in-Ok-clause-refused : goal.returns-in-Ok-clause-refused
returns-in-Ok-clause-refused g c =
    let question = c.args.question.now in
    refused_over (g.F.Folder.holds c.args.folder.now) question.directory.now question.catalog.now question.query.now question.rows question.vector c.args.plan (record { fact = c.args.fact.fact; dims = c.in-Ok.dims; cut = c.args.fact.cut }) c.answer_over.result
    (record { fact = c.requires.fact.fact; dims = c.in-Ok.ensures.held; evenly = c.requires.fact.evenly }) c.answer_over.ensures.refused

pub returns-in-Err-clause-refused : goal.returns-in-Err-clause-refused
returns-in-Err-clause-refused g c = λ text declared planned. (c.args.fact, c.requires.fact, inl c.in-Err.ensures.refused)

pub returns-in-Ok-clause-unread : goal.returns-in-Ok-clause-unread
returns-in-Ok-clause-unread g c =
    let question = c.args.question.now in
    let asks = g.F.Folder.asks c.args.folder.now in
    IfErr-weaker c.answer_over.result _ _
    (λ e missing text declared planned. asked_of_plan asks question.directory.now question.catalog.now question.query.now c.args.plan e c.requires.asked
    (subst (λ (joins : List Join). AreJoinedAsked asks question.directory.now joins) c.as_slice.ensures c.in-Ok.ensures.asked) planned (missing text declared planned)) c.answer_over.ensures.missing

-- Proofs of the goals of `answer_declared` (`running`).
use Rattle.std.proofs.Common.{refl, inl, inr}
use Rattle.std.proofs.lemmas.Result.{IfErr-weaker, err_from_is_err_and}
use Rattle.planner.proofs.DeclaredColumns.{plans_are_declared}
use Rattle.cli.specs.Running.{input_over}
use Rattle.cli.proofs.AskedFiles.{unplanned_unread}
use Rattle.cli.proofs.Refusals.{unplanned}
use Rattle.cli.proofs.Questions.{answered_by, refused_by}
use Rattle.cli.proofs.running.answer_declared.Goals as goal

pub returns-in_err-fact-clause-refused : goal.returns-in_err-fact-clause-refused
returns-in_err-fact-clause-refused g c =
    let p = err_from_is_err_and c.from_residual.result c.from_residual.ensures.1 in
    rw (p.1, p.2) (λ text declared. inl c.in_err-fact.ensures.refused)

pub returns-in-Ok-clause-answered : goal.returns-in-Ok-clause-answered
returns-in-Ok-clause-answered g c =
    let question = c.args.question.now in
    answered_by (g.F.Folder.holds c.args.folder.now) question.directory.now question.catalog.now question.query.now question.rows question.vector c.in-Ok.plan (g.O.Write.contents c.args.out.now) (g.O.Write.contents c.answer_planned.new.out) c.answer_planned.result
    c.in-Ok.ensures.planned c.answer_planned.ensures.answered

pub returns-in-Ok-clause-refused : goal.returns-in-Ok-clause-refused
returns-in-Ok-clause-refused g c =
    let question = c.args.question.now in
    refused_by (g.F.Folder.holds c.args.folder.now) question.directory.now question.catalog.now question.query.now question.rows question.vector c.in-Ok.plan c.answer_planned.result
    c.in-Ok.ensures.planned c.answer_planned.ensures.refused

pub returns-in-Err-clause-refused : goal.returns-in-Err-clause-refused
returns-in-Err-clause-refused g c = λ text declared.
    let question = c.args.question.now in
    inr (c.in_ok-fact.fact, c.in_ok-fact.ensures.tables, unplanned question.directory.now text question.catalog.now (input_over text c.in_ok-fact.fact question.query.now question.vector) c.in-Err.refusal declared refl c.in-Err.ensures.refused)

pub returns-in_err-fact-clause-unread : goal.returns-in_err-fact-clause-unread
returns-in_err-fact-clause-unread g c =
    let p = err_from_is_err_and c.from_residual.result c.from_residual.ensures.1 in
    rw (p.1, p.2) (λ text declared. c.in_err-fact.ensures.unread)

pub returns-in-Ok-clause-unread : goal.returns-in-Ok-clause-unread
returns-in-Ok-clause-unread g c =
    IfErr-weaker c.answer_planned.result _ _ (λ e unread text declared. unread text declared c.in-Ok.ensures.planned) c.answer_planned.ensures.unread

pub returns-in-Err-clause-unread : goal.returns-in-Err-clause-unread
returns-in-Err-clause-unread g c = λ text declared.
    let question = c.args.question.now in
    unplanned_unread (g.F.Folder.asks c.args.folder.now) question.catalog.now question.query.now c.in-Err.refusal c.in-Err.ensures.refused

pub answer_planned-requires-clause-declared : goal.answer_planned-requires-clause-declared
answer_planned-requires-clause-declared g c =
    let planned = c.in-Ok.ensures.planned in
    plans_are_declared c.args.question.now.catalog.now planned.tree c.in-Ok.plan planned.gives

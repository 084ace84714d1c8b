-- Proofs of the goals of `kept_by_having` (`shown`).
use Rattle.std.proofs.Common.{sym, ◌∙◌}
use Rattle.std.proofs.lemmas.Result.{IfOk-weaker}
use Rattle.meaning.specs.Typing.{group_types}
use Rattle.last_step.proofs.KeptGroups.{having_fits, none_kept, some_kept}
use Rattle.last_step.proofs.shown.kept_by_having.Goals as goal

pub returns-in-Some-clause-shows : goal.returns-in-Some-clause-shows
returns-in-Some-clause-shows c = IfOk-weaker c.kept_where.result _ _ (λ kept keeps rows batch.
    some_kept c.args.plan.now rows c.in-Some.condition c.in_ok-all.all _ c.args.fault.now.held c.kept_where.new.fault.held kept.list c.in-Some.is c.in_ok-all.ensures (batch.typed.are_rows.counted ∙ sym c.rows.ensures) c.requires.none
    (keeps (group_types c.args.plan.now) rows batch.typed (having_fits c.args.plan.now rows c.args.batch.now c.in-Some.condition c.in-Some.is batch))) c.kept_where.ensures.kept

pub returns-in-None-clause-shows : goal.returns-in-None-clause-shows
returns-in-None-clause-shows c = λ rows batch.
    none_kept c.args.plan.now rows c.in_ok-all.all _ c.args.fault.now.held c.in-None.is c.in_ok-all.ensures (batch.typed.are_rows.counted ∙ sym c.rows.ensures) c.requires.none

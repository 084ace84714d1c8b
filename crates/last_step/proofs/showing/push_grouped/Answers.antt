-- Proofs of the goals of `push_grouped` (`showing`).
use Rattle.std.proofs.Common.{List, Err, ap, sym, subst, ◌∙◌}
use Rattle.std.proofs.lemmas.Result.{err_from_is_err_and}
use Rattle.meaning.specs.declared.answer.Group.{Group}
use Rattle.meaning.specs.Order.{Row}
use Rattle.last_step.specs.Fitting.{AreGroupsOf}
use Rattle.meaning.specs.Wanting.{ReportsIfMemory}
use Rattle.last_step.specs.Given.{fault_returned}
use Rattle.last_step.specs.Best.{best, best_of}
use Rattle.last_step.specs.Runs.{expanded, rows_after}
use Rattle.last_step.proofs.Rest.{next_best, rest_groups, stop_best}
use Rattle.last_step.proofs.showing.push_grouped.Goals as goal

pub loop-rest-preserved : goal.loop-rest-preserved
loop-rest-preserved c =
    let plan = c.args.plan.now in
    let rest = c.loop-rest.rest in
    let before = expanded c.loop-rest.runs.items in
    let now = expanded c.push_batch.new.runs.items in
    let all = best_of plan (rows_after plan (expanded c.args.runs.now.items) c.args.groups) in (
      subst (AreGroupsOf plan) (sym c.split-batch.ensures.back) (rest_groups plan c.min.result rest c.loop-rest.invariant.0),
      ap (λ (gs : List Group). best_of plan (rows_after plan now gs)) c.split-batch.ensures.back
          ∙ next_best plan rest c.min.result before now all (ap (λ (gs : List Group). best_of plan (rows_after plan before gs)) (sym c.split-batch.ensures.front) ∙ c.in_ok-push_batch.ensures) c.loop-rest.invariant.1,
    )

pub returns-in_err-push_batch : goal.returns-in_err-push_batch
returns-in_err-push_batch c =
    let plan = c.args.plan.now in
    let rest = c.loop-rest.rest in
    let before = expanded c.loop-rest.runs.items in
    let seen : Unit {0} → List Row = λ _. best plan (expanded c.push_batch.new.runs.items) in
    let e = c.in_err-push_batch.field-0.0 in
    let p = err_from_is_err_and c.from_residual.result c.from_residual.ensures.1 in
    rw (p.1, p.2) (stop_best plan seen seen rest c.min.result before e _
    (subst (λ (gs : List Group). ReportsIfMemory fault_returned seen (Err e) (best_of plan (rows_after plan before gs))) c.split-batch.ensures.front c.in_err-push_batch.ensures) c.loop-rest.invariant.1)

-- Proofs of the goals of `output_together` (`output`).
use Rattle.std.proofs.Common.{List, map, sym, ap, subst, ◌∙◌}
use Rattle.std.specs.Prelude.{IfOk}
use Rattle.meaning.specs.declared.answer.Body.TheVariants.{Groups}
use Rattle.meaning.specs.declared.answer.Group.{Group}
use Rattle.meaning.specs.declared.plan.Plan.{Plan}
use Rattle.meaning.specs.Answer.{output_of, read_off}
use Rattle.meaning.specs.Cut.{IsCut}
use Rattle.meaning.specs.Finish as the
use Rattle.meaning.specs.Group.{merged_groups}
use Rattle.meaning.specs.Output.{Output}
use Rattle.group_by.specs.Shape.{GroupsSpec}
use Rattle.last_step.specs.Fitting.{AreGroupsOf}
use Rattle.last_step.specs.Printing.{ShowsSomething, text_of}
use Rattle.partial_codec.specs.Job.{JobSpec}
use Rattle.gathering.specs.Merging.{all_groups}
use Rattle.gathering.specs.Output.{IsOutputOf}
use Rattle.gathering.proofs.Merging.{combined-groups, combined_shows}
use Rattle.gathering.proofs.ShapedGroups.{combined_shaped}
use Rattle.gathering.proofs.output.output_together.Goals as goal

pub finish_table-requires-clause-groups : goal.finish_table-requires-clause-groups
finish_table-requires-clause-groups c =
    let job = c.args.gather.now.job in
    let plan_is = c.plan-plan.ensures.value ∙ ap (λ (j : JobSpec). j.plan) c.job-in-None.ensures.value in
    let are = ap (λ (t : GroupsSpec). t.groups) c.table.ensures ∙ c.totals-totals.ensures.totals.groups in
    subst (λ (q : Plan × List Group). AreGroupsOf q.0 q.1) (λ i. (sym plan_is i, sym are i))
    (combined_shaped job.plan job.cut c.args.gather.now.cells c.totals-totals.ensures.gather.fitting c.totals-totals.ensures.gather.sound)

pub finish_table-requires-clause-shown : goal.finish_table-requires-clause-shown
finish_table-requires-clause-shown c =
    let job = c.args.gather.now.job in
    let plan_is = c.plan-plan.ensures.value ∙ ap (λ (j : JobSpec). j.plan) c.job-in-None.ensures.value in
    let are = ap (λ (t : GroupsSpec). t.groups) c.table.ensures ∙ c.totals-totals.ensures.totals.groups in
    let is_cut = subst IsCut (c.cut.ensures ∙ ap (λ (j : JobSpec). j.cut) c.job.ensures.value) c.lengths-lengths.ensures.within_limits in
    subst (λ (q : Plan × List Group). ShowsSomething q.0 q.1) (λ i. (sym plan_is i, sym are i))
    (combined_shows job.plan job.cut c.args.gather.now.cells is_cut c.totals-totals.ensures.gather.fitting c.totals-totals.ensures.gather.sound)

pub returns-in_ok-finished-in-None : goal.returns-in_ok-finished-in-None
returns-in_ok-finished-in-None c =
    let job = c.args.gather.now.job in
    let plan_is = c.plan-plan.ensures.value ∙ ap (λ (j : JobSpec). j.plan) c.job-in-None.ensures.value in
    let are = ap (λ (t : GroupsSpec). t.groups) c.table.ensures ∙ c.totals-totals.ensures.totals.groups in
    subst (λ (o : Output). IfOk c.finished_output.result (IsOutputOf job.plan o))
    (sym (ap (output_of job.plan) (combined-groups job.plan c.args.gather.now.cells (sym c.totals-totals.ensures.totals.least ∙ c.in-None.is))))
    (c.finished_output.ensures job.plan (the.finish job.plan (map (read_off job.plan) (merged_groups job.plan (all_groups c.args.gather.now.cells))))
    (c.in_ok-finished-in-None.ensures ∙ (λ i. text_of (plan_is i) (the.finish (plan_is i) (map (read_off (plan_is i)) (are i))))))

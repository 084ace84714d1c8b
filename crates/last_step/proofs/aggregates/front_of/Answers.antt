-- Proofs of the goals of `front_of` (`aggregates`).
use Rattle.std.proofs.Common.{List, length, map, ap, ◌∙◌, sym, subst, Some, Err, get_or, arith, ◌<◌}
use Rattle.std.specs.Prelude.{zip}
use Rattle.meaning.specs.declared.plan.Aggregate.{Aggregate}
use Rattle.meaning.specs.Results.{all_ok}
use Rattle.last_step.specs.Batches.{IsFront, IsJudged}
use Rattle.last_step.proofs.Checked.{judge}
use Rattle.last_step.proofs.GroupsRead.{at_itself, no_group, widths}
use Rattle.last_step.proofs.Judging.{from_index}
use Rattle.last_step.proofs.Rest.{front_until, one_more_sound}
use Rattle.last_step.proofs.aggregates.front_of.Goals as goal

pub check-requires-clause-widths : goal.check-requires-clause-widths
check-requires-clause-widths c = λ d. widths c.args.plan.now c.args.groups.now c.loop-k.k c.requires.groups (subst (λ n. c.loop-k.k < n) c.len-k-end.ensures c.loop-k-test.true) d ∙ ap (λ (aggs : List Aggregate). length aggs) (sym c.as_slice.ensures)

pub loop-k-preserved : goal.loop-k-preserved
loop-k-preserved c =
    let groups = c.args.groups.now in
    let k = c.loop-k.k in
    let g = get_or groups k no_group in
    let judged = subst (IsJudged (map judge (zip c.as_slice.result.now g.states))) c.in-Ok.is (c.check.ensures no_group) in
    one_more_sound c.args.plan.now groups k g (subst (λ n. c.loop-k.k < n) c.len-k-end.ensures c.loop-k-test.true) (at_itself groups k no_group (subst (λ n. c.loop-k.k < n) c.len-k-end.ensures c.loop-k-test.true))
    (judged.0, (λ i. all_ok (map judge (zip (sym c.as_slice.ensures i) g.states))) ∙ judged.1, judged.2) c.loop-k.invariant

pub returns-in-Err-Fault : goal.returns-in-Err-Fault
returns-in-Err-Fault c =
    let groups = c.args.groups.now in
    let k = c.loop-k.k in
    let g = get_or groups k no_group in
    let judged = subst (IsJudged (map judge (zip c.as_slice.result.now g.states))) (c.in-Err-Fault.is ∙ ap Err c.in-Err-Fault.field-0-is) (c.check.ensures no_group) in
    subst (λ code. IsFront c.args.plan.now groups k (Some code)) (sym c.in-Err-Fault.code-is)
    (front_until c.args.plan.now groups k g _ c.in-Err-Fault.code c.requires.grouped (let h = (subst (λ n. c.loop-k.k < n) c.len-k-end.ensures c.loop-k-test.true) in omega (arith, h))
    (from_index groups k g (subst (λ n. c.loop-k.k < n) c.len-k-end.ensures c.loop-k-test.true) (at_itself groups k no_group (subst (λ n. c.loop-k.k < n) c.len-k-end.ensures c.loop-k-test.true)))
    ((λ i. all_ok (map judge (zip (sym c.as_slice.ensures i) g.states))) ∙ judged) c.loop-k.invariant)

-- Proofs of the goals of `push_plain` (`showing`).
use Rattle.std.proofs.Common.{◌++◌, get_or, ap, ◌∙◌, ◌<◌, subst}
use Rattle.last_step.specs.Runs.{expanded, plain_rows, times_kept}
use Rattle.last_step.proofs.Gathering.{plain_pushed}
use Rattle.last_step.proofs.GroupsRead.{at_itself, no_group}
use Rattle.last_step.proofs.Judging.{from_index}
use Rattle.last_step.proofs.showing.push_plain.Goals as goal

pub loop-k-preserved : goal.loop-k-preserved
loop-k-preserved c =
    let groups = c.args.groups.now in
    let k = c.loop-k.k in
    let g = get_or groups k no_group in
    plain_pushed c.args.distinct c.loop-k.runs.items c.push.new.self.items c.in_ok-row.row c.times_kept.result groups k g (expanded c.args.runs.now.items ++ plain_rows c.args.distinct groups)
    c.in_ok-push.ensures.items (c.in_ok-row.ensures no_group) (c.times_kept.ensures ∙ ap (times_kept c.args.distinct) (c.rows.ensures no_group))
    (from_index groups k g (subst (λ n. c.loop-k.k < n) c.len-k-end.ensures c.loop-k-test.true) (at_itself groups k no_group (subst (λ n. c.loop-k.k < n) c.len-k-end.ensures c.loop-k-test.true))) c.loop-k.invariant

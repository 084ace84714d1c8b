-- Proofs of the goals of `keys_of` (`group_columns`).
use Rattle.std.proofs.Common.{◌<◌, subst}
use Rattle.meaning.specs.Order.{column, value_in}
use Rattle.last_step.proofs.GroupsRead.{no_group, one_more}
use Rattle.last_step.proofs.group_columns.keys_of.Goals as goal

pub loop-k-preserved : goal.loop-k-preserved
loop-k-preserved c =
    one_more value_in (λ g. column g.key c.args.key) c.loop-k.values.items c.push.new.self.items c.key_value.result c.args.groups.now c.loop-k.k (subst (λ n. c.loop-k.k < n) c.len-k-end.ensures c.loop-k-test.true)
    (c.key_value.ensures no_group) c.in_ok-push.ensures.items c.loop-k.invariant

-- Proofs of the goals of `aggregates_of` (`group_columns`).
use Rattle.std.proofs.Common.{◌<◌, subst}
use Rattle.meaning.specs.Order.{value_in}
use Rattle.last_step.specs.Batches.{aggregate_in}
use Rattle.last_step.proofs.GroupsRead.{no_group, one_more, same_value, sound, within}
use Rattle.last_step.proofs.group_columns.aggregates_of.Goals as goal

pub sound_value-requires-clause-aggregate : goal.sound_value-requires-clause-aggregate
sound_value-requires-clause-aggregate c = let (plan, have) = c.requires in within plan c.args.kind c.args.aggregate c.args.groups.now c.loop-k.k have (subst (λ n. c.loop-k.k < n) c.len-k-end.ensures c.loop-k-test.true)

pub sound_value-requires-clause-sound : goal.sound_value-requires-clause-sound
sound_value-requires-clause-sound c = let (plan, have) = c.requires in sound plan c.args.kind c.args.aggregate c.args.groups.now c.loop-k.k have (subst (λ n. c.loop-k.k < n) c.len-k-end.ensures c.loop-k-test.true)

pub loop-k-preserved : goal.loop-k-preserved
loop-k-preserved c = λ plan have.
    let v = c.in_ok-sound_value.field-0 in
    one_more value_in (aggregate_in plan c.args.aggregate) c.loop-k.values.items c.push.new.self.items v c.args.groups.now c.loop-k.k (subst (λ n. c.loop-k.k < n) c.len-k-end.ensures c.loop-k-test.true)
    (same_value plan c.args.kind c.args.aggregate c.args.groups.now c.loop-k.k have (subst (λ n. c.loop-k.k < n) c.len-k-end.ensures c.loop-k-test.true) no_group (value_in v) (c.in_ok-sound_value.ensures no_group)) c.in_ok-push.ensures.items (c.loop-k.invariant plan have)

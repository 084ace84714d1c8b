-- Proofs of the goals of `merged_states` (`handing_out`).
use Rattle.std.proofs.Common.{◌∙◌}
use Rattle.meaning.specs.Aggregate.{merge}
use Rattle.group_by.proofs.Combining.{zipped_more, zipped_all}
use Rattle.group_by.proofs.handing_out.merged_states.Goals as goal

pub loop-k-preserved : goal.loop-k-preserved
loop-k-preserved c =
    zipped_more c.args.states.now c.args.others.now c.loop-k.k c.index-states-k.result c.index-others-k.result c.loop-k.merged c.push.new.self c.in_ok-both.both
    c.requires.widths c.loop-k-test.true
    (c.in_ok-both.ensures ∙ (λ i. merge (c.index-states-k.is i) (c.index-others-k.is i)))
    c.loop-k.invariant c.in_ok-push.ensures.ok

pub returns : goal.returns
returns c = zipped_all c.args.states.now c.args.others.now c.loop-k.merged c.loop-k.k c.requires.widths c.loop-k-test.false c.loop-k.invariant

-- Proofs of the goals of `key_of` (`keys`).
use Rattle.std.proofs.Common.{ap, ◌∙◌, get_or}
use Rattle.meaning.specs.declared.value.Value.TheVariants.{Null}
use Rattle.vectors.specs.declared.vector.Vector.{Vector}
use Rattle.vectors.specs.Vector.{values_of}
use Rattle.group_keys.proofs.KeyRows.{key_more}
use Rattle.group_keys.proofs.keys.key_of.Goals as goal

pub loop-k-preserved : goal.loop-k-preserved
loop-k-preserved c =
    let lanes = c.index-lanes-k.result in
    key_more c.args.lanes.now c.args.at c.loop-k.k lanes c.loop-k.key.items c.push.new.self.items c.in_ok-owned.field-0 c.loop-k-test.true
    (c.in_ok-owned.ensures ∙ c.value_at.ensures ∙ ap (λ (v : Vector). get_or (values_of v) c.args.at Null) c.index-lanes-k.is)
    c.loop-k.invariant c.in_ok-push.ensures.items

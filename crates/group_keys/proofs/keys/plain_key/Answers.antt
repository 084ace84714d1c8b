-- Proofs of the goals of `plain_key` (`keys`).
use Rattle.std.proofs.Common.{rules, ◌≡◌, length, ap, ◌∙◌}
use Rattle.vectors.specs.declared.vector.Vector.{Vector}
use Rattle.aggregate_states.specs.Values.{selected}
use Rattle.vectors.specs.Vector.{values_of}
use Rattle.group_keys.proofs.KeyRows.{int_rows}
use Rattle.group_keys.proofs.keys.plain_key.Goals as goal

pub returns : goal.returns
returns c =
    let list = c.args.selection.now.list in
    let one : length c.args.lanes.now ≡ 1 = search rules in
    int_rows c.args.lanes.now c.index-lanes-0.result list c.in_ok-ints.ints.now one
    (c.in_ok-ints.ensures.value ∙ ap (λ (v : Vector). selected (values_of v) list) c.index-lanes-0.is)

-- Proofs of the goals of `selected_key` (`selected_ints`).
use Rattle.std.proofs.Common.{rules, ◌≡◌, length, ap, sym, ◌∙◌}
use Rattle.std.proofs.lemmas.Option.{IfSome_then}
use Rattle.vectors.specs.declared.vector.Vector.{Vector}
use Rattle.aggregate_states.specs.Values.{selected}
use Rattle.vectors.specs.Vector.{values_of}
use Rattle.group_keys.proofs.KeyRows.{int_rows}
use Rattle.group_keys.proofs.selected_ints.selected_key.Goals as goal

pub returns : goal.returns
returns c =
    let list = c.args.selection.now.list in
    let one : length c.args.lanes.now ≡ 1 = search rules in
    IfSome_then c.in_ok-found.found c.in_ok-found.ensures (λ own returned. int_rows c.args.lanes.now c.index-lanes-0.result list own.items one
    (returned ∙ ap (λ (v : Vector). selected (values_of v) list) (sym c.in-Ints.is ∙ c.index-lanes-0.is)))

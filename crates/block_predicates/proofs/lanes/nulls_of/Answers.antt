-- Proofs of the goals of `nulls_of` (`lanes`).
use Rattle.std.proofs.Common.{◌∷◌, [], ◌++◌, Bool, List, map, ap, sym, ◌∙◌}
use Rattle.meaning.specs.Order.{is_null}
use Rattle.block_predicates.specs.Entries.{lanes_of, values_in}
use Rattle.block_predicates.proofs.LaneLists.{lanes_more}
use Rattle.block_predicates.proofs.lanes.nulls_of.Goals as goal

pub loop-lane-preserved : goal.loop-lane-preserved
loop-lane-preserved c =
    let vs = values_in c.args.entries.now in
    c.in_ok-push.ensures.items
    ∙ ap (λ (xs : List Bool). xs ++ c.is_null_value.result ∷ []) c.loop-lane.invariant
    ∙ ap (λ (x : Bool). map is_null (lanes_of vs c.loop-lane.lane) ++ x ∷ []) (c.is_null_value.ensures ∙ ap is_null c.lane.ensures)
    ∙ sym (lanes_more is_null vs c.loop-lane.lane)

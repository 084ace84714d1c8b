-- Proofs of the goals of `ints_of` (`lanes`).
use Rattle.std.proofs.Common.{◌∷◌, [], ◌++◌, ℤ, List, map, ap, sym, ◌∙◌, w64}
use Rattle.std.proofs.lemmas.Int.{to_z-of_z}
use Rattle.meaning.specs.Order.{number}
use Rattle.block_predicates.specs.Entries.{lanes_of, values_in}
use Rattle.block_predicates.proofs.LaneLists.{lanes_more}
use Rattle.block_predicates.proofs.lanes.ints_of.Goals as goal

pub loop-lane-preserved : goal.loop-lane-preserved
loop-lane-preserved c =
    let vs = values_in c.args.entries.now in
    c.in_ok-push.ensures.items
    ∙ ap (λ (x : ℤ). c.loop-lane.ints.items ++ x ∷ []) (to_z-of_z w64 c.number_of.result (record { sfits = c.number_of.type_inv }))
    ∙ ap (λ (xs : List ℤ). xs ++ c.number_of.result ∷ []) c.loop-lane.invariant
    ∙ ap (λ (x : ℤ). map number (lanes_of vs c.loop-lane.lane) ++ x ∷ []) (c.number_of.ensures ∙ ap number c.lane.ensures)
    ∙ sym (lanes_more number vs c.loop-lane.lane)

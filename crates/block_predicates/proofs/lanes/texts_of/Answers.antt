-- Proofs of the goals of `texts_of` (`lanes`).
use Rattle.std.proofs.Common.{◌∷◌, [], ◌++◌, ℕ, List, map, ap, sym, ◌∙◌}
use Rattle.std.specs.Borrow.{Bor}
use Rattle.std.proofs.lemmas.List.{map-append}
use Rattle.meaning.specs.Order.{bytes}
use Rattle.block_predicates.specs.Entries.{lanes_of, values_in}
use Rattle.block_predicates.proofs.LaneLists.{lanes_more}
use Rattle.block_predicates.proofs.lanes.texts_of.Goals as goal

pub loop-lane-preserved : goal.loop-lane-preserved
loop-lane-preserved c =
    let vs = values_in c.args.entries.now in
    let now : Bor (List ℕ) → List ℕ = λ t. t.now in
    ap (map now) c.in_ok-push.ensures.items
    ∙ map-append now c.loop-lane.texts.items (c.bytes_of.result ∷ [])
    ∙ ap (λ (xs : List (List ℕ)). xs ++ c.bytes_of.result.now ∷ []) c.loop-lane.invariant
    ∙ ap (λ (x : List ℕ). map bytes (lanes_of vs c.loop-lane.lane) ++ x ∷ []) (c.bytes_of.ensures ∙ ap bytes c.lane.ensures)
    ∙ sym (lanes_more bytes vs c.loop-lane.lane)

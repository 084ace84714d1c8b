-- Proofs of the goals of `join_all` (`joining`).
use Rattle.std.proofs.Common.{◌≡◌, suc, ◌<◌, List, [], ◌∷◌, ◌++◌, length, take, drop, slice_set, slice_index_or, append_assoc, ap, ◌∙◌, arith}
use Rattle.std.proofs.lemmas.List.{length-append}
use Rattle.meaning.specs.Said.{Cell}
use Rattle.meaning.specs.declared.answer.Cell.TheVariants.{Nothing}
use Rattle.meaning.specs.Gather.{join_cells}
use Rattle.gathering.specs.Gathering.{join_states}
use Rattle.gathering.proofs.Joined.{joined_before}
use Rattle.gathering.proofs.joining.join_all.Goals as goal

pub loop-change-preserved : goal.loop-change-preserved
loop-change-preserved c =
    let all = c.args.cells.now.items in
    let rest = c.pop.new.self.items in
    let change = c.in-Some.change in
    let (put, split, cells_are) = c.loop-change.invariant in
    let popped : c.loop-change.delta.items ≡ rest ++ change ∷ [] = c.in-Some.ensures.items in
    let longer : length c.loop-change.delta.items ≡ suc (length rest) = omega (arith, ap length popped, length-append rest (change ∷ [])) in
    let below : length rest < length all = omega (arith, longer, ap length split, length-append c.loop-change.delta.items put, c.requires) in
    let with_delta : c.join_at.new.cells.items ≡ slice_set c.loop-change.cells.items (length rest) (join_cells (slice_index_or c.loop-change.cells.items (length rest) Nothing) change) =
    c.join_at.ensures ∙ ap (λ k. slice_set c.loop-change.cells.items k (join_cells (slice_index_or c.loop-change.cells.items k Nothing) change)) (c.len.ensures ∙ omega (arith, c.pop.new.self.ok.0)) in (
      change ∷ put,
      split ∙ ap (λ (cs : List Cell). cs ++ put) popped ∙ append_assoc rest (change ∷ []) put,
      with_delta
          ∙ ap (λ (cs : List Cell). slice_set cs (length rest) (join_cells (slice_index_or cs (length rest) Nothing) change)) (cells_are ∙ ap (λ m. take m all ++ join_states (drop m all) put) longer)
          ∙ joined_before (length rest) all put change below,
    )

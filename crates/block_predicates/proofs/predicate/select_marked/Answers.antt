-- Proofs of the goals of `select_marked` (`predicate`).
use Rattle.std.proofs.Common.{◌≡◌, Bool, ℕ, List, take, drop, ap, ◌∙◌}
use Rattle.block_predicates.proofs.RowMarks.{marked_rows}
use Rattle.block_predicates.proofs.predicate.select_marked.Goals as goal

pub returns : goal.returns
returns c =
    let old = c.args.selection.now in
    let marks = c.args.marks.now.marks.items in
    let is : c.marks_from-mask.result.now ≡ take old.below (drop c.args.from marks) =
    c.marks_from-mask.ensures
    ∙ ap (λ (n : ℕ). take n (drop c.args.from c.as_slice.result.now)) c.below.ensures
    ∙ ap (λ (ms : List Bool). take old.below (drop c.args.from ms)) c.as_slice.ensures.value in
    c.keep_marked.ensures
    ∙ ap (λ (ps : List ℕ). record { below = old.below; list = ps })
    (marked_rows c.args.block.now c.args.marks.now c.args.from old c.marks_from-mask.result.now c.requires.kind c.requires.nullable c.requires.within c.len-positions.ensures.sound is)

-- Proofs of the goals of `select_entries` (`predicate`).
use Rattle.std.proofs.Common.{ℕ, List, ap, ◌∙◌}
use Rattle.block_predicates.proofs.RowMarks.{nothing_kept}
use Rattle.block_predicates.proofs.predicate.select_entries.Goals as goal

pub returns-then-keeps_nothing : goal.returns-then-keeps_nothing
returns-then-keeps_nothing c =
    let old = c.args.selection.now in
    let nothing = c.if-keeps_nothing.true in
    c.keep_none.ensures
    ∙ ap (λ (ps : List ℕ). record { below = old.below; list = ps })
    (nothing_kept c.args.block.now c.args.marks.now c.args.from old c.requires.within c.len-positions.ensures.sound (c.keeps_nothing.ensures.null nothing) (c.keeps_nothing.ensures.entries nothing))

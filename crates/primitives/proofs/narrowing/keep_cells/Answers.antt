-- Proofs of the goals of `keep_cells` (`narrowing`).
use Rattle.std.proofs.Common.{rules, get_or, filter}
use Rattle.meaning.specs.Truth.{is_true}
use Rattle.meaning.specs.declared.outcome.Truth.TheVariants.{Unknown}
use Rattle.vectors.proofs.Positions.{keeps_filter, positions_are}
use Rattle.primitives.proofs.narrowing.keep_cells.Goals as goal

pub returns : goal.returns
returns c =
    let old = c.args.selection.now in
    let kept = keeps_filter _ (λ p. is_true (get_or c.args.cells.now p Unknown)) old.below (λ p a below said. search rules) old.list c.narrow.new.self.list c.len-positions.ensures.sound.within c.narrow.ensures.kept in
    positions_are c.narrow.new.self old.below (filter (λ p. is_true (get_or c.args.cells.now p Unknown)) old.list) c.narrow.ensures.below kept

-- Proofs of the goals of `select_rows` (`predicate`).
use Rattle.std.proofs.Common.{rules, ◌+◌, get_or, filter, false}
use Rattle.vectors.proofs.Positions.{keeps_filter, positions_are}
use Rattle.block_predicates.specs.Marks.{kept_of}
use Rattle.block_predicates.proofs.predicate.select_rows.Goals as goal

pub returns-else-not-nullable : goal.returns-else-not-nullable
returns-else-not-nullable c =
    let old = c.args.selection.now in
    let kept = keeps_filter _ (λ p. get_or (kept_of c.args.block.now c.args.marks.now) (c.args.from + p) false) old.below (λ p a below said. search rules) old.list c.narrow.new.self.list c.len-positions.ensures.sound.within c.narrow.ensures.kept in
    positions_are c.narrow.new.self old.below (filter (λ p. get_or (kept_of c.args.block.now c.args.marks.now) (c.args.from + p) false) old.list) c.narrow.ensures.below kept

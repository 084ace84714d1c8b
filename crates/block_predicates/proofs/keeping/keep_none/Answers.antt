-- Proofs of the goals of `keep_none` (`keeping`).
use Rattle.std.proofs.Common.{rules, false, filter}
use Rattle.vectors.proofs.Positions.{keeps_filter, positions_are}
use Rattle.block_predicates.proofs.keeping.keep_none.Goals as goal

pub returns : goal.returns
returns c =
    let old = c.args.selection.now in
    let kept = keeps_filter _ (λ p. false) old.below (λ p a below said. search rules) old.list c.narrow.new.self.list c.len-positions.ensures.sound.within c.narrow.ensures.kept in
    positions_are c.narrow.new.self old.below (filter (λ p. false) old.list) c.narrow.ensures.below kept

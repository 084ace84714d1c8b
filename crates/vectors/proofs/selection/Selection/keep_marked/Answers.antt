-- Proofs of the goals of `Selection::keep_marked` (`selection`).
use Rattle.std.proofs.Common.{rules, subst, get_or, false, filter}
use Rattle.vectors.specs.Selection.{IsSelection}
use Rattle.vectors.proofs.Positions.{keeps_filter, positions_are}
use Rattle.vectors.proofs.selection.Selection.keep_marked.Goals as goal

pub returns : goal.returns
returns c =
    let old = c.args.self.now in
    let sound : IsSelection old = subst IsSelection c.self.view_is c.self.invariant.selection in
    let kept = keeps_filter _ (λ p. get_or c.args.mask.now p false) old.below (λ p a below said. search rules) old.list c.narrow.new.self.list sound.within c.narrow.ensures.kept in
    positions_are c.narrow.new.self old.below (filter (λ p. get_or c.args.mask.now p false) old.list) c.narrow.ensures.below kept

-- Proofs of the goals of `try_rests` (`wildcards`).
use Rattle.std.proofs.Common.{◌≡◌, ap, sym, ◌∙◌, arith, length}
use Rattle.std.proofs.lemmas.Bool.Decides.{nat_tests}
use Rattle.std.specs.Str.{chars}
use Rattle.meaning.specs.Like.{after_any_run, characters_fit}
use Rattle.meaning.proofs.LikeLemmas.{after_any_run-here}
use Rattle.meaning.proofs.LikeBytes.{nothing_fits}
use Rattle.lane_loops.proofs.Likes.{empty_chars}
use Rattle.lane_loops.proofs.wildcards.try_rests.Goals as goal

pub returns-then-is_empty-clause-value : goal.returns-then-is_empty-clause-value
returns-then-is_empty-clause-value c =
    let none : length c.args.pattern.now ≡ 0 = grind (arith, nat_tests) in
    let text = chars c.args.text.now in
    ap (λ ps. after_any_run (characters_fit ps) text) (empty_chars c.args.pattern.now none) ∙ nothing_fits text

pub returns-in-Fits-clause-value : goal.returns-in-Fits-clause-value
returns-in-Fits-clause-value c =
    sym c.loop-behind.invariant.1 ∙ after_any_run-here (characters_fit (chars c.args.pattern.now)) (chars c.loop-behind.rest.now) c.in-Fits.ensures.here

-- Proofs of the goals of `without_progress` (`progress_word`).
use Rattle.std.proofs.Common.{map}
use Rattle.xcols.proofs.Flags.{all_judged, none_kept, one_judged}
use Rattle.xcols.proofs.progress_word.without_progress.Goals as goal

pub loop-word-init : goal.loop-word-init
loop-word-init c = none_kept _ (map (λ w. w.now) c.args.words.now) _ c.first_of-next.result c.new-kept.ensures.items c.first_of-next.ensures

pub loop-word-preserved : goal.loop-word-preserved
loop-word-preserved c = one_judged _ _ _ _ _ _ _ _ c.loop-word-test.true c.loop-word.invariant c.in_ok-next.ensures

pub returns-clause-kept : goal.returns-clause-kept
returns-clause-kept c = all_judged _ _ _ _ _ c.loop-word-test.false c.loop-word.invariant

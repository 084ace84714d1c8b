-- Loop invariants of `without_progress` (`progress_word`).
use Rattle.std.proofs.Common.{◌≡◌, ◌++◌, drop, map}
use Rattle.xcols.specs.Progress.{unflagged_from, without_progress}
use Rattle.xcols.proofs.progress_word.without_progress.Given as goal

abbrev pub invariant-loop-word : goal.invariant-loop-word
invariant-loop-word l = without_progress (map (λ w. w.now) l.fn.words) ≡ map (λ w. w.now) l.kept.items ++ unflagged_from l.next (drop l.word-index (map (λ w. w.now) l.fn.words))

-- Loop invariants of `check_csvs` (`csvs`).
use Rattle.std.proofs.Common.{List, ℕ}
use Rattle.coordinator.specs.Whole.{csv_of, files_in}
use Rattle.coordinator.proofs.InTurn.{HasJudged}
use Rattle.coordinator.proofs.csvs.check_csvs.Given as goal

abbrev pub invariant-loop-join : goal.invariant-loop-join
invariant-loop-join l = (before : List (List ℕ)) × HasJudged (λ j. csv_of (files_in l.csvs) j.dim.name) l.joins l.join-index before

-- Proofs of the goals of `conditions_filter` (`laws`).
use Rattle.meaning_laws.proofs.Filters.{behind_conditions-filtered, filtered-append, passes_all_true, all_true_passes}
use Rattle.meaning_laws.proofs.laws.conditions_filter.Goals as goal

pub returns : goal.returns
returns c = record {
  apart = λ plan s. behind_conditions-filtered plan.conjuncts s _;
  in_turn =
      filtered-append;
  all_true = passes_all_true;
  passes = all_true_passes;
}

-- Proofs of the goals of `statistics_serve` (`laws`).
use Rattle.std.proofs.Common.{ap, ◌∙◌}
use Rattle.meaning.specs.Aggregate.{statistics, kept_by}
use Rattle.meaning.proofs.Merge.{statistics-append, kept_by-merge, value-statistics}
use Rattle.meaning_laws.proofs.laws.statistics_serve.Goals as goal

pub returns : goal.returns
returns c = λ kind. record {
  append = λ xs ys. ap (kept_by kind) (statistics-append xs ys) ∙ kept_by-merge kind (statistics xs) (statistics ys);
  value = value-statistics kind;
}

-- Proofs of the goals of `only_parts` (`jobs`).
use Rattle.std.proofs.Common.{ap, ◌∙◌, ◌++◌, ◌∷◌, []}
use Rattle.answer_cases.proofs.jobs.only_parts.Goals as goal

pub returns-clause-aggregate : goal.returns-clause-aggregate
returns-clause-aggregate c = (
  c.aggregate_of.result,
  c.in_ok-push-2.ensures.ok ∙ ap (λ xs. xs ++ c.aggregate_of.result ∷ []) c.new-aggs.ensures,
  c.aggregate_of.ensures.argument,
  c.aggregate_of.ensures.integer,
)

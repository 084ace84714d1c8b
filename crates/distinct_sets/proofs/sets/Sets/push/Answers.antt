-- Proofs of the goals of `Sets::push` (`sets`).
use Rattle.std.proofs.Common.{List, ◌≡◌, ◌+◌, ◌∷◌, [], ◌++◌, ap, rules, ◌∙◌}
use Rattle.meaning.specs.declared.answer.Statistics.{Statistics}
use Rattle.meaning.specs.Aggregate.{no_statistics}
use Rattle.distinct_sets.proofs.Entering.{one_group_more}
use Rattle.distinct_sets.proofs.sets.Sets.push.Goals as goal

pub returns-clause-ok : goal.returns-clause-ok
returns-clause-ok c =
    let more : c.in-Some.groups ≡ c.self.inside.groups + 1 = search rules in
    one_group_more c.self.inside.groups c.in-Some.groups c.self.inside.list more c.self.invariant
    ∙ ap (λ (ss : List Statistics). ss ++ no_statistics ∷ []) c.self.view_is

-- Proofs of the goals of `sum_plan` (`plans`).
use Rattle.std.proofs.Common.{List, ap, map, subst, sym, ◌∙◌}
use Rattle.meaning.specs.declared.plan.Item.{Item}
use Rattle.group_tests.specs.Shapes.{AreKeys, AreSums, IsHaving}
use Rattle.group_tests.proofs.SumPlans.{sum_plan}
use Rattle.group_tests.proofs.plans.sum_plan.Goals as goal

pub returns : goal.returns
returns c =
    let is = c.plan_with.ensures in
    sum_plan c.plan_with.result
    (subst AreKeys (sym is.keys) c.requires.keys)
    (subst AreSums (sym is.aggs) c.requires.sums)
    (ap (λ (items : List Item). map (λ i. i.expr) items) is.items ∙ c.requires.items)
    (subst IsHaving (sym is.having) c.requires.having)

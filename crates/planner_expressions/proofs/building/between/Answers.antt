-- Proofs of the goals of `between` (`building`).
use Rattle.std.proofs.Common.{rules, ◌≡◌, Some, None, refl}
use Rattle.meaning.specs.declared.expr.Expr.TheVariants as expr
use Rattle.planner_expressions.specs.Translated.{pair_some}
use Rattle.planner_expressions.proofs.Pairs.{three_made, three_wanting}
use Rattle.planner_expressions.proofs.building.between.Goals as goal

pub returns-in-Ok-Some-bounds : goal.returns-in-Ok-Some-bounds
returns-in-Ok-Some-bounds c = λ a b high low_is b_is c_is.
    let subject : Some c.in-Ok-Some.subject ≡ a = search (rules, c.one.ensures a low_is) in
    let bounds : Some (c.in-Ok-Some-bounds.low, c.in-Ok-Some-bounds.high) ≡ pair_some b high = search (rules, c.two-bounds.ensures b high b_is c_is) in
    three_made (λ u v w. expr.Between c.args.negated u v w) _ _ _ a b high _ refl subject bounds

pub returns-in-Ok-None-bounds : goal.returns-in-Ok-None-bounds
returns-in-Ok-None-bounds c = λ a b high low_is b_is c_is.
    let subject : Some c.in-Ok-Some.subject ≡ a = search (rules, c.one.ensures a low_is) in
    let bounds : None ≡ pair_some b high = search (rules, c.two-bounds.ensures b high b_is c_is) in
    three_wanting (λ u v w. expr.Between c.args.negated u v w) c.in-Ok-Some.subject a b high subject bounds

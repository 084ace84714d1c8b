-- Proofs of the goals of `given` (`basis`).
use Rattle.std.proofs.Common.{◌≡◌, false, List, ap, ap₂, sym, ◌∙◌}
use Rattle.planner_expressions.specs.declared.basis.Basis.{Basis}
use Rattle.planner_expressions.specs.Given.{given_in, group_given}
use Rattle.planner_expressions.specs.Operators.{operator_of, may_be_among}
use Rattle.planner_expressions.specs.Spelled.{Spelling, spelled}
use Rattle.planner_expressions.proofs.Beginnings.{none_given}
use Rattle.planner_expressions.proofs.basis.given.Goals as goal

pub returns-then-not-may_be_among : goal.returns-then-not-may_be_among
returns-then-not-may_be_among c =
    let scope = c.args.scope.now in
    let expr = c.args.expr.now in
    let keys = c.as_slice.result.now in
    let aggregates = c.as_slice-in-Groups.result.now in
    let none : may_be_among keys aggregates (operator_of expr) ≡ false = cc in
    none_given scope keys aggregates expr none
    ∙ ap₂ (λ (ks others : List Spelling). group_given ks others (spelled scope expr)) c.as_slice.ensures c.as_slice-in-Groups.ensures
    ∙ ap (λ (b : Basis). given_in scope b expr) (sym c.in-Groups.is)

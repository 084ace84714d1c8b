-- Proofs of the goals of `is_same_value` (`expressions`).
use Rattle.std.proofs.Common.{◌≡◌, true, sym, ap, subst, ◌∙◌}
use Rattle.std.specs.Cmp.{Equal-is}
use Rattle.std.specs.Ordering.{eq_by_cmp, is_eq}
use Rattle.std.proofs.lemmas.Cmp.{tied_itself}
use Rattle.meaning.specs.declared.value.Value.{Value}
use Rattle.meaning.specs.Order.{value_cmp, value_total}
use Rattle.meaning.proofs.Orders.{value_exact}
use Rattle.plan_equality.proofs.expressions.is_same_value.Goals as goal

same : (x y : Value) → (eq_by_cmp value_cmp x y ≡ true → x ≡ y) × (x ≡ y → eq_by_cmp value_cmp x y ≡ true)
same x y = (λ e. value_exact x y ((Equal-is (value_cmp x y)).0 e), λ e. subst (λ z. is_eq (value_cmp x z) ≡ true) e (ap is_eq (tied_itself value_total x)))

pub returns : goal.returns
returns c =
    let exact = same c.args.a.now c.args.b.now in
    ((λ e. exact.0 (sym c.eq.ensures ∙ e)), (λ e. c.eq.ensures ∙ exact.1 e))

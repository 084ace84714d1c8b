-- What calls in a row return.
use Rattle.std.proofs.Common.{◌≡◌, Result, Ok, Err, ap, subst, sym}
use Rattle.meaning.specs.Results.{and_then}
use Rattle.planner_expressions.specs.declared.fault.PlanFault.{PlanFault}
use Rattle.planner_expressions.specs.Results.{Reports}

module _ {X Y : Type 0} where
  -- what comes next is reported
  pub goes : (o s : Result X PlanFault) (x : X) (k : X → Result Y PlanFault) (t : Result Y PlanFault) → o ≡ Ok x → Reports o s → Reports t (k x) → Reports t (and_then s k)
  goes o s x k t is returned next =
      let s_is : s ≡ Ok x = subst (λ (r : Result X PlanFault). Reports r s) is returned in
      subst (λ (r : Result Y PlanFault). Reports t r) (sym (ap (λ (r : Result X PlanFault). and_then r k) s_is)) next

  -- and a fault, whatever would come next
  pub fails : (o s : Result X PlanFault) (f : PlanFault) (k : X → Result Y PlanFault) → o ≡ Err f → Reports o s → Reports {X = Y} (Err f) (and_then s k)
  fails o s f k is returned e = ap (λ (r : Result X PlanFault). and_then r k) (subst (λ (r : Result X PlanFault). Reports r s) is returned e)

-- what is reported is reported in other words
pub as_returned : {X : Type 0} (r s t : Result X PlanFault) → s ≡ t → Reports r s → Reports r t
as_returned {X} r s t is returned = subst (λ (x : Result X PlanFault). Reports r x) is returned

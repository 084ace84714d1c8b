-- The columns that a query reads, one after the other.
use Rattle.std.proofs.Common.{◌≡◌, Bool, true, false, List, [], ◌∷◌, ◌++◌, map, filter, cond, refl, ap, ◌∙◌, append_assoc}
use Rattle.meaning.specs.declared.plan.ColumnUse.{ColumnUse}
use Rattle.planner_expressions.specs.declared.scope.ScopeColumn.{ScopeColumn}
use Rattle.planner.specs.Planned.{use_of}

one_first : (x : ScopeColumn) (ys : List ScopeColumn) (b : Bool) → map use_of (cond b (x ∷ []) []) ++ map use_of ys ≡ map use_of (cond b (x ∷ ys) ys)
one_first x ys true = refl
one_first x ys false = refl

pub uses_step : (test : ScopeColumn → Bool) (old new : List ColumnUse) (x : ScopeColumn) (xs : List ScopeColumn) → new ≡ old ++ map use_of (filter test (x ∷ []))
    → new ++ map use_of (filter test xs) ≡ old ++ map use_of (filter test (x ∷ xs))
uses_step test old new x xs is =
    ap (λ (us : List ColumnUse). us ++ map use_of (filter test xs)) is
    ∙ append_assoc old (map use_of (filter test (x ∷ []))) (map use_of (filter test xs))
    ∙ ap (λ (us : List ColumnUse). old ++ us) (one_first x (filter test xs) (test x))

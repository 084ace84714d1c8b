-- The one column that a name refers to.
use Rattle.std.proofs.Common.{◌≡◌, inl, inr, ℕ, true, ◌&&◌, List, [], ◌∷◌, Option, Some, refl, subst, sym, ◌∙◌}
use Rattle.std.specs.Prelude.{bytes_eq}
use Rattle.std.specs.Option.{option_map_or}
use Rattle.planner_expressions.specs.declared.scope.ScopeColumn.{ScopeColumn}
use Rattle.planner_expressions.specs.declared.scope.Scope.{Scope}
use Rattle.planner_expressions.specs.Scope.{is_meant, meant, one_of, stands_for, found}
use Rattle.planner_expressions.proofs.Among.{Among, among_filter, filter_among}

pub one_is : (xs : List ScopeColumn) (p : ScopeColumn) → found (one_of xs) ≡ Some p → xs ≡ p ∷ []
one_is [] p is = absurd cc
one_is (x ∷ []) p is = let same : x ≡ p = cc in (λ i. same i ∷ [])
one_is (x ∷ y ∷ xs) p is = absurd cc

module _ (s : Scope) where
  -- it is one of FROM, and has the name
  pub stands_among : (table : Option (List ℕ)) (name : List ℕ) (p : ScopeColumn) → stands_for s table name ≡ Some p → Among s.columns p × (is_meant table name p ≡ true)
  stands_among table name p is =
      filter_among (is_meant table name) s.columns p (subst (λ (ps : List ScopeColumn). Among ps p) (sym (one_is (meant s table name) p is)) (inl refl))

  alone : (p q : ScopeColumn) → Among (p ∷ []) q → p ≡ q
  alone p q (inl same) = same
  alone p q (inr there) = absurd there

  -- two names that refer to columns of one name, whose tables go by one name, refer to one column
  pub same_column : (t u : Option (List ℕ)) (m n : List ℕ) (p q : ScopeColumn) → stands_for s t m ≡ Some p → stands_for s u n ≡ Some q → p.owner ≡ q.owner → p.name ≡ q.name → p ≡ q
  same_column t u m n p q p_is q_is owner name =
      let here = stands_among t m p p_is in
      let there = stands_among u n q q_is in
      let also : is_meant t m q ≡ true = (λ i. bytes_eq (sym name i) m && option_map_or (bytes_eq (sym owner i)) t true) ∙ here.1 in
      alone p q (subst (λ (ps : List ScopeColumn). Among ps q) (one_is (meant s t m) p p_is) (among_filter (is_meant t m) s.columns q also there.0))

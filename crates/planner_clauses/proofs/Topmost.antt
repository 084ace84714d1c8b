-- The topmost parts of a tree that pass a test.
use Rattle.std.proofs.Common.{rules, ◌≡◌, Bool, true, false, not, List, [], ◌∷◌, ◌++◌, flat_map, Option, Some, None, unwrap_or, cond, Result, Ok, Err, OnOk, refl, ap, ap₂, sym, ◌∙◌, append_assoc}
use Rattle.std.proofs.lemmas.List.{append-nil}
use Rattle.meaning.specs.declared.plan.JoinType.{JoinType}
use Rattle.sql_syntax.specs.declared.tree.Arm.{Arm}
use Rattle.sql_syntax.specs.declared.tree.Expr.{Expr}
use Rattle.sql_syntax.specs.declared.tree.Expr.TheOpen as node
use Rattle.sql_syntax.specs.declared.tree.Expr.TheOpen.{Expr-F}
use Rattle.sql_syntax.specs.declared.tree.Expr.TheVariants as tree
use Rattle.sql_syntax.specs.declared.tree.Expr.TheFolds.{the_lemmas}
use Rattle.sql_syntax.specs.declared.tree.Expr.TheViews.{roll-Expr, out-Expr}
use Rattle.planner_expressions.specs.declared.scope.Scope.{Scope}
use Rattle.planner_clauses.specs.declared.conjuncts.Conjuncts.{Conjuncts}
use Rattle.planner_clauses.specs.Conjuncts.{with_conjunct, with_conjuncts, conjuncts_of, is_no_and, is_and_node}
use Rattle.planner_expressions.specs.Trees.{Node, parts_of, topmost}
use Rattle.planner_expressions.proofs.Replaced.{parts_give, at_node, at_tree}

module _ (test : Expr → Bool) where
  abbrev pub given : Expr → Option (List Expr)
  given e = cond (test e) (Some (e ∷ [])) None

  abbrev pub joined : Node (List Expr) → List Expr
  joined n = flat_map (λ part. part) (parts_of n)

  -- those of the parts of a node
  abbrev pub of_parts : Expr-F Expr Arm → List Expr
  of_parts x = joined (parts_give given joined x)

  pub passes : (e : Expr) → test e ≡ true → topmost test e ≡ e ∷ []
  passes e is = at_tree given joined e ∙ ap (λ (b : Bool). unwrap_or (cond b (Some (e ∷ [])) None) (of_parts (out-Expr e))) is

  pub below : (x : Expr-F Expr Arm) (e : Expr) → roll-Expr x ≡ e → test e ≡ false → topmost test e ≡ of_parts x
  below x e is fails =
      ap (topmost test) (sym is)
      ∙ at_node given joined x
      ∙ ap (λ (t : Expr). unwrap_or (given t) (of_parts x)) is
      ∙ ap (λ (b : Bool). unwrap_or (cond b (Some (e ∷ [])) None) (of_parts x)) fails

pub if_so : {X E P Q : Type 0} (r : Result X E) → (P → Q) → OnOk r P → OnOk r Q
if_so (Ok x) f p = f p
if_so (Err e) f p = tt

-- ---- conjuncts

pub with_append : (s : Scope) (by : JoinType) (c : Conjuncts) (xs ys : List Expr) → with_conjuncts s by c (xs ++ ys) ≡ with_conjuncts s by (with_conjuncts s by c xs) ys
with_append s by c [] ys = refl
with_append s by c (x ∷ xs) ys = with_append s by (with_conjunct s by c x) xs ys

no_no_and : (a b : Expr) → is_no_and (tree.And a b) ≡ false
no_no_and a b = search (rules, the_lemmas)

and_is : (a b : Expr) → conjuncts_of (tree.And a b) ≡ conjuncts_of a ++ conjuncts_of b
and_is a b =
    below is_no_and (node.And a b) (tree.And a b) (tree.rolls-And a b) (no_no_and a b)
    ∙ ap (λ (xs : List Expr). conjuncts_of a ++ xs) (append-nil (conjuncts_of b))

pub and_step : (s : Scope) (by : JoinType) (old mid new : Conjuncts) (e a b a' b' : Expr) → e ≡ tree.And a b → a' ≡ a → b' ≡ b → mid ≡ with_conjuncts s by old (conjuncts_of a')
    → new ≡ with_conjuncts s by mid (conjuncts_of b') → new ≡ with_conjuncts s by old (conjuncts_of e)
and_step s by old mid new e a b a' b' is a_is b_is mid_is new_is =
    new_is
    ∙ ap₂ (λ (c : Conjuncts) (x : Expr). with_conjuncts s by c (conjuncts_of x)) (mid_is ∙ ap (λ (x : Expr). with_conjuncts s by old (conjuncts_of x)) a_is) b_is
    ∙ sym (with_append s by old (conjuncts_of a) (conjuncts_of b))
    ∙ ap (with_conjuncts s by old) (sym (ap conjuncts_of is ∙ and_is a b))

pub one_step : (s : Scope) (by : JoinType) (old new : Conjuncts) (e : Expr) → is_and_node (out-Expr e) ≡ false → new ≡ with_conjunct s by old e → new ≡ with_conjuncts s by old (conjuncts_of e)
one_step s by old new e is new_is = new_is ∙ ap (with_conjuncts s by old) (sym (passes is_no_and e (ap not is)))

pub flat_append : (xs ys : List Expr) → flat_map conjuncts_of (xs ++ ys) ≡ flat_map conjuncts_of xs ++ flat_map conjuncts_of ys
flat_append [] ys = refl
flat_append (x ∷ xs) ys =
    ap (λ (zs : List Expr). conjuncts_of x ++ zs) (flat_append xs ys) ∙ sym (append_assoc (conjuncts_of x) (flat_map conjuncts_of xs) (flat_map conjuncts_of ys))

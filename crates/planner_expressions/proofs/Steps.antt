-- Steps of translation: a node from its parts, and lists one after the other.
use Rattle.std.proofs.Common.{◌≡◌, ◌+◌, ◌<◌, ℕ, suc, Bool, true, false, List, [], ◌∷◌, ◌++◌, length, drop, get_or, map, Option, Some, None, option_map, unwrap_or, Result, Ok, Err, IfOk, refl, ap, sym, ◌∙◌, append_assoc, arith}
use Rattle.std.proofs.Math.Seq.{drop-cons}
use Rattle.meaning.specs.declared.expr.Expr as plan
use Rattle.meaning.specs.declared.expr.Expr.TheVariants as expr
use Rattle.sql_syntax.specs.declared.tree.Arm.{Arm}
use Rattle.sql_syntax.specs.declared.tree.Expr.{Expr}
use Rattle.sql_syntax.specs.declared.tree.Expr.TheOpen as node
use Rattle.sql_syntax.specs.declared.tree.Expr.TheOpen.{Expr-F}
use Rattle.sql_syntax.specs.declared.tree.Expr.TheViews.{roll-Expr}
use Rattle.planner_expressions.specs.Translated.{Made, made, translated, translated_arm, two_some, all_some, if_all, arm_of, else_of}
use Rattle.planner_expressions.proofs.Replaced.{parts_give, at_node, at_tree}

-- ---- nodes

module _ (given : Expr → Option plan.Expr) where
  abbrev some_given : Expr → Option Made
  some_given e = option_map (λ x. Some x) (given e)

  -- a node of which the parts are translated
  abbrev pub of_parts : Expr-F Expr Arm → Made
  of_parts x = made (parts_give some_given made x)

  pub at_parts : (x : Expr-F Expr Arm) (e : Expr) → roll-Expr x ≡ e → given e ≡ None → of_parts x ≡ translated given e
  at_parts x e is none =
      ap (λ (o : Option plan.Expr). unwrap_or (option_map (λ x. Some x) o) (of_parts x)) (sym none)
      ∙ ap (λ (t : Expr). unwrap_or (some_given t) (of_parts x)) (sym is)
      ∙ sym (at_node some_given made x)
      ∙ ap (translated given) is

  pub by_parts : {E : Type 0} (x : Expr-F Expr Arm) (e : Expr) (r : Result Made E) → roll-Expr x ≡ e → given e ≡ None → IfOk r (λ y. y ≡ of_parts x) → IfOk r (λ y. y ≡ translated given e)
  by_parts x e (Ok y) is none says = says ∙ at_parts x e is none
  by_parts x e (Err f) is none says = tt

  pub was_given : (e : Expr) (x : plan.Expr) → given e ≡ Some x → Some x ≡ translated given e
  was_given e x is =
      sym (at_tree some_given made e ∙ ap (λ (o : Option plan.Expr). unwrap_or (option_map (λ x. Some x) o) (made (parts_give some_given made (Rattle.sql_syntax.specs.declared.tree.Expr.TheViews.out-Expr e)))) is)

  pub case_parts : (arms : List Arm) (otherwise : Option Expr)
      → two_some (λ xs y. expr.Case xs y) (all_some (map arm_of (map (translated_arm given) arms))) (else_of (option_map (translated given) otherwise)) ≡ of_parts (node.Case arms otherwise)
  case_parts arms None = refl
  case_parts arms (Some e) = refl

-- ---- lists

module _ {X : Type 0} where
  abbrev pub behind : List X → Option (List X) → Option (List X)
  behind old rest = option_map (λ xs. old ++ xs) rest

  pub goes_on : (old new : List X) (o : Option X) (rest all : Option (List X)) → Some new ≡ option_map (λ y. old ++ y ∷ []) o
      → behind old (two_some (λ y ys. y ∷ ys) o rest) ≡ all → behind new rest ≡ all
  goes_on old new None rest all is kept = absurd cc
  goes_on old new (Some y) None all is kept = kept
  goes_on old new (Some y) (Some ys) all is kept =
      let same : new ≡ old ++ y ∷ [] = cc in
      ap (λ (xs : List X). Some (xs ++ ys)) same ∙ ap (λ (xs : List X). Some xs) (append_assoc old (y ∷ []) ys) ∙ kept

  pub stops : (old : List X) (o : Option X) (rest all : Option (List X)) → None ≡ option_map (λ y. old ++ y ∷ []) o
      → behind old (two_some (λ y ys. y ∷ ys) o rest) ≡ all → None ≡ all
  stops old None rest all is kept = kept
  stops old (Some y) rest all is kept = absurd cc

  -- what was put says whether it was there
  pub there : {E : Type 0} (r : Result Bool E) (b : Bool) (new : List X) (o : Option (List X)) → r ≡ Ok b → b ≡ true → IfOk r (λ t. if_all t new ≡ o) → Some new ≡ o
  there (Err e) b new o is on says = absurd cc
  there (Ok true) b new o is on says = says
  there (Ok false) b new o is on says = absurd cc

  pub missing : {E : Type 0} (r : Result Bool E) (b : Bool) (new : List X) (o : Option (List X)) → r ≡ Ok b → b ≡ false → IfOk r (λ t. if_all t new ≡ o) → None ≡ o
  missing (Err e) b new o is off says = absurd cc
  missing (Ok true) b new o is off says = absurd cc
  missing (Ok false) b new o is off says = says

  -- behind nothing
  pub behind_none : (o : Option (List X)) → behind [] o ≡ o
  behind_none None = refl
  behind_none (Some xs) = refl

  pub from_none : {E : Type 0} (r : Result Bool E) (old new : List X) (o : Option (List X)) → old ≡ [] → IfOk r (λ t. if_all t new ≡ behind old o) → IfOk r (λ t. if_all t new ≡ o)
  from_none (Ok t) old new o is says = says ∙ ap (λ (xs : List X). behind xs o) is ∙ behind_none o
  from_none (Err e) old new o is says = tt

-- what is left of a list begins with the next
pub next_left : {X : Type 0} (xs : List X) (i : ℕ) (x d : X) → i < length xs → x ≡ get_or xs i d → drop i xs ≡ x ∷ drop (i + 1) xs
next_left xs i x d within is =
    let one : suc i ≡ i + 1 = omega arith in
    drop-cons xs i d within ∙ (λ k. sym is k ∷ drop (one k) xs)

-- A tree with whose operator none of a list begins is not among them.
use Rattle.std.proofs.Common.{rules, ◌≡◌, ℕ, suc, ◌+◌, cond, length, Bool, true, false, not, ◌||◌, List, [], ◌∷◌, Option, Some, None, refl, ap, ap₂, subst, sym, ◌∙◌, arith}
use Rattle.std.specs.Prelude.{nat_lt}
use Rattle.std.specs.List.{list_any, position_or_len}
use Rattle.std.proofs.lemmas.Bool.Decides.{nat_tests}
use Rattle.meaning.proofs.Tests.{first_of}
use Rattle.sql_syntax.specs.declared.tree.Arm.{Arm}
use Rattle.sql_syntax.specs.declared.tree.Expr.{Expr}
use Rattle.sql_syntax.specs.declared.tree.Expr.TheOpen as node
use Rattle.sql_syntax.specs.declared.tree.Expr.TheOpen.{Expr-F}
use Rattle.sql_syntax.specs.declared.tree.Expr.TheFolds.{the_lemmas, map-Expr}
use Rattle.sql_syntax.specs.declared.tree.Expr.TheViews.{out-Expr}
use Rattle.planner_expressions.specs.declared.marks.Mark.{Mark}
use Rattle.planner_expressions.specs.declared.marks.Mark.TheVariants as mark
use Rattle.planner_expressions.specs.declared.marks.Operator.{Operator}
use Rattle.planner_expressions.specs.declared.scope.Scope.{Scope}
use Rattle.planner_expressions.specs.Spelled.{Spelling, spell_node, spelled, spelled_arm, same_mark, same_spelling, index_among}
use Rattle.planner_expressions.specs.Given.{group_given, key_first}
use Rattle.planner_expressions.specs.Operators.{node_operator, operator_of, is_mark_of, begins, may_be_among}
use Rattle.planner_expressions.proofs.Impossible.{never}

neither : (a b : Bool) → (a || b) ≡ false → (a ≡ false) × (b ≡ false)
neither true b e = never e
neither false b e = (refl, e)

not_below : (n : ℕ) → nat_lt n n ≡ false
not_below n = grind (arith, nat_tests)

one_further : (b : Bool) (n m : ℕ) → b ≡ false → n ≡ m → cond (not b) (1 + n) 0 ≡ suc m
one_further true n m is same = never is
one_further false n m is same = omega (arith, same)

-- what one test refuses of all, where another refuses all
none_passes : {X : Type 0} (p q : X → Bool) → ((x : X) → q x ≡ false → p x ≡ false) → (xs : List X) → list_any q xs ≡ false → position_or_len p xs ≡ length xs
none_passes p q to [] none = refl
none_passes p q to (x ∷ xs) none =
    let parts = neither (q x) (list_any q xs) none in
    one_further (p x) (position_or_len p xs) (length xs) (to x parts.0) (none_passes p q to xs parts.1)

abbrev first : Spelling → Option Mark
first [] = None
first (here ∷ rest) = Some here

same_first : (k : Operator) (c : Mark) → same_mark (mark.Operator k) c ≡ true → is_mark_of k c ≡ true
same_first k (mark.Operator l) same = same
same_first k _ same = never (sym same)

begins_alike : (k : Operator) (y w : Spelling) → first y ≡ Some (mark.Operator k) → same_spelling y w ≡ true → begins k w ≡ true
begins_alike k [] w is e = absurd cc
begins_alike k (j ∷ xs) [] is e = never (sym e)
begins_alike k (j ∷ xs) (c ∷ cs) is e =
    let both : Some j ≡ Some (mark.Operator k) = is in
    let same : j ≡ mark.Operator k = cc in
    same_first k c (subst (λ (i : Mark). same_mark i c ≡ true) same (first_of (same_mark j c) (same_spelling xs cs) e))

module _ (s : Scope) where
  abbrev spell_at : Expr-F Expr Arm → Spelling
  spell_at x = spell_node s (map-Expr Expr Arm Spelling (Spelling × Spelling) (spelled s) (spelled_arm s) x)

  spelled_out : (e : Expr) → spelled s e ≡ spell_at (out-Expr e)
  spelled_out e = search (rules, the_lemmas)

  abbrev as_mark : Option Operator → Option Mark
  as_mark None = None
  as_mark (Some k) = Some (mark.Operator k)

  first_at : (x : Expr-F Expr Arm) (k : Operator) → node_operator x ≡ Some k → first (spell_at x) ≡ Some (mark.Operator k)
  first_at (node.Column table name) k is = absurd cc
  first_at (node.Integer n) k is = absurd cc
  first_at (node.Text t) k is = absurd cc
  first_at node.CountRows k is = ap as_mark is
  first_at (node.Aggregate kind a) k is = ap as_mark is
  first_at (node.Minus a) k is = ap as_mark is
  first_at (node.Arithmetic op a b) k is = ap as_mark is
  first_at (node.Compare op a b) k is = ap as_mark is
  first_at (node.Not a) k is = ap as_mark is
  first_at (node.And a b) k is = ap as_mark is
  first_at (node.Or a b) k is = ap as_mark is
  first_at (node.IsNull negated a) k is = ap as_mark is
  first_at (node.Between negated a low high) k is = ap as_mark is
  first_at (node.In negated a entries) k is = ap as_mark is
  first_at (node.Like negated a pattern) k is = ap as_mark is
  first_at (node.Coalesce entries) k is = ap as_mark is
  first_at (node.Case arms otherwise) k is = ap as_mark is

  differs : (e : Expr) (k : Operator) (w : Spelling) → operator_of e ≡ Some k → begins k w ≡ false → same_spelling (spelled s e) w ≡ false
  differs e k w is other = decided (same_spelling (spelled s e) w) refl
    where
      decided : (b : Bool) → same_spelling (spelled s e) w ≡ b → b ≡ false
      decided false same = refl
      decided true same =
          let same_at = subst (λ (x : Spelling). same_spelling x w ≡ true) (spelled_out e) same in
          never (sym (begins_alike k (spell_at (out-Expr e)) w (first_at (out-Expr e) k is) same_at) ∙ other)

  not_among : (e : Expr) (k : Operator) (list : List Spelling) → operator_of e ≡ Some k → list_any (begins k) list ≡ false → index_among list (spelled s e) ≡ None
  not_among e k list is none =
      let all = none_passes (same_spelling (spelled s e)) (begins k) (λ w other. differs e k w is other) list none in
      ap (λ (n : ℕ). cond (nat_lt n (length list)) (Some n) None) all
      ∙ ap (λ (b : Bool). cond b (Some (length list)) None) (not_below (length list))

  pub none_given : (keys aggregates : List Spelling) (e : Expr) → may_be_among keys aggregates (operator_of e) ≡ false → None ≡ group_given keys aggregates (spelled s e)
  none_given keys aggregates e none = by_operator (operator_of e) refl none
    where
      by_operator : (o : Option Operator) → operator_of e ≡ o → may_be_among keys aggregates o ≡ false → None ≡ group_given keys aggregates (spelled s e)
      by_operator None is none = never none
      by_operator (Some k) is none =
          let parts = neither (list_any (begins k) keys) (list_any (begins k) aggregates) none in
          sym (ap₂ key_first (not_among e k keys is parts.0) (not_among e k aggregates is parts.1))

-- What trees that are spelled alike have in common.
use Rattle.std.proofs.Common.{rules, ◌≡◌, ℕ, Bool, true, List, [], ◌∷◌, map, Option, Some, None, option_map, unwrap_or, Result, Ok, Err, refl, ap, ap₂, sym, ◌∙◌}
use Rattle.meaning.specs.Results.{all_ok, and_then, with_result}
use Rattle.meaning.specs.declared.expr.Expr as plan
use Rattle.meaning.specs.declared.outcome.Outcome.TheVariants as gives
use Rattle.sql_syntax.specs.declared.tree.Arm.{Arm}
use Rattle.sql_syntax.specs.declared.tree.Expr.{Expr}
use Rattle.sql_syntax.specs.declared.tree.Expr.TheOpen as node
use Rattle.sql_syntax.specs.declared.tree.Expr.TheOpen.{Expr-F}
use Rattle.sql_syntax.specs.declared.tree.Expr.TheFolds.{the_lemmas, map-Expr, fold-roll-Expr}
use Rattle.sql_syntax.specs.declared.tree.Expr.TheViews.{roll-Expr, out-Expr}
use Rattle.planner_expressions.specs.declared.fault.PlanFault.{PlanFault}
use Rattle.planner_expressions.specs.declared.scope.ScopeColumn.{ScopeColumn}
use Rattle.planner_expressions.specs.declared.scope.Scope.{Scope}
use Rattle.planner_expressions.specs.declared.sort.Sort.{Sort}
use Rattle.planner_expressions.specs.declared.sort.Sort.TheVariants.{Truth}
use Rattle.planner_expressions.specs.Alike.{SpelledMean, SpelledTranslate, SpelledSorts}
use Rattle.planner_expressions.specs.Given.{node_column, column_meant, column_expr}
use Rattle.planner_expressions.specs.Judged.{Returned, Judgement, judge_node, judge_arm, judged, judged_arm, two, typed, each, each_arm, arm_sorts, else_sort, case_sort, over_part}
use Rattle.planner_expressions.specs.Meant.{operated, value_in}
use Rattle.planner_expressions.specs.Results.{map_ok}
use Rattle.planner_expressions.specs.Scope.{meant, one_of, stands_for, found}
use Rattle.planner_expressions.specs.Sorts.{sort_of_type, are_alike, first_of}
use Rattle.planner_expressions.specs.Spelled.{spelled}
use Rattle.planner_expressions.specs.Translated.{made}
use Rattle.planner_expressions.specs.Trees.{Node, replaced}
use Rattle.planner_expressions.proofs.Accepted.{goes_there, front_there}
use Rattle.planner_expressions.proofs.Replaced.{parts_give, at_node}
use Rattle.planner_expressions.proofs.SpelledAlike.{Pair, ArmPair, lefts, rights, alike}

-- ---- what is made of the parts, where a name gives what its column gives

module _ (s : Scope) {X : Type 0} (by_column : Option ScopeColumn → Option X) (make : Node X → X) (unnamed : (t u : Option (List ℕ)) (m n : List ℕ) → make (node.Column t m) ≡ make (node.Column u n)) where
  abbrev given : Expr → Option X
  given e = by_column (column_meant s e)

  abbrev gives_of : Expr → X
  gives_of = replaced given make

  abbrev Same : Expr → Expr → Type 0
  Same a b = gives_of a ≡ gives_of b

  abbrev P : Type 0
  P = Pair s Same

  abbrev PA : Type 0
  PA = ArmPair s Same

  abbrev arm_gives : Arm → X × X
  arm_gives a = (gives_of a.condition, gives_of a.value)

  abbrev pub step : Expr-F Expr Arm → X
  step x = unwrap_or (by_column (node_column s x)) (make (parts_give given make x))

  out_rolls : (x : Expr-F Expr Arm) → out-Expr (roll-Expr x) ≡ x
  out_rolls x = search (rules, the_lemmas)

  pub steps : (x : Expr-F Expr Arm) → gives_of (roll-Expr x) ≡ step x
  steps x = at_node given make x ∙ ap (λ (v : Expr-F Expr Arm). unwrap_or (by_column (node_column s v)) (make (parts_give given make x))) (out_rolls x)

  list_same : (ps : List P) → map gives_of (map (λ (p : P). p.0) ps) ≡ map gives_of (map (λ (p : P). p.1) ps)
  list_same [] = refl
  list_same (p ∷ ps) = ap₂ (λ (y : X) (ys : List X). y ∷ ys) p.2 (list_same ps)

  arms_same : (ps : List PA) → map arm_gives (map (λ (p : PA). p.0) ps) ≡ map arm_gives (map (λ (p : PA). p.1) ps)
  arms_same [] = refl
  arms_same (p ∷ ps) = ap₂ (λ (y : X × X) (ys : List (X × X)). y ∷ ys) (ap₂ (λ (c v : X). (c, v)) p.2 p.3) (arms_same ps)

  given_same : (f : X → X) (y z : X) → y ≡ z → unwrap_or (by_column None) (f y) ≡ unwrap_or (by_column None) (f z)
  given_same f y z is = ap (λ (x : X). unwrap_or (by_column None) (f x)) is

  step_same : (x : Expr-F P PA) → step (lefts s Same x) ≡ step (rights s Same x)
  step_same (node.Column t n) = refl
  step_same (node.Integer n) = refl
  step_same (node.Text t) = refl
  step_same node.CountRows = refl
  step_same (node.Aggregate k a) = ap (λ (y : X). unwrap_or (by_column None) (make (node.Aggregate k y))) a.2
  step_same (node.Minus a) = ap (λ (y : X). unwrap_or (by_column None) (make (node.Minus y))) a.2
  step_same (node.Arithmetic op a b) = ap₂ (λ (y z : X). unwrap_or (by_column None) (make (node.Arithmetic op y z))) a.2 b.2
  step_same (node.Compare op a b) = ap₂ (λ (y z : X). unwrap_or (by_column None) (make (node.Compare op y z))) a.2 b.2
  step_same (node.Not a) = ap (λ (y : X). unwrap_or (by_column None) (make (node.Not y))) a.2
  step_same (node.And a b) = ap₂ (λ (y z : X). unwrap_or (by_column None) (make (node.And y z))) a.2 b.2
  step_same (node.Or a b) = ap₂ (λ (y z : X). unwrap_or (by_column None) (make (node.Or y z))) a.2 b.2
  step_same (node.IsNull negated a) = ap (λ (y : X). unwrap_or (by_column None) (make (node.IsNull negated y))) a.2
  step_same (node.Between negated a low high) = λ i. unwrap_or (by_column None) (make (node.Between negated (a.2 i) (low.2 i) (high.2 i)))
  step_same (node.In negated a entries) = ap₂ (λ (y : X) (ys : List X). unwrap_or (by_column None) (make (node.In negated y ys))) a.2 (list_same entries)
  step_same (node.Like negated a pattern) = ap (λ (y : X). unwrap_or (by_column None) (make (node.Like negated y pattern))) a.2
  step_same (node.Coalesce entries) = ap (λ (ys : List X). unwrap_or (by_column None) (make (node.Coalesce ys))) (list_same entries)
  step_same (node.Case arms None) = ap (λ (ys : List (X × X)). unwrap_or (by_column None) (make (node.Case ys None))) (arms_same arms)
  step_same (node.Case arms (Some e)) = ap₂ (λ (ys : List (X × X)) (y : X). unwrap_or (by_column None) (make (node.Case ys (Some y)))) (arms_same arms) e.2

  name_same : (t u : Option (List ℕ)) (m n : List ℕ) → stands_for s t m ≡ stands_for s u n → Same (roll-Expr (node.Column t m)) (roll-Expr (node.Column u n))
  name_same t u m n is =
      steps (node.Column t m) ∙ ap₂ (λ (o : Option ScopeColumn) (x : X). unwrap_or (by_column o) x) is (unnamed t u m n) ∙ sym (steps (node.Column u n))

  pub gives_same : (a b : Expr) → spelled s a ≡ spelled s b → gives_of a ≡ gives_of b
  gives_same = alike s Same (λ x. steps (lefts s Same x) ∙ step_same x ∙ sym (steps (rights s Same x))) name_same

pub spelled_mean : SpelledMean
spelled_mean s a b is r = gives_same s (λ o. option_map (λ (p : ScopeColumn). gives.Value (value_in r p.join p.column)) o) operated (λ t u m n. refl) a b is

pub spelled_translate : SpelledTranslate
spelled_translate s = gives_same s (λ o. option_map (λ (x : plan.Expr). Some x) (option_map column_expr o)) made (λ t u m n. refl)

-- ---- sorts

module _ (s : Scope) where
  abbrev Sorted : Expr → Expr → Type 0
  Sorted a b = (barred : Bool) (z : Sort) → judged s a barred ≡ Ok z → judged s b barred ≡ Ok z

  abbrev Q : Type 0
  Q = Pair s Sorted

  abbrev QA : Type 0
  QA = ArmPair s Sorted

  abbrev judge_at : Bool → Expr-F Expr Arm → Returned
  judge_at b x = judge_node s (map-Expr Expr Arm Judgement (Judgement × Judgement) (judged s) (judged_arm s) x) b

  rolled : (b : Bool) (x : Expr-F Expr Arm) → judged s (roll-Expr x) b ≡ judge_at b x
  rolled b x = ap (λ (j : Judgement). j b) (fold-roll-Expr Judgement (Judgement × Judgement) (judge_node s) judge_arm x)

  arm_judged : (b : Bool) (a : Arm) → arm_sorts b (judged_arm s a) ≡ arm_sorts b (judged s a.condition, judged s a.value)
  arm_judged b a = ap (arm_sorts b) (parts a)
    where
      parts : (a : Arm) → judged_arm s a ≡ (judged s a.condition, judged s a.value)
      parts a = search (rules, the_lemmas)

  -- the other returns the same, where the one has no fault
  as_returned : (p : Q) (b : Bool) (z : Sort) → judged s p.0 b ≡ Ok z → judged s p.1 b ≡ judged s p.0 b
  as_returned p b z is = p.2 b z is ∙ sym is

  one_sorted : (p : Q) (b : Bool) (k : Sort → Returned) (z : Sort) → and_then (judged s p.0 b) k ≡ Ok z → and_then (judged s p.1 b) k ≡ Ok z
  one_sorted p b k z is =
      let x = goes_there (judged s p.0 b) k z is in
      ap (λ (t : Returned). and_then t k) (as_returned p b x.0 x.1) ∙ is

  two_sorted : (p q : Q) (b : Bool) (k : Sort → Sort → Returned) (z : Sort) → two (judged s p.0 b) (judged s q.0 b) k ≡ Ok z → two (judged s p.1 b) (judged s q.1 b) k ≡ Ok z
  two_sorted p q b k z is =
      let x = goes_there (judged s p.0 b) (λ x. and_then (judged s q.0 b) (λ y. k x y)) z is in
      let y = goes_there (judged s q.0 b) (λ y. k x.0 y) z x.2 in
      ap₂ (λ (t u : Returned). two t u k) (as_returned p b x.0 x.1) (as_returned q b y.0 y.1) ∙ is

  list_sorted : (ps : List Q) (b : Bool) (zs : List Sort) → all_ok (each b (map (judged s) (map (λ (p : Q). p.0) ps))) ≡ Ok zs
      → all_ok (each b (map (judged s) (map (λ (p : Q). p.1) ps))) ≡ all_ok (each b (map (judged s) (map (λ (p : Q). p.0) ps)))
  list_sorted [] b zs is = refl
  list_sorted (p ∷ ps) b zs is =
      let parts = front_there (judged s p.0 b) (all_ok (each b (map (judged s) (map (λ (d : Q). d.0) ps)))) zs is in
      ap₂ (λ (t : Returned) (ts : Result (List Sort) PlanFault). with_result t ts) (as_returned p b parts.0.0 parts.0.1) (list_sorted ps b parts.1.0 parts.1.1)

  arm_sorted : (p : QA) (b : Bool) (z : Sort × Sort) → arm_sorts b (judged_arm s p.0) ≡ Ok z → arm_sorts b (judged_arm s p.1) ≡ arm_sorts b (judged_arm s p.0)
  arm_sorted p b z is =
      let returned = sym (arm_judged b p.0) ∙ is in
      let first = goes_there (judged s p.0.condition b) (λ c. and_then (judged s p.0.value b) (λ v. Ok (c, v))) z returned in
      let second = goes_there (judged s p.0.value b) (λ v. Ok (first.0, v)) z first.2 in
      arm_judged b p.1
      ∙ ap₂ (λ (c v : Returned). and_then c (λ x. and_then v (λ y. Ok (x, y)))) (p.2 b first.0 first.1 ∙ sym first.1) (p.3 b second.0 second.1 ∙ sym second.1)
      ∙ sym (arm_judged b p.0)

  arms_sorted : (ps : List QA) (b : Bool) (zs : List (Sort × Sort)) → all_ok (each_arm b (map (judged_arm s) (map (λ (p : QA). p.0) ps))) ≡ Ok zs
      → all_ok (each_arm b (map (judged_arm s) (map (λ (p : QA). p.1) ps))) ≡ all_ok (each_arm b (map (judged_arm s) (map (λ (p : QA). p.0) ps)))
  arms_sorted [] b zs is = refl
  arms_sorted (p ∷ ps) b zs is =
      let parts = front_there (arm_sorts b (judged_arm s p.0)) (all_ok (each_arm b (map (judged_arm s) (map (λ (d : QA). d.0) ps)))) zs is in
      ap₂ (λ (t : Result (Sort × Sort) PlanFault) (ts : Result (List (Sort × Sort)) PlanFault). with_result t ts) (arm_sorted p b parts.0.0 parts.0.1) (arms_sorted ps b parts.1.0 parts.1.1)

  some_there : (r : Returned) (o : Option Sort) → map_ok (λ (x : Sort). Some x) r ≡ Ok o → (x : Sort) × (r ≡ Ok x)
  some_there (Err f) o is = absurd cc
  some_there (Ok x) o is = (x, refl)

  node_sorted : (x : Expr-F Q QA) (b : Bool) (z : Sort) → judge_at b (lefts s Sorted x) ≡ Ok z → judge_at b (rights s Sorted x) ≡ Ok z
  node_sorted (node.Column t n) b z is = is
  node_sorted (node.Integer n) b z is = is
  node_sorted (node.Text t) b z is = is
  node_sorted node.CountRows b z is = is
  node_sorted (node.Aggregate k a) b z is = one_sorted a true (over_part k b) z is
  node_sorted (node.Minus a) b z is = one_sorted a b _ z is
  node_sorted (node.Arithmetic op a c) b z is = two_sorted a c b _ z is
  node_sorted (node.Compare op a c) b z is = two_sorted a c b _ z is
  node_sorted (node.Not a) b z is = one_sorted a b _ z is
  node_sorted (node.And a c) b z is = two_sorted a c b _ z is
  node_sorted (node.Or a c) b z is = two_sorted a c b _ z is
  node_sorted (node.IsNull negated a) b z is = one_sorted a b _ z is
  node_sorted (node.Between negated a low high) b z is =
      let x = goes_there (judged s a.0 b) _ z is in
      let bounds = two_sorted low high b _ z x.2 in
      ap (λ (t : Returned). and_then t (λ x. two (judged s low.1 b) (judged s high.1 b) (λ y w. typed (are_alike (x ∷ y ∷ w ∷ [])) Truth))) (a.2 b x.0 x.1) ∙ bounds
  node_sorted (node.In negated a entries) b z is =
      let x = goes_there (judged s a.0 b) _ z is in
      let list = goes_there (all_ok (each b (map (judged s) (map (λ (p : Q). p.0) entries)))) _ z x.2 in
      ap₂ (λ (t : Returned) (ts : Result (List Sort) PlanFault). and_then t (λ y. and_then ts (λ ys. typed (are_alike (y ∷ ys)) Truth))) (as_returned a b x.0 x.1) (list_sorted entries b list.0 list.1) ∙ is
  node_sorted (node.Like negated a pattern) b z is = one_sorted a b _ z is
  node_sorted (node.Coalesce entries) b z is =
      let list = goes_there (all_ok (each b (map (judged s) (map (λ (p : Q). p.0) entries)))) _ z is in
      ap (λ (ts : Result (List Sort) PlanFault). and_then ts (λ ys. typed (are_alike ys) (first_of ys))) (list_sorted entries b list.0 list.1) ∙ is
  node_sorted (node.Case arms None) b z is =
      let list = goes_there (all_ok (each_arm b (map (judged_arm s) (map (λ (p : QA). p.0) arms)))) _ z is in
      ap (λ (ts : Result (List (Sort × Sort)) PlanFault). and_then ts (λ ps. case_sort ps None)) (arms_sorted arms b list.0 list.1) ∙ is
  node_sorted (node.Case arms (Some e)) b z is =
      let list = goes_there (all_ok (each_arm b (map (judged_arm s) (map (λ (p : QA). p.0) arms)))) _ z is in
      let last = goes_there (else_sort b (Some (judged s e.0))) _ z list.2 in
      let value = some_there (judged s e.0 b) last.0 last.1 in
      ap₂ (λ (ts : Result (List (Sort × Sort)) PlanFault) (t : Returned). and_then ts (λ ps. and_then (map_ok (λ (x : Sort). Some x) t) (case_sort ps))) (arms_sorted arms b list.0 list.1) (as_returned e b value.0 value.1) ∙ is

  one_name : (ps qs : List ScopeColumn) (z : Sort) → found (one_of ps) ≡ found (one_of qs) → and_then (one_of ps) (λ p. Ok (sort_of_type p.col_type)) ≡ Ok z → and_then (one_of qs) (λ p. Ok (sort_of_type p.col_type)) ≡ Ok z
  one_name [] qs z same is = absurd cc
  one_name (p ∷ r ∷ ps) qs z same is = absurd cc
  one_name (p ∷ []) [] z same is = absurd cc
  one_name (p ∷ []) (q ∷ r ∷ qs) z same is = absurd cc
  one_name (p ∷ []) (q ∷ []) z same is = let here : q ≡ p = cc in ap (λ (x : ScopeColumn). Ok (sort_of_type x.col_type)) here ∙ is

  pub sorts_same : (a b : Expr) → spelled s a ≡ spelled s b → Sorted a b
  sorts_same = alike s Sorted
      (λ x b z is. rolled b (rights s Sorted x) ∙ node_sorted x b z (sym (rolled b (lefts s Sorted x)) ∙ is))
      (λ t u m n same b z is. rolled b (node.Column u n) ∙ one_name (meant s t m) (meant s u n) z same (sym (rolled b (node.Column t m)) ∙ is))

pub spelled_sorts : SpelledSorts
spelled_sorts s a b barred sort is = sorts_same s a b is barred sort

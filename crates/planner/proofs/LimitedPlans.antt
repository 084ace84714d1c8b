-- Plans are within the limits on a query.
use Rattle.std.specs.Prelude.{◌≡◌, ℕ, ◌+◌, ◌<◌, ◌≤◌, nat_lt, nat_le, Bool, true, false, if◌then◌else◌, List, [], ◌∷◌, length, map, Result, Ok, Err}
use Rattle.std.specs.List.{enumerate_from}
use Rattle.std.proofs.Common.{refl, sym, ap, subst, ◌∙◌, arith}
use Rattle.std.proofs.lemmas.Bool.{ltb-false, leb-false}
use Rattle.std.proofs.lemmas.List.{length-map}
use Rattle.meaning.specs.Limits.{max_aggregates, max_keys}
use Rattle.meaning.specs.Results.{and_then}
use Rattle.sql_syntax.specs.declared.tree.Expr.{Expr}
use Rattle.sql_syntax.specs.declared.tree.Item.{Item}
use Rattle.sql_syntax.specs.declared.tree.Query.{Query}
use Rattle.planner_expressions.specs.declared.fault.PlanFault.{PlanFault}
use Rattle.planner_expressions.specs.declared.fault.PlanFault.TheVariants as fault
use Rattle.planner_expressions.specs.declared.scope.Scope.{Scope}
use Rattle.planner_expressions.specs.From.{scope_of}
use Rattle.planner_expressions.specs.Results.{each_ok}
use Rattle.planner_expressions.proofs.Accepted.{goes_there}
use Rattle.planner_clauses.specs.declared.keys.Keys.{Keys}
use Rattle.planner_clauses.specs.Checked.{checked}
use Rattle.planner_clauses.specs.Groups.{aggregates_fit, all_aggregates, entry_check, is_grouped, is_integer, item_aggregates, key_of, key_trees, keys_check, limits_check, no_keys, with_keys}
use Rattle.planner.specs.Limited.{IsLimited, PlansAreLimited}
use Rattle.planner.specs.Planned.{tables_of, groups_of, groups_with, shown_of, basis_of, plan_with, planned_in}
use Rattle.planner.proofs.PlansMean.{keys_are}

abbrev well : Result (Unit {0}) PlanFault
well = Ok tt

few_if : (b : Bool) (n most : ℕ) → nat_lt most n ≡ b → (if b then Err fault.OverLimit else well) ≡ well → n ≤ most
few_if true n most test is = absurd cc
few_if false n most test is = let h = ltb-false most n test in omega (arith, h)

few : (n most : ℕ) → (if nat_lt most n then Err fault.OverLimit else well) ≡ well → n ≤ most
few n most is = few_if (nat_lt most n) n most refl is

entry_if : (a b : Bool) (position : ℕ) → nat_le max_keys position ≡ b → (if a then Err fault.PositionNotAllowed else if b then Err fault.OverLimit else well) ≡ well → position < max_keys
entry_if true b position test is = absurd cc
entry_if false true position test is = absurd cc
entry_if false false position test is = let h = leb-false max_keys position test in omega (arith, h)

-- each entry stands before the limit
entries_few : (n : ℕ) (es : List Expr) → n ≤ max_keys → each_ok (map entry_check (enumerate_from n es)) ≡ Ok tt → n + length es ≤ max_keys
entries_few n [] le is = omega arith
entries_few n (e ∷ es) le is =
    let (first, here, rest) = goes_there (entry_check (n, e)) (λ x. each_ok (map entry_check (enumerate_from (n + 1) es))) tt is in
    let below : n < max_keys = entry_if (is_integer e) (nat_le max_keys n) n refl here in
    let others = entries_few (n + 1) es (omega (arith, below)) rest in
    omega (arith, others)

trees_few : (grouped : Bool) (q : Query) → keys_check grouped q ≡ Ok tt → length (key_trees grouped q) ≤ max_keys
trees_few true q is = let h = entries_few 0 q.group_by (omega arith) is in omega (arith, h)
trees_few false q is = let h = few (length q.items) max_keys is in omega (arith, h, length-map q.items (λ (i : Item). i.expr))

keys_count : (s : Scope) (es : List Expr) → length (with_keys s no_keys es).list ≡ length es
keys_count s es = ap (λ (k : Keys). length k.list) (keys_are s no_keys es) ∙ length-map es (key_of s)

ok_same : {X : Type 0} (x y : X) (E : Type 0) → ◌≡◌ {A = Result X E} (Ok x) (Ok y) → x ≡ y
ok_same x y E is = cc

pub plans_are_limited : PlansAreLimited
plans_are_limited catalog q p is =
    let scoped = goes_there (scope_of catalog q.source) (λ s. planned_in catalog.fact.name s q) p is in
    let s = scoped.0 in
    let check = goes_there (checked s q) (λ _. and_then (tables_of catalog.fact.name s q) (λ tables. and_then (groups_of s q) (λ groups. Ok (plan_with q tables groups)))) p scoped.2 in
    let tables = goes_there (tables_of catalog.fact.name s q) (λ tables. and_then (groups_of s q) (λ groups. Ok (plan_with q tables groups))) p check.2 in
    let groups = goes_there (groups_of s q) (λ groups. Ok (plan_with q tables.0 groups)) p tables.2 in
    let limits = goes_there (limits_check s q) (λ _. and_then (shown_of s q (basis_of s q)) (λ shown. Ok (groups_with s q shown))) groups.0 groups.1 in
    let shown = goes_there (shown_of s q (basis_of s q)) (λ shown. Ok (groups_with s q shown)) groups.0 limits.2 in
    let first = goes_there (aggregates_fit (item_aggregates s q)) (λ _. and_then (keys_check (is_grouped s q) q) (λ _. aggregates_fit (all_aggregates s q))) limits.0 limits.1 in
    let keys = goes_there (keys_check (is_grouped s q) q) (λ _. aggregates_fit (all_aggregates s q)) limits.0 first.2 in
    let p_is : plan_with q tables.0 groups.0 ≡ p = ok_same _ _ PlanFault groups.2 in
    let g_is : groups_with s q shown.0 ≡ groups.0 = ok_same _ _ PlanFault shown.2 in
    let whole : plan_with q tables.0 (groups_with s q shown.0) ≡ p = ap (plan_with q tables.0) g_is ∙ p_is in
    subst (IsLimited q) whole (record {
      text = refl;
      keys = subst (λ n. n ≤ max_keys) (sym (keys_count s (key_trees (is_grouped s q) q))) (trees_few (is_grouped s q) q keys.1);
      aggregates = few (length (all_aggregates s q).list) max_aggregates keys.2;
    })

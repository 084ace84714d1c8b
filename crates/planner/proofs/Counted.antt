-- The keys and the aggregates of a query without faults.
use Rattle.std.proofs.Common.{◌≡◌, ℕ, Bool, true, false, not, ◌||◌, List, [], ◌∷◌, ◌++◌, map, flat_map, cond, Option, Some, None, option_to_list, Ok, Err, refl, ap, subst, sym, ◌∙◌}
use Rattle.std.specs.List.{AllByRecursion}
use Rattle.std.specs.Option.{is_some}
use Rattle.std.proofs.lemmas.List.Elements.{All-from_recursion}
use Rattle.meaning.specs.Results.{and_then}
use Rattle.meaning.specs.declared.plan.Aggregate.{Aggregate}
use Rattle.meaning.specs.declared.plan.GroupingKey.{GroupingKey}
use Rattle.sql_syntax.specs.declared.tree.Arm.{Arm}
use Rattle.sql_syntax.specs.declared.tree.Expr.{Expr}
use Rattle.sql_syntax.specs.declared.tree.Expr.TheOpen as node
use Rattle.sql_syntax.specs.declared.tree.Expr.TheOpen.{Expr-F}
use Rattle.sql_syntax.specs.declared.tree.Expr.TheViews.{out-Expr}
use Rattle.sql_syntax.specs.declared.tree.Item.{Item}
use Rattle.sql_syntax.specs.declared.tree.Query.{Query}
use Rattle.planner_expressions.specs.declared.fault.PlanFault.TheVariants as fault
use Rattle.planner_expressions.specs.declared.scope.Scope.{Scope}
use Rattle.planner_expressions.specs.declared.sort.Sort.{Sort}
use Rattle.planner_expressions.specs.declared.sort.Sort.TheVariants.{Truth}
use Rattle.planner_expressions.specs.Judged.{judged}
use Rattle.planner_expressions.specs.Results.{each_ok}
use Rattle.planner_expressions.specs.Sorts.{is_value, same_sort}
use Rattle.planner_expressions.specs.Spelled.{Spelling, spelled, index_among}
use Rattle.planner_expressions.proofs.Accepted.{goes_there}
use Rattle.planner_clauses.specs.declared.aggregates.Aggregates.{Aggregates}
use Rattle.planner_clauses.specs.Aggregates.{aggregate_node, aggregate_of, aggregates_in, with_new, with_aggregate, with_aggregates, with_parts}
use Rattle.planner_clauses.specs.Checked.{checked, conditions_checked, groups_checked, condition_check, item_check, key_check}
use Rattle.planner_clauses.specs.Groups.{no_aggregates, item_aggregates, all_aggregates, is_empty, is_grouped, key_of, key_trees}
use Rattle.planner.specs.PlanOf.{Pairwise, IsKeyOf, IsAggregateOf, IsGivenAs, AreAggregates, own_aggregates, is_aggregate_at, argument_of, is_counted}
use Rattle.planner.proofs.Conditions.{AreFine, row_means}
use Rattle.planner.proofs.OwnAggregates.{HasIndex, aggregate_there, flat, parts_have, parts_still}
use Rattle.planner.proofs.TypedTrees.{both_all}
use Rattle.planner.proofs.Unbarred.{AreCounted, unbarred}

module _ (s : Scope) where
  -- ---- aggregates one after the other

  -- the trees that were taken
  abbrev pub Taken : Aggregates → Type 0
  Taken l = (es : List Expr) × (l.written ≡ map (spelled s) es) × (l.list ≡ map (aggregate_of s) es) × AreCounted s es

  map_last : {X Y : Type 0} (f : X → Y) (xs : List X) (x : X) → map f xs ++ f x ∷ [] ≡ map f (xs ++ x ∷ [])
  map_last f [] x = refl
  map_last {Y = Y} f (y ∷ ys) x = ap (λ (zs : List Y). f y ∷ zs) (map_last f ys x)

  counted_last : (es : List Expr) (e : Expr) → AreCounted s es → is_counted s e → AreCounted s (es ++ e ∷ [])
  counted_last [] e all here = (here, tt)
  counted_last (x ∷ es) e all here = (all.0, counted_last es e all.1 here)

  take_new : (l : Aggregates) (e : Expr) (o : Option ℕ) → Taken l → is_counted s e → Taken (with_new l (spelled s e) (aggregate_of s e) o)
  take_new l e (Some i) taken here = taken
  take_new l e None taken here = (
    taken.0 ++ e ∷ [],
    ap (λ (xs : List Spelling). xs ++ spelled s e ∷ []) taken.1 ∙ map_last (spelled s) taken.0 e,
    ap (λ (xs : List Aggregate). xs ++ aggregate_of s e ∷ []) taken.2 ∙ map_last (aggregate_of s) taken.0 e,
    counted_last taken.0 e taken.3 here,
  )

  take_all : (l : Aggregates) (es : List Expr) → Taken l → AreCounted s es → Taken (with_aggregates s l es)
  take_all l [] taken all = taken
  take_all l (e ∷ es) taken all = take_all (with_aggregate s l e) es (take_new l e (index_among l.written (spelled s e)) taken all.0) all.1

  abbrev AllCounted : List (List Expr) → Type 0
  AllCounted [] = Unit {0}
  AllCounted (es ∷ rest) = AreCounted s es × AllCounted rest

  take_parts : (l : Aggregates) (parts : List (List Expr)) → Taken l → AllCounted parts → Taken (with_parts s l parts)
  take_parts l [] taken all = taken
  take_parts l (es ∷ rest) taken all = take_parts (with_aggregates s l es) rest (take_all l es taken all.0) all.1

  aggregate_at : (x : Expr-F Expr Arm) → argument_of s x → is_aggregate_at s (aggregate_node s x) x
  aggregate_at (node.Aggregate kind a) fine = (refl, row_means s a fine, refl)
  aggregate_at node.CountRows fine = refl
  aggregate_at _ fine = absurd fine

  aggregates_mean : (es : List Expr) → AreCounted s es → Pairwise (IsAggregateOf s) (map (aggregate_of s) es) es
  aggregates_mean [] all = tt
  aggregates_mean (e ∷ es) all = (aggregate_at (out-Expr e) all.0, aggregates_mean es all.1)

  -- ---- items and HAVING without faults

  allowed : (e : Expr) (z : Sort) → judged s e false ≡ Ok z → AreCounted s (aggregates_in e)
  allowed e z is = (unbarred s e z is).0

  items_counted : (items : List Item) (z : Unit {0}) → each_ok (map (item_check s) items) ≡ Ok z → AllCounted (map (λ i. aggregates_in i.expr) items)
  items_counted [] z is = tt
  items_counted (i ∷ items) z is =
      let there = goes_there (item_check s i) (λ x. each_ok (map (item_check s) items)) z is in
      let sort = goes_there (judged s i.expr false) (λ x. cond (is_value x) (Ok tt) (Err fault.TypeMismatch)) there.0 there.1 in
      (allowed i.expr sort.0 sort.1, items_counted items z there.2)

  having_counted : (having : List Expr) (z : Unit {0}) → each_ok (map (condition_check s false) having) ≡ Ok z → AllCounted (map aggregates_in having)
  having_counted [] z is = tt
  having_counted (e ∷ es) z is =
      let there = goes_there (condition_check s false e) (λ x. each_ok (map (condition_check s false) es)) z is in
      let sort = goes_there (judged s e false) (λ x. cond (same_sort Truth x) (Ok tt) (Err fault.TypeMismatch)) there.0 there.1 in
      (allowed e sort.0 sort.1, having_counted es z there.2)

  -- ---- all of them

  abbrev ItemsChecked : Query → Type 0
  ItemsChecked q = (z : Unit {0}) × (each_ok (map (item_check s) q.items) ≡ Ok z)

  abbrev KeysChecked : Query → Type 0
  KeysChecked q = (z : Unit {0}) × (each_ok (map (key_check s) q.group_by) ≡ Ok z)

  abbrev HavingChecked : Query → Type 0
  HavingChecked q = (z : Unit {0}) × (each_ok (map (condition_check s false) (option_to_list q.having)) ≡ Ok z)

  pub checks : (q : Query) (z : Unit {0}) → checked s q ≡ Ok z → ItemsChecked q × KeysChecked q × HavingChecked q
  checks q z is =
      let items = goes_there (each_ok (map (item_check s) q.items)) (λ x. and_then (conditions_checked s q) (λ y. groups_checked s q)) z is in
      let both = goes_there (conditions_checked s q) (λ y. groups_checked s q) z items.2 in
      let keys = goes_there (each_ok (map (key_check s) q.group_by)) (λ x. each_ok (map (condition_check s false) (option_to_list q.having))) z both.2 in
      ((items.0, items.1), (keys.0, keys.1), (z, keys.2))

  pub taken : (q : Query) (z : Unit {0}) → checked s q ≡ Ok z → Taken (all_aggregates s q)
  taken q z is =
      let all = checks q z is in
      let first = take_parts no_aggregates (map (λ i. aggregates_in i.expr) q.items) ([], refl, refl, tt) (items_counted q.items all.0.0 all.0.1) in
      take_parts (item_aggregates s q) (map aggregates_in (option_to_list q.having)) first (having_counted (option_to_list q.having) all.2.0 all.2.1)

  -- each of the query's aggregates is counted, and has its index
  abbrev Own : Query → Expr → Type 0
  Own q e = is_counted s e × HasIndex s (all_aggregates s q).written e

  paired : (ws : List Spelling) (es : List Expr) → AreCounted s es → AllByRecursion (HasIndex s ws) es → AllByRecursion (λ e. is_counted s e × HasIndex s ws e) es
  paired ws [] counted has = tt
  paired ws (e ∷ es) counted has = ((counted.0, has.0), paired ws es counted.1 has.1)

  all_paired : (ws : List Spelling) (parts : List (List Expr)) → AllCounted parts → AllByRecursion (λ es. AllByRecursion (HasIndex s ws) es) parts
      → AllByRecursion (λ es. AllByRecursion (λ e. is_counted s e × HasIndex s ws e) es) parts
  all_paired ws [] counted has = tt
  all_paired ws (es ∷ parts) counted has = (paired ws es counted.0 has.0, all_paired ws parts counted.1 has.1)

  all_own : (q : Query) (z : Unit {0}) → checked s q ≡ Ok z → AllByRecursion (Own q) (own_aggregates q)
  all_own q z is =
      let all = checks q z is in
      let items = map (λ (i : Item). aggregates_in i.expr) q.items in
      let having = map aggregates_in (option_to_list q.having) in
      let of_items = parts_still s (item_aggregates s q) items having (parts_have s no_aggregates items) in
      let of_having = parts_have s (item_aggregates s q) having in
      let ws = (all_aggregates s q).written in
      both_all (Own q) (flat_map (λ (i : Item). aggregates_in i.expr) q.items) (flat_map aggregates_in (option_to_list q.having))
      (flat s (Own q) (λ (i : Item). aggregates_in i.expr) q.items (all_paired ws items (items_counted q.items all.0.0 all.0.1) of_items))
      (flat s (Own q) aggregates_in (option_to_list q.having) (all_paired ws having (having_counted (option_to_list q.having) all.2.0 all.2.1) of_having))

  each_given : (q : Query) (list : List Aggregate) (taken_is : Taken (all_aggregates s q)) (es : List Expr) → list ≡ (all_aggregates s q).list → AllByRecursion (Own q) es
      → AllByRecursion (IsGivenAs s q list) es
  each_given q list taken_is [] list_is own = tt
  each_given q list taken_is (e ∷ es) list_is own = (
    (
      own.0.1.0,
      own.0.1.1,
      (
        aggregate_of s e,
        aggregate_there s taken_is.0 (all_aggregates s q).written list e own.0.1 taken_is.1 (list_is ∙ taken_is.2) own.0.0,
        aggregate_at (out-Expr e) own.0.0,
      ),
    ),
    each_given q list taken_is es list_is own.1,
  )

  pub are_aggregates : (q : Query) (z : Unit {0}) (list : List Aggregate) → checked s q ≡ Ok z → list ≡ (all_aggregates s q).list → AreAggregates s q list
  are_aggregates q z list is list_is =
      let found = taken q z is in
      record {
        trees = found.0;
        written = found.1;
        each = subst (λ (as_list : List Aggregate). Pairwise (IsAggregateOf s) as_list found.0) (sym (list_is ∙ found.2)) (aggregates_mean found.0 found.3);
        own = All-from_recursion _ _ (each_given q list found (own_aggregates q) list_is (all_own q z is));
      }

  -- ---- keys

  keys_fine : (es : List Expr) (z : Unit {0}) → each_ok (map (key_check s) es) ≡ Ok z → AreFine s es
  keys_fine [] z is = tt
  keys_fine (e ∷ es) z is =
      let there = goes_there (key_check s e) (λ x. each_ok (map (key_check s) es)) z is in
      let sort = goes_there (judged s e true) (λ x. cond (is_value x) (Ok tt) (Err fault.TypeMismatch)) there.0 there.1 in
      ((sort.0, sort.1), keys_fine es z there.2)

  -- nothing was taken from any of them
  no_longer : (l : Aggregates) (es : List Expr) → (l.list ≡ [] → ⊥) → (with_aggregates s l es).list ≡ [] → ⊥
  no_longer l [] some none = some none
  no_longer l (e ∷ es) some none = no_longer (with_aggregate s l e) es (λ h. still l (spelled s e) (aggregate_of s e) (index_among l.written (spelled s e)) some h) none
    where
      tail_there : (xs : List Aggregate) (a : Aggregate) → xs ++ a ∷ [] ≡ [] → ⊥
      tail_there [] a h = cc
      tail_there (x ∷ xs) a h = cc

      still : (l : Aggregates) (x : Spelling) (a : Aggregate) (o : Option ℕ) → (l.list ≡ [] → ⊥) → (with_new l x a o).list ≡ [] → ⊥
      still l x a (Some i) some h = some h
      still l x a None some h = tail_there l.list a h

  no_longer_parts : (l : Aggregates) (parts : List (List Expr)) → (l.list ≡ [] → ⊥) → (with_parts s l parts).list ≡ [] → ⊥
  no_longer_parts l [] some none = some none
  no_longer_parts l (es ∷ rest) some none = no_longer_parts (with_aggregates s l es) rest (no_longer l es some) none

  abbrev pub AllEmpty : List (List Expr) → Type 0
  AllEmpty [] = Unit {0}
  AllEmpty (es ∷ rest) = (es ≡ []) × AllEmpty rest

  pub none_taken : (parts : List (List Expr)) → (with_parts s no_aggregates parts).list ≡ [] → AllEmpty parts
  none_taken [] none = tt
  none_taken ([] ∷ rest) none = (refl, none_taken rest none)
  none_taken ((e ∷ es) ∷ rest) none = absurd (no_longer_parts (with_aggregates s (with_aggregate s no_aggregates e) es) rest (no_longer (with_aggregate s no_aggregates e) es (λ h. cc)) none)

  plain_fine : (items : List Item) (z : Unit {0}) → each_ok (map (item_check s) items) ≡ Ok z → AllEmpty (map (λ i. aggregates_in i.expr) items) → AreFine s (map (λ i. i.expr) items)
  plain_fine [] z is none = tt
  plain_fine (i ∷ items) z is none =
      let there = goes_there (item_check s i) (λ x. each_ok (map (item_check s) items)) z is in
      let sort = goes_there (judged s i.expr false) (λ x. cond (is_value x) (Ok tt) (Err fault.TypeMismatch)) there.0 there.1 in
      ((sort.0, (unbarred s i.expr sort.0 sort.1).1 none.0), plain_fine items z there.2 none.1)

  pub empty_is : {X : Type 0} (xs : List X) → is_empty xs ≡ true → xs ≡ []
  empty_is [] is = refl
  empty_is (x ∷ xs) is = absurd cc

  pub neither : (a b c : Bool) → (not a || (b || not c)) ≡ false → c ≡ true
  neither true true c is = absurd cc
  neither true false true is = refl
  neither true false false is = absurd cc
  neither false b c is = absurd cc

  pub parts_none : (l : Aggregates) (parts : List (List Expr)) → (with_parts s l parts).list ≡ [] → l.list ≡ []
  parts_none l parts none = by_list l.list refl
    where
      by_list : (xs : List Aggregate) → l.list ≡ xs → l.list ≡ []
      by_list [] is = is
      by_list (x ∷ xs) is = absurd (no_longer_parts l parts (λ h. let wrong : x ∷ xs ≡ [] = sym is ∙ h in cc) none)

  fine_keys : (q : Query) (z : Unit {0}) (b : Bool) → checked s q ≡ Ok z → is_grouped s q ≡ b → AreFine s (key_trees b q)
  fine_keys q z true is grouped = let all = checks q z is in keys_fine q.group_by all.1.0 all.1.1
  fine_keys q z false is grouped =
      let all = checks q z is in
      let none = empty_is (all_aggregates s q).list (neither (is_empty q.group_by) (is_some q.having) (is_empty (all_aggregates s q).list) grouped) in
      let items_none = parts_none (item_aggregates s q) (map aggregates_in (option_to_list q.having)) none in
      plain_fine q.items all.0.0 all.0.1 (none_taken (map (λ i. aggregates_in i.expr) q.items) items_none)

  keys_mean_all : (es : List Expr) → AreFine s es → Pairwise (IsKeyOf s) (map (key_of s) es) es
  keys_mean_all [] fine = tt
  keys_mean_all (e ∷ es) fine = (record { same = row_means s e fine.0; typed = refl }, keys_mean_all es fine.1)

  pub keys_mean : (q : Query) (z : Unit {0}) (list : List GroupingKey) → checked s q ≡ Ok z → list ≡ map (key_of s) (key_trees (is_grouped s q) q) → Pairwise (IsKeyOf s) list (key_trees (is_grouped s q) q)
  keys_mean q z list is list_is =
      subst (λ (xs : List GroupingKey). Pairwise (IsKeyOf s) xs (key_trees (is_grouped s q) q)) (sym list_is)
      (keys_mean_all (key_trees (is_grouped s q) q) (fine_keys q z (is_grouped s q) is refl))

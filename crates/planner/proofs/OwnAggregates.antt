-- Each aggregate of a query is given as its own.
use Rattle.std.proofs.Common.{rules, ◌≡◌, ℕ, zero, suc, ◌+◌, Bool, true, false, List, [], ◌∷◌, ◌++◌, map, flat_map, cond, Option, Some, None, unwrap_or, slice_get, refl, ap, sym, ◌∙◌, arith}
use Rattle.std.specs.List.{position_from, AllByRecursion}
use Rattle.std.proofs.lemmas.Iterator.Adapters.{position_from-zero}
use Rattle.meaning.specs.declared.expr.Expr as plan
use Rattle.meaning.specs.declared.expr.Expr.TheVariants as expr
use Rattle.meaning.specs.declared.plan.Aggregate.{Aggregate}
use Rattle.meaning.specs.declared.value.Value.TheVariants as value
use Rattle.sql_syntax.specs.declared.tree.Aggregate as written
use Rattle.sql_syntax.specs.declared.tree.Arm.{Arm}
use Rattle.sql_syntax.specs.declared.tree.Expr.{Expr}
use Rattle.sql_syntax.specs.declared.tree.Expr.TheOpen as node
use Rattle.sql_syntax.specs.declared.tree.Expr.TheOpen.{Expr-F}
use Rattle.sql_syntax.specs.declared.tree.Expr.TheFolds.{the_lemmas, map-Expr}
use Rattle.sql_syntax.specs.declared.tree.Expr.TheViews.{out-Expr}
use Rattle.planner_expressions.specs.declared.marks.Operator.TheVariants as operator
use Rattle.planner_expressions.specs.declared.scope.ScopeColumn.{ScopeColumn}
use Rattle.planner_expressions.specs.declared.scope.Scope.{Scope}
use Rattle.planner_expressions.specs.Scope.{stands_for}
use Rattle.planner_expressions.specs.Spelled.{Spelling, column_mark, spell_node, spelled, spelled_arm, same_spelling, index_among}
use Rattle.planner_expressions.proofs.AlikeTrees.{spelled_sorts, spelled_translate}
use Rattle.planner_expressions.proofs.SameMarks.{spelling_is, spelling_itself}
use Rattle.planner_expressions.proofs.SpelledAlike.{marks_aggregate, tail_is, operator_is}
use Rattle.planner_clauses.specs.declared.aggregates.Aggregates.{Aggregates}
use Rattle.planner_clauses.specs.Aggregates.{aggregate_node, aggregate_of, count_rows, kind_of, type_in, row_type, with_new, with_aggregate, with_aggregates, with_parts}
use Rattle.planner_clauses.specs.Conjuncts.{row_expr}
use Rattle.planner.specs.PlanOf.{argument_of, is_counted}
use Rattle.planner.proofs.TypedTrees.{both_all}

-- ---- the first index

module _ {X : Type 0} (p : X → Bool) where
  more_by : (n i : ℕ) (xs ys : List X) (b : Bool) → (position_from p (n + 1) xs ≡ Some i → position_from p (n + 1) ys ≡ Some i)
      → cond b (Some n) (position_from p (n + 1) xs) ≡ Some i → cond b (Some n) (position_from p (n + 1) ys) ≡ Some i
  more_by n i xs ys true rest is = is
  more_by n i xs ys false rest is = rest is

  index_more : (n i : ℕ) (xs ys : List X) → position_from p n xs ≡ Some i → position_from p n (xs ++ ys) ≡ Some i
  index_more n i [] ys is = absurd cc
  index_more n i (x ∷ xs) ys is = more_by n i xs (xs ++ ys) (p x) (index_more (n + 1) i xs ys) is

  last_by : (n : ℕ) (xs : List X) (b : Bool) → ((i : ℕ) × (position_from p (n + 1) xs ≡ Some i)) → (i : ℕ) × (cond b (Some n) (position_from p (n + 1) xs) ≡ Some i)
  last_by n xs true rest = (n, refl)
  last_by n xs false rest = rest

  index_last : (n : ℕ) (xs : List X) (x : X) → p x ≡ true → (i : ℕ) × (position_from p n (xs ++ x ∷ []) ≡ Some i)
  index_last n [] x is = (n, ap (λ (b : Bool). cond b (Some n) None) is)
  index_last n (y ∷ xs) x is = last_by n (xs ++ x ∷ []) (p y) (index_last (n + 1) xs x is)

plus_zero : (n : ℕ) → n ≡ n + 0
plus_zero n = grind arith

plus_next : (n k i : ℕ) → i ≡ (n + 1) + k → i ≡ n + suc k
plus_next n k i is = grind arith

zero_plus : (k : ℕ) → 0 + k ≡ k
zero_plus k = grind arith

pub get_map : {X Y : Type 0} (f : X → Y) (xs : List X) (k : ℕ) (x : X) → slice_get xs k ≡ Some x → slice_get (map f xs) k ≡ Some (f x)
get_map f [] k x is = absurd cc
get_map f (y ∷ xs) zero x is = let same : y ≡ x = cc in ap (λ z. Some (f z)) same
get_map f (y ∷ xs) (suc k) x is = get_map f xs k x is

module _ (s : Scope) where
  -- ---- trees that are spelled alike are one aggregate

  abbrev spell_at : Expr-F Expr Arm → Spelling
  spell_at x = spell_node s (map-Expr Expr Arm Spelling (Spelling × Spelling) (spelled s) (spelled_arm s) x)

  spelled_out : (e : Expr) → spelled s e ≡ spell_at (out-Expr e)
  spelled_out e = search (rules, the_lemmas)

  -- an aggregate over an argument
  abbrev has_argument : Expr-F Expr Arm → Bool
  has_argument (node.Aggregate k a) = true
  has_argument _ = false

  -- it is written out as one
  abbrev begins_with_argument : Spelling → Bool
  begins_with_argument [] = false
  begins_with_argument (first ∷ rest) = marks_aggregate first

  names_begin : (o : Option ScopeColumn) → begins_with_argument (column_mark o ∷ []) ≡ false
  names_begin None = refl
  names_begin (Some p) = refl

  begins_at : (x : Expr-F Expr Arm) → begins_with_argument (spell_at x) ≡ has_argument x
  begins_at (node.Column t n) = names_begin (stands_for s t n)
  begins_at _ = refl

  other_counts : (x : Expr-F Expr Arm) → has_argument x ≡ false → aggregate_node s x ≡ count_rows
  other_counts (node.Aggregate k a) is = absurd cc
  other_counts _ is = refl

  two_aggregates : (k l : written.Aggregate) (a b : Expr) → spell_at (node.Aggregate k a) ≡ spell_at (node.Aggregate l b) → argument_of s (node.Aggregate k a)
      → aggregate_node s (node.Aggregate k a) ≡ aggregate_node s (node.Aggregate l b)
  two_aggregates k l a b is fine =
      let operators : operator.Aggregate k ≡ operator.Aggregate l = operator_is _ _ (spelled s a) (spelled s b) is in
      let kind : k ≡ l = cc in
      let alike = tail_is _ _ (spelled s a) (spelled s b) is in
      let argument : row_expr s a ≡ row_expr s b = ap (λ (o : Option plan.Expr). unwrap_or o (expr.Literal value.Null)) (spelled_translate s a b alike) in
      let kind_type : row_type s a ≡ row_type s b = ap type_in (fine.1 ∙ sym (spelled_sorts s a b true fine.0 alike fine.1)) in
      (λ i. record { kind = kind_of (kind i); argument = argument i; col_type = kind_type i })

  against : (k : written.Aggregate) (a : Expr) (y : Expr-F Expr Arm) → has_argument y ≡ true → spell_at (node.Aggregate k a) ≡ spell_at y → argument_of s (node.Aggregate k a)
      → aggregate_node s (node.Aggregate k a) ≡ aggregate_node s y
  against k a (node.Aggregate l b) there is fine = two_aggregates k l a b is fine
  against k a _ there is fine = absurd cc

  by_kind : (x y : Expr-F Expr Arm) → has_argument x ≡ true → has_argument y ≡ true → spell_at x ≡ spell_at y → argument_of s x → aggregate_node s x ≡ aggregate_node s y
  by_kind (node.Aggregate k a) y here there is fine = against k a y there is fine
  by_kind _ y here there is fine = absurd cc

  node_same : (x y : Expr-F Expr Arm) (b : Bool) → has_argument x ≡ b → spell_at x ≡ spell_at y → argument_of s x → aggregate_node s x ≡ aggregate_node s y
  node_same x y true here is fine = by_kind x y here (sym (begins_at y) ∙ ap begins_with_argument (sym is) ∙ begins_at x ∙ here) is fine
  node_same x y false here is fine = other_counts x here ∙ sym (other_counts y (sym (begins_at y) ∙ ap begins_with_argument (sym is) ∙ begins_at x ∙ here))

  pub one_aggregate : (e f : Expr) → spelled s e ≡ spelled s f → is_counted s e → aggregate_of s e ≡ aggregate_of s f
  one_aggregate e f is counted = node_same (out-Expr e) (out-Expr f) (has_argument (out-Expr e)) refl (sym (spelled_out e) ∙ is ∙ spelled_out f) counted

  -- ---- each has an index

  abbrev pub HasIndex : List Spelling → Expr → Type 0
  HasIndex ws e = (i : ℕ) × (index_among ws (spelled s e) ≡ Some i)

  from_start : (ws : List Spelling) (x : Spelling) → index_among ws x ≡ position_from (same_spelling x) 0 ws
  from_start ws x = position_from-zero (same_spelling x) ws

  index_kept : (ws vs : List Spelling) (e : Expr) → HasIndex ws e → HasIndex (ws ++ vs) e
  index_kept ws vs e has =
      (has.0, from_start (ws ++ vs) (spelled s e) ∙ index_more (same_spelling (spelled s e)) 0 has.0 ws vs (sym (from_start ws (spelled s e)) ∙ has.1))

  new_kept : (l : Aggregates) (x : Spelling) (a : Aggregate) (o : Option ℕ) (e : Expr) → HasIndex l.written e → HasIndex (with_new l x a o).written e
  new_kept l x a (Some i) e has = has
  new_kept l x a None e has = index_kept l.written (x ∷ []) e has

  new_has : (l : Aggregates) (e : Expr) (a : Aggregate) (o : Option ℕ) → index_among l.written (spelled s e) ≡ o → HasIndex (with_new l (spelled s e) a o).written e
  new_has l e a (Some i) is = (i, is)
  new_has l e a None is =
      let last = index_last (same_spelling (spelled s e)) 0 l.written (spelled s e) (spelling_itself (spelled s e)) in
      (last.0, from_start (l.written ++ spelled s e ∷ []) (spelled s e) ∙ last.1)

  all_kept : (l : Aggregates) (es : List Expr) (e : Expr) → HasIndex l.written e → HasIndex (with_aggregates s l es).written e
  all_kept l [] e has = has
  all_kept l (f ∷ es) e has = all_kept (with_aggregate s l f) es e (new_kept l (spelled s f) (aggregate_of s f) (index_among l.written (spelled s f)) e has)

  parts_kept : (l : Aggregates) (parts : List (List Expr)) (e : Expr) → HasIndex l.written e → HasIndex (with_parts s l parts).written e
  parts_kept l [] e has = has
  parts_kept l (es ∷ parts) e has = parts_kept (with_aggregates s l es) parts e (all_kept l es e has)

  all_have : (l : Aggregates) (es : List Expr) → AllByRecursion (HasIndex (with_aggregates s l es).written) es
  all_have l [] = tt
  all_have l (e ∷ es) =
      (all_kept (with_aggregate s l e) es e (new_has l e (aggregate_of s e) (index_among l.written (spelled s e)) refl), all_have (with_aggregate s l e) es)

  through : (P Q : Expr → Type 0) (es : List Expr) → ((e : Expr) → P e → Q e) → AllByRecursion P es → AllByRecursion Q es
  through P Q [] made all = tt
  through P Q (e ∷ es) made all = (made e all.0, through P Q es made all.1)

  -- those of each part
  pub parts_have : (l : Aggregates) (parts : List (List Expr)) → AllByRecursion (λ es. AllByRecursion (HasIndex (with_parts s l parts).written) es) parts
  parts_have l [] = tt
  parts_have l (es ∷ parts) = (
    through (HasIndex (with_aggregates s l es).written) (HasIndex (with_parts s (with_aggregates s l es) parts).written) es (parts_kept (with_aggregates s l es) parts) (all_have l es),
    parts_have (with_aggregates s l es) parts,
  )

  pub parts_still : (l : Aggregates) (parts more : List (List Expr)) → AllByRecursion (λ es. AllByRecursion (HasIndex l.written) es) parts
      → AllByRecursion (λ es. AllByRecursion (HasIndex (with_parts s l more).written) es) parts
  parts_still l [] more all = tt
  parts_still l (es ∷ parts) more all = (through (HasIndex l.written) (HasIndex (with_parts s l more).written) es (parts_kept l more) all.0, parts_still l parts more all.1)

  -- ---- the tree there

  by_test : (n i : ℕ) (e : Expr) (es : List Expr) (x : Spelling) (b : Bool) → same_spelling x (spelled s e) ≡ b
      → (position_from (same_spelling x) (n + 1) (map (spelled s) es) ≡ Some i → (k : ℕ) × ((f : Expr) × (i ≡ (n + 1) + k) × (slice_get es k ≡ Some f) × (x ≡ spelled s f)))
      → cond b (Some n) (position_from (same_spelling x) (n + 1) (map (spelled s) es)) ≡ Some i → (k : ℕ) × ((f : Expr) × (i ≡ n + k) × (slice_get (e ∷ es) k ≡ Some f) × (x ≡ spelled s f))
  by_test n i e es x true same rest is = let here : n ≡ i = cc in (0, (e, sym here ∙ plus_zero n, refl, spelling_is x (spelled s e) same))
  by_test n i e es x false same rest is = let found = rest is in (suc found.0, (found.1.0, plus_next n found.0 i found.1.1, found.1.2, found.1.3))

  found_at : (n i : ℕ) (es : List Expr) (x : Spelling) → position_from (same_spelling x) n (map (spelled s) es) ≡ Some i
      → (k : ℕ) × ((f : Expr) × (i ≡ n + k) × (slice_get es k ≡ Some f) × (x ≡ spelled s f))
  found_at n i [] x is = absurd cc
  found_at n i (e ∷ es) x is = by_test n i e es x (same_spelling x (spelled s e)) refl (found_at (n + 1) i es x) is

  pub tree_at : (es : List Expr) (x : Spelling) (i : ℕ) → index_among (map (spelled s) es) x ≡ Some i → (f : Expr) × (slice_get es i ≡ Some f) × (x ≡ spelled s f)
  tree_at es x i is =
      let found = found_at 0 i es x (sym (from_start (map (spelled s) es) x) ∙ is) in
      (found.1.0, ap (slice_get es) (found.1.1 ∙ zero_plus found.0) ∙ found.1.2, found.1.3)

  -- the aggregate there
  pub aggregate_there : (es : List Expr) (ws : List Spelling) (list : List Aggregate) (e : Expr) (has : HasIndex ws e) → ws ≡ map (spelled s) es → list ≡ map (aggregate_of s) es → is_counted s e
      → slice_get list has.0 ≡ Some (aggregate_of s e)
  aggregate_there es ws list e has written_is list_is counted =
      let found = tree_at es (spelled s e) has.0 (sym (ap (λ (xs : List Spelling). index_among xs (spelled s e)) written_is) ∙ has.1) in
      ap (λ (xs : List Aggregate). slice_get xs has.0) list_is ∙ get_map (aggregate_of s) es has.0 found.0 found.1
      ∙ ap (λ (a : Aggregate). Some a) (sym (one_aggregate e found.0 found.2 counted))

  pub flat : (P : Expr → Type 0) {X : Type 0} (f : X → List Expr) (xs : List X) → AllByRecursion (AllByRecursion P) (map f xs) → AllByRecursion P (flat_map f xs)
  flat P f [] all = tt
  flat P f (x ∷ xs) all = both_all P (f x) (flat_map f xs) all.0 (flat P f xs all.1)

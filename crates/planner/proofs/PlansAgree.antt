-- Whatever is a query's plan means the same over all tables.
use Rattle.std.proofs.Common.{rules, ◌≡◌, ℕ, ◌+◌, Bool, true, false, cond, List, [], ◌∷◌, map, filter, filter_map, flat_map, zip, length, Option, Some, None, option_map, option_to_list, Result, Ok, refl, ap, ap₂, subst, sym, ◌∙◌}
use Rattle.std.specs.Prelude.{replicate}
use Rattle.std.specs.List.{list_all, enumerate_from}
use Rattle.meaning.specs.Aggregate.{aggregate}
use Rattle.meaning.specs.Cut.{Numbered}
use Rattle.meaning.specs.Expr.{eval, values, with_value}
use Rattle.meaning.specs.Finish.{Evaluated, behind_having, rows_behind, shown, rows_of, order_cmp, limited, all_rows, shown_once, finished, finish}
use Rattle.meaning.specs.Group.{certain_keys, groups, grouped}
use Rattle.meaning.specs.Joined.{candidates, choices, group_row, joined_row, row_of, stands_beside}
use Rattle.meaning.specs.Judge.{Judged, behind_condition, behind_conditions, fault_cmp, first_fault, judge, judged, keep, kept_rows, pairs, row_fault}
use Rattle.meaning.specs.Meaning.{evaluated, meaning, unless_fault}
use Rattle.meaning.specs.Order.{Row, column, least, sorted}
use Rattle.meaning.specs.Results.{all_ok, and_then}
use Rattle.meaning.specs.declared.catalog.Catalog.{Catalog}
use Rattle.meaning.specs.declared.expr.Expr as plan
use Rattle.meaning.specs.declared.joined_row.JoinedRow.{JoinedRow}
use Rattle.meaning.specs.declared.plan.Aggregate.{Aggregate}
use Rattle.meaning.specs.declared.plan.AggregateKind.{AggregateKind}
use Rattle.meaning.specs.declared.plan.GroupingKey.{GroupingKey}
use Rattle.meaning.specs.declared.plan.Item as plan_item
use Rattle.meaning.specs.declared.plan.Join.{Join}
use Rattle.meaning.specs.declared.plan.Plan.{Plan}
use Rattle.meaning.specs.declared.value.Value.{Value}
use Rattle.sql_syntax.specs.declared.tree.Aggregate as written
use Rattle.sql_syntax.specs.declared.tree.Arm.{Arm}
use Rattle.sql_syntax.specs.declared.tree.Expr.{Expr}
use Rattle.sql_syntax.specs.declared.tree.Expr.TheOpen as node
use Rattle.sql_syntax.specs.declared.tree.Expr.TheOpen.{Expr-F}
use Rattle.sql_syntax.specs.declared.tree.Expr.TheFolds.{the_lemmas, map-Expr}
use Rattle.sql_syntax.specs.declared.tree.Expr.TheViews.{out-Expr}
use Rattle.sql_syntax.specs.declared.tree.Query.{Query}
use Rattle.planner_expressions.specs.declared.fault.PlanFault.{PlanFault}
use Rattle.planner_expressions.specs.declared.marks.Operator.TheVariants as operator
use Rattle.planner_expressions.specs.declared.scope.Scope.{Scope}
use Rattle.planner_expressions.specs.Meant.{SameOnRows}
use Rattle.planner_expressions.specs.Spelled.{Spelling, spell_node, spelled, spelled_arm}
use Rattle.planner_expressions.proofs.AlikeTrees.{spelled_mean}
use Rattle.planner_expressions.proofs.SpelledAlike.{apart, marks_aggregate, tail_is, operator_is}
use Rattle.planner_clauses.specs.Aggregates.{kind_of}
use Rattle.planner.specs.PlanOf.{Pairwise, IsAggregateOf, IsHavingOf, IsItemOf, IsKeyOf, IsPlanOf, PlansAgree, is_aggregate_at}

-- ---- pairs

pairs_of : {X Y Z : Type 0} (R : X → Z → Type 0) (S : Y → Z → Type 0) (T : X → Y → Type 0) (xs : List X) (ys : List Y) (zs : List Z) → ((x : X) (y : Y) (z : Z) → R x z → S y z → T x y)
    → Pairwise R xs zs → Pairwise S ys zs → Pairwise T xs ys
pairs_of R S T [] [] [] made first second = tt
pairs_of R S T [] [] (z ∷ zs) made first second = tt
pairs_of R S T [] (y ∷ ys) [] made first second = absurd second
pairs_of R S T [] (y ∷ ys) (z ∷ zs) made first second = absurd first
pairs_of R S T (x ∷ xs) [] [] made first second = absurd first
pairs_of R S T (x ∷ xs) [] (z ∷ zs) made first second = absurd second
pairs_of R S T (x ∷ xs) (y ∷ ys) [] made first second = absurd first
pairs_of R S T (x ∷ xs) (y ∷ ys) (z ∷ zs) made first second = (made x y z first.0 second.0, pairs_of R S T xs ys zs made first.1 second.1)

-- on every row they give the same
abbrev AreSame : plan.Expr → plan.Expr → Type 0
AreSame x y = (r : JoinedRow) → eval x r ≡ eval y r

conditions_same : (cs ds : List plan.Expr) (r : JoinedRow) (j k : Judged) → Pairwise AreSame cs ds → j ≡ k → behind_conditions cs r j ≡ behind_conditions ds r k
conditions_same [] [] r j k each is = is
conditions_same [] (d ∷ ds) r j k each is = absurd each
conditions_same (c ∷ cs) [] r j k each is = absurd each
conditions_same (c ∷ cs) (d ∷ ds) r j k each is = ap₂ behind_condition (each.0 r) (conditions_same cs ds r j k each.1 is)

values_same : {X : Type 0} (f : X → plan.Expr) (xs ys : List X) (r : JoinedRow) → Pairwise (λ x y. eval (f x) r ≡ eval (f y) r) xs ys → values (map f xs) r ≡ values (map f ys) r
values_same f [] [] r each = refl
values_same f [] (y ∷ ys) r each = absurd each
values_same f (x ∷ xs) [] r each = absurd each
values_same f (x ∷ xs) (y ∷ ys) r each = ap₂ with_value each.0 (values_same f xs ys r each.1)

loosened : {X : Type 0} (R S : X → X → Type 0) (xs ys : List X) → ((x y : X) → R x y → S x y) → Pairwise R xs ys → Pairwise S xs ys
loosened R S [] [] made each = tt
loosened R S [] (y ∷ ys) made each = absurd each
loosened R S (x ∷ xs) [] made each = absurd each
loosened R S (x ∷ xs) (y ∷ ys) made each = (made x y each.0, loosened R S xs ys made each.1)

-- ---- plans whose parts give the same

abbrev SameKey : GroupingKey → GroupingKey → Type 0
SameKey k l = AreSame k.expr l.expr

abbrev SameAggregate : Aggregate → Aggregate → Type 0
SameAggregate a b = (a.kind ≡ b.kind) × AreSame a.argument b.argument

-- on every group they give the same
abbrev SameOver : plan.Expr → plan.Expr → Type 0
SameOver x y = (key vals : Row) → eval x (group_row key vals) ≡ eval y (group_row key vals)

abbrev SameItem : plan_item.Item → plan_item.Item → Type 0
SameItem x y = SameOver x.expr y.expr

kinds_same : (n : ℕ) (rows : List Row) (xs ys : List Aggregate) → Pairwise SameAggregate xs ys
    → map (λ (e : Aggregate × List Value). aggregate e.0.kind e.1) (map (λ (a : ℕ × Aggregate). (a.1, map (λ (row : Row). column row a.0) rows)) (enumerate_from n xs))
    ≡ map (λ (e : Aggregate × List Value). aggregate e.0.kind e.1) (map (λ (a : ℕ × Aggregate). (a.1, map (λ (row : Row). column row a.0) rows)) (enumerate_from n ys))
kinds_same n rows [] [] each = refl
kinds_same n rows [] (y ∷ ys) each = absurd each
kinds_same n rows (x ∷ xs) [] each = absurd each
kinds_same n rows (x ∷ xs) (y ∷ ys) each =
    ap₂ (λ (v : Result Value ℕ) (vs : List (Result Value ℕ)). v ∷ vs) (ap (λ (k : AggregateKind). aggregate k (map (λ (row : Row). column row n) rows)) each.0.0) (kinds_same (n + 1) rows xs ys each.1)

certain_same : (b : Bool) (ks ls : List GroupingKey) → Pairwise SameKey ks ls → certain_keys b ks ≡ certain_keys b ls
certain_same true ks ls each = refl
certain_same false [] [] each = refl
certain_same false [] (l ∷ ls) each = absurd each
certain_same false (k ∷ ks) [] each = absurd each
certain_same false (k ∷ ks) (l ∷ ls) each = refl

having_same : (x y : Option plan.Expr) (key vals : Row) (a b : Result (List Row) ℕ) → Pairwise SameOver (option_to_list x) (option_to_list y) → a ≡ b
    → behind_having x (group_row key vals) a ≡ behind_having y (group_row key vals) b
having_same None None key vals a b each is = is
having_same None (Some y) key vals a b each is = absurd each
having_same (Some x) None key vals a b each is = absurd each
having_same (Some x) (Some y) key vals a b each is = ap₂ rows_behind (each.0 key vals) is

module _ (p o : Plan) (dims : List (List Row))
    (joins : p.joins ≡ o.joins)
    (conjuncts : Pairwise AreSame p.conjuncts o.conjuncts)
    (keys : Pairwise SameKey p.keys o.keys)
    (aggs : Pairwise SameAggregate p.aggs o.aggs)
    (items : Pairwise SameItem p.items o.items)
    (having : Pairwise SameOver (option_to_list p.having) (option_to_list o.having))
    (order : p.order ≡ o.order)
    (limit : p.limit ≡ o.limit)
    (plain : p.plain ≡ o.plain)
    (distinct : p.distinct ≡ o.distinct) where
  judge_same : (r : JoinedRow) → judge p r ≡ judge o r
  judge_same r =
      conditions_same p.conjuncts o.conjuncts r _ _ conjuncts
      (ap₂ keep (values_same (λ (k : GroupingKey). k.expr) p.keys o.keys r (loosened SameKey (λ k l. eval k.expr r ≡ eval l.expr r) p.keys o.keys (λ k l same. same r) keys))
      (values_same (λ (a : Aggregate). a.argument) p.aggs o.aggs r (loosened SameAggregate (λ a b. eval a.argument r ≡ eval b.argument r) p.aggs o.aggs (λ a b same. same.1 r) aggs)))

  abbrev combos_by : List Join → Row → List JoinedRow
  combos_by js fact = map (λ chosen. joined_row fact (map row_of chosen))
      (filter (λ chosen. list_all (stands_beside fact) (zip (zip js dims) chosen)) (choices (map candidates (zip js dims))))

  judged_same : (row : Row) → judged p dims row ≡ judged o dims row
  judged_same row = λ i. map (λ r. judge_same r i) (combos_by (joins i) row)

  fault_same : (rows : Numbered) → row_fault p dims rows ≡ row_fault o dims rows
  fault_same rows = λ i. least fault_cmp (filter_map (λ r. option_map (λ c. record { row = r.0; code = c }) (first_fault (judged_same r.1 i))) rows)

  kept_same : (rows : Numbered) → kept_rows p dims rows ≡ kept_rows o dims rows
  kept_same rows = λ i. flat_map (λ r. pairs (judged_same r.1 i)) rows

  sure_same : certain_keys p.plain p.keys ≡ certain_keys o.plain o.keys
  sure_same = certain_same p.plain p.keys o.keys keys ∙ ap (λ (b : Bool). certain_keys b o.keys) plain

  evaluated_same : (key : Row) (rows : List Row) → evaluated p key rows ≡ evaluated o key rows
  evaluated_same key rows = λ i. record { key = key; rows = length rows; aggregates = kinds_same 0 rows p.aggs o.aggs aggs i }

  shown_same : (key vals : Row) → shown p (group_row key vals) ≡ shown o (group_row key vals)
  shown_same key vals =
      having_same p.having o.having key vals _ _ having
      (ap (λ (v : Result Row ℕ). and_then v (λ row. Ok (row ∷ []))) (values_same (λ (i : plan_item.Item). i.expr) p.items o.items (group_row key vals)
      (loosened SameItem (λ x y. eval x.expr (group_row key vals) ≡ eval y.expr (group_row key vals)) p.items o.items (λ x y same. same key vals) items)))

  rows_same : (g : Evaluated) → rows_of p g ≡ rows_of o g
  rows_same g = λ i. cond (plain i) (Ok (replicate g.rows g.key)) (and_then (all_ok g.aggregates) (λ vals. shown_same g.key vals i))

  finish_same : (gs : List Evaluated) → finish p gs ≡ finish o gs
  finish_same gs =
      λ i. finished (and_then (all_ok (map (λ g. rows_same g i) gs)) (λ parts. Ok (limited (limit i) (sorted (order_cmp (order i)) (shown_once (distinct i) (all_rows parts))))))

  groups_same : (rows : Numbered) → map (λ g. evaluated p g.0 g.1) (groups p (kept_rows p dims rows)) ≡ map (λ g. evaluated o g.0 g.1) (groups o (kept_rows o dims rows))
  groups_same rows = λ i. map (λ g. evaluated_same g.0 g.1 i) (grouped (sure_same i) (kept_same rows i))

  meaning_same : (rows : Numbered) → meaning p dims rows ≡ meaning o dims rows
  meaning_same rows = ap₂ unless_fault (fault_same rows) (finish_same _ ∙ ap (finish o) (groups_same rows))

-- ---- two plans of one query

ok_same : {X : Type 0} (x y : X) (E : Type 0) → ◌≡◌ {A = Result X E} (Ok x) (Ok y) → x ≡ y
ok_same x y E is = cc

module _ (s : Scope) where
  abbrev spell_at : Expr-F Expr Arm → Spelling
  spell_at x = spell_node s (map-Expr Expr Arm Spelling (Spelling × Spelling) (spelled s) (spelled_arm s) x)

  spelled_out : (e : Expr) → spelled s e ≡ spell_at (out-Expr e)
  spelled_out e = search (rules, the_lemmas)

  two_same : (k l : written.Aggregate) (a b : Expr) (x y : Aggregate) → spell_at (node.Aggregate k a) ≡ spell_at (node.Aggregate l b)
      → is_aggregate_at s x (node.Aggregate k a) → is_aggregate_at s y (node.Aggregate l b) → SameAggregate x y
  two_same k l a b x y is first second =
      let operators : operator.Aggregate k ≡ operator.Aggregate l = operator_is _ _ (spelled s a) (spelled s b) is in
      let kind : k ≡ l = cc in
      let alike = tail_is _ _ (spelled s a) (spelled s b) is in
      (first.0 ∙ ap kind_of kind ∙ sym second.0, λ r. first.1 r ∙ spelled_mean s a b alike r ∙ sym (second.1 r))

  node_same : (u v : Expr-F Expr Arm) (x y : Aggregate) → spell_at u ≡ spell_at v → is_aggregate_at s x u → is_aggregate_at s y v → SameAggregate x y
  node_same (node.Aggregate k a) v x y is first second = with_argument v is second
    where
      with_argument : (v : Expr-F Expr Arm) → spell_at (node.Aggregate k a) ≡ spell_at v → is_aggregate_at s y v → SameAggregate x y
      with_argument (node.Aggregate l b) same other = two_same k l a b x y same first other
      with_argument node.CountRows same other = absurd (apart marks_aggregate _ _ _ _ refl refl same)
      with_argument _ same other = absurd other
  node_same node.CountRows v x y is first second = of_rows v is second
    where
      of_rows : (v : Expr-F Expr Arm) → spell_at node.CountRows ≡ spell_at v → is_aggregate_at s y v → SameAggregate x y
      of_rows (node.Aggregate l b) same other = absurd (apart marks_aggregate _ _ _ _ refl refl (sym same))
      of_rows node.CountRows same other = (ap (λ (a : Aggregate). a.kind) (first ∙ sym other), λ r. ap (λ (a : Aggregate). eval a.argument r) (first ∙ sym other))
      of_rows _ same other = absurd other
  node_same _ v x y is first second = absurd first

  none_some : (e : Expr) (es : List Expr) → [] ≡ map (spelled s) (e ∷ es) → ⊥
  none_some e es is = cc

  heads_same : (x y : Spelling) (xs ys : List Spelling) → x ∷ xs ≡ y ∷ ys → (x ≡ y) × (xs ≡ ys)
  heads_same x y xs ys is = (cc, cc)

  all_same : (es fs : List Expr) (xs ys : List Aggregate) → map (spelled s) es ≡ map (spelled s) fs → Pairwise (IsAggregateOf s) xs es → Pairwise (IsAggregateOf s) ys fs → Pairwise SameAggregate xs ys
  all_same [] [] [] [] is first second = tt
  all_same [] [] [] (y ∷ ys) is first second = absurd second
  all_same [] [] (x ∷ xs) ys is first second = absurd first
  all_same [] (f ∷ fs) xs ys is first second = absurd (none_some f fs is)
  all_same (e ∷ es) [] xs ys is first second = absurd (none_some e es (sym is))
  all_same (e ∷ es) (f ∷ fs) [] ys is first second = absurd first
  all_same (e ∷ es) (f ∷ fs) (x ∷ xs) [] is first second = absurd second
  all_same (e ∷ es) (f ∷ fs) (x ∷ xs) (y ∷ ys) is first second =
      let parts = heads_same (spelled s e) (spelled s f) (map (spelled s) es) (map (spelled s) fs) is in
      (node_same (out-Expr e) (out-Expr f) x y (sym (spelled_out e) ∙ parts.0 ∙ spelled_out f) first.0 second.0, all_same es fs xs ys parts.1 first.1 second.1)

  module _ (catalog : Catalog) (q : Query) (p o : Plan) (first : IsPlanOf catalog q s p) (second : IsPlanOf catalog q s o) (dims : List (List Row)) where
    one_meaning : (rows : Numbered) → meaning p dims rows ≡ meaning o dims rows
    one_meaning =
        meaning_same p o dims
        (ok_same p.joins o.joins PlanFault (sym first.joins ∙ second.joins))
        (pairs_of (SameOnRows s) (SameOnRows s) AreSame p.conjuncts o.conjuncts _ (λ x y e f g r. f r ∙ sym (g r)) first.conjuncts second.conjuncts)
        (pairs_of (IsKeyOf s) (IsKeyOf s) SameKey p.keys o.keys _ (λ x y e f g r. f.same r ∙ sym (g.same r)) first.keys second.keys)
        (all_same first.aggregates.trees second.aggregates.trees p.aggs o.aggs (sym first.aggregates.written ∙ second.aggregates.written) first.aggregates.each second.aggregates.each)
        (pairs_of (IsItemOf s q) (IsItemOf s q) SameItem p.items o.items q.items (λ x y e f g key vals. f key vals ∙ sym (g key vals)) first.items second.items)
        (pairs_of (IsHavingOf s q) (IsHavingOf s q) SameOver (option_to_list p.having) (option_to_list o.having) (option_to_list q.having) (λ x y e f g key vals. f key vals ∙ sym (g key vals)) first.having second.having)
        (ok_same p.order o.order PlanFault (sym first.order ∙ second.order))
        (first.limit ∙ sym second.limit)
        (first.plain ∙ sym second.plain)
        (first.distinct ∙ sym second.distinct)

pub plans_agree : PlansAgree
plans_agree catalog q p other dims rows first second =
    let same = ok_same second.0 first.0 PlanFault (sym second.1.scope ∙ first.1.scope) in
    one_meaning first.0 catalog q p other first.1 (subst (λ (s : Scope). IsPlanOf catalog q s other) same second.1) dims rows

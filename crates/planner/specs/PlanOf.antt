-- What the plan of a query is: its lists are the query's, and each of its expressions gives what the query's tree
-- gives.
use Rattle.std.specs.Prelude.{◌≡◌, ◌≢◌, ℕ, Bool, true, not, List, [], ◌∷◌, ◌++◌, map, filter, flat_map, Option, Some, None, option_to_list, slice_get, Ok, All, codes, decimal}
use Rattle.std.specs.List.{enumerate_from}
use Rattle.std.specs.Option.{is_none}
use Rattle.meaning.specs.Cut.{Numbered}
use Rattle.meaning.specs.Meaning.{meaning}
use Rattle.meaning.specs.Order.{Row}
use Rattle.meaning.specs.declared.catalog.Catalog.{Catalog}
use Rattle.meaning.specs.declared.expr.Expr as plan
use Rattle.meaning.specs.declared.plan.Aggregate.{Aggregate}
use Rattle.meaning.specs.declared.plan.GroupingKey.{GroupingKey}
use Rattle.meaning.specs.declared.plan.Item as plan_item
use Rattle.meaning.specs.declared.plan.Plan.{Plan}
use Rattle.sql_syntax.specs.declared.tree.Expr.{Expr}
use Rattle.sql_syntax.specs.declared.tree.Expr.TheOpen as node
use Rattle.sql_syntax.specs.declared.tree.Expr.TheOpen.{Expr-F}
use Rattle.sql_syntax.specs.declared.tree.Expr.TheVariants as tree
use Rattle.sql_syntax.specs.declared.tree.Expr.TheViews.{out-Expr}
use Rattle.sql_syntax.specs.declared.tree.Arm.{Arm}
use Rattle.sql_syntax.specs.declared.tree.Item.{Item}
use Rattle.sql_syntax.specs.declared.tree.Query.{Query}
use Rattle.sql_syntax.specs.Canonical.{canonical}
use Rattle.planner_expressions.specs.declared.scope.Scope.{Scope}
use Rattle.planner_expressions.specs.declared.sort.Sort.{Sort}
use Rattle.planner_expressions.specs.From.{scope_of}
use Rattle.planner_expressions.specs.Judged.{judged}
use Rattle.planner_expressions.specs.Meant.{SameOnRows, SameOnGroups}
use Rattle.planner_expressions.specs.Spelled.{Spelling, spelled, index_among}
use Rattle.planner_clauses.specs.declared.conjuncts.Equality.{Equality}
use Rattle.planner_clauses.specs.Aggregates.{aggregates_in, count_rows, kind_of, row_type}
use Rattle.planner_clauses.specs.Checked.{conditions, row_conditions}
use Rattle.planner_clauses.specs.Conjuncts.{conjuncts_of, inner_equality}
use Rattle.planner_clauses.specs.Groups.{all_aggregates, is_grouped, key_trees}
use Rattle.planner.specs.Planned.{joins_of, planned, table_use}
use Rattle.planner_clauses.specs.Shown.{order_of}

-- two lists of one length, whose elements go together one by one
abbrev pub Pairwise : {X Y : Type 0} → (X → Y → Type 0) → List X → List Y → Type 0
Pairwise R [] [] = Unit {0}
Pairwise R [] (y ∷ ys) = ⊥
Pairwise R (x ∷ xs) [] = ⊥
Pairwise R (x ∷ xs) (y ∷ ys) = R x y × Pairwise R xs ys

-- the conjuncts of each ON, and then those of WHERE
abbrev pub all_conjuncts : Query → List Expr
all_conjuncts q = flat_map conjuncts_of (conditions q)

-- the join equalities of inner joins among them
abbrev pub equalities_among : Scope → List Expr → List Equality
equalities_among s = flat_map (λ e. option_to_list (inner_equality s e))

-- the conjuncts of ON and WHERE but for those of a LEFT join's ON
abbrev pub row_conjuncts : Query → List Expr
row_conjuncts q = flat_map conjuncts_of (row_conditions q)

-- a conjunct that is no join equality of an inner join
abbrev pub is_condition : Scope → Expr → Bool
is_condition s e = is_none (inner_equality s e)

-- the keys, and the aggregates, as trees that are the same are written
abbrev pub key_spellings : Scope → Query → List Spelling
key_spellings s q = map (spelled s) (key_trees (is_grouped s q) q)

abbrev pub aggregate_spellings : Scope → Query → List Spelling
aggregate_spellings s q = (all_aggregates s q).written

-- where no aggregate may stand, the tree has no fault
abbrev pub IsFine : Scope → Expr → Type 0
IsFine s e = (sort : Sort) × (judged s e true ≡ Ok sort)

-- an aggregate, whose argument has no fault
abbrev pub argument_of : Scope → Expr-F Expr Arm → Type 0
argument_of s (node.Aggregate kind a) = IsFine s a
argument_of s node.CountRows = Unit {0}
argument_of s _ = ⊥

abbrev pub is_counted : Scope → Expr → Type 0
is_counted s e = argument_of s (out-Expr e)

-- the item's expression gives on every group what its tree gives
abbrev pub IsItemOf : Scope → Query → plan_item.Item → Item → Type 0
IsItemOf s q x i = SameOnGroups s (key_spellings s q) (aggregate_spellings s q) x.expr i.expr

abbrev pub IsHavingOf : Scope → Query → plan.Expr → Expr → Type 0
IsHavingOf s q x e = SameOnGroups s (key_spellings s q) (aggregate_spellings s q) x e

-- the header of the item at this position, counted from 1: the name of AS, else that of the column that the item is,
-- else `c` and the position
pub record IsHeaderOf (position : ℕ) (text : List ℕ) (i : Item) : Type 0 where
  pub named : (alias : List ℕ) → i.alias ≡ Some alias → text ≡ alias
  pub column : (table : Option (List ℕ)) (name : List ℕ) → i.alias ≡ None → i.expr ≡ tree.Column table name → text ≡ name
  pub other : i.alias ≡ None → ((table : Option (List ℕ)) (name : List ℕ) → i.expr ≢ tree.Column table name) → text ≡ codes "c" ++ decimal position

abbrev pub IsHeadedAs : plan_item.Item → ℕ × Item → Type 0
IsHeadedAs x i = IsHeaderOf i.0 x.header i.1

-- a key gives on every row what its tree gives, and is of its type
pub record IsKeyOf (s : Scope) (k : GroupingKey) (e : Expr) : Type 0 where
  pub same : SameOnRows s k.expr e
  pub typed : k.col_type ≡ row_type s e

-- an aggregate has the tree's kind, and its argument gives on every row what the tree's argument gives, and is of its
-- type; COUNT(*) counts a literal
abbrev pub is_aggregate_at : Scope → Aggregate → Expr-F Expr Arm → Type 0
is_aggregate_at s a (node.Aggregate kind x) = (a.kind ≡ kind_of kind) × SameOnRows s a.argument x × (a.col_type ≡ row_type s x)
is_aggregate_at s a node.CountRows = a ≡ count_rows
is_aggregate_at s a _ = ⊥

abbrev pub IsAggregateOf : Scope → Aggregate → Expr → Type 0
IsAggregateOf s a e = is_aggregate_at s a (out-Expr e)

-- the aggregates of the items and of HAVING
abbrev pub own_aggregates : Query → List Expr
own_aggregates q = flat_map (λ i. aggregates_in i.expr) q.items ++ flat_map aggregates_in (option_to_list q.having)

-- the plan's aggregate as which the tree is given is the tree's own
abbrev pub IsGivenAs : Scope → Query → List Aggregate → Expr → Type 0
IsGivenAs s q list e = (i : ℕ) × (index_among (aggregate_spellings s q) (spelled s e) ≡ Some i) × ((a : Aggregate) × (slice_get list i ≡ Some a) × IsAggregateOf s a e)

-- the plan's aggregates are those of trees, as which the parts of items are given, each as its own
pub record AreAggregates (s : Scope) (q : Query) (list : List Aggregate) : Type 0 where
  pub trees : List Expr
  pub written : aggregate_spellings s q ≡ map (spelled s) trees
  pub each : Pairwise (IsAggregateOf s) list trees
  pub own : All (IsGivenAs s q list) (own_aggregates q)

pub record IsPlanOf (catalog : Catalog) (q : Query) (s : Scope) (p : Plan) : Type 0 where
  pub scope : scope_of catalog q.source ≡ Ok s
  pub text : p.text ≡ canonical q
  pub fact : p.fact ≡ table_use s q None catalog.fact.name
  pub joins : joins_of s q (equalities_among s (all_conjuncts q)) ≡ Ok p.joins
  pub conjuncts : Pairwise (SameOnRows s) p.conjuncts (filter (is_condition s) (row_conjuncts q))
  pub keys : Pairwise (IsKeyOf s) p.keys (key_trees (is_grouped s q) q)
  pub aggregates : AreAggregates s q p.aggs
  pub items : Pairwise (IsItemOf s q) p.items q.items
  pub headers : Pairwise IsHeadedAs p.items (enumerate_from 1 q.items)
  pub having : Pairwise (IsHavingOf s q) (option_to_list p.having) (option_to_list q.having)
  pub order : order_of q.items q.order_by ≡ Ok p.order
  pub limit : p.limit ≡ q.limit
  pub plain : p.plain ≡ not (is_grouped s q)
  pub distinct : p.distinct ≡ q.distinct

abbrev pub IsAPlanOf : Catalog → Query → Plan → Type 0
IsAPlanOf catalog q p = (s : Scope) × IsPlanOf catalog q s p

-- the plan that is defined is the query's
abbrev pub PlansMean : Type 0
PlansMean = (catalog : Catalog) (q : Query) (p : Plan) → planned catalog q ≡ Ok p → IsAPlanOf catalog q p

-- whatever is a query's plan means the same over all tables
abbrev pub PlansAgree : Type 0
PlansAgree = (catalog : Catalog) (q : Query) (p other : Plan) (dims : List (List Row)) (rows : Numbered)
    → IsAPlanOf catalog q p
    → IsAPlanOf catalog q other
    → meaning p dims rows ≡ meaning other dims rows

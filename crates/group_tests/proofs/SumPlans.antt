-- The tests' plans have types over groups, and their groups fit them.
use Rattle.std.proofs.Common.{rules, ◌≡◌, ◌<◌, pos, true, List, [], ◌∷◌, ◌++◌, map, length, Some, None, refl, sym, ap, subst, ◌∙◌, arith}
use Rattle.std.specs.Prelude.{All, option_to_list}
use Rattle.std.specs.Cmp.Lexicographic.{pointwise}
use Rattle.std.specs.List.{AllByRecursion, list_all}
use Rattle.std.proofs.lemmas.List.Elements.{All-from_recursion, recursion_from_All}
use Rattle.meaning.specs.declared.answer.Group.{Group}
use Rattle.meaning.specs.declared.answer.Statistics.{Statistics}
use Rattle.meaning.specs.declared.expr.ArithmeticOperator.TheVariants.{Divide}
use Rattle.meaning.specs.declared.expr.ComparisonOperator.TheVariants.{Greater}
use Rattle.meaning.specs.declared.expr.Expr.{Expr}
use Rattle.meaning.specs.declared.expr.Expr.TheVariants as expr
use Rattle.meaning.specs.declared.expr.Expr.TheFolds.{the_lemmas}
use Rattle.meaning.specs.declared.plan.Aggregate.{Aggregate}
use Rattle.meaning.specs.declared.plan.AggregateKind.TheVariants.{Sum}
use Rattle.meaning.specs.declared.plan.GroupingKey.{GroupingKey}
use Rattle.meaning.specs.declared.plan.Item.{Item}
use Rattle.meaning.specs.declared.plan.Plan.{Plan}
use Rattle.meaning.specs.declared.value.ColType.{ColType}
use Rattle.meaning.specs.declared.value.ColType.TheVariants as of_type
use Rattle.meaning.specs.declared.value.Value.TheVariants.{Int}
use Rattle.meaning.specs.Aggregate.{kept_by}
use Rattle.meaning.specs.Fitting.{is_entry_of, is_extreme, is_group_of, is_key_of, is_state_of}
use Rattle.meaning.specs.Gather.{same_statistics}
use Rattle.meaning.specs.References.{Reference, GroupKey, GroupAggregate, columns_used_in_all}
use Rattle.meaning.specs.Typing.{RowTypes, Valued, Boolean, group_types, has_type, is_of_type, result_type}
use Rattle.meaning.proofs.Same.{statistics_exact}
use Rattle.meaning.proofs.Tests.{both}
use Rattle.last_step.specs.Fitting.{AreGroupsOf}
use Rattle.meaning.specs.SoundPlan.{IsOfGroup}
use Rattle.group_tests.specs.Shapes.{AreKeys, AreSums, IsHaving, IsSumGroup, IsSumPlan, IsSumState, sum_types}

-- ---- HAVING

abbrev two : Expr
two = expr.Literal (Int (pos 2))

abbrev above : Expr → Expr
above e = expr.Compare Greater e two

abbrev hundred : Expr
hundred = expr.Arithmetic Divide (expr.Literal (Int (pos 100))) (expr.Aggregate 0)

pub nothing_asked : IsHaving None
nothing_asked = record { typed = All-from_recursion (λ e. has_type sum_types e Boolean ≡ true) [] tt; named = All-from_recursion (λ u. u ≡ GroupAggregate 0) [] tt }

asked : (e : Expr) → has_type sum_types e Boolean ≡ true → columns_used_in_all (e ∷ []) ≡ GroupAggregate 0 ∷ [] → IsHaving (Some e)
asked e typed named = record {
  typed = All-from_recursion (λ e. has_type sum_types e Boolean ≡ true) (e ∷ []) (typed, tt);
  named = subst (All (λ u. u ≡ GroupAggregate 0)) (sym named) (All-from_recursion (λ u. u ≡ GroupAggregate 0) (GroupAggregate 0 ∷ []) (refl, tt));
}

pub sum_asked : (e : Expr) → e ≡ above (expr.Aggregate 0) → IsHaving (Some e)
sum_asked e is = subst (λ x. IsHaving (Some x)) (sym is) (asked (above (expr.Aggregate 0)) (search (rules, the_lemmas)) (search (rules, the_lemmas)))

pub hundred_asked : (e h : Expr) → e ≡ above h → h ≡ hundred → IsHaving (Some e)
hundred_asked e h is part = subst (λ x. IsHaving (Some x)) (sym (is ∙ ap above part)) (asked (above hundred) (search (rules, the_lemmas)) (search (rules, the_lemmas)))

-- ---- plans

pub one_key : (keys new : List GroupingKey) (k : GroupingKey) → keys ≡ [] → new ≡ keys ++ k ∷ [] → k.col_type ≡ of_type.Int → AreKeys new
one_key keys new k none is integer = record { key = k; one = is ∙ ap (λ (ks : List GroupingKey). ks ++ k ∷ []) none; integer = integer }

pub one_sum : (sums new : List Aggregate) (a : Aggregate) → sums ≡ [] → new ≡ sums ++ a ∷ [] → a.kind ≡ Sum → a.col_type ≡ of_type.Int → AreSums new
one_sum sums new a none is kind integer = record { sum = a; one = is ∙ ap (λ (xs : List Aggregate). xs ++ a ∷ []) none; kind = kind; integer = integer }

key_typed : has_type sum_types (expr.Key 0) (Valued of_type.Int) ≡ true
key_typed = search (rules, the_lemmas)

sum_typed : has_type sum_types (expr.Aggregate 0) (Valued of_type.Int) ≡ true
sum_typed = search (rules, the_lemmas)

used : (rest : List Expr) → columns_used_in_all (expr.Key 0 ∷ expr.Aggregate 0 ∷ rest) ≡ GroupKey 0 ∷ GroupAggregate 0 ∷ columns_used_in_all rest
used rest = search (rules, the_lemmas)

types_of : (plan : Plan) → AreKeys plan.keys → AreSums plan.aggs → group_types plan ≡ sum_types
types_of plan ks as' =
    (λ i. record { fact = []; joins = []; key = map (λ (k : GroupingKey). k.col_type) (ks.one i); aggregates = map (λ (a : Aggregate). result_type a.kind a.col_type) (as'.one i) })
    ∙ (λ i. record { fact = []; joins = []; key = ks.integer i ∷ []; aggregates = result_type (as'.kind i) as'.sum.col_type ∷ [] })

each : (types : RowTypes) → types ≡ sum_types → (items : List Item) → map (λ i. i.expr) items ≡ expr.Key 0 ∷ expr.Aggregate 0 ∷ [] → AllByRecursion (λ i. (kind : ColType) × (has_type types i.expr (Valued kind) ≡ true)) items
each types same [] e = absurd cc
each types same (i ∷ []) e = absurd cc
each types same (i ∷ j ∷ []) e =
    let one : i.expr ≡ expr.Key 0 = cc in
    let two : j.expr ≡ expr.Aggregate 0 = cc in
    ((of_type.Int, (λ k. has_type (same k) (one k) (Valued of_type.Int)) ∙ key_typed), ((of_type.Int, (λ k. has_type (same k) (two k) (Valued of_type.Int)) ∙ sum_typed), tt))
each types same (i ∷ j ∷ k ∷ items) e = absurd cc

all_of_group : (plan : Plan) → 0 < length plan.aggs → (us : List Reference) → AllByRecursion (λ u. u ≡ GroupAggregate 0) us → AllByRecursion (IsOfGroup plan) us
all_of_group plan some [] all = tt
all_of_group plan some (u ∷ us) all = (subst (IsOfGroup plan) (sym all.0) some, all_of_group plan some us all.1)

pub sum_plan : (plan : Plan) → AreKeys plan.keys → AreSums plan.aggs → map (λ i. i.expr) plan.items ≡ expr.Key 0 ∷ expr.Aggregate 0 ∷ [] → IsHaving plan.having → IsSumPlan plan
sum_plan plan ks as' items having =
    let types = types_of plan ks as' in
    let asked : List Expr = option_to_list plan.having in
    let a_key : 0 < length plan.keys = let long = ap length ks.one in omega (arith, long) in
    let a_sum : 0 < length plan.aggs = let long = ap length as'.one in omega (arith, long) in
    record {
      typed = record {
        items = All-from_recursion (λ i. (kind : ColType) × (has_type (group_types plan) i.expr (Valued kind) ≡ true)) plan.items (each (group_types plan) types plan.items items);
        having = subst (λ (t : RowTypes). All (λ e. has_type t e Boolean ≡ true) asked) (sym types) having.typed;
        named = subst (All (IsOfGroup plan)) (sym (ap (λ (es : List Expr). columns_used_in_all (es ++ asked)) items ∙ used asked))
            (All-from_recursion (IsOfGroup plan) (GroupKey 0 ∷ GroupAggregate 0 ∷ columns_used_in_all asked)
            (a_key, (a_sum, all_of_group plan a_sum (columns_used_in_all asked) (recursion_from_All (λ u. u ≡ GroupAggregate 0) (columns_used_in_all asked) having.named))));
      };
      keys = ks;
      sums = as';
    }

-- ---- groups

state_fits : (a : Aggregate) (s : Statistics) → a.kind ≡ Sum → IsSumState s → is_state_of a s ≡ true
state_fits a s sum is =
    let same : kept_by a.kind s ≡ s = ap (λ k. kept_by k s) sum ∙ (λ i. record { count = s.count; sum = s.sum; least = sym is.least i; greatest = sym is.greatest i; entries = sym is.entries i }) in
    both (same_statistics (kept_by a.kind s) s) _ ((statistics_exact (kept_by a.kind s) s).1 same)
    (both (is_extreme a.col_type s.least) _ (ap (is_extreme a.col_type) is.least)
    (both (is_extreme a.col_type s.greatest) (list_all (is_entry_of a.col_type) s.entries) (ap (is_extreme a.col_type) is.greatest)
    (ap (list_all (is_entry_of a.col_type)) is.entries)))

group_fits : (plan : Plan) → IsSumPlan plan → (g : Group) → IsSumGroup g → is_group_of plan g ≡ true
group_fits plan is g group =
    both (is_key_of plan g.key) (pointwise is_state_of plan.aggs g.states)
    ((λ i. pointwise (λ k v. is_of_type k.col_type v) (is.keys.one i) (group.key i)) ∙ both (is_of_type is.keys.key.col_type (Int group.int)) true (ap (λ t. is_of_type t (Int group.int)) is.keys.integer ∙ group.fits) refl)
    ((λ i. pointwise is_state_of (is.sums.one i) (group.states i)) ∙ both (is_state_of is.sums.sum group.state) true (state_fits is.sums.sum group.state is.sums.kind group.is) refl)

pub groups_fit : (plan : Plan) (gs : List Group) → IsSumPlan plan → All IsSumGroup gs → AreGroupsOf plan gs
groups_fit plan gs is all = record { typed = is.typed; shaped = λ k d below. group_fits plan is _ (all k d below) }

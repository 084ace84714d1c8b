-- The plans of the cases are sound: one aggregate, of the literal 1, which is shown.
use Rattle.std.proofs.Common.{rules, pos, ◌≡◌, ◌<◌, true, false, List, [], ◌∷◌, ◌++◌, map, length, None, refl, sym, ap, subst, ◌∙◌, arith}
use Rattle.std.specs.Prelude.{All, option_to_list}
use Rattle.std.specs.List.{AllByRecursion}
use Rattle.std.proofs.lemmas.List.Elements.{All-from_recursion}
use Rattle.meaning.specs.declared.expr.Expr.{Expr}
use Rattle.meaning.specs.declared.expr.Expr.TheVariants as expr
use Rattle.meaning.specs.declared.expr.Expr.TheFolds.{the_lemmas}
use Rattle.meaning.specs.declared.plan.Aggregate.{Aggregate}
use Rattle.meaning.specs.declared.plan.AggregateKind.{AggregateKind}
use Rattle.meaning.specs.declared.plan.AggregateKind.TheVariants as kinds
use Rattle.meaning.specs.declared.plan.Item.{Item}
use Rattle.meaning.specs.declared.plan.Plan.{Plan}
use Rattle.meaning.specs.declared.value.ColType.{ColType}
use Rattle.meaning.specs.declared.value.ColType.TheVariants as of_type
use Rattle.meaning.specs.declared.value.Value.TheVariants as value
use Rattle.meaning.specs.References.{Reference, GroupAggregate, columns_of_plan, columns_used_in_all}
use Rattle.meaning.specs.SoundPlan.{IsListed, IsListedJoin, IsOfGroup, IsSoundPlan, IsTypedOverGroups, IsWithinLimits}
use Rattle.meaning.specs.TableLaws.{IsTypedAggregate, IsTypedPlan}
use Rattle.meaning.specs.Typing.{RowTypes, Valued, Boolean, group_types, has_type, result_type}

abbrev one : Expr
one = expr.Literal (value.Int (pos 1))

abbrev sums : RowTypes
sums = record { fact = []; joins = []; key = []; aggregates = of_type.Int ∷ [] }

typed_one : (types : RowTypes) → has_type types one (Valued of_type.Int) ≡ true
typed_one types = search (rules, the_lemmas)

used_one : columns_used_in_all (one ∷ []) ≡ []
used_one = search (rules, the_lemmas)

typed_sum : has_type sums (expr.Aggregate 0) (Valued of_type.Int) ≡ true
typed_sum = search (rules, the_lemmas)

used_sum : columns_used_in_all (expr.Aggregate 0 ∷ []) ≡ GroupAggregate 0 ∷ []
used_sum = search (rules, the_lemmas)

integer_result : (kind : AggregateKind) → result_type kind of_type.Int ≡ of_type.Int
integer_result kinds.CountRows = refl
integer_result kinds.Count = refl
integer_result kinds.Sum = refl
integer_result kinds.Min = refl
integer_result kinds.Max = refl
integer_result kinds.Avg = refl
integer_result kinds.CountDistinct = refl
integer_result kinds.SumDistinct = refl

not_plain : true ≡ false → ⊥
not_plain e = cc

module _ (plan : Plan) (a : Aggregate) (no_joins : plan.joins ≡ []) (no_conjuncts : plan.conjuncts ≡ []) (no_keys : plan.keys ≡ [])
    (only : plan.aggs ≡ a ∷ []) (argument : a.argument ≡ one) (integer : a.col_type ≡ of_type.Int)
    (shows : map (λ i. i.expr) plan.items ≡ expr.Aggregate 0 ∷ []) (no_having : plan.having ≡ None) (no_plain : plan.plain ≡ false)
    (within : IsWithinLimits plan) where
  types : group_types plan ≡ sums
  types =
      (λ i. record { fact = []; joins = []; key = map (λ k. k.col_type) (no_keys i); aggregates = map (λ (b : Aggregate). result_type b.kind b.col_type) (only i) })
      ∙ ap (λ (t : ColType). record { fact = []; joins = []; key = []; aggregates = t ∷ [] }) (ap (result_type a.kind) integer ∙ integer_result a.kind)

  exprs : map (λ i. i.expr) plan.items ++ option_to_list plan.having ≡ expr.Aggregate 0 ∷ []
  exprs = λ i. shows i ++ option_to_list (no_having i)

  here : 0 < length plan.aggs
  here = let long = ap length only in omega (arith, long)

  each : (items : List Item) → map (λ i. i.expr) items ≡ expr.Aggregate 0 ∷ [] → AllByRecursion (λ i. (kind : ColType) × (has_type (group_types plan) i.expr (Valued kind) ≡ true)) items
  each [] e = absurd cc
  each (i ∷ []) e = let same : i.expr ≡ expr.Aggregate 0 = cc in ((of_type.Int, (λ j. has_type (types j) (same j) (Valued of_type.Int)) ∙ typed_sum), tt)
  each (i ∷ j ∷ items) e = absurd cc

  over_groups : IsTypedOverGroups plan
  over_groups = record {
    items = All-from_recursion (λ i. (kind : ColType) × (has_type (group_types plan) i.expr (Valued kind) ≡ true)) plan.items (each plan.items shows);
    having = subst (λ h. All (λ e. has_type (group_types plan) e Boolean ≡ true) (option_to_list h)) (sym no_having) (All-from_recursion (λ e. has_type (group_types plan) e Boolean ≡ true) [] tt);
    named = subst (All (IsOfGroup plan)) (sym (ap columns_used_in_all exprs ∙ used_sum)) (All-from_recursion (IsOfGroup plan) (GroupAggregate 0 ∷ []) (here, tt));
  }

  names_nothing : columns_of_plan plan ≡ []
  names_nothing =
      (λ i. columns_used_in_all (no_conjuncts i) ++ (columns_used_in_all (map (λ k. k.expr) (no_keys i)) ++ columns_used_in_all (map (λ (b : Aggregate). b.argument) (only i))))
      ∙ ap (λ (e : Expr). columns_used_in_all (e ∷ [])) argument
      ∙ used_one

  typed_aggregate : (row : RowTypes) → IsTypedAggregate row a
  typed_aggregate row = record {
    typed = (λ i. has_type row (argument i) (Valued (integer i))) ∙ typed_one row;
    counted = λ is. (value.Int (pos 1), argument, refl);
  }

  typed : (row : RowTypes) → IsTypedPlan row plan
  typed row = record {
    conditions = subst (All (λ c. has_type row c Boolean ≡ true)) (sym no_conjuncts) (All-from_recursion (λ c. has_type row c Boolean ≡ true) [] tt);
    keys = subst (All (λ k. has_type row k.expr (Valued k.col_type) ≡ true)) (sym no_keys) (All-from_recursion (λ k. has_type row k.expr (Valued k.col_type) ≡ true) [] tt);
    aggregates = subst (All (IsTypedAggregate row)) (sym only) (All-from_recursion (IsTypedAggregate row) (a ∷ []) (typed_aggregate row, tt));
  }

  shown : plan.items ≡ [] → ⊥
  shown none = nothing (sym shows ∙ ap (map (λ i. i.expr)) none)
    where
      nothing : expr.Aggregate 0 ∷ [] ≡ [] → ⊥
      nothing e = cc

  pub is_sound : IsSoundPlan plan
  is_sound = record {
    listed = subst (All (IsListed plan)) (sym names_nothing) (All-from_recursion (IsListed plan) [] tt);
    joins = subst (All (IsListedJoin plan)) (sym no_joins) (All-from_recursion (IsListedJoin plan) [] tt);
    typed = λ row has. typed row;
    shown = shown;
    plain = λ plain. absurd (not_plain (sym plain ∙ no_plain));
    over_groups = over_groups;
    within = within;
  }

-- Columns of groups, and the batch that they make.
use Rattle.std.proofs.Common.{◌≡◌, ℕ, ◌+◌, ◌<◌, inl, inr, Bool, true, false, ◌||◌, List, [], ◌∷◌, ◌++◌, map, take, length, get_or, Some, refl, sym, ap, ◌∙◌, subst, arith}
use Rattle.std.specs.Prelude.{ℤ, All, option_to_list}
use Rattle.std.specs.List.{AllByRecursion, list_any}
use Rattle.std.proofs.lemmas.Bool.{cases_lt, eq-eqb}
use Rattle.std.proofs.lemmas.List.{length-map, map_push, map_more}
use Rattle.std.proofs.lemmas.List.Elements.{All-from_recursion, recursion_from_All}
use Rattle.meaning.specs.declared.answer.Group.{Group}
use Rattle.meaning.specs.declared.expr.Expr.{Expr}
use Rattle.meaning.specs.declared.outcome.Outcome.{Outcome}
use Rattle.meaning.specs.declared.outcome.Outcome.TheVariants as gives
use Rattle.meaning.specs.declared.plan.Aggregate.{Aggregate}
use Rattle.meaning.specs.declared.plan.GroupingKey.{GroupingKey}
use Rattle.meaning.specs.declared.plan.Item.{Item}
use Rattle.meaning.specs.declared.plan.Plan.{Plan}
use Rattle.meaning.specs.declared.value.ColType.{ColType}
use Rattle.meaning.specs.declared.value.ColType.TheVariants as of_type
use Rattle.meaning.specs.declared.value.Value.{Value}
use Rattle.meaning.specs.declared.value.Value.TheVariants.{Null, Int, Text}
use Rattle.meaning.specs.Fitting.{is_group_of}
use Rattle.meaning.specs.Order.{bytes, column, is_null, number}
use Rattle.meaning.specs.References.{Reference, FactColumn, JoinColumn, GroupKey, GroupAggregate, columns_used, columns_used_in_all}
use Rattle.meaning.specs.Typing.{Valued, Boolean, fits_row_types, group_types, has_type, is_column_type, is_of_type, result_type}
use Rattle.meaning.proofs.Typed.{type_itself}
use Rattle.vectors.specs.Lanes.{lane_value, lane_values}
use Rattle.vectors.specs.Vector.{BatchSpec, IsColumnOf, outcomes_of, same_reference}
use Rattle.vectors.specs.declared.batch.BatchColumn.{BatchColumn}
use Rattle.vectors.specs.declared.batch.ColumnReference.{ColumnReference}
use Rattle.vectors.specs.declared.batch.ColumnReference.TheVariants as reference
use Rattle.vectors.specs.declared.vector.Vector.{Vector}
use Rattle.vectors.specs.declared.vector.Vector.TheVariants as vector
use Rattle.vector_operators.specs.Given.{type_of_lanes}
use Rattle.primitives.specs.Fitting.{AreTypedRows, Fits, has_column, is_typed_column, column_reference}
use Rattle.last_step.specs.Batches.{HasAt, HasValues, IsBatchOf, IsColumnIn, IsPartOf, IsVectorOf, aggregate_in, row_in}
use Rattle.last_step.specs.Fitting.{AreGroupsOf}
use Rattle.meaning.specs.SoundPlan.{IsOfGroup}
use Rattle.last_step.proofs.GroupRows.{aggregates_typed, get_typed, has_at, key_typed, of_column, row_typed}

-- ---- values that are put one by one

pub pushed : {A B C : Type 0} (f : A → C) (h : B → C) (ys more : List A) (y : A) (xs : List B) (i : ℕ) (x : B) → i < length xs → x ≡ get_or xs i x → f y ≡ h x → more ≡ ys ++ y ∷ []
    → map f ys ≡ map h (take i xs) → map f more ≡ map h (take (i + 1) xs)
pushed {C = C} f h ys more y xs i x below at same is so_far =
    ap (map f) is ∙ map_push f ys y ∙ ap (λ (zs : List C). zs ++ f y ∷ []) so_far ∙ ap (λ (z : C). map h (take i xs) ++ z ∷ []) (same ∙ ap h at) ∙ sym (map_more h xs i x below)

-- ---- vectors of values

one_int : (v : Value) → is_of_type of_type.Int v ≡ true → lane_value Int (is_null v, number v) ≡ v
one_int Null e = refl
one_int (Int n) e = refl
one_int (Text t) e = absurd cc

one_text : (v : Value) → is_of_type of_type.Text v ≡ true → lane_value Text (is_null v, bytes v) ≡ v
one_text Null e = refl
one_text (Int n) e = absurd cc
one_text (Text t) e = refl

module _ {X : Type 0} (f : X → Value) where
  ints : (xs : List X) → AllByRecursion (λ v. is_of_type of_type.Int v ≡ true) (map f xs) → lane_values Int (map (λ x. is_null (f x)) xs) (map (λ x. number (f x)) xs) ≡ map f xs
  ints [] all = refl
  ints (x ∷ xs) all = λ i. one_int (f x) all.0 i ∷ ints xs all.1 i

  texts : (xs : List X) → AllByRecursion (λ v. is_of_type of_type.Text v ≡ true) (map f xs) → lane_values Text (map (λ x. is_null (f x)) xs) (map (λ x. bytes (f x)) xs) ≡ map f xs
  texts [] all = refl
  texts (x ∷ xs) all = λ i. one_text (f x) all.0 i ∷ texts xs all.1 i

  pub int_vector : (xs : List X) (nulls : List Bool) (cells : List ℤ) (lanes : List Value) → nulls ≡ map (λ x. is_null (f x)) xs → cells ≡ map (λ x. number (f x)) xs
      → All (λ v. is_of_type of_type.Int v ≡ true) (map f xs) → lanes ≡ lane_values Int nulls cells → IsVectorOf of_type.Int (map f xs) (vector.Ints lanes)
  int_vector xs nulls cells lanes n c all is = record {
    values = ap (map gives.Value) (is ∙ (λ i. lane_values Int (n i) (c i)) ∙ ints xs (recursion_from_All (λ v. is_of_type of_type.Int v ≡ true) (map f xs) all));
    type_is = refl;
  }

  pub text_vector : (xs : List X) (nulls : List Bool) (cells : List (List ℕ)) (lanes : List Value) → nulls ≡ map (λ x. is_null (f x)) xs → cells ≡ map (λ x. bytes (f x)) xs
      → All (λ v. is_of_type of_type.Text v ≡ true) (map f xs) → lanes ≡ lane_values Text nulls cells → IsVectorOf of_type.Text (map f xs) (vector.Texts lanes)
  text_vector xs nulls cells lanes n c all is = record {
    values = ap (map gives.Value) (is ∙ (λ i. lane_values Text (n i) (c i)) ∙ texts xs (recursion_from_All (λ v. is_of_type of_type.Text v ≡ true) (map f xs) all));
    type_is = refl;
  }

pub as_many : {X Y Z : Type 0} (a : X → Y) (b : X → Z) (xs : List X) (ys : List Y) (zs : List Z) → ys ≡ map a xs → zs ≡ map b xs → length ys ≡ length zs
as_many a b xs ys zs e f = ap length e ∙ length-map xs a ∙ sym (length-map xs b) ∙ sym (ap length f)

-- ---- columns

abbrev pub result_of : Aggregate → ColType
result_of a = result_type a.kind a.col_type

module _ (plan : Plan) where
  keys_read : (i : ℕ) (gs : List Group) → map gives.Value (map (λ g. column g.key i) gs) ≡ map (λ row. gives.Value (column row.key i)) (map (row_in plan) gs)
  keys_read i [] = refl
  keys_read i (g ∷ gs) = ap (λ (os : List Outcome). gives.Value (column g.key i) ∷ os) (keys_read i gs)

  aggregates_read : (i : ℕ) (gs : List Group) → map gives.Value (map (aggregate_in plan i) gs) ≡ map (λ row. gives.Value (column row.aggregates i)) (map (row_in plan) gs)
  aggregates_read i [] = refl
  aggregates_read i (g ∷ gs) = ap (λ (os : List Outcome). gives.Value (aggregate_in plan i g) ∷ os) (aggregates_read i gs)

  pub key_column_is : (gs : List Group) (i : ℕ) (k : GroupingKey) (given : List Value) (lanes : Vector) → i < length plan.keys → k ≡ get_or plan.keys i k
      → given ≡ map (λ g. column g.key i) gs → IsVectorOf k.col_type given lanes → IsColumnIn plan gs (reference.Key i) (record { reference = reference.Key i; lanes = lanes })
  key_column_is gs i k given lanes below at are is = record {
    reference = refl;
    lanes = is.values ∙ ap (map gives.Value) are ∙ keys_read i gs;
    typed = ap (λ o. is_column_type o (type_of_lanes lanes)) (get_typed (λ x. x.col_type) plan.keys i k below at)
        ∙ ap (is_column_type (Some k.col_type)) is.type_is ∙ type_itself k.col_type;
  }

  pub aggregate_column_is : (gs : List Group) (i : ℕ) (a : Aggregate) (given : List Value) (lanes : Vector) → i < length plan.aggs → a ≡ get_or plan.aggs i a
      → given ≡ map (aggregate_in plan i) gs → IsVectorOf (result_of a) given lanes → IsColumnIn plan gs (reference.Aggregate i) (record { reference = reference.Aggregate i; lanes = lanes })
  aggregate_column_is gs i a given lanes below at are is = record {
    reference = refl;
    lanes = is.values ∙ ap (map gives.Value) are ∙ aggregates_read i gs;
    typed = ap (λ o. is_column_type o (type_of_lanes lanes)) (get_typed result_of plan.aggs i a below at)
        ∙ ap (is_column_type (Some (result_of a))) is.type_is ∙ type_itself (result_of a);
  }

  -- the values of a key are of its type
  pub keys_of_type : (gs : List Group) (i : ℕ) (k : GroupingKey) (given : List Value) → i < length plan.keys → k ≡ get_or plan.keys i k → AreGroupsOf plan gs
      → given ≡ map (λ g. column g.key i) gs → All (λ v. is_of_type k.col_type v ≡ true) given
  keys_of_type gs i k given below at groups are =
      subst (All (λ v. is_of_type k.col_type v ≡ true)) (sym are) (All-from_recursion (λ v. is_of_type k.col_type v ≡ true) (map (λ g. column g.key i) gs) (each gs (recursion_from_All (λ g. is_group_of plan g ≡ true) gs groups.shaped)))
    where
      each : (gs : List Group) → AllByRecursion (λ g. is_group_of plan g ≡ true) gs → AllByRecursion (λ v. is_of_type k.col_type v ≡ true) (map (λ g. column g.key i) gs)
      each [] all = tt
      each (g ∷ gs) all = (of_column (group_types plan).key g.key i k.col_type (key_typed plan g all.0) (get_typed (λ x. x.col_type) plan.keys i k below at), each gs all.1)

  pub aggregates_of_type : (gs : List Group) (i : ℕ) (a : Aggregate) (given : List Value) → i < length plan.aggs → a ≡ get_or plan.aggs i a → AreGroupsOf plan gs → All (HasValues plan) gs
      → given ≡ map (aggregate_in plan i) gs → All (λ v. is_of_type (result_of a) v ≡ true) given
  aggregates_of_type gs i a given below at groups has are =
      subst (All (λ v. is_of_type (result_of a) v ≡ true)) (sym are) (All-from_recursion (λ v. is_of_type (result_of a) v ≡ true) (map (aggregate_in plan i) gs) (each gs (recursion_from_All (λ g. is_group_of plan g ≡ true) gs groups.shaped) (recursion_from_All (HasValues plan) gs has)))
    where
      each : (gs : List Group) → AllByRecursion (λ g. is_group_of plan g ≡ true) gs → AllByRecursion (HasValues plan) gs → AllByRecursion (λ v. is_of_type (result_of a) v ≡ true) (map (aggregate_in plan i) gs)
      each [] all has = tt
      each (g ∷ gs) all has = (of_column (group_types plan).aggregates (row_in plan g).aggregates i (result_of a) (aggregates_typed plan g all.0 has.0) (get_typed result_of plan.aggs i a below at), each gs all.1 has.1)

  pub have_at : (gs : List Group) (i : ℕ) (a : Aggregate) → i < length plan.aggs → a ≡ get_or plan.aggs i a → AreGroupsOf plan gs → All (HasValues plan) gs → All (HasAt plan a.kind i) gs
  have_at gs i a below at groups has =
      All-from_recursion (HasAt plan a.kind i) gs (each gs (recursion_from_All (λ g. is_group_of plan g ≡ true) gs groups.shaped) (recursion_from_All (HasValues plan) gs has))
    where
      each : (gs : List Group) → AllByRecursion (λ g. is_group_of plan g ≡ true) gs → AllByRecursion (HasValues plan) gs → AllByRecursion (HasAt plan a.kind i) gs
      each [] all has = tt
      each (g ∷ gs) all has = (has_at plan g i a below at all.0 has.0, each gs all.1 has.1)

  -- ---- the batch

  rows_typed : (gs : List Group) → AllByRecursion (λ g. is_group_of plan g ≡ true) gs → AllByRecursion (HasValues plan) gs
      → AllByRecursion (λ r. fits_row_types (group_types plan) r ≡ true) (map (row_in plan) gs)
  rows_typed [] all has = tt
  rows_typed (g ∷ gs) all has = (row_typed plan g all.0 has.0, rows_typed gs all.1 has.1)

  pub no_columns : (gs : List Group) (n : ℕ) → n ≡ length gs → AreGroupsOf plan gs → All (HasValues plan) gs → IsPartOf plan gs 0 0 (record { rows = n; columns = [] })
  no_columns gs n long groups has = record {
    typed = record {
      are_rows = record {
        counted = length-map gs (row_in plan) ∙ sym long;
        columns = All-from_recursion (IsColumnOf (map (row_in plan) gs)) [] tt;
      };
      values = All-from_recursion (λ r. fits_row_types (group_types plan) r ≡ true) (map (row_in plan) gs)
          (rows_typed gs (recursion_from_All (λ g. is_group_of plan g ≡ true) gs groups.shaped) (recursion_from_All (HasValues plan) gs has));
      columns = All-from_recursion (λ c. is_typed_column (group_types plan) c ≡ true) [] tt;
    };
    keys_there = λ i below. absurd (omega (arith, below));
    aggregates_there = λ i below. absurd (omega (arith, below));
  }

  push : {X : Type 0} (P : X → Type 0) (xs : List X) (x : X) → AllByRecursion P xs → P x → AllByRecursion P (xs ++ x ∷ [])
  push P [] x all is = (is, tt)
  push P (y ∷ ys) x all is = (all.0, push P ys x all.1 is)

  all_push : {X : Type 0} (P : X → Type 0) (xs : List X) (x : X) → All P xs → P x → All P (xs ++ x ∷ [])
  all_push P xs x all is = All-from_recursion P (xs ++ x ∷ []) (push P xs x (recursion_from_All P xs all) is)

  any_left : {X : Type 0} (p : X → Bool) (xs ys : List X) → list_any p xs ≡ true → list_any p (xs ++ ys) ≡ true
  any_left p [] ys e = absurd cc
  any_left p (x ∷ xs) ys e = by (p x) (list_any p xs) (list_any p (xs ++ ys)) (any_left p xs ys) e
    where
      by : (a b c : Bool) → (b ≡ true → c ≡ true) → (a || b) ≡ true → (a || c) ≡ true
      by true b c to e = refl
      by false b c to e = to e

  any_last : {X : Type 0} (p : X → Bool) (xs : List X) (x : X) → p x ≡ true → list_any p (xs ++ x ∷ []) ≡ true
  any_last p [] x e = ap (λ b. b || false) e
  any_last p (y ∷ ys) x e = by (p y) (list_any p (ys ++ x ∷ [])) (any_last p ys x e)
    where
      by : (a b : Bool) → b ≡ true → (a || b) ≡ true
      by true b e = refl
      by false b e = e

  -- the lanes of a column are as many as the rows
  pub column_long : (gs : List Group) (keys aggregates : ℕ) (at : ColumnReference) (c : BatchColumn) (b : BatchSpec) → IsColumnIn plan gs at c → IsPartOf plan gs keys aggregates b → length (outcomes_of c.lanes) ≡ b.rows
  column_long gs keys aggregates at c b is part = ap length is.lanes ∙ length-map (map (row_in plan) gs) _ ∙ part.typed.are_rows.counted

  more_typed : (gs : List Group) (at : ColumnReference) (c : BatchColumn) (b : BatchSpec) → IsColumnIn plan gs at c → AreTypedRows (group_types plan) b (map (row_in plan) gs)
      → AreTypedRows (group_types plan) (record { rows = b.rows; columns = b.columns ++ c ∷ [] }) (map (row_in plan) gs)
  more_typed gs at c b is typed = record {
    are_rows = record { counted = typed.are_rows.counted; columns = all_push (IsColumnOf (map (row_in plan) gs)) b.columns c typed.are_rows.columns is.lanes };
    values = typed.values;
    columns = all_push (λ c. is_typed_column (group_types plan) c ≡ true) b.columns c typed.columns is.typed;
  }

  there : (b : BatchSpec) (c : BatchColumn) (u : Reference) → has_column b.columns u ≡ true → has_column (b.columns ++ c ∷ []) u ≡ true
  there b c u e = any_left (λ column. same_reference column.reference (column_reference u)) b.columns (c ∷ []) e

  pub one_more_key : (gs : List Group) (k : ℕ) (c : BatchColumn) (b : BatchSpec) → IsColumnIn plan gs (reference.Key k) c → IsPartOf plan gs k 0 b → IsPartOf plan gs (k + 1) 0 (record { rows = b.rows; columns = b.columns ++ c ∷ [] })
  one_more_key gs k c b is part = record {
    typed = more_typed gs (reference.Key k) c b is part.typed;
    keys_there = λ i below. elim (cases_lt i k) [
      | inl before ↦ there b c (GroupKey i) (part.keys_there i before)
      | inr from ↦ (let same : i ≡ k = omega (arith, below, from) in any_last (λ column. same_reference column.reference (reference.Key i)) b.columns c (ap (λ p. same_reference p (reference.Key i)) is.reference ∙ eq-eqb k i (sym same)))
    ];
    aggregates_there = λ i below. there b c (GroupAggregate i) (part.aggregates_there i below);
  }

  pub one_more_aggregate : (gs : List Group) (keys k : ℕ) (c : BatchColumn) (b : BatchSpec) → IsColumnIn plan gs (reference.Aggregate k) c → IsPartOf plan gs keys k b → IsPartOf plan gs keys (k + 1) (record { rows = b.rows; columns = b.columns ++ c ∷ [] })
  one_more_aggregate gs keys k c b is part = record {
    typed = more_typed gs (reference.Aggregate k) c b is part.typed;
    keys_there = λ i below. there b c (GroupKey i) (part.keys_there i below);
    aggregates_there = λ i below. elim (cases_lt i k) [
      | inl before ↦ there b c (GroupAggregate i) (part.aggregates_there i before)
      | inr from ↦ (let same : i ≡ k = omega (arith, below, from) in any_last (λ column. same_reference column.reference (reference.Aggregate i)) b.columns c (ap (λ p. same_reference p (reference.Aggregate i)) is.reference ∙ eq-eqb k i (sym same)))
    ];
  }

  -- all columns that the plan names are there
  is_there : (gs : List Group) (b : BatchSpec) → IsPartOf plan gs (length plan.keys) (length plan.aggs) b → (u : Reference) → IsOfGroup plan u → has_column b.columns u ≡ true
  is_there gs b part (GroupKey i) named = part.keys_there i named
  is_there gs b part (GroupAggregate i) named = part.aggregates_there i named
  is_there gs b part (FactColumn at) named = absurd named
  is_there gs b part (JoinColumn join at) named = absurd named

  all_there : (gs : List Group) (b : BatchSpec) → IsPartOf plan gs (length plan.keys) (length plan.aggs) b → (us : List Reference) → AllByRecursion (IsOfGroup plan) us → AllByRecursion (λ u. has_column b.columns u ≡ true) us
  all_there gs b part [] all = tt
  all_there gs b part (u ∷ us) all = (is_there gs b part u all.0, all_there gs b part us all.1)

  front : {X : Type 0} (P : X → Type 0) (xs ys : List X) → AllByRecursion P (xs ++ ys) → AllByRecursion P xs
  front P [] ys all = tt
  front P (x ∷ xs) ys all = (all.0, front P xs ys all.1)

  back : {X : Type 0} (P : X → Type 0) (xs ys : List X) → AllByRecursion P (xs ++ ys) → AllByRecursion P ys
  back P [] ys all = all
  back P (x ∷ xs) ys all = back P xs ys all.1

  module _ (gs : List Group) (b : BatchSpec) (part : IsPartOf plan gs (length plan.keys) (length plan.aggs) b) where
    fit : (e : Expr) → AllByRecursion (IsOfGroup plan) (columns_used e) → All (λ u. has_column b.columns u ≡ true) (columns_used e)
    fit e named = All-from_recursion (λ u. has_column b.columns u ≡ true) (columns_used e) (all_there gs b part (columns_used e) named)

    items_fit : (items : List Item) (rest : List Expr) → AllByRecursion (λ i. (kind : ColType) × (has_type (group_types plan) i.expr (Valued kind) ≡ true)) items
        → AllByRecursion (IsOfGroup plan) (columns_used_in_all (map (λ i. i.expr) items ++ rest)) → AllByRecursion (λ i. (kind : ColType) × Fits (group_types plan) b.columns i.expr (Valued kind)) items
    items_fit [] rest typed named = tt
    items_fit (i ∷ items) rest typed named = (
      (typed.0.0, record { typed = typed.0.1; present = fit i.expr (front (IsOfGroup plan) (columns_used i.expr) (columns_used_in_all (map (λ i. i.expr) items ++ rest)) named) }),
      items_fit items rest typed.1 (back (IsOfGroup plan) (columns_used i.expr) (columns_used_in_all (map (λ i. i.expr) items ++ rest)) named),
    )

    rest_named : (es rest : List Expr) → AllByRecursion (IsOfGroup plan) (columns_used_in_all (es ++ rest)) → AllByRecursion (IsOfGroup plan) (columns_used_in_all rest)
    rest_named [] rest named = named
    rest_named (e ∷ es) rest named = rest_named es rest (back (IsOfGroup plan) (columns_used e) (columns_used_in_all (es ++ rest)) named)

    conditions_fit : (es : List Expr) → AllByRecursion (λ e. has_type (group_types plan) e Boolean ≡ true) es → AllByRecursion (IsOfGroup plan) (columns_used_in_all es)
        → AllByRecursion (λ e. Fits (group_types plan) b.columns e Boolean) es
    conditions_fit [] typed named = tt
    conditions_fit (e ∷ es) typed named =
        (record { typed = typed.0; present = fit e (front (IsOfGroup plan) (columns_used e) (columns_used_in_all es) named) }, conditions_fit es typed.1 (back (IsOfGroup plan) (columns_used e) (columns_used_in_all es) named))

    pub whole_batch : AreGroupsOf plan gs → IsBatchOf plan (map (row_in plan) gs) b
    whole_batch groups =
        let typed = groups.typed in
        let exprs : List Expr = map (λ i. i.expr) plan.items in
        let having : List Expr = option_to_list plan.having in
        let named = recursion_from_All (IsOfGroup plan) (columns_used_in_all (exprs ++ having)) typed.named in
        record {
          typed = part.typed;
          items = All-from_recursion (λ i. (kind : ColType) × Fits (group_types plan) b.columns i.expr (Valued kind)) plan.items
              (items_fit plan.items having (recursion_from_All (λ i. (kind : ColType) × (has_type (group_types plan) i.expr (Valued kind) ≡ true)) plan.items typed.items) named);
          having = All-from_recursion (λ e. Fits (group_types plan) b.columns e Boolean) having
              (conditions_fit having (recursion_from_All (λ e. has_type (group_types plan) e Boolean ≡ true) having typed.having) (rest_named exprs having named));
        }

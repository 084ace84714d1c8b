-- A plan over the columns of a batch.
use Rattle.std.proofs.Common.{◌≡◌, ℕ, zero, suc, ◌<◌, true, List, [], ◌∷◌, ◌++◌, get_or, map, length, Option, Some, None, refl, ap, ◌∙◌, arith}
use Rattle.std.specs.Prelude.{Bool, false, not, if◌then◌else◌, slice_get, slice_index_or, All}
use Rattle.std.specs.List.{AllByRecursion, AllZip, list_any}
use Rattle.std.proofs.lemmas.Bool.{eq-eqb}
use Rattle.std.proofs.lemmas.List.Elements.{All-from_recursion, recursion_from_All}
use Rattle.meaning.specs.declared.catalog.Column.{Column}
use Rattle.meaning.specs.declared.expr.Expr.{Expr}
use Rattle.meaning.specs.declared.plan.Aggregate.{Aggregate}
use Rattle.meaning.specs.declared.plan.GroupingKey.{GroupingKey}
use Rattle.meaning.specs.declared.plan.Plan.{Plan}
use Rattle.meaning.specs.declared.value.ColType.{ColType}
use Rattle.meaning.specs.Joined.{joined_row}
use Rattle.meaning.specs.Order.{Row}
use Rattle.meaning.specs.References.{Reference, columns_of_plan, columns_used, columns_used_in_all}
use Rattle.meaning.specs.TableLaws.{IsTypedAggregate}
use Rattle.meaning.specs.Typing.{Boolean, RowTypes, Valued, has_type}
use Rattle.meaning.specs.SoundPlan.{HasTypesOf, IsListed, IsSoundPlan}
use Rattle.meaning.proofs.Tests.{or_second}
use Rattle.block_predicates.specs.declared.marks.EntryMarks.{EntryMarks}
use Rattle.fragment_file.specs.Fragment.{AreBlocks}
use Rattle.fragment_file.specs.Rows.{RowGroup}
use Rattle.fragment_file.proofs.TypedRows.{all_behind, all_front}
use Rattle.vectors.specs.declared.batch.BatchColumn.{BatchColumn}
use Rattle.vectors.specs.declared.batch.ColumnReference.{ColumnReference}
use Rattle.vectors.specs.declared.batch.ColumnReference.TheVariants as reference
use Rattle.vectors.specs.Vector.{same_reference}
use Rattle.primitives.specs.Fitting.{Fits, has_column}
use Rattle.primitives.specs.Meant.{row_at}
use Rattle.scan_select.specs.OnBlocks.{AllFitEither, AreMarkedOn, FitsEither, IsMarkedIf}
use Rattle.scan_select.specs.Scanned.{AreColumnsAt, unpacked}
use Rattle.scan_select.proofs.TypedBatches.{block_type}
use Rattle.worker.specs.Evaluated.{FitsColumns}
use Rattle.worker.specs.Packed.{IsReadWithout, IsUnpacked, ReadsUnpacked, ReadsWhere}

-- ---- the columns of a batch

same_column : (p : ℕ) → same_reference (reference.Fact p) (reference.Fact p) ≡ true
same_column p = eq-eqb p p refl

pub listed_there : (group : RowGroup) (first rows : ℕ) (ps : List ℕ) (cs : List BatchColumn) (at k : ℕ) → AreColumnsAt group first rows ps cs → k < length ps → get_or ps k at ≡ at
    → list_any (λ column. same_reference column.reference (reference.Fact at)) cs ≡ true
listed_there group first rows [] cs at k are lt is = absurd (omega (arith, lt))
listed_there group first rows (p ∷ ps) [] at k are lt is = absurd are
listed_there group first rows (p ∷ ps) (c ∷ cs) at zero are lt is =
    let here : same_reference c.reference (reference.Fact at) ≡ true = ap (λ (q : ColumnReference). same_reference q (reference.Fact at)) are.0.reference ∙ ap (λ (n : ℕ). same_reference (reference.Fact n) (reference.Fact at)) is ∙ same_column at in
    rw here refl
listed_there group first rows (p ∷ ps) (c ∷ cs) at (suc k) are lt is =
    or_second (same_reference c.reference (reference.Fact at)) (list_any (λ column. same_reference column.reference (reference.Fact at)) cs) (listed_there group first rows ps cs at k are.1 (omega (arith, lt)) is)

many_blocks : (columns : List Column) (n : ℕ) (blocks : RowGroup) → AreBlocks columns n blocks → length blocks ≡ length columns
many_blocks [] n [] are = refl
many_blocks [] n (b ∷ bs) are = absurd are
many_blocks (c ∷ cs) n [] are = absurd are
many_blocks (c ∷ cs) n (b ∷ bs) are = ap suc (many_blocks cs n bs are.1)

imply : {X : Type 0} (P Q R : X → Type 0) → ((x : X) → P x → Q x → R x) → (xs : List X) → AllByRecursion P xs → AllByRecursion Q xs → AllByRecursion R xs
imply P Q R to [] all also = tt
imply P Q R to (x ∷ xs) all also = (to x all.0 also.0, imply P Q R to xs all.1 also.1)

-- a column that doesn't stay packed is among those that are left
left_at : (packed : List Bool) (ps : List ℕ) (at k : ℕ) → k < length ps → get_or ps k at ≡ at → slice_index_or packed at false ≡ false → (n : ℕ) × (n < length (unpacked packed ps)) × (get_or (unpacked packed ps) n at ≡ at)
left_at packed [] at k lt is free = absurd (omega (arith, lt))
left_at packed (p ∷ ps) at zero lt is free =
    let here : slice_index_or packed p false ≡ false = ap (λ (n : ℕ). slice_index_or packed n false) is ∙ free in
    rw here (0, omega arith, is)
left_at packed (p ∷ ps) at (suc k) lt is free =
    let rest = left_at packed ps at k (omega (arith, lt)) is free in
    let below = rest.1 in
    elim (slice_index_or packed p false) as (λ b. (n : ℕ) × (n < length (if not b then p ∷ unpacked packed ps else unpacked packed ps)) × (get_or (if not b then p ∷ unpacked packed ps else unpacked packed ps) n at ≡ at)) [
      | true ↦ rest
      | false ↦ (suc rest.0, omega (arith, below), rest.2)
    ]

pub held_there : (group : RowGroup) (first rows : ℕ) (packed : List Bool) (ps : List ℕ) (cs : List BatchColumn) (at k : ℕ) → AreColumnsAt group first rows (unpacked packed ps) cs → k < length ps → get_or ps k at ≡ at
    → slice_index_or packed at false ≡ false → list_any (λ column. same_reference column.reference (reference.Fact at)) cs ≡ true
held_there group first rows packed ps cs at k are lt is free =
    let (n, below, there) = left_at packed ps at k lt is free in
    listed_there group first rows (unpacked packed ps) cs at n are below there

module _ (plan : Plan) (cs : List BatchColumn) (packed : List Bool) (there : (u : Reference) → IsListed plan u → IsUnpacked packed u → has_column cs u ≡ true) where
  abbrev present : Expr → Type 0
  present e = All (λ u. has_column cs u ≡ true) (columns_used e)

  present_from : (e : Expr) → AllByRecursion (IsListed plan) (columns_used e) → ReadsUnpacked packed e → present e
  present_from e all reads =
      All-from_recursion (λ u. has_column cs u ≡ true) (columns_used e)
      (imply (IsListed plan) (IsUnpacked packed) (λ u. has_column cs u ≡ true) there (columns_used e) all (recursion_from_All (IsUnpacked packed) (columns_used e) reads))

  module _ {X : Type 0} (expr : X → Expr) (type : X → Type 0) (fits : X → Type 0) (makes : (x : X) → type x → present (expr x) → fits x) where
    each_fits : (xs : List X) → AllByRecursion type xs → AllByRecursion (IsListed plan) (columns_used_in_all (map expr xs)) → AllByRecursion (λ x. ReadsUnpacked packed (expr x)) xs → AllByRecursion fits xs
    each_fits [] typed listed reads = tt
    each_fits (x ∷ xs) typed listed reads = (
      makes x typed.0 (present_from (expr x) (all_front (IsListed plan) (columns_used (expr x)) (columns_used_in_all (map expr xs)) listed) reads.0),
      each_fits xs typed.1 (all_behind (IsListed plan) (columns_used (expr x)) (columns_used_in_all (map expr xs)) listed) reads.1,
    )

  -- a condition that has marks fits the block that these are of
  module _ (types : RowTypes) (columns : List Column) (n : ℕ) (blocks : RowGroup) (of_columns : types.fact ≡ map (λ c. c.col_type) columns) (are : AreBlocks columns n blocks) where
    fits_either : (e : Expr) (m : Option EntryMarks) → IsMarkedIf blocks e m → has_type types e Boolean ≡ true → AllByRecursion (IsListed plan) (columns_used e) → ReadsWhere packed e m → FitsEither types cs blocks e m
    fits_either e None marked typed listed reads = record { typed = typed; present = present_from e listed reads }
    fits_either e (Some m) marked typed listed reads = record {
      condition = typed;
      column_is =
          ap (λ (ts : List ColType). slice_get ts m.column) of_columns
          ∙ block_type columns n blocks m.column are (let lt = marked.within in let many = many_blocks columns n blocks are in omega (arith, lt, many));
    }

    all_fit_either : (es : List Expr) (ms : List (Option EntryMarks)) → AreMarkedOn blocks es ms → AllByRecursion (λ c. has_type types c Boolean ≡ true) es → AllByRecursion (IsListed plan) (columns_used_in_all es)
        → AllZip (ReadsWhere packed) es ms → AllFitEither types cs blocks es ms
    all_fit_either [] [] marked typed listed reads = tt
    all_fit_either [] (m ∷ ms) marked typed listed reads = absurd marked
    all_fit_either (e ∷ es) [] marked typed listed reads = absurd marked
    all_fit_either (e ∷ es) (m ∷ ms) marked typed listed reads = (
      fits_either e m marked.0 typed.0 (all_front (IsListed plan) (columns_used e) (columns_used_in_all es) listed) reads.0,
      all_fit_either es ms marked.1 typed.1 (all_behind (IsListed plan) (columns_used e) (columns_used_in_all es) listed) reads.1,
    )

-- a plan over a batch of the columns that it reads of rows
pub fits_columns : (plan : Plan) (types : RowTypes) (cs : List BatchColumn) (packed : List Bool) → ((u : Reference) → IsListed plan u → IsUnpacked packed u → has_column cs u ≡ true) → IsSoundPlan plan → HasTypesOf plan types
    → (columns : List Column) (n : ℕ) (blocks : RowGroup) (marks : List (Option EntryMarks)) → types.fact ≡ map (λ c. c.col_type) columns → AreBlocks columns n blocks → AreMarkedOn blocks plan.conjuncts marks
    → IsReadWithout packed plan marks → FitsColumns types cs blocks marks plan
fits_columns plan types cs packed there well has columns n blocks marks of_columns are marked reads =
    let typed = well.typed types has in
    let listed = recursion_from_All (IsListed plan) (columns_of_plan plan) well.listed in
    let of_conditions = columns_used_in_all plan.conjuncts in
    let of_keys = columns_used_in_all (map (λ k. k.expr) plan.keys) in
    let of_arguments = columns_used_in_all (map (λ a. a.argument) plan.aggs) in
    let front = all_front (IsListed plan) of_conditions (of_keys ++ of_arguments) listed in
    let rest = all_behind (IsListed plan) of_conditions (of_keys ++ of_arguments) listed in
    record {
      conditions = all_fit_either plan cs packed there types columns n blocks of_columns are plan.conjuncts marks marked (recursion_from_All (λ c. has_type types c Boolean ≡ true) plan.conjuncts typed.conditions) front reads.conditions;
      keys = All-from_recursion (λ k. Fits types cs k.expr (Valued k.col_type)) plan.keys
          (each_fits plan cs packed there (λ (k : GroupingKey). k.expr) (λ k. has_type types k.expr (Valued k.col_type) ≡ true) (λ k. Fits types cs k.expr (Valued k.col_type)) (λ k t p. record { typed = t; present = p }) plan.keys
          (recursion_from_All (λ k. has_type types k.expr (Valued k.col_type) ≡ true) plan.keys typed.keys) (all_front (IsListed plan) of_keys of_arguments rest)
          (recursion_from_All (λ (k : GroupingKey). ReadsUnpacked packed k.expr) plan.keys reads.keys));
      arguments = All-from_recursion (λ a. Fits types cs a.argument (Valued a.col_type)) plan.aggs
          (each_fits plan cs packed there (λ (a : Aggregate). a.argument) (IsTypedAggregate types) (λ a. Fits types cs a.argument (Valued a.col_type)) (λ a t p. record { typed = t.typed; present = p }) plan.aggs
          (recursion_from_All (IsTypedAggregate types) plan.aggs typed.aggregates) (all_behind (IsListed plan) of_keys of_arguments rest)
          (recursion_from_All (λ (a : Aggregate). ReadsUnpacked packed a.argument) plan.aggs reads.arguments));
    }

-- ---- rows of the fact alone

pub row_there : (facts : List Row) (i : ℕ) → i < length facts → row_at (map (λ row. joined_row row []) facts) i ≡ joined_row (get_or facts i []) []
row_there [] i lt = absurd (omega (arith, lt))
row_there (f ∷ facts) zero lt = refl
row_there (f ∷ facts) (suc i) lt = row_there facts i (omega (arith, lt))

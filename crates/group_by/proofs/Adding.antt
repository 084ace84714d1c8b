-- Tables that take rows.
use Rattle.std.specs.Prelude.{◌≡◌, ℕ, ◌+◌, ◌<◌, ◌≤◌, Bool, List, [], ◌∷◌, length, map, get_or}
use Rattle.std.specs.List.{zip}
use Rattle.std.proofs.Common.{refl, sym, ap, subst, ◌∙◌, arith, inl, inr}
use Rattle.std.proofs.lemmas.Bool.{cases_lt}
use Rattle.std.proofs.lemmas.List.{length-map, get_or_past}
use Rattle.meaning.specs.declared.value.Value.{Value}
use Rattle.meaning.specs.declared.value.Value.TheVariants.{Null, Int, Text}
use Rattle.meaning.specs.declared.answer.Statistics.{Statistics}
use Rattle.meaning.specs.declared.plan.AggregateKind.{AggregateKind}
use Rattle.meaning.specs.Order.{Row, column}
use Rattle.meaning.specs.Aggregate.{no_statistics, kept_by, present, statistics}
use Rattle.vectors.specs.declared.vector.Vector.{Vector}
use Rattle.accumulators.specs.Columns.{ColumnSpec, no_column}
use Rattle.aggregate_states.specs.Entries.{state_of, of_group}
use Rattle.aggregate_states.specs.State.{most_entries}
use Rattle.aggregate_states.proofs.Growing.{kept_count}
use Rattle.group_by.specs.Shape.{shape_with}
use Rattle.group_by.specs.Groups.{with_rows}
use Rattle.group_keys.specs.Rows.{row_at, rows_at}
use Rattle.group_by.specs.Rows.{kept_rows}
use Rattle.group_by.specs.GroupIndexes.{state_at, state_in, table_of, IsWellFormed, AreAdded}
use Rattle.aggregate_states.proofs.Keeping.{keeps_merged, keeps_none, kept_twice}
use Rattle.group_by.proofs.Batches.{rows_added, same_kinds, kinds_of, zip-long, of_group-times}

present_few : (xs : List Value) → length (present xs) ≤ length xs
present_few [] = omega arith
present_few (Null ∷ xs) = let rest = present_few xs in omega (arith, rest)
present_few (Int n ∷ xs) = let rest = present_few xs in omega (arith, rest)
present_few (Text t ∷ xs) = let rest = present_few xs in omega (arith, rest)

-- no more entries than there are values
pub few_entries : (kind : AggregateKind) (xs : List Value) → (state_of kind xs).count ≤ length xs
few_entries kind xs =
    let kept = kept_count kind (statistics xs) in
    let few = present_few xs in
    omega (arith, kept, few)

pub kept_zip : (keys arguments : List Vector) (selection : List ℕ) → zip (rows_at keys selection) (rows_at arguments selection) ≡ kept_rows keys arguments selection
kept_zip keys arguments [] = refl
kept_zip keys arguments (at ∷ selection) = ap (λ (rest : List (Row × Row)). (row_at keys at, row_at arguments at) ∷ rest) (kept_zip keys arguments selection)

module _ (is_certain : Bool) (keys : List Row) (rows : List ℕ) (columns : List ColumnSpec) (taken n : ℕ) (found arguments : List Row) (new_keys : List Row) (new_rows : List ℕ) (new_columns : List ColumnSpec)
    (are : IsWellFormed is_certain keys rows columns taken) (added : AreAdded found arguments keys rows columns new_keys new_rows new_columns)
    (long_found : length found ≡ n) (long_arguments : length arguments ≡ n) where
  count_at : (c group_index : ℕ) → (state_at new_columns c group_index).count ≤ get_or new_rows group_index 0
  count_at c group_index =
      elim (cases_lt c (length columns)) [
        | inl in_columns ↦ (
            let updated = added.updated.1 c in_columns in
            elim (cases_lt group_index (length new_keys)) [
              | inl here ↦ (
                  let entries = of_group group_index (zip added.group_indexes (map (λ row. column row c) arguments)) in
                  let count : (state_at new_columns c group_index).count ≡ (state_at columns c group_index).count + (state_of (get_or columns c no_column).kind entries).count = ap (λ (s : Statistics). s.count) (updated.states group_index here) in
                  let few = few_entries (get_or columns c no_column).kind entries in
                  let longs : length added.group_indexes ≡ length (map (λ row. column row c) arguments) = added.located.long ∙ long_found ∙ sym (length-map arguments (λ (row : Row). column row c) ∙ long_arguments) in
                  let many = of_group-times group_index added.group_indexes (map (λ row. column row c) arguments) longs in
                  let rows_here = added.counted.counts group_index in
                  let before = are.within c group_index in
                  omega (arith, count, few, many, rows_here, before))
              | inr past ↦ (
                  let none : (state_at new_columns c group_index).count ≡ 0 = ap (λ (s : Statistics). s.count) (get_or_past (get_or new_columns c no_column).states group_index no_statistics (subst (λ (m : ℕ). m ≤ group_index) (sym updated.height) past)) in
                  omega (arith, none))
            ])
        | inr past ↦ (
            let none : (state_at new_columns c group_index).count ≡ 0 = ap (λ (col : ColumnSpec). (state_in col group_index).count) (get_or_past new_columns c no_column (subst (λ (m : ℕ). m ≤ c) (sym added.updated.0) past)) in
            omega (arith, none))
      ]

  kept_at : (c group_index : ℕ) → c < length new_columns → kept_by (get_or new_columns c no_column).kind (state_at new_columns c group_index) ≡ state_at new_columns c group_index
  kept_at c group_index l =
      let in_columns : c < length columns = subst (λ (m : ℕ). c < m) added.updated.0 l in
      let updated = added.updated.1 c in_columns in
      let kind = (get_or columns c no_column).kind in
      let entries = of_group group_index (zip added.group_indexes (map (λ row. column row c) arguments)) in
      ap (λ (k : AggregateKind). kept_by k (state_at new_columns c group_index)) updated.kind
      ∙ elim (cases_lt group_index (length new_keys)) [
        | inl here ↦ keeps_merged kind (state_at columns c group_index) (state_of kind entries) (state_at new_columns c group_index) (are.kept c group_index in_columns) (kept_twice kind (statistics entries)) (updated.states group_index here)
        | inr past ↦ keeps_none kind (state_at new_columns c group_index) (get_or_past (get_or new_columns c no_column).states group_index no_statistics (subst (λ (m : ℕ). m ≤ group_index) (sym updated.height) past))
      ]

  pub added_well_formed : taken + n ≤ most_entries → IsWellFormed is_certain new_keys new_rows new_columns (taken + n)
  added_well_formed few = record {
    certain = λ e. let was = are.certain e in let kept = added.located.kept 0 was.0 in (let k = kept.0 in omega (arith, k), kept.1 ∙ was.1);
    counted = added.counted.height;
    heights = λ c l. (added.updated.1 c (subst (λ (m : ℕ). c < m) added.updated.0 l)).height;
    total = let t = added.counted.total in let before = are.total in let long = added.located.long ∙ long_found in omega (arith, t, before, long);
    few = few;
    within = count_at;
    kept = kept_at;
  }

  pub table_added : (handed : ℕ) → table_of is_certain new_keys new_rows new_columns (taken + n) handed ≡ with_rows (table_of is_certain keys rows columns taken handed) (zip found arguments)
  table_added handed =
      let kinds = same_kinds (length new_keys) added.group_indexes arguments columns new_columns added.updated in
      let many : taken + n ≡ taken + length (zip found arguments) = ap (λ (m : ℕ). taken + m) (sym (zip-long (shape_with is_certain (kinds_of columns)) found arguments (long_arguments ∙ sym long_found) ∙ long_found)) in
      λ i. record {
        shape = shape_with is_certain (kinds i);
        groups = rows_added is_certain keys new_keys rows new_rows columns new_columns found arguments added.group_indexes are.counted are.heights (long_arguments ∙ sym long_found) added.located added.counted added.updated i;
        rows = many i;
        handed = handed;
      }

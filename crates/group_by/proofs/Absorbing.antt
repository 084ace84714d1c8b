-- Groups that go to the parts of a table one after the other.
use Rattle.std.specs.Prelude.{◌≡◌, ℕ, ◌+◌, ◌<◌, ◌≤◌, Bool, false, List, [], ◌∷◌, ◌++◌, length, take, get_or, sum, All}
use Rattle.std.proofs.Common.{sym, ap, subst, ◌∙◌, arith, length-append, inl, inr}
use Rattle.std.proofs.lemmas.Bool.{cases_lt}
use Rattle.std.proofs.lemmas.List.{length-map, get_or_past, take_more}
use Rattle.std.proofs.lemmas.List.Sums.{get_or-le-sum_by, sum_by_more_le}
use Rattle.meaning.specs.declared.plan.AggregateKind.{AggregateKind}
use Rattle.meaning.specs.declared.answer.Group.{Group}
use Rattle.meaning.specs.Order.{Row}
use Rattle.meaning.specs.Aggregate.{no_statistics}
use Rattle.accumulators.specs.Columns.{ColumnSpec, no_column}
use Rattle.aggregate_states.specs.State.{most_entries}
use Rattle.group_by.specs.Shape.{Shape, GroupsSpec, shape_with}
use Rattle.group_by.specs.Groups.{all_rows, with_groups}
use Rattle.group_by.specs.Rows.{IsGroupOf}
use Rattle.group_by.specs.GroupIndexes.{state_at, by_group_index, table_of, IsWellFormed, IsAbsorbed, AreAbsorbed}
use Rattle.group_by.proofs.Batches.{kinds_of}
use Rattle.group_by.proofs.Fresh.{no_groups, one_more}
use Rattle.group_by.proofs.Merging.{absorbed_well_formed, table_absorbed}

-- what fits a shape fits each of the same kinds
pub fits_as : (shape other : Shape) (g : Group) → shape.kinds ≡ other.kinds → IsGroupOf other g → IsGroupOf shape g
fits_as shape other g same fits =
    subst (λ (kinds : List AggregateKind). IsGroupOf (record { certain = shape.certain; kinds = kinds }) g) (sym same) (record { widths = fits.widths; kept = fits.kept; within = fits.within })

-- parts with a certain key are well-formed without it
pub none_certain : (is_certain : Bool) (keys : List Row) (rows : List ℕ) (columns : List ColumnSpec) (taken : ℕ) → IsWellFormed is_certain keys rows columns taken → IsWellFormed false keys rows columns taken
none_certain is_certain keys rows columns taken are = record {
  certain = λ e. cc;
  counted = are.counted;
  heights = are.heights;
  total = are.total;
  few = are.few;
  within = are.within;
  kept = are.kept;
}

-- what `add_group` asks of the parts and of the group
pub record MayTake (g : Group) (keys : List Row) (rows : List ℕ) (columns : List ColumnSpec) : Type 0 where
  pub widths : length g.states ≡ length columns
  pub counted : length rows ≡ length keys
  pub heights : (c : ℕ) → length (get_or columns c no_column).states ≤ length keys
  pub few : sum rows + g.rows ≤ most_entries
  pub states : (c group_index : ℕ) → c < length columns → (state_at columns c group_index).count + (get_or g.states c no_statistics).count ≤ most_entries

pub may_take : (is_certain : Bool) (keys : List Row) (rows : List ℕ) (columns : List ColumnSpec) (taken : ℕ) (g : Group) → IsWellFormed is_certain keys rows columns taken
    → IsGroupOf (shape_with is_certain (kinds_of columns)) g → taken + g.rows ≤ most_entries → MayTake g keys rows columns
may_take is_certain keys rows columns taken g are fits few =
    let total = are.total in
    let long : length g.states ≡ length columns = fits.widths ∙ length-map columns (λ (c : ColumnSpec). c.kind) in
    let within_sum : (j : ℕ) → get_or rows j 0 ≤ sum rows = λ j. elim (cases_lt j (length rows)) [
      | inl here ↦ get_or-le-sum_by (λ (n : ℕ). n) rows j 0 here
      | inr past ↦ (let none = get_or_past rows j 0 past in omega (arith, none))
    ] in
    record {
      widths = long;
      counted = are.counted;
      heights = λ c. elim (cases_lt c (length columns)) [
        | inl here ↦ (let h = are.heights c here in omega (arith, h))
        | inr past ↦ (let none : length (get_or columns c no_column).states ≡ 0 = ap (λ (col : ColumnSpec). length col.states) (get_or_past columns c no_column past) in omega (arith, none))
      ];
      few = omega (arith, total, few);
      states = λ c group_index here.
          let there = are.within c group_index in
          let one = within_sum group_index in
          let more = fits.within c no_statistics (subst (λ (n : ℕ). c < n) (sym long) here) in
          omega (arith, there, one, more, total, few);
    }

-- no group changes nothing
pub none_absorbed : (keys : List Row) (rows : List ℕ) (columns : List ColumnSpec) (taken : ℕ) → AreAbsorbed [] keys rows columns taken keys rows columns taken
none_absorbed keys rows columns taken = record {
  well_formed = λ is_certain are. are;
  table = λ is_certain are handed.
      let same : handed + 0 ≡ handed = omega arith in
      ap (λ (n : ℕ). table_of is_certain keys rows columns taken n) same ∙ sym (no_groups is_certain (kinds_of columns) (by_group_index keys rows columns) taken handed);
}

-- the k-th group after those before it
module _ (groups : List Group) (k : ℕ) (g : Group) (keys : List Row) (rows : List ℕ) (columns : List ColumnSpec) (taken : ℕ) (now_keys : List Row) (now_rows : List ℕ) (now_columns : List ColumnSpec) (now_taken : ℕ)
    (are : IsWellFormed false keys rows columns taken) (fit : All (IsGroupOf (shape_with false (kinds_of columns))) groups) (few : taken + all_rows groups ≤ most_entries)
    (here : k < length groups) (is : g ≡ get_or groups k g) (so_far : AreAbsorbed (take k groups) keys rows columns taken now_keys now_rows now_columns now_taken) where
  pub few_next : now_taken + g.rows ≤ most_entries
  few_next =
      let taken_now : now_taken ≡ taken + all_rows (take k groups) = ap (λ (t : GroupsSpec). t.rows) (so_far.table false are 0) in
      let rows_here : g.rows ≡ (get_or groups k g).rows = ap (λ (h : Group). h.rows) is in
      let part = sum_by_more_le (λ (h : Group). h.rows) groups k g here in
      omega (arith, taken_now, rows_here, part, few)

  fits_next : (is_certain : Bool) → IsWellFormed is_certain keys rows columns taken → IsGroupOf (shape_with is_certain (kinds_of now_columns)) g
  fits_next is_certain well_formed =
      let fits : IsGroupOf (shape_with false (kinds_of columns)) g = subst (λ (h : Group). IsGroupOf (shape_with false (kinds_of columns)) h) (sym is) (fit k g here) in
      let same : kinds_of now_columns ≡ kinds_of columns = ap (λ (t : GroupsSpec). t.shape.kinds) (so_far.table is_certain well_formed 0) in
      fits_as (shape_with is_certain (kinds_of now_columns)) (shape_with false (kinds_of columns)) g same fits

  pub takes_next : MayTake g now_keys now_rows now_columns
  takes_next = may_take false now_keys now_rows now_columns now_taken g (so_far.well_formed false are) (fits_next false are) few_next

  pub absorbed_next : (new_keys : List Row) (new_rows : List ℕ) (new_columns : List ColumnSpec) → IsAbsorbed g now_keys now_rows now_columns new_keys new_rows new_columns
      → AreAbsorbed (take (k + 1) groups) keys rows columns taken new_keys new_rows new_columns (now_taken + g.rows)
  absorbed_next new_keys new_rows new_columns absorbed =
      let gs = take k groups in
      let more : gs ++ g ∷ [] ≡ take (k + 1) groups = ap (λ (h : Group). gs ++ h ∷ []) is ∙ sym (take_more groups k g here) in
      subst (λ (hs : List Group). AreAbsorbed hs keys rows columns taken new_keys new_rows new_columns (now_taken + g.rows)) more (record {
        well_formed = λ is_certain well_formed.
            absorbed_well_formed is_certain now_keys now_rows now_columns now_taken g new_keys new_rows new_columns (so_far.well_formed is_certain well_formed) (fits_next is_certain well_formed) absorbed few_next;
        table = λ is_certain well_formed handed.
            let long = length-append gs (g ∷ []) in
            let many : handed + length (gs ++ g ∷ []) ≡ handed + length gs + 1 = omega (arith, long) in
            ap (λ (n : ℕ). table_of is_certain new_keys new_rows new_columns (now_taken + g.rows) n) many
            ∙ table_absorbed is_certain now_keys now_rows now_columns now_taken g new_keys new_rows new_columns (so_far.well_formed is_certain well_formed) (fits_next is_certain well_formed) absorbed (handed + length gs)
            ∙ ap (λ (t : GroupsSpec). with_groups t (g ∷ [])) (so_far.table is_certain well_formed handed)
            ∙ one_more is_certain (kinds_of columns) (by_group_index keys rows columns) taken handed gs g;
      })

-- The groups that a table hands out fit to be merged into another table of its shape.
use Rattle.std.specs.Prelude.{◌≡◌, ℕ, zero, suc, ◌<◌, Bool, true, false, cond, List, [], ◌∷◌, length, map, reverse, get_or, All, IsPermutation}
use Rattle.std.specs.List.{zip}
use Rattle.std.specs.Ordering.{eq_by_cmp}
use Rattle.std.proofs.Common.{sym, ap, subst, ◌∙◌, arith, refl}
use Rattle.std.proofs.lemmas.List.{length-map, get_or-map, get_or_default}
use Rattle.std.proofs.lemmas.List.Sorted.{sum_by-IsPermutation, All-permutation, IsPermutation-reverse, IsPermutation-trans}
use Rattle.meaning.specs.declared.plan.AggregateKind.{AggregateKind}
use Rattle.meaning.specs.declared.answer.Statistics.{Statistics}
use Rattle.meaning.specs.declared.answer.Group.{Group}
use Rattle.meaning.specs.Order.{Row, row_cmp}
use Rattle.meaning.specs.Aggregate.{no_statistics, kept_by}
use Rattle.meaning.specs.Group.{merge_groups}
use Rattle.accumulators.specs.Columns.{ColumnSpec, no_column}
use Rattle.group_by.specs.Combined.{combined, put_before, IsFit, IsInOrder}
use Rattle.group_by.specs.Groups.{all_rows}
use Rattle.group_by.specs.GroupIndexes.{state_in, state_at, by_group_index, group_at, IsWellFormed}
use Rattle.group_by.specs.Rows.{IsGroupOf}
use Rattle.group_by.specs.Shape.{Shape, shape_with}
use Rattle.group_by.proofs.Batches.{kinds_of, zipped-at, by_group_index-length, by_group_index-at}
use Rattle.group_by.proofs.Combining.{combined_rows, merged_fit}
use Rattle.group_by.proofs.Handing.{group_fit, rows_of}
use Rattle.aggregate_states.proofs.Keeping.{keeps_merged}

-- a group with a state of each kind, in which nothing stands that its kind doesn't keep
record IsOwn (kinds : List AggregateKind) (g : Group) : Type 0 where
  pub fit : IsFit (length kinds) g
  pub kept : (c : ℕ) → c < length kinds → kept_by (get_or kinds c no_column.kind) (get_or g.states c no_statistics) ≡ get_or g.states c no_statistics

module _ (kinds : List AggregateKind) where
  merged_own : (g h : Group) → IsOwn kinds g → IsOwn kinds h → IsOwn kinds (merge_groups g h)
  merged_own g h own_g own_h = record {
    fit = merged_fit (length kinds) g h own_g.fit own_h.fit;
    kept = λ c l. keeps_merged (get_or kinds c no_column.kind) (get_or g.states c no_statistics) (get_or h.states c no_statistics) _ (own_g.kept c l) (own_h.kept c l)
        (zipped-at g.states h.states c no_statistics (subst (λ (n : ℕ). c < n) (sym own_g.fit.wide) l) (subst (λ (n : ℕ). c < n) (sym own_h.fit.wide) l));
  }

  abbrev AllOwn : List Group → Type 0
  AllOwn gs = (j : ℕ) (d : Group) → j < length gs → IsOwn kinds (get_or gs j d)

  own_cons : (g : Group) (hs : List Group) → IsOwn kinds g → AllOwn hs → AllOwn (g ∷ hs)
  own_cons g hs own all zero d l = own
  own_cons g hs own all (suc j) d l = all j d (omega (arith, l))

  put_own : (g : Group) (hs : List Group) → IsOwn kinds g → AllOwn hs → AllOwn (put_before g hs)
  put_own g [] own all = own_cons g [] own all
  put_own g (h ∷ hs) own all =
      elim (eq_by_cmp row_cmp g.key h.key) as (λ b. AllOwn (cond b (merge_groups g h ∷ hs) (g ∷ h ∷ hs))) [
        | true ↦ own_cons (merge_groups g h) hs (merged_own g h own (all 0 h (omega arith))) (λ j d l. all (suc j) d (omega (arith, l)))
        | false ↦ own_cons g (h ∷ hs) own all
      ]

  combined_own : (gs : List Group) → AllOwn gs → AllOwn (combined gs)
  combined_own [] all = all
  combined_own (g ∷ gs) all = put_own g (combined gs) (all 0 g (omega arith)) (combined_own gs (λ j d l. all (suc j) d (omega (arith, l))))

kept_each : (kinds : List AggregateKind) (ss : List Statistics) → length ss ≡ length kinds
    → ((c : ℕ) → c < length kinds → kept_by (get_or kinds c no_column.kind) (get_or ss c no_statistics) ≡ get_or ss c no_statistics) → map (λ (p : AggregateKind × Statistics). kept_by p.0 p.1) (zip kinds ss) ≡ ss
kept_each [] [] e all = refl
kept_each [] (s ∷ ss) e all = absurd (omega (arith, e))
kept_each (k ∷ kinds) [] e all = absurd (omega (arith, e))
kept_each (k ∷ kinds) (s ∷ ss) e all = λ i. all 0 (omega arith) i ∷ kept_each kinds ss (omega (arith, e)) (λ c l. all (suc c) (omega (arith, l))) i

own_fits : (shape : Shape) (g : Group) → IsOwn shape.kinds g → IsGroupOf shape g
own_fits shape g own = record {
  widths = own.fit.wide;
  kept = kept_each shape.kinds g.states own.fit.wide own.kept;
  within = λ c d l. let few = own.fit.within c in let same = ap (λ (s : Statistics). s.count) (get_or_default g.states c d no_statistics l) in omega (arith, few, same);
}

module _ (is_certain : Bool) (keys : List Row) (rows : List ℕ) (columns : List ColumnSpec) (taken : ℕ) (groups : List Group)
    (are : IsWellFormed is_certain keys rows columns taken) (order : IsInOrder keys rows columns groups) where
  whole : IsPermutation (by_group_index keys rows columns) order.sorted
  whole =
      let b = by_group_index keys rows columns in
      IsPermutation-trans b (reverse b) order.sorted (IsPermutation-reverse b) order.moved

  long_kinds : length (kinds_of columns) ≡ length columns
  long_kinds = length-map columns (λ (c : ColumnSpec). c.kind)

  group_own : (j : ℕ) (key : Row) → IsOwn (kinds_of columns) (group_at rows columns key j)
  group_own j key = record {
    fit = subst (λ (n : ℕ). IsFit n (group_at rows columns key j)) (sym long_kinds) (group_fit keys rows columns are.counted are.within j key);
    kept = λ c l.
        let in_columns : c < length columns = subst (λ (n : ℕ). c < n) long_kinds l in
        let read : get_or (map (λ (col : ColumnSpec). state_in col j) columns) c no_statistics ≡ state_at columns c j = get_or-map (λ (col : ColumnSpec). state_in col j) columns c no_column no_statistics in_columns in
        (λ i. kept_by (get_or-map (λ (col : ColumnSpec). col.kind) columns c no_column no_column.kind in_columns i) (read i))
        ∙ are.kept c j in_columns ∙ sym read;
  }

  -- each group fits
  pub own_groups : All (IsGroupOf (shape_with is_certain (kinds_of columns))) groups
  own_groups j d l =
      let shape = shape_with is_certain (kinds_of columns) in
      let b = by_group_index keys rows columns in
      let all = All-permutation (IsOwn (kinds_of columns)) b order.sorted whole
      (λ j d l. let here : j < length keys = subst (λ (n : ℕ). j < n) (by_group_index-length keys rows columns) l in subst (λ (g : Group). IsOwn (kinds_of columns) g) (sym (by_group_index-at keys rows columns j d here)) (group_own j (get_or keys j []))) in
      own_fits shape (get_or groups j d)
      (subst (λ (gs : List Group). IsOwn (kinds_of columns) (get_or gs j d)) (sym order.are)
      (combined_own (kinds_of columns) order.sorted all j d (subst (λ (gs : List Group). j < length gs) order.are l)))

  -- and each row is in one of them
  pub own_rows : all_rows groups ≡ taken
  own_rows =
      ap all_rows order.are
      ∙ combined_rows order.sorted
      ∙ sum_by-IsPermutation (λ (g : Group). g.rows) (by_group_index keys rows columns) order.sorted whole
      ∙ rows_of keys rows columns are.counted are.within
      ∙ are.total

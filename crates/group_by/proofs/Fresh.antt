-- The table of no row, and tables that take groups one after the other.
use Rattle.std.specs.Prelude.{◌≡◌, ℕ, suc, ◌+◌, ◌*◌, ◌<◌, Bool, true, false, List, [], ◌∷◌, ◌++◌, length, get_or, sum, replicate}
use Rattle.std.proofs.Common.{refl, sym, ap, subst, ◌∙◌, arith, append_assoc, append-nil, length-append}
use Rattle.std.proofs.lemmas.List.{length-replicate}
use Rattle.std.proofs.lemmas.List.Sums.{sum_by_push}
use Rattle.std.proofs.lemmas.List.Folds.{sum_by-replicate}
use Rattle.meaning.specs.declared.plan.AggregateKind.{AggregateKind}
use Rattle.meaning.specs.declared.answer.Group.{Group}
use Rattle.meaning.specs.declared.answer.Statistics.{Statistics}
use Rattle.meaning.specs.Order.{Row}
use Rattle.meaning.specs.Aggregate.{no_statistics}
use Rattle.accumulators.specs.Columns.{ColumnSpec, no_column}
use Rattle.group_index.specs.Keys.{empty_key}
use Rattle.group_by.specs.Shape.{Shape, GroupsSpec, shape_with}
use Rattle.group_by.specs.Groups.{all_rows, fresh, group_of_rows, together, with_groups}
use Rattle.group_by.specs.GroupIndexes.{state_at, by_group_index, table_of, IsWellFormed, AreFresh}
use Rattle.aggregate_states.proofs.Keeping.{keeps_none}
use Rattle.group_by.proofs.Growing.{grows_with}
use Rattle.group_by.proofs.Together.{merge_none, states-length, states_from}
use Rattle.group_by.proofs.Batches.{kinds_of, states_in}
use Rattle.aggregate_states.proofs.Growing.{state_of-none}

none_states : (m : ℕ) (columns : List ColumnSpec) → ((c : ℕ) → state_at columns c 0 ≡ no_statistics) → states_in columns 0 ≡ states_from m (kinds_of columns) []
none_states m [] none = refl
none_states m (c ∷ columns) none = λ i. (none 0 ∙ sym (state_of-none c.kind)) i ∷ none_states (m + 1) columns (λ k. none (suc k)) i

-- the certain key's group of no row is the table of no row
only_certain : (kinds : List AggregateKind) → together (shape_with true kinds) (group_of_rows (shape_with true kinds) [] [] ∷ []) ≡ together (shape_with true kinds) []
only_certain kinds =
    let shape = shape_with true kinds in
    ap (λ (g : Group). g ∷ []) (merge_none shape (group_of_rows shape [] []) (states-length 0 kinds []))

fresh_groups : (is_certain : Bool) (columns : List ColumnSpec) → ((c : ℕ) → state_at columns c 0 ≡ no_statistics)
    → together (shape_with is_certain (kinds_of columns)) (by_group_index (empty_key is_certain) (replicate (length (empty_key is_certain)) 0) columns) ≡ together (shape_with is_certain (kinds_of columns)) []
fresh_groups true columns none =
    (λ i. together (shape_with true (kinds_of columns)) (record { key = []; rows = 0; states = none_states 0 columns none i } ∷ []))
    ∙ only_certain (kinds_of columns)
fresh_groups false columns none = refl

certain_first : (is_certain : Bool) → is_certain ≡ true → (0 < length (empty_key is_certain)) × (get_or (empty_key is_certain) 0 [] ≡ [])
certain_first true e = (omega arith, refl)
certain_first false e = cc

module _ (is_certain : Bool) (keys : List Row) (rows : List ℕ) (columns : List ColumnSpec) (kinds : List AggregateKind)
    (certain : keys ≡ empty_key is_certain) (none : rows ≡ replicate (length keys) 0) (are : AreFresh (length keys) kinds columns) where
  zeros : rows ≡ replicate (length (empty_key is_certain)) 0
  zeros = none ∙ ap (λ (ks : List Row). replicate (length ks) 0) certain

  pub fresh_table : table_of is_certain keys rows columns 0 0 ≡ fresh (shape_with is_certain kinds)
  fresh_table =
      (λ i. table_of is_certain (certain i) (zeros i) columns 0 0)
      ∙ (λ i. record { shape = shape_with is_certain (kinds_of columns); groups = fresh_groups is_certain columns (λ c. are.none c 0) i; rows = 0; handed = 0 })
      ∙ ap (λ (ks : List AggregateKind). fresh (shape_with is_certain ks)) are.kinds

  pub fresh_well_formed : IsWellFormed is_certain keys rows columns 0
  fresh_well_formed = record {
    certain = λ e. subst (λ (ks : List Row). (0 < length ks) × (get_or ks 0 [] ≡ [])) (sym certain) (certain_first is_certain e);
    counted = ap (λ (ns : List ℕ). length ns) none ∙ length-replicate (length keys) 0;
    heights = are.heights;
    total = let zero : sum rows ≡ length keys * 0 = ap sum none ∙ sum_by-replicate (λ (n : ℕ). n) (length keys) 0 in omega (arith, zero);
    few = omega arith;
    within = λ c group_index. let zero : (state_at columns c group_index).count ≡ 0 = ap (λ (s : Statistics). s.count) (are.none c group_index) in omega (arith, zero);
    kept = λ c group_index l. keeps_none (get_or columns c no_column).kind (state_at columns c group_index) (are.none c group_index);
  }

-- ---- groups one after the other

module _ (is_certain : Bool) (kinds : List AggregateKind) (gs : List Group) (rows handed : ℕ) where
  abbrev shape : Shape
  shape = shape_with is_certain kinds

  abbrev table : GroupsSpec
  table = record { shape = shape; groups = together shape gs; rows = rows; handed = handed }

  pub no_groups : with_groups table [] ≡ table
  no_groups =
      let grows = grows_with is_certain kinds in
      let same_rows : rows + 0 ≡ rows = omega arith in
      let same_handed : handed + 0 ≡ handed = omega arith in
      λ i. record { shape = shape; groups = (grows.again gs [] ∙ ap (together shape) (append-nil gs)) i; rows = same_rows i; handed = same_handed i }

  pub one_more : (xs : List Group) (g : Group) → with_groups (with_groups table xs) (g ∷ []) ≡ with_groups table (xs ++ g ∷ [])
  one_more xs g =
      let grows = grows_with is_certain kinds in
      let one : all_rows (xs ++ g ∷ []) ≡ all_rows xs + g.rows = sum_by_push (λ (h : Group). h.rows) xs g in
      let single : all_rows (g ∷ []) ≡ g.rows = omega arith in
      let same_rows : rows + all_rows xs + all_rows (g ∷ []) ≡ rows + all_rows (xs ++ g ∷ []) = omega (arith, one, single) in
      let long = length-append xs (g ∷ []) in
      let same_handed : handed + length xs + 1 ≡ handed + length (xs ++ g ∷ []) = omega (arith, long) in
      λ i. record {
        shape = shape;
        groups = (grows.again (together shape gs ++ xs) (g ∷ []) ∙ ap (together shape) (append_assoc (together shape gs) xs (g ∷ []))) i;
        rows = same_rows i;
        handed = same_handed i;
      }

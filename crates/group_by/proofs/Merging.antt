-- Groups that go to the groups at their group indexes.
use Rattle.std.specs.Prelude.{◌≡◌, ℕ, zero, suc, ◌+◌, ◌<◌, ◌≤◌, Bool, List, [], ◌∷◌, ◌++◌, length, map, drop, take, get_or, slice_set}
use Rattle.std.specs.List.{zip}
use Rattle.std.proofs.Common.{refl, sym, ap, subst, ◌∙◌, arith, append_assoc, length-drop, length-set, get_or-set_same, get_or-set_other, inl, inr}
use Rattle.std.proofs.lemmas.Bool.{cases_lt, cases_eq}
use Rattle.std.proofs.lemmas.List.{length-map, get_or-map, get_or_past, get_or-drop, ext_get_or, take_more, length_push, get_or_append_left, get_or_push, map_push}
use Rattle.meaning.specs.declared.plan.AggregateKind.{AggregateKind}
use Rattle.meaning.specs.declared.plan.Aggregate.{Aggregate}
use Rattle.meaning.specs.declared.answer.Statistics.{Statistics}
use Rattle.meaning.specs.declared.answer.Group.{Group}
use Rattle.meaning.specs.Order.{Row}
use Rattle.meaning.specs.Aggregate.{no_statistics, kept_by, merge}
use Rattle.meaning.specs.Group.{merge_groups}
use Rattle.accumulators.specs.Columns.{ColumnSpec, merged_at, of_states, no_column}
use Rattle.aggregate_states.specs.State.{most_entries}
use Rattle.aggregate_states.proofs.Growing.{kept_count}
use Rattle.group_by.specs.Combined.{zipped}
use Rattle.group_by.specs.Shape.{Shape, shape_with}
use Rattle.group_by.specs.Groups.{all_rows, group_of_rows, together, with_groups}
use Rattle.group_by.specs.Rows.{IsGroupOf}
use Rattle.group_by.specs.GroupIndexes.{state_in, state_at, group_at, by_group_index, table_of, IsWellFormed, AreFresh, IsMerged, IsAbsorbed}
use Rattle.aggregate_states.proofs.Keeping.{keeps_merged, kept_twice}
use Rattle.group_by.proofs.Growing.{grows_with}
use Rattle.group_by.proofs.Together.{behind, merged_at_index, zipped-length, IsWide}
use Rattle.group_by.proofs.Batches.{kinds_of, states_in, zipped-at, by_group_index-length, by_group_index-at, keys_added, keys_behind, none_added}

-- ---- columns

pub merged_once : (n group_index : ℕ) (more : Statistics) (old filled new : ColumnSpec) → filled.kind ≡ old.kind → length filled.states ≡ n → ((j : ℕ) → state_in filled j ≡ state_in old j) → group_index < n
    → new ≡ of_states filled (merged_at filled.states group_index (kept_by filled.kind more)) → IsMerged n group_index more old new
merged_once n group_index more old filled new kind height states here is =
    let merged = merge (get_or filled.states group_index no_statistics) (kept_by filled.kind more) in
    record {
      kind = ap (λ (c : ColumnSpec). c.kind) is ∙ kind;
      height = ap (λ (c : ColumnSpec). length c.states) is ∙ length-set filled.states group_index merged ∙ height;
      here = ap (λ (c : ColumnSpec). state_in c group_index) is ∙ get_or-set_same filled.states group_index merged no_statistics (subst (λ (m : ℕ). group_index < m) (sym height) here)
          ∙ (λ i. merge (states group_index i) (kept_by (kind i) more));
      others = λ j ne. ap (λ (c : ColumnSpec). state_in c j) is ∙ get_or-set_other filled.states group_index j merged no_statistics ne ∙ states j;
    }

-- the columns up to one took their states, and the others stand
pub record AreDone (n group_index : ℕ) (states : List Statistics) (k : ℕ) (old now : List ColumnSpec) : Type 0 where
  pub long : length now ≡ length old
  pub done : (c : ℕ) → c < k → c < length old → IsMerged n group_index (get_or states c no_statistics) (get_or old c no_column) (get_or now c no_column)
  pub left : (c : ℕ) → k ≤ c → get_or now c no_column ≡ get_or old c no_column

pub done_more : (n group_index : ℕ) (states : List Statistics) (k : ℕ) (old now : List ColumnSpec) (one new : ColumnSpec) → k < length now
    → one ≡ get_or now k no_column → IsMerged n group_index (get_or states k no_statistics) one new
    → AreDone n group_index states k old now → AreDone n group_index states (k + 1) old (slice_set now k new)
done_more n group_index states k old now one new here is merged so_far = record {
  long = length-set now k new ∙ so_far.long;
  done = λ c l in_old. elim (cases_eq c k) [
    | inl at ↦ (
        let was : one ≡ get_or old k no_column = is ∙ so_far.left k (omega arith) in
        let read : get_or (slice_set now k new) k no_column ≡ new = get_or-set_same now k new no_column here in
        let at_k : IsMerged n group_index (get_or states k no_statistics) (get_or old k no_column) (get_or (slice_set now k new) k no_column) =
        subst (λ (a : ColumnSpec). IsMerged n group_index (get_or states k no_statistics) a (get_or (slice_set now k new) k no_column)) was
        (subst (λ (b : ColumnSpec). IsMerged n group_index (get_or states k no_statistics) one b) (sym read) merged) in
        subst (λ (m : ℕ). IsMerged n group_index (get_or states m no_statistics) (get_or old m no_column) (get_or (slice_set now k new) m no_column)) (sym at) at_k)
    | inr ne ↦ subst (λ (b : ColumnSpec). IsMerged n group_index (get_or states c no_statistics) (get_or old c no_column) b) (sym (get_or-set_other now k c new no_column ne))
        (so_far.done c (omega (arith, l, ne)) in_old)
  ];
  left = λ c past. let ne : c ≡ k → ⊥ = λ e. omega (arith, past, e) in get_or-set_other now k c new no_column ne ∙ so_far.left c (omega (arith, past));
}

-- ---- fresh columns

pub fresh_more : (n : ℕ) (aggregates : List Aggregate) (k : ℕ) (d : Aggregate) (now new : List ColumnSpec) (c : ColumnSpec) → k < length aggregates → c.kind ≡ (get_or aggregates k d).kind → length c.states ≡ n → ((group_index : ℕ) → state_in c group_index ≡ no_statistics)
    → new ≡ now ++ c ∷ [] → AreFresh n (map (λ (a : Aggregate). a.kind) (take k aggregates)) now → AreFresh n (map (λ (a : Aggregate). a.kind) (take (k + 1) aggregates)) new
fresh_more n aggregates k d now new c here kind height none is so_far =
    let long : length new ≡ length now + 1 = ap (λ (cs : List ColumnSpec). length cs) is ∙ length_push now c in
    let old : (i : ℕ) → i < length now → get_or new i no_column ≡ get_or now i no_column = λ i l. ap (λ (cs : List ColumnSpec). get_or cs i no_column) is ∙ get_or_append_left now (c ∷ []) no_column i l in
    let last : get_or new (length now) no_column ≡ c = ap (λ (cs : List ColumnSpec). get_or cs (length now) no_column) is ∙ get_or_push now c no_column (length now) refl in
    record {
      kinds = ap (λ (cs : List ColumnSpec). map (λ (col : ColumnSpec). col.kind) cs) is ∙ map_push (λ (col : ColumnSpec). col.kind) now c
          ∙ (λ i. so_far.kinds i ++ kind i ∷ [])
          ∙ sym (ap (map (λ (a : Aggregate). a.kind)) (take_more aggregates k d here) ∙ map_push (λ (a : Aggregate). a.kind) (take k aggregates) (get_or aggregates k d));
      heights = λ i l. elim (cases_lt i (length now)) [
        | inl was ↦ ap (λ (col : ColumnSpec). length col.states) (old i was) ∙ so_far.heights i was
        | inr past ↦ (let e : i ≡ length now = omega (arith, l, past, long) in ap (λ (m : ℕ). length (get_or new m no_column).states) e ∙ ap (λ (col : ColumnSpec). length col.states) last ∙ height)
      ];
      none = λ i group_index. elim (cases_lt i (length new)) [
        | inl l ↦ (elim (cases_lt i (length now)) [
          | inl was ↦ ap (λ (col : ColumnSpec). state_in col group_index) (old i was) ∙ so_far.none i group_index
          | inr past ↦ (let e : i ≡ length now = omega (arith, l, past, long) in ap (λ (m : ℕ). state_in (get_or new m no_column) group_index) e ∙ ap (λ (col : ColumnSpec). state_in col group_index) last ∙ none group_index)
        ])
        | inr beyond ↦ ap (λ (col : ColumnSpec). state_in col group_index) (get_or_past new i no_column beyond)
      ];
    }

-- ---- a group

kept-at : (kinds : List AggregateKind) (ss : List Statistics) (c : ℕ) (k : AggregateKind) (d : Statistics) → length ss ≡ length kinds → c < length kinds
    → map (λ (p : AggregateKind × Statistics). kept_by p.0 p.1) (zip kinds ss) ≡ ss → kept_by (get_or kinds c k) (get_or ss c d) ≡ get_or ss c d
kept-at [] ss c k d e l same = absurd (omega (arith, l))
kept-at (kind ∷ kinds) [] c k d e l same = absurd (omega (arith, e))
kept-at (kind ∷ kinds) (s ∷ ss) zero k d e l same = ap (λ (xs : List Statistics). get_or xs 0 d) same
kept-at (kind ∷ kinds) (s ∷ ss) (suc c) k d e l same = kept-at kinds ss c k d (omega (arith, e)) (omega (arith, l)) (ap (λ (xs : List Statistics). drop 1 xs) same)

module _ (is_certain : Bool) (keys : List Row) (rows : List ℕ) (columns : List ColumnSpec) (taken : ℕ) (g : Group) (new_keys : List Row) (new_rows : List ℕ) (new_columns : List ColumnSpec)
    (are : IsWellFormed is_certain keys rows columns taken) (fits : IsGroupOf (shape_with is_certain (kinds_of columns)) g)
    (absorbed : IsAbsorbed g keys rows columns new_keys new_rows new_columns) where
  abbrev shape : Shape
  shape = shape_with is_certain (kinds_of columns)

  long_kinds : length (kinds_of columns) ≡ length columns
  long_kinds = length-map columns (λ (c : ColumnSpec). c.kind)

  long_states : length g.states ≡ length columns
  long_states = fits.widths ∙ long_kinds

  kept_state : (c : ℕ) → c < length columns → kept_by (get_or columns c no_column).kind (get_or g.states c no_statistics) ≡ get_or g.states c no_statistics
  kept_state c l =
      ap (λ (k : AggregateKind). kept_by k (get_or g.states c no_statistics)) (sym (get_or-map (λ (col : ColumnSpec). col.kind) columns c no_column no_column.kind l))
      ∙ kept-at (kinds_of columns) g.states c no_column.kind no_statistics fits.widths (subst (λ (n : ℕ). c < n) (sym long_kinds) l) fits.kept

  same_kinds : kinds_of new_columns ≡ kinds_of columns
  same_kinds =
      let long_new : length (kinds_of new_columns) ≡ length columns = length-map new_columns (λ (c : ColumnSpec). c.kind) ∙ absorbed.merged.0 in
      ext_get_or no_column.kind (kinds_of new_columns) (kinds_of columns) (long_new ∙ sym long_kinds)
      (λ c l.
      let in_old : c < length columns = subst (λ (n : ℕ). c < n) long_new l in
      get_or-map (λ (col : ColumnSpec). col.kind) new_columns c no_column no_column.kind (subst (λ (n : ℕ). c < n) (sym absorbed.merged.0) in_old)
      ∙ (absorbed.merged.1 c in_old).kind
      ∙ sym (get_or-map (λ (col : ColumnSpec). col.kind) columns c no_column no_column.kind in_old))

  long_at : (cs : List ColumnSpec) (j : ℕ) → length (states_in cs j) ≡ length cs
  long_at cs j = length-map cs (λ (c : ColumnSpec). state_in c j)

  states_here : states_in new_columns absorbed.group_index ≡ zipped (states_in columns absorbed.group_index) g.states
  states_here =
      let p = absorbed.group_index in
      let long_new : length (states_in new_columns p) ≡ length columns = long_at new_columns p ∙ absorbed.merged.0 in
      ext_get_or no_statistics (states_in new_columns p) (zipped (states_in columns p) g.states) (long_new ∙ sym (zipped-length (states_in columns p) g.states (length columns) (long_at columns p) long_states))
      (λ c l.
      let in_old : c < length columns = subst (λ (n : ℕ). c < n) long_new l in
      get_or-map (λ (col : ColumnSpec). state_in col p) new_columns c no_column no_statistics (subst (λ (n : ℕ). c < n) (sym absorbed.merged.0) in_old)
      ∙ (absorbed.merged.1 c in_old).here
      ∙ (λ i. merge (sym (get_or-map (λ (col : ColumnSpec). state_in col p) columns c no_column no_statistics in_old) i) (kept_state c in_old i))
      ∙ sym (zipped-at (states_in columns p) g.states c no_statistics (subst (λ (n : ℕ). c < n) (sym (long_at columns p)) in_old) (subst (λ (n : ℕ). c < n) (sym long_states) in_old)))

  states_others : (j : ℕ) → (j ≡ absorbed.group_index → ⊥) → states_in new_columns j ≡ states_in columns j
  states_others j ne =
      let long_new : length (states_in new_columns j) ≡ length columns = long_at new_columns j ∙ absorbed.merged.0 in
      ext_get_or no_statistics (states_in new_columns j) (states_in columns j) (long_new ∙ sym (long_at columns j))
      (λ c l.
      let in_old : c < length columns = subst (λ (n : ℕ). c < n) long_new l in
      get_or-map (λ (col : ColumnSpec). state_in col j) new_columns c no_column no_statistics (subst (λ (n : ℕ). c < n) (sym absorbed.merged.0) in_old)
      ∙ (absorbed.merged.1 c in_old).others j ne
      ∙ sym (get_or-map (λ (col : ColumnSpec). state_in col j) columns c no_column no_statistics in_old))

  abbrev old_groups : List Group
  old_groups = by_group_index new_keys rows columns

  abbrev none_group : Group
  none_group = group_of_rows shape [] []

  group_merged : by_group_index new_keys new_rows new_columns ≡ slice_set old_groups absorbed.group_index (merge_groups (get_or old_groups absorbed.group_index none_group) g)
  group_merged =
      let p = absorbed.group_index in
      let d = none_group in
      let merged = merge_groups (get_or old_groups p d) g in
      let long_old = by_group_index-length new_keys rows columns in
      let at_p = by_group_index-at new_keys rows columns p d absorbed.located.within in
      ext_get_or d (by_group_index new_keys new_rows new_columns) (slice_set old_groups p merged) (by_group_index-length new_keys new_rows new_columns ∙ sym (length-set old_groups p merged ∙ long_old))
      (λ j l.
      let here : j < length new_keys = subst (λ (n : ℕ). j < n) (by_group_index-length new_keys new_rows new_columns) l in
      by_group_index-at new_keys new_rows new_columns j d here
      ∙ elim (cases_eq j p) [
        | inl at ↦ ap (λ (i : ℕ). group_at new_rows new_columns (get_or new_keys i []) i) at
            ∙ (λ i. record { key = absorbed.located.is i; rows = absorbed.counted.here i; states = states_here i })
            ∙ ap (λ (h : Group). merge_groups h g) (sym at_p)
            ∙ sym (ap (λ (i : ℕ). get_or (slice_set old_groups p merged) i d) at ∙ get_or-set_same old_groups p merged d (subst (λ (n : ℕ). p < n) (sym long_old) absorbed.located.within))
        | inr ne ↦ (λ i. record { key = get_or new_keys j []; rows = absorbed.counted.others j ne i; states = states_others j ne i })
            ∙ sym (get_or-set_other old_groups p j merged d ne ∙ by_group_index-at new_keys rows columns j d here)
      ])

  with_new_keys : together shape (by_group_index new_keys rows columns ++ g ∷ []) ≡ together shape (by_group_index keys rows columns ++ g ∷ [])
  with_new_keys =
      let grows = grows_with is_certain (kinds_of columns) in
      let n = length keys in
      let more = drop n new_keys in
      let d = none_group in
      let nones = map (λ (k : Row). group_of_rows shape k []) more in
      let long_more = length-drop n new_keys in
      let among : (j : ℕ) → j < length more → (i : ℕ) × (i < length (g ∷ [])) × ((get_or (g ∷ []) i d).key ≡ get_or more j []) × IsWide shape (get_or (g ∷ []) i d) =
      λ j l. (0, omega arith, sym (absorbed.located.added (n + j) (omega arith) (omega (arith, l, long_more))) ∙ sym (get_or-drop n new_keys j []), fits.widths) in
      ap (λ (ks : List Row). together shape (by_group_index ks rows columns ++ g ∷ [])) (keys_behind keys new_keys absorbed.located.kept)
      ∙ ap (λ (gs : List Group). together shape (gs ++ g ∷ [])) (keys_added is_certain rows columns keys more are.counted are.heights)
      ∙ ap (together shape) (append_assoc (by_group_index keys rows columns) nones (g ∷ []))
      ∙ behind shape grows (by_group_index keys rows columns) (nones ++ g ∷ []) (g ∷ []) (none_added shape grows more (g ∷ []) d among)

  pub table_absorbed : (handed : ℕ) → table_of is_certain new_keys new_rows new_columns (taken + g.rows) (handed + 1) ≡ with_groups (table_of is_certain keys rows columns taken handed) (g ∷ [])
  table_absorbed handed =
      let grows = grows_with is_certain (kinds_of columns) in
      let p = absorbed.group_index in
      let many : taken + g.rows ≡ taken + all_rows (g ∷ []) = omega arith in
      let same : (get_or old_groups p none_group).key ≡ g.key = ap (λ (h : Group). h.key) (by_group_index-at new_keys rows columns p none_group absorbed.located.within) ∙ absorbed.located.is in
      let groups : together (shape_with is_certain (kinds_of new_columns)) (by_group_index new_keys new_rows new_columns) ≡ together shape (together shape (by_group_index keys rows columns) ++ g ∷ []) =
      (λ i. together (shape_with is_certain (same_kinds i)) (by_group_index new_keys new_rows new_columns))
      ∙ ap (together shape) group_merged
      ∙ merged_at_index shape grows old_groups p g none_group (subst (λ (n : ℕ). p < n) (sym (by_group_index-length new_keys rows columns)) absorbed.located.within) same
      ∙ with_new_keys
      ∙ sym (grows.again (by_group_index keys rows columns) (g ∷ [])) in
      λ i. record { shape = shape_with is_certain (same_kinds i); groups = groups i; rows = many i; handed = handed + 1 }

  count_at : (c group_index : ℕ) → (state_at new_columns c group_index).count ≤ get_or new_rows group_index 0
  count_at c group_index =
      elim (cases_lt c (length columns)) [
        | inl in_columns ↦ (
            let merged = absorbed.merged.1 c in_columns in
            let was = are.within c group_index in
            elim (cases_eq group_index absorbed.group_index) [
              | inl at ↦ (
                  let count : (state_at new_columns c group_index).count ≡ (state_at columns c group_index).count + (kept_by (get_or columns c no_column).kind (get_or g.states c no_statistics)).count =
                  ap (λ (i : ℕ). (state_at new_columns c i).count) at ∙ ap (λ (s : Statistics). s.count) merged.here ∙ ap (λ (i : ℕ). (state_at columns c i).count + (kept_by (get_or columns c no_column).kind (get_or g.states c no_statistics)).count) (sym at) in
                  let kept = kept_count (get_or columns c no_column).kind (get_or g.states c no_statistics) in
                  let few = fits.within c no_statistics (subst (λ (n : ℕ). c < n) (sym long_states) in_columns) in
                  let more : get_or new_rows group_index 0 ≡ get_or rows group_index 0 + g.rows = ap (λ (i : ℕ). get_or new_rows i 0) at ∙ absorbed.counted.here ∙ ap (λ (i : ℕ). get_or rows i 0 + g.rows) (sym at) in
                  omega (arith, count, kept, few, more, was))
              | inr ne ↦ (
                  let count : (state_at new_columns c group_index).count ≡ (state_at columns c group_index).count = ap (λ (s : Statistics). s.count) (merged.others group_index ne) in
                  let more = absorbed.counted.others group_index ne in
                  omega (arith, count, more, was))
            ])
        | inr past ↦ (
            let none : (state_at new_columns c group_index).count ≡ 0 = ap (λ (col : ColumnSpec). (state_in col group_index).count) (get_or_past new_columns c no_column (subst (λ (m : ℕ). m ≤ c) (sym absorbed.merged.0) past)) in
            omega (arith, none))
      ]

  kept_there : (c group_index : ℕ) → c < length new_columns → kept_by (get_or new_columns c no_column).kind (state_at new_columns c group_index) ≡ state_at new_columns c group_index
  kept_there c group_index l =
      let in_columns : c < length columns = subst (λ (m : ℕ). c < m) absorbed.merged.0 l in
      let merged = absorbed.merged.1 c in_columns in
      let kind = (get_or columns c no_column).kind in
      let more = get_or g.states c no_statistics in
      let is : state_at new_columns c absorbed.group_index ≡ merge (state_at columns c absorbed.group_index) (kept_by kind more) = merged.here in
      ap (λ (k : AggregateKind). kept_by k (state_at new_columns c group_index)) merged.kind
      ∙ elim (cases_eq group_index absorbed.group_index) [
        | inl at ↦ keeps_merged kind (state_at columns c absorbed.group_index) (kept_by kind more) (state_at new_columns c group_index) (are.kept c absorbed.group_index in_columns) (kept_twice kind more)
            (ap (λ (i : ℕ). state_at new_columns c i) at ∙ is)
        | inr ne ↦ ap (kept_by kind) (merged.others group_index ne) ∙ are.kept c group_index in_columns ∙ sym (merged.others group_index ne)
      ]

  pub absorbed_well_formed : taken + g.rows ≤ most_entries → IsWellFormed is_certain new_keys new_rows new_columns (taken + g.rows)
  absorbed_well_formed few = record {
    certain = λ e. let was = are.certain e in let kept = absorbed.located.kept 0 was.0 in (let k = kept.0 in omega (arith, k), kept.1 ∙ was.1);
    counted = absorbed.counted.height;
    heights = λ c l. (absorbed.merged.1 c (subst (λ (m : ℕ). c < m) absorbed.merged.0 l)).height;
    total = let t = absorbed.counted.total in let before = are.total in omega (arith, t, before);
    few = few;
    within = count_at;
    kept = kept_there;
  }

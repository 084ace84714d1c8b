-- What a vector's rows do to the groups by their group indexes.
use Rattle.std.specs.Prelude.{◌≡◌, ℕ, zero, suc, ◌+◌, ◌-◌, ◌<◌, ◌≤◌, ◌==◌, Bool, true, false, cond, List, [], ◌∷◌, ◌++◌, length, map, filter, drop, get_or}
use Rattle.std.specs.List.{zip, enumerate_from}
use Rattle.std.proofs.Common.{refl, sym, ap, subst, ◌∙◌, arith, append_assoc, append-nil, length-append, length-drop, inl, inr}
use Rattle.std.proofs.lemmas.List.{length-map, get_or-map, ext_get_or, get_or_append_left, get_or-append_right, get_or-drop, get_or_past}
use Rattle.std.proofs.lemmas.Bool.{cases_lt}
use Rattle.std.proofs.lemmas.List.FromFn.{length-map-range_with_len, get_or-map-range_with_len, length-enumerate_from, get_or-enumerate_from}
use Rattle.meaning.specs.declared.plan.AggregateKind.{AggregateKind}
use Rattle.meaning.specs.declared.answer.Statistics.{Statistics}
use Rattle.meaning.specs.declared.answer.Group.{Group}
use Rattle.meaning.specs.Order.{Row, column}
use Rattle.meaning.specs.Aggregate.{no_statistics, merge}
use Rattle.meaning.specs.Group.{merge_groups}
use Rattle.accumulators.specs.Columns.{ColumnSpec, no_column}
use Rattle.aggregate_states.specs.Entries.{state_of, of_group}
use Rattle.aggregate_states.proofs.Growing.{state_of-none}
use Rattle.group_by.specs.Combined.{zipped}
use Rattle.group_by.specs.Shape.{Shape, shape_with}
use Rattle.group_by.specs.Groups.{group_of_rows, groups_of_rows, together}
use Rattle.group_index.specs.Found.{AreFound}
use Rattle.group_by.specs.GroupIndexes.{state_in, group_at, by_group_index, times, AreUpdated, AreCounted}
use Rattle.group_by.proofs.Growing.{Grows, grows_with}
use Rattle.group_by.proofs.Together.{behind, none_more, singles, single, IsWide, states_from, states-length, zipped-length}
use Rattle.group_by.proofs.Rows.{from_index, rows_indexed}

-- ---- what goes to a group index

module _ {X : Type 0} where
  pub of_group-map : {Y : Type 0} (f : X → Y) (j : ℕ) (group_indexes : List ℕ) (xs : List X) → of_group j (zip group_indexes (map f xs)) ≡ map f (of_group j (zip group_indexes xs))
  of_group-map f j [] xs = refl
  of_group-map f j (p ∷ group_indexes) [] = refl
  of_group-map f j (p ∷ group_indexes) (x ∷ xs) =
      elim (p == j) as (λ b. map (λ (q : ℕ × _). q.1) (cond b ((p, f x) ∷ filter (λ (q : ℕ × _). q.0 == j) (zip group_indexes (map f xs))) (filter (λ (q : ℕ × _). q.0 == j) (zip group_indexes (map f xs))))
      ≡ map f (map (λ (q : ℕ × X). q.1) (cond b ((p, x) ∷ filter (λ (q : ℕ × X). q.0 == j) (zip group_indexes xs)) (filter (λ (q : ℕ × X). q.0 == j) (zip group_indexes xs))))) [
        | true ↦ ap (λ ys. f x ∷ ys) (of_group-map f j group_indexes xs)
        | false ↦ of_group-map f j group_indexes xs
      ]

  pub of_group-times : (j : ℕ) (group_indexes : List ℕ) (xs : List X) → length group_indexes ≡ length xs → length (of_group j (zip group_indexes xs)) ≡ times j group_indexes
  of_group-times j [] xs e = refl
  of_group-times j (p ∷ group_indexes) [] e = absurd (omega (arith, e))
  of_group-times j (p ∷ group_indexes) (x ∷ xs) e =
      elim (p == j) as (λ b. length (map (λ (q : ℕ × X). q.1) (cond b ((p, x) ∷ filter (λ (q : ℕ × X). q.0 == j) (zip group_indexes xs)) (filter (λ (q : ℕ × X). q.0 == j) (zip group_indexes xs))))
      ≡ length (cond b (p ∷ filter (λ q. q == j) group_indexes) (filter (λ q. q == j) group_indexes))) [
        | true ↦ ap suc (of_group-times j group_indexes xs (omega (arith, e)))
        | false ↦ of_group-times j group_indexes xs (omega (arith, e))
      ]

-- ---- states by their columns

abbrev pub kinds_of : List ColumnSpec → List AggregateKind
kinds_of columns = map (λ (c : ColumnSpec). c.kind) columns

abbrev pub states_in : List ColumnSpec → ℕ → List Statistics
states_in columns group_index = map (λ (c : ColumnSpec). state_in c group_index) columns

pub zipped-at : (ss ts : List Statistics) (c : ℕ) (d : Statistics) → c < length ss → c < length ts → get_or (zipped ss ts) c d ≡ merge (get_or ss c d) (get_or ts c d)
zipped-at [] ts c d l m = absurd (omega (arith, l))
zipped-at (s ∷ ss) [] c d l m = absurd (omega (arith, m))
zipped-at (s ∷ ss) (t ∷ ts) zero d l m = refl
zipped-at (s ∷ ss) (t ∷ ts) (suc c) d l m = zipped-at ss ts c d (omega (arith, l)) (omega (arith, m))

pub states-at : (n m : ℕ) (kinds : List AggregateKind) (rows : List Row) (c : ℕ) (k : AggregateKind) (d : Statistics) → m ≡ n + c → c < length kinds
    → get_or (states_from n kinds rows) c d ≡ state_of (get_or kinds c k) (map (λ (row : Row). column row m) rows)
states-at n m [] rows c k d e l = absurd (omega (arith, l))
states-at n m (kind ∷ kinds) rows zero k d e l = ap (λ (i : ℕ). state_of kind (map (λ (row : Row). column row i) rows)) (let f : n ≡ m = omega (arith, e) in f)
states-at n m (kind ∷ kinds) rows (suc c) k d e l = states-at (n + 1) m kinds rows c k d (omega (arith, e)) (omega (arith, l))

-- ---- rows

module _ (height : ℕ) (group_indexes : List ℕ) (arguments : List Row) (old new : List ColumnSpec) where
  pub updated_states : AreUpdated height group_indexes arguments old new → (group_index : ℕ) → group_index < height
      → states_in new group_index ≡ zipped (states_in old group_index) (states_from 0 (kinds_of old) (of_group group_index (zip group_indexes arguments)))
  updated_states are group_index here =
      let more = states_from 0 (kinds_of old) (of_group group_index (zip group_indexes arguments)) in
      let long_old : length (states_in old group_index) ≡ length old = length-map old (λ (c : ColumnSpec). state_in c group_index) in
      let long_kinds : length (kinds_of old) ≡ length old = length-map old (λ (c : ColumnSpec). c.kind) in
      let long_more : length more ≡ length old = states-length 0 (kinds_of old) (of_group group_index (zip group_indexes arguments)) ∙ long_kinds in
      let long_new : length (states_in new group_index) ≡ length old = length-map new (λ (c : ColumnSpec). state_in c group_index) ∙ are.0 in
      ext_get_or no_statistics (states_in new group_index) (zipped (states_in old group_index) more) (long_new ∙ sym (zipped-length (states_in old group_index) more (length old) long_old long_more))
      (λ c l.
      let in_old : c < length old = subst (λ (n : ℕ). c < n) long_new l in
      let in_new : c < length new = subst (λ (n : ℕ). c < n) (sym are.0) in_old in
      let of_column = of_group-map (λ (row : Row). column row c) group_index group_indexes arguments in
      get_or-map (λ (col : ColumnSpec). state_in col group_index) new c no_column no_statistics in_new
      ∙ (are.1 c in_old).states group_index here
      ∙ (λ i. merge (sym (get_or-map (λ (col : ColumnSpec). state_in col group_index) old c no_column no_statistics in_old) i)
      (sym (states-at 0 c (kinds_of old) (of_group group_index (zip group_indexes arguments)) c no_column.kind no_statistics (omega arith) (subst (λ (n : ℕ). c < n) (sym long_kinds) in_old)
      ∙ (λ j. state_of (get_or-map (λ (col : ColumnSpec). col.kind) old c no_column no_column.kind in_old j) (sym of_column j))) i))
      ∙ sym (zipped-at (states_in old group_index) more c no_statistics (subst (λ (n : ℕ). c < n) (sym long_old) in_old) (subst (λ (n : ℕ). c < n) (sym long_more) in_old)))

  pub same_kinds : AreUpdated height group_indexes arguments old new → kinds_of new ≡ kinds_of old
  same_kinds are =
      let long_new : length (kinds_of new) ≡ length old = length-map new (λ (c : ColumnSpec). c.kind) ∙ are.0 in
      ext_get_or no_column.kind (kinds_of new) (kinds_of old) (long_new ∙ sym (length-map old (λ (c : ColumnSpec). c.kind)))
      (λ c l.
      let in_old : c < length old = subst (λ (n : ℕ). c < n) long_new l in
      get_or-map (λ (col : ColumnSpec). col.kind) new c no_column no_column.kind (subst (λ (n : ℕ). c < n) (sym are.0) in_old)
      ∙ (are.1 c in_old).kind
      ∙ sym (get_or-map (λ (col : ColumnSpec). col.kind) old c no_column no_column.kind in_old))

pub by_group_index-length : (keys : List Row) (rows : List ℕ) (columns : List ColumnSpec) → length (by_group_index keys rows columns) ≡ length keys
by_group_index-length keys rows columns = length-map-range_with_len (λ (group_index : ℕ). group_at rows columns (get_or keys group_index []) group_index) 0 (length keys)

pub by_group_index-at : (keys : List Row) (rows : List ℕ) (columns : List ColumnSpec) (group_index : ℕ) (d : Group) → group_index < length keys
    → get_or (by_group_index keys rows columns) group_index d ≡ group_at rows columns (get_or keys group_index []) group_index
by_group_index-at keys rows columns group_index d here = get_or-map-range_with_len (λ (p : ℕ). group_at rows columns (get_or keys p []) p) 0 (length keys) group_index group_index d here (omega arith)

module _ (is_certain : Bool) (keys : List Row) (group_indexes : List ℕ) (arguments : List Row) (old_rows rows : List ℕ) (old new : List ColumnSpec) where
  abbrev shape : Shape
  shape = shape_with is_certain (kinds_of old)

  group_updated : length group_indexes ≡ length arguments → AreCounted (length keys) group_indexes old_rows rows → AreUpdated (length keys) group_indexes arguments old new
      → (group_index : ℕ) → group_index < length keys → (key : Row)
      → group_at rows new key group_index ≡ merge_groups (group_at old_rows old key group_index) (group_of_rows shape key (of_group group_index (zip group_indexes arguments)))
  group_updated long counted updated group_index here key = λ i. record {
    key = key;
    rows = (counted.counts group_index ∙ ap (λ (n : ℕ). get_or old_rows group_index 0 + n) (sym (of_group-times group_index group_indexes arguments long))) i;
    states = updated_states (length keys) group_indexes arguments old new updated group_index here i;
  }

  -- behind the rows each group is merged with that of the rows at its group index
  pub groups_updated : length group_indexes ≡ length arguments → AreCounted (length keys) group_indexes old_rows rows → AreUpdated (length keys) group_indexes arguments old new
      → by_group_index keys rows new ≡ from_index shape 0 (by_group_index keys old_rows old) (zip group_indexes arguments)
  groups_updated long counted updated =
      let gs = by_group_index keys old_rows old in
      let d : Group = group_at old_rows old [] 0 in
      let long_gs = by_group_index-length keys old_rows old in
      let long_all : length (enumerate_from 0 gs) ≡ length keys = length-enumerate_from 0 gs ∙ long_gs in
      let f : ℕ × Group → Group = λ (g : ℕ × Group). merge_groups g.1 (group_of_rows shape g.1.key (of_group g.0 (zip group_indexes arguments))) in
      ext_get_or d (by_group_index keys rows new) (map f (enumerate_from 0 gs)) (by_group_index-length keys rows new ∙ sym (length-map (enumerate_from 0 gs) f ∙ long_all))
      (λ j l.
      let here : j < length keys = subst (λ (n : ℕ). j < n) (by_group_index-length keys rows new) l in
      let in_gs : j < length gs = subst (λ (n : ℕ). j < n) (sym long_gs) here in
      by_group_index-at keys rows new j d here
      ∙ group_updated long counted updated j here (get_or keys j [])
      ∙ ap (λ (g : Group). f (j, g)) (sym (by_group_index-at keys old_rows old j d here))
      ∙ sym (get_or-map f (enumerate_from 0 gs) j (0, d) d (subst (λ (n : ℕ). j < n) (sym long_all) here)
      ∙ ap f (get_or-enumerate_from 0 gs j (0, d) in_gs ∙ (λ i. ((let e : 0 + j ≡ j = omega arith in e) i, get_or gs j d)))))

-- ---- new keys

module _ (is_certain : Bool) (rows : List ℕ) (columns : List ColumnSpec) where
  abbrev shape_here : Shape
  shape_here = shape_with is_certain (kinds_of columns)

  abbrev none_of : Row → Group
  none_of key = group_of_rows shape_here key []

  none_states : (m group_index : ℕ) (cs : List ColumnSpec) → ((c : ℕ) → c < length cs → length (get_or cs c no_column).states ≤ group_index) → states_in cs group_index ≡ states_from m (kinds_of cs) []
  none_states m group_index [] past = refl
  none_states m group_index (c ∷ cs) past =
      λ i. (get_or_past c.states group_index no_statistics (past 0 (omega arith)) ∙ sym (state_of-none c.kind)) i ∷ none_states (m + 1) group_index cs (λ k l. past (suc k) (omega (arith, l))) i

  none_at : (group_index : ℕ) → length rows ≤ group_index → ((c : ℕ) → c < length columns → length (get_or columns c no_column).states ≤ group_index) → (key : Row) → group_at rows columns key group_index ≡ none_of key
  none_at group_index past_rows past key = λ i. record { key = key; rows = get_or_past rows group_index 0 past_rows i; states = none_states 0 group_index columns past i }

  pub keys_added : (keys more : List Row) → length rows ≡ length keys → ((c : ℕ) → c < length columns → length (get_or columns c no_column).states ≡ length keys)
      → by_group_index (keys ++ more) rows columns ≡ by_group_index keys rows columns ++ map none_of more
  keys_added keys more counted heights =
      let d : Group = none_of [] in
      let left = by_group_index keys rows columns in
      let long_left = by_group_index-length keys rows columns in
      let long_more : length (map none_of more) ≡ length more = length-map more none_of in
      let long_keys = length-append keys more in
      let long_all = length-append left (map none_of more) in
      let longs : length (by_group_index (keys ++ more) rows columns) ≡ length (left ++ map none_of more) =
      by_group_index-length (keys ++ more) rows columns ∙ (let e : length (keys ++ more) ≡ length (left ++ map none_of more) = omega (arith, long_keys, long_all, long_left, long_more) in e) in
      ext_get_or d (by_group_index (keys ++ more) rows columns) (left ++ map none_of more) longs
      (λ j l.
      let within : j < length (keys ++ more) = subst (λ (n : ℕ). j < n) (by_group_index-length (keys ++ more) rows columns) l in
      by_group_index-at (keys ++ more) rows columns j d within
      ∙ elim (cases_lt j (length keys)) [
        | inl below ↦ ap (λ (k : Row). group_at rows columns k j) (get_or_append_left keys more [] j below)
            ∙ sym (get_or_append_left left (map none_of more) d j (subst (λ (n : ℕ). j < n) (sym long_left) below) ∙ by_group_index-at keys rows columns j d below)
        | inr past ↦ (
            let in_more : j - length keys < length more = omega (arith, within, long_keys, past) in
            ap (λ (k : Row). group_at rows columns k j) (get_or-append_right keys more (length keys) j [] refl past)
            ∙ none_at j (subst (λ (n : ℕ). n ≤ j) (sym counted) past) (λ c lc. subst (λ (n : ℕ). n ≤ j) (sym (heights c lc)) past) (get_or more (j - length keys) [])
            ∙ sym (get_or-append_right left (map none_of more) (length keys) j d long_left past ∙ get_or-map none_of more (j - length keys) [] d in_more))
      ])

-- ---- all of it

-- keys that were among others come before what came
pub keys_behind : (keys found : List Row) → ((j : ℕ) → j < length keys → (j < length found) × (get_or found j [] ≡ get_or keys j [])) → found ≡ keys ++ drop (length keys) found
keys_behind [] found kept = refl
keys_behind (k ∷ keys) [] kept = absurd (let h = (kept 0 (omega arith)).0 in omega (arith, h))
keys_behind (k ∷ keys) (f ∷ found) kept =
    λ i. (kept 0 (omega arith)).1 i ∷ keys_behind keys found (λ j l. let h = kept (suc j) (omega (arith, l)) in (omega (arith, h.0), h.1)) i

module _ (shape : Shape) where
  single-at : (found : List Row) (arguments : List Row) (i : ℕ) (d : Group) → length arguments ≡ length found → i < length found
      → ((get_or (map (single shape) (zip found arguments)) i d).key ≡ get_or found i []) × IsWide shape (get_or (map (single shape) (zip found arguments)) i d)
  single-at [] arguments i d e l = absurd (omega (arith, l))
  single-at (k ∷ found) [] i d e l = absurd (omega (arith, e))
  single-at (k ∷ found) (x ∷ arguments) zero d e l = (refl, states-length 0 shape.kinds (x ∷ []))
  single-at (k ∷ found) (x ∷ arguments) (suc i) d e l = single-at found arguments i d (omega (arith, e)) (omega (arith, l))

  pub zip-long : {X Y : Type 0} (xs : List X) (ys : List Y) → length ys ≡ length xs → length (zip xs ys) ≡ length xs
  zip-long [] ys e = refl
  zip-long (x ∷ xs) [] e = e
  zip-long (x ∷ xs) (y ∷ ys) e = ap suc (zip-long xs ys (omega (arith, e)))

  -- groups of no row add nothing where each one's key has a group
  pub none_added : Grows shape → (more : List Row) (hs : List Group) (d : Group)
      → ((j : ℕ) → j < length more → (i : ℕ) × (i < length hs) × ((get_or hs i d).key ≡ get_or more j []) × IsWide shape (get_or hs i d))
      → together shape (map (λ (k : Row). group_of_rows shape k []) more ++ hs) ≡ together shape hs
  none_added grows [] hs d among = refl
  none_added grows (k ∷ more) hs d among =
      let first = among 0 (omega arith) in
      behind shape grows (group_of_rows shape k [] ∷ []) (map (λ (k : Row). group_of_rows shape k []) more ++ hs) hs (none_added grows more hs d (λ j l. among (suc j) (omega (arith, l))))
      ∙ none_more shape grows k hs first.0 d first.1 first.2 first.3

module _ (is_certain : Bool) (keys new_keys : List Row) (rows new_rows : List ℕ) (columns new_columns : List ColumnSpec) (found arguments : List Row) (group_indexes : List ℕ)
    (counted : length rows ≡ length keys) (heights : (c : ℕ) → c < length columns → length (get_or columns c no_column).states ≡ length keys)
    (long : length arguments ≡ length found)
    (are_found : AreFound found keys group_indexes new_keys) (are_counted : AreCounted (length new_keys) group_indexes rows new_rows) (are_updated : AreUpdated (length new_keys) group_indexes arguments columns new_columns) where
  abbrev the_shape : Shape
  the_shape = shape_with is_certain (kinds_of columns)

  abbrev the_singles : List Group
  the_singles = map (single the_shape) (zip found arguments)

  long_singles : length the_singles ≡ length found
  long_singles = length-map (zip found arguments) (single the_shape) ∙ zip-long the_shape found arguments long

  with_new_keys : together the_shape (by_group_index new_keys rows columns ++ the_singles) ≡ together the_shape (by_group_index keys rows columns ++ the_singles)
  with_new_keys =
      let grows = grows_with is_certain (kinds_of columns) in
      let n = length keys in
      let more = drop n new_keys in
      let d : Group = group_of_rows the_shape [] [] in
      let nones = map (λ (k : Row). group_of_rows the_shape k []) more in
      let long_more = length-drop n new_keys in
      let among : (j : ℕ) → j < length more → (i : ℕ) × (i < length the_singles) × ((get_or the_singles i d).key ≡ get_or more j []) × IsWide the_shape (get_or the_singles i d) =
      λ j l.
      let a = are_found.added (n + j) (omega arith) (omega (arith, l, long_more)) in
      let at = single-at the_shape found arguments a.0 d long a.1 in
      (a.0, subst (λ (m : ℕ). a.0 < m) (sym long_singles) a.1, at.0 ∙ a.2 ∙ sym (get_or-drop n new_keys j []), at.1) in
      ap (λ (ks : List Row). together the_shape (by_group_index ks rows columns ++ the_singles)) (keys_behind keys new_keys are_found.kept)
      ∙ ap (λ (gs : List Group). together the_shape (gs ++ the_singles)) (keys_added is_certain rows columns keys more counted heights)
      ∙ ap (together the_shape) (append_assoc (by_group_index keys rows columns) nones the_singles)
      ∙ behind the_shape grows (by_group_index keys rows columns) (nones ++ the_singles) the_singles (none_added the_shape grows more the_singles d among)

  wide_at : (j : ℕ) (e : Group) → j < length (by_group_index new_keys rows columns) → IsWide the_shape (get_or (by_group_index new_keys rows columns) j e)
  wide_at j e l =
      subst (λ (g : Group). IsWide the_shape g) (sym (by_group_index-at new_keys rows columns j e (subst (λ (n : ℕ). j < n) (by_group_index-length new_keys rows columns) l)))
      (length-map columns (λ (c : ColumnSpec). state_in c j) ∙ sym (length-map columns (λ (c : ColumnSpec). c.kind)))

  -- the table with these rows
  pub rows_added : together (shape_with is_certain (kinds_of new_columns)) (by_group_index new_keys new_rows new_columns)
      ≡ together the_shape (together the_shape (by_group_index keys rows columns) ++ groups_of_rows the_shape (zip found arguments))
  rows_added =
      let grows = grows_with is_certain (kinds_of columns) in
      let gs = by_group_index new_keys rows columns in
      let d : Group = group_of_rows the_shape [] [] in
      let longs : length group_indexes ≡ length arguments = are_found.long ∙ sym long in
      (λ i. together (shape_with is_certain (same_kinds (length new_keys) group_indexes arguments columns new_columns are_updated i)) (by_group_index new_keys new_rows new_columns))
      ∙ ap (together the_shape) (groups_updated is_certain new_keys group_indexes arguments rows new_rows columns new_columns longs are_counted are_updated)
      ∙ rows_indexed the_shape grows gs d wide_at found group_indexes arguments are_found.long long
      (λ k l. subst (λ (n : ℕ). get_or group_indexes k 0 < n) (sym (by_group_index-length new_keys rows columns)) (are_found.within k l))
      (λ k l. ap (λ (g : Group). g.key) (by_group_index-at new_keys rows columns (get_or group_indexes k 0) d (are_found.within k l)) ∙ are_found.are k l)
      ∙ with_new_keys
      ∙ behind the_shape grows (by_group_index keys rows columns) the_singles (groups_of_rows the_shape (zip found arguments)) (again_groups grows)
      ∙ sym (grows.again (by_group_index keys rows columns) (groups_of_rows the_shape (zip found arguments)))
    where
      again_groups : Grows the_shape → together the_shape the_singles ≡ together the_shape (groups_of_rows the_shape (zip found arguments))
      again_groups grows =
          let known = groups_of_rows the_shape (zip found arguments) in
          sym (ap (together the_shape) (append-nil the_singles)) ∙ sym (grows.again the_singles [])
          ∙ ap (together the_shape) (append-nil (together the_shape the_singles)) ∙ ap (together the_shape) (singles the_shape (zip found arguments))

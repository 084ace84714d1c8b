-- What marks of entries are of the rows of a block.
use Rattle.std.proofs.Common.{◌≡◌, ℕ, zero, suc, ◌+◌, ◌<◌, ◌≤◌, ◌-◌, ◌*◌, Bool, true, false, if◌then◌else◌, List, [], ◌∷◌, ◌++◌, get_or, map, filter, length, zip, take, drop, replicate, sum, refl, ap, ap₂, sym, subst, ◌∙◌, arith, zero-add}
use Rattle.std.specs.List.{AllByRecursion, list_any, range_with_len}
use Rattle.std.proofs.lemmas.List.Elements.{recursion_from_All}
use Rattle.std.proofs.lemmas.List.{append-nil, drop_more, get_or-drop, get_or-replicate, get_or-take, get_or-map}
use Rattle.std.proofs.lemmas.List.FromFn.{get_or-map-range_with_len}
use Rattle.std.proofs.lemmas.List.Sums.{sum_by-cons}
use Rattle.meaning.specs.declared.expr.Expr.{Expr}
use Rattle.meaning.specs.declared.value.ColType.{ColType}
use Rattle.meaning.specs.declared.value.Value.{Value}
use Rattle.meaning.specs.declared.value.Value.TheVariants.{Null}
use Rattle.bit_packing.proofs.Chunks.{length-shorts}
use Rattle.blocks.specs.declared.kind.Kind.{Kind}
use Rattle.blocks.specs.declared.kind.Kind.TheVariants as kind
use Rattle.blocks.specs.Block.{Block, bit_at, body_cells, body_of, cells_of, entry_bytes, is_block, is_body, mask_of, nulls_of, values_of}
use Rattle.blocks.specs.Dictionary.{codes_of, entries_of, is_dictionary}
use Rattle.blocks.specs.DictionaryView.{dictionary_in}
use Rattle.blocks.specs.Numbers.{count_of}
use Rattle.blocks.specs.Runs.{repeated, repeats}
use Rattle.blocks.specs.RunsView.{runs_in}
use Rattle.blocks.proofs.Blocks.{block_body, cell_value, null_value}
use Rattle.blocks.proofs.Ends.{length-values_form}
use Rattle.blocks.proofs.Nulls.{length_cells}
use Rattle.blocks.proofs.RowCells.{code_within}
use Rattle.vectors.specs.Selection.{IsSelection, Positions}
use Rattle.block_predicates.specs.declared.entries.Entries.{Entries}
use Rattle.block_predicates.specs.declared.entries.Entries.TheVariants as entries
use Rattle.block_predicates.specs.declared.marks.EntryMarks.{EntryMarks}
use Rattle.block_predicates.specs.Entries.{AreEntriesOf, AreFound, entries_by, entries_in, lane_count}
use Rattle.block_predicates.specs.Marks.{AreMarksFor, AreMarksOf, IsMarkOf, kept_of, mark_at, place_by}
use Rattle.block_predicates.specs.Predicate.{IsPredicateOf, predicate_of}
use Rattle.block_predicates.proofs.MarkedPositions.{none_set}

-- ---- runs

-- the rows of one run and of those behind it
pub repeats_next : {X : Type 0} (d : X) (xs : List X) (ns : List ℕ) (k : ℕ) → k < length xs → k < length ns
    → repeats (drop k xs) (drop k ns) ≡ replicate (get_or ns k 0) (get_or xs k d) ++ repeats (drop (k + 1) xs) (drop (k + 1) ns)
repeats_next d xs ns k one two = ap₂ repeats (drop_more xs k d one) (drop_more ns k 0 two)

pub sum_next : (ns : List ℕ) (k : ℕ) → k < length ns → sum (drop k ns) ≡ get_or ns k 0 + sum (drop (k + 1) ns)
sum_next ns k lt = ap sum (drop_more ns k 0 lt) ∙ sum_by-cons (λ (n : ℕ). n) (get_or ns k 0) (drop (k + 1) ns)

drop_past : (ns : List ℕ) (k : ℕ) → length ns ≤ k → drop k ns ≡ []
drop_past [] zero long = refl
drop_past [] (suc k) long = refl
drop_past (n ∷ ns) zero long = absurd (omega (arith, long))
drop_past (n ∷ ns) (suc k) long = drop_past ns k (omega (arith, long))

no_runs : {X : Type 0} (xs : List X) → repeats xs [] ≡ []
no_runs [] = refl
no_runs (x ∷ xs) = refl

pub none_left : (ns : List ℕ) (k : ℕ) → length ns ≤ k → sum (drop k ns) ≡ 0
none_left ns k long = ap sum (drop_past ns k long)

-- behind the last run
pub all_spread : (rows ms : List Bool) (ns : List ℕ) (k : ℕ) → length ns ≤ k → rows ++ repeats (drop k ms) (drop k ns) ≡ repeats ms ns → rows ≡ repeats ms ns
all_spread rows ms ns k long e =
    sym (append-nil rows) ∙ ap (λ (xs : List Bool). rows ++ xs) (sym (ap (repeats (drop k ms)) (drop_past ns k long) ∙ no_runs (drop k ms))) ∙ e

module _ (R : Value → Bool → Type 0) where
  abbrev AreAlong : List Value → List Bool → Type 0
  AreAlong [] ms = Unit {0}
  AreAlong (v ∷ vs) [] = ⊥
  AreAlong (v ∷ vs) (m ∷ ms) = R v m × AreAlong vs ms

  along_from : (vs : List Value) (ms : List Bool) → length vs ≤ length ms → ((i : ℕ) → i < length vs → R (get_or vs i Null) (get_or ms i false)) → AreAlong vs ms
  along_from [] ms long each = tt
  along_from (v ∷ vs) [] long each = absurd (omega (arith, long))
  along_from (v ∷ vs) (m ∷ ms) long each = (each 0 (omega arith), along_from vs ms (omega (arith, long)) (λ i lt. each (suc i) (omega (arith, lt))))

  along_more : (n : ℕ) (v : Value) (m : Bool) (vs : List Value) (ms : List Bool) → R v m → AreAlong vs ms → AreAlong (replicate n v ++ vs) (replicate n m ++ ms)
  along_more zero v m vs ms here rest = rest
  along_more (suc n) v m vs ms here rest = (here, along_more n v m vs ms here rest)

  along_spread : (vs : List Value) (ms : List Bool) (ns : List ℕ) → AreAlong vs ms → AreAlong (repeated (zip vs ns)) (repeats ms ns)
  along_spread [] ms ns all = tt
  along_spread (v ∷ vs) [] ns all = absurd all
  along_spread (v ∷ vs) (m ∷ ms) [] all = tt
  along_spread (v ∷ vs) (m ∷ ms) (n ∷ ns) all = along_more n v m (repeated (zip vs ns)) (repeats ms ns) all.0 (along_spread vs ms ns all.1)

  along_at : (vs : List Value) (ms : List Bool) (i : ℕ) → AreAlong vs ms → i < length vs → R (get_or vs i Null) (get_or ms i false)
  along_at [] ms i all lt = absurd (omega (arith, lt))
  along_at (v ∷ vs) [] i all lt = absurd all
  along_at (v ∷ vs) (m ∷ ms) zero all lt = all.0
  along_at (v ∷ vs) (m ∷ ms) (suc i) all lt = along_at vs ms i all.1 (omega (arith, lt))

-- ---- kinds

cells_coded : (k : Kind) (t : ColType) (rows row : ℕ) (body : List ℕ) → k ≡ kind.Dict → row < rows → get_or (body_cells k t rows body) row Null ≡ get_or (entries_of t rows body) (get_or (codes_of rows body) row 0) Null
cells_coded kind.Plain t rows row body e lt = absurd cc
cells_coded kind.Dict t rows row body e lt = let long = length-shorts rows (drop (length body - 2 * rows) body) in get_or-map (λ code. get_or (entries_of t rows body) code Null) (codes_of rows body) row 0 Null (omega (arith, lt, long))
cells_coded kind.Runs t rows row body e lt = absurd cc
cells_coded kind.Frame t rows row body e lt = absurd cc

past : (vs : List Value) (i : ℕ) → length vs ≤ i → get_or vs i Null ≡ Null
past [] i long = refl
past (v ∷ vs) zero long = absurd (omega (arith, long))
past (v ∷ vs) (suc i) long = past vs i (omega (arith, long))

-- where a row is NULL, the column is nullable
null_lane : (nullable : Bool) (rows row n count : ℕ) (bits : List Bool) → get_or (if nullable then bits else replicate rows false) row false ≡ true → row < rows → count ≡ n + (if nullable then 1 else 0) → n < count
null_lane true rows row n count bits null lt counted = omega (arith, counted)
null_lane false rows row n count bits null lt counted = let clash = sym (get_or-replicate rows row false false lt) ∙ null in absurd cc

module _ (e : Expr) (at : ℕ) (b : Block) (m : EntryMarks) (marks : List Bool) (sound : is_block b ≡ true) (long : length marks ≡ lane_count b) (null_is : m.null ≡ get_or marks (length (entries_in b)) false)
    (are : AreMarksOf e at (entries_in b) marks (lane_count b)) where
  moved : (v w : Value) (a c : Bool) → v ≡ w → c ≡ a → IsMarkOf e at v a → IsMarkOf e at w c
  moved v w a c same marked is = λ s here. is s (here ∙ sym same) ∙ sym marked

  for_null : (row : ℕ) → row < b.rows → get_or (nulls_of b) row false ≡ true → IsMarkOf e at (get_or (values_of b) row Null) m.null
  for_null row lt null =
      let n = length (entries_in b) in
      moved (get_or (entries_in b) n Null) (get_or (values_of b) row Null) (get_or marks n false) m.null (past (entries_in b) n (omega arith) ∙ null_value b row sound lt null) null_is
      (are n (null_lane b.nullable b.rows row n (lane_count b) (map (bit_at (mask_of b)) (range_with_len 0 b.rows)) null lt refl))

  -- a row that isn't NULL
  abbrev Shows : Type 0
  Shows = (row : ℕ) → row < b.rows → IsMarkOf e at (get_or (cells_of b) row Null) (get_or m.marks.items (place_by b.kind b row) false)

  coded : b.kind ≡ kind.Dict → m.marks.items ≡ marks → Shows
  coded is found row lt =
      let code = get_or (codes_of b.rows (body_of b)) row 0 in
      let body : is_dictionary b.col_type b.rows (body_of b) ≡ true = subst (λ (k : Kind). is_body k b.col_type b.rows (body_of b) ≡ true) is (block_body b sound) in
      let count : length (entries_in b) ≡ count_of (body_of b) = ap (λ (k : Kind). length (entries_by k b)) is ∙ length-values_form b.col_type (count_of (body_of b)) (entry_bytes b.rows (body_of b)) in
      let known : code < count_of (body_of b) = code_within b.col_type b.rows row code (body_of b) body lt refl in
      moved (get_or (entries_in b) code Null) (get_or (cells_of b) row Null) (get_or marks code false) (get_or m.marks.items (place_by b.kind b row) false)
      (ap (λ (k : Kind). get_or (entries_by k b) code Null) is ∙ sym (cells_coded b.kind b.col_type b.rows row (body_of b) is lt))
      (ap (λ (k : Kind). get_or m.marks.items (place_by k b row) false) is ∙ ap (λ (ms : List Bool). get_or ms code false) found)
      (are code (omega (arith, known, count)))

  spread : b.kind ≡ kind.Runs → m.marks.items ≡ repeats marks (runs_in b).lengths → Shows
  spread is found row lt =
      let values = (runs_in b).values in
      let lengths = (runs_in b).lengths in
      let same : entries_in b ≡ values = ap (λ (k : Kind). entries_by k b) is in
      let count = ap (λ (vs : List Value). length vs) same in
      let rows : length (repeated (zip values lengths)) ≡ b.rows = subst (λ (k : Kind). length (body_cells k b.col_type b.rows (body_of b)) ≡ b.rows) is (length_cells b.kind b.col_type b.rows (body_of b) (block_body b sound)) in
      let along = along_spread (IsMarkOf e at) values marks lengths (along_from (IsMarkOf e at) values marks (omega (arith, long, count))
      (λ i below. moved (get_or (entries_in b) i Null) (get_or values i Null) (get_or marks i false) (get_or marks i false) (ap (λ (vs : List Value). get_or vs i Null) same) refl (are i (omega (arith, below, count))))) in
      moved (get_or (repeated (zip values lengths)) row Null) (get_or (cells_of b) row Null) (get_or (repeats marks lengths) row false) (get_or m.marks.items (place_by b.kind b row) false)
      (ap (λ (k : Kind). get_or (body_cells k b.col_type b.rows (body_of b)) row Null) (sym is))
      (ap (λ (k : Kind). get_or m.marks.items (place_by k b row) false) is ∙ ap (λ (ms : List Bool). get_or ms row false) found)
      (along_at (IsMarkOf e at) (repeated (zip values lengths)) (repeats marks lengths) row along (omega (arith, lt, rows)))

  shows : (lent : Entries) → AreEntriesOf b lent → AreFound lent marks m.marks.items → Shows
  shows (entries.Dictionary d) of found = coded of.0 found
  shows (entries.Runs r) of found = spread of.0 (found ∙ ap (λ x. repeats marks x.lengths) of.1)

  -- the marks of rows
  pub rows_marked : (lent : Entries) → AreEntriesOf b lent → AreFound lent marks m.marks.items → (row : ℕ) → row < b.rows → IsMarkOf e at (get_or (values_of b) row Null) (mark_at b m row)
  rows_marked lent of found row lt =
      elim (get_or (nulls_of b) row false) as (λ n. get_or (nulls_of b) row false ≡ n → IsMarkOf e at (get_or (values_of b) row Null) (if n then m.null else get_or m.marks.items (place_by b.kind b row) false)) [
        | true ↦ λ null. for_null row lt null
        | false ↦ λ some. moved (get_or (cells_of b) row Null) (get_or (values_of b) row Null) _ _ (cell_value b row (get_or (cells_of b) row Null) sound lt some refl) refl (shows lent of found row lt)
      ] refl

-- ---- rows that are kept

pub kept_is : (b : Block) (m : EntryMarks) (row : ℕ) → row < b.rows → get_or (kept_of b m) row false ≡ mark_at b m row
kept_is b m row lt = get_or-map-range_with_len (mark_at b m) 0 b.rows row row false lt (zero-add row)

-- a dictionary's row
pub coded_kept : (b : Block) (m : EntryMarks) (row code : ℕ) (null kept : Bool) → row < b.rows → b.kind ≡ kind.Dict → null ≡ get_or (nulls_of b) row false → code ≡ get_or (dictionary_in b).codes row 0
    → kept ≡ (if null then m.null else get_or m.marks.items code false) → kept ≡ get_or (kept_of b m) row false
coded_kept b m row code null kept lt is nulls codes e =
    e ∙ ap (λ (n : Bool). if n then m.null else get_or m.marks.items code false) nulls
    ∙ ap (λ (k : ℕ). if get_or (nulls_of b) row false then m.null else get_or m.marks.items k false) (codes ∙ sym (ap (λ (k : Kind). place_by k b row) is))
    ∙ sym (kept_is b m row lt)

place_is : (k : Kind) (b : Block) (row : ℕ) → (k ≡ kind.Dict → ⊥) → place_by k b row ≡ row
place_is kind.Plain b row apart = refl
place_is kind.Dict b row apart = absurd (apart refl)
place_is kind.Runs b row apart = refl
place_is kind.Frame b row apart = refl

-- a row of a block of another kind
pub row_kept : (b : Block) (m : EntryMarks) (row : ℕ) (null kept : Bool) → row < b.rows → (b.kind ≡ kind.Dict → ⊥) → null ≡ get_or (nulls_of b) row false
    → kept ≡ (if null then m.null else get_or m.marks.items row false) → kept ≡ get_or (kept_of b m) row false
row_kept b m row null kept lt apart nulls e =
    e ∙ ap (λ (n : Bool). if n then m.null else get_or m.marks.items row false) nulls
    ∙ ap (λ (k : ℕ). if get_or (nulls_of b) row false then m.null else get_or m.marks.items k false) (sym (place_is b.kind b row apart))
    ∙ sym (kept_is b m row lt)

-- ---- rows of a block without NULL

-- a row's own mark keeps it
own_mark : (b : Block) (m : EntryMarks) (row : ℕ) → row < b.rows → (b.kind ≡ kind.Dict → ⊥) → b.nullable ≡ false → get_or m.marks.items row false ≡ get_or (kept_of b m) row false
own_mark b m row lt apart nullable =
    let none : false ≡ get_or (nulls_of b) row false = sym (ap (λ (k : Bool). get_or (if k then map (bit_at (mask_of b)) (range_with_len 0 b.rows) else replicate b.rows false) row false) nullable ∙ get_or-replicate b.rows row false false lt) in
    row_kept b m row false (get_or m.marks.items row false) lt apart none refl

same_filter : (p q : ℕ → Bool) (n : ℕ) (xs : List ℕ) → ((x : ℕ) → x < n → p x ≡ q x) → AllByRecursion (λ x. x < n) xs → filter p xs ≡ filter q xs
same_filter p q n [] each all = refl
same_filter p q n (x ∷ xs) each all = λ i. (if each x all.0 i then x ∷ same_filter p q n xs each all.1 i else same_filter p q n xs each all.1 i)

-- positions whose rows are marked are those whose rows are kept
pub marked_rows : (b : Block) (m : EntryMarks) (from : ℕ) (s : Positions) (mask : List Bool) → (b.kind ≡ kind.Dict → ⊥) → b.nullable ≡ false → from + s.below ≤ b.rows → IsSelection s
    → mask ≡ take s.below (drop from m.marks.items)
    → filter (λ p. get_or mask p false) s.list ≡ filter (λ p. get_or (kept_of b m) (from + p) false) s.list
marked_rows b m from s mask apart nullable within sound is =
    same_filter _ _ s.below s.list (λ p below.
    ap (λ (ms : List Bool). get_or ms p false) is
    ∙ get_or-take s.below (drop from m.marks.items) p false below
    ∙ get_or-drop from m.marks.items p false
    ∙ own_mark b m (from + p) (omega (arith, below, within)) apart nullable) (recursion_from_All (λ p. p < s.below) s.list sound.within)

-- ---- blocks of which no row is kept

either : (first a c : Bool) → a ≡ false → c ≡ false → (if first then a else c) ≡ false
either true a c one two = one
either false a c one two = two

-- where neither NULL nor an entry is marked, no position stays
pub nothing_kept : (b : Block) (m : EntryMarks) (from : ℕ) (s : Positions) → from + s.below ≤ b.rows → IsSelection s → m.null ≡ false → list_any (λ mark. mark) m.marks.items ≡ false
    → filter (λ _. false) s.list ≡ filter (λ p. get_or (kept_of b m) (from + p) false) s.list
nothing_kept b m from s within sound null none =
    same_filter (λ _. false) (λ p. get_or (kept_of b m) (from + p) false) s.below s.list (λ p below.
    let row : from + p < b.rows = omega (arith, below, within) in
    sym (kept_is b m (from + p) row ∙ either (get_or (nulls_of b) (from + p) false) m.null (get_or m.marks.items (place_by b.kind b (from + p)) false) null (none_set m.marks.items (place_by b.kind b (from + p)) none)))
    (recursion_from_All (λ p. p < s.below) s.list sound.within)

-- marks over their block
pub predicate_is : (e : Expr) (b : Block) (m : EntryMarks) → AreMarksFor e b m → IsPredicateOf e b (predicate_of b m)
predicate_is e b m are = record {
  block = refl;
  stands = are.stands;
  entries = are.entries;
  counted = are.counted;
  kept = λ types typed row lt. subst (IsMarkOf e m.column (get_or (values_of b) row Null)) (sym (kept_is b m row lt)) (are.marked types typed row lt);
}

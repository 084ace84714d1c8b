-- What buffers hold that were filled from a row group, and the columns of a batch that they are lent as.
use Rattle.std.proofs.Common.{◌≡◌, ℕ, zero, suc, ◌+◌, ◌-◌, ◌≤◌, ◌<◌, min, Bool, true, false, not, List, [], ◌∷◌, ◌++◌, append_assoc, append-nil, length, map, get_or, take, drop, slice_index_or, slice_set, Option, Some, None, refl, ap, sym, subst, ◌∙◌, arith}
use Rattle.std.specs.Prelude.{if◌then◌else◌, slice_get, All, IfSome, unwrap_or}
use Rattle.std.specs.List.{list_all, AllByRecursion, AllZip}
use Rattle.std.proofs.lemmas.List.Elements.{All-from_recursion, filter-append, recursion_from_All}
use Rattle.std.proofs.lemmas.List.{length-drop, take_more}
use Rattle.meaning.specs.declared.catalog.Column.{Column}
use Rattle.meaning.specs.declared.value.ColType.{ColType}
use Rattle.meaning.specs.declared.value.Value.{Value}
use Rattle.meaning.specs.VectorLength.{is_vector_length}
use Rattle.blocks.specs.Block.{Block, is_block, values_of}
use Rattle.fragment_file.specs.Copying.{is_taken}
use Rattle.fragment_file.specs.Fragment.{AreBlocks, IsBlockOf, no_block}
use Rattle.vectors.specs.declared.batch.BatchColumn.{BatchColumn}
use Rattle.vectors.specs.Vector.{BatchSpec}
use Rattle.scan_select.specs.declared.buffers.ColumnBuffer.{ColumnBuffer}
use Rattle.scan_select.specs.declared.buffers.Room.{Room}
use Rattle.scan_select.specs.declared.buffers.Room.TheVariants as room
use Rattle.scan_select.specs.Buffers.{FitsGroup, HasRoom, HoldsRows, HoldsWindow, IsBufferOf, IsPosition, IsFilled, IsLendable, IsRoomFor, block_of, emptied, filled, filled_now, filled_room, filled_unless, columns_of}
use Rattle.scan_select.specs.Groups.{current_rows}
use Rattle.scan_select.specs.Scanned.{AddsColumns, AreColumnsAt, IsColumnAt, unpacked}
use Rattle.scan_select.proofs.Masks.{window_taken}
use Rattle.fragment_file.proofs.RowLaws.{length-values}

from_some : {X : Type 0} (x y : X) → Some x ≡ Some y → x ≡ y
from_some x y is = ap (λ o. unwrap_or o x) is

-- ---- the block of a column

pub block_at : (cs : List Column) (n : ℕ) (bs : List Block) (p : ℕ) (c : Column) → AreBlocks cs n bs → slice_get cs p ≡ Some c → IsBlockOf c n (get_or bs p no_block) × (p < length bs)
block_at [] n bs p c are there = absurd cc
block_at (d ∷ ds) n [] p c are there = absurd are
block_at (d ∷ ds) n (b ∷ bs) zero c are there = (subst (λ (x : Column). IsBlockOf x n b) (from_some d c there) are.0, omega arith)
block_at (d ∷ ds) n (b ∷ bs) (suc p) c are there =
    let rest = block_at ds n bs p c are.1 there in
    let below = rest.1 in
    (rest.0, omega (arith, below))

room_fits : (t u : ColType) (r : Room) → t ≡ u → IsRoomFor t r → IsRoomFor u r
room_fits t u r same is = subst (λ (k : ColType). IsRoomFor k r) same is

fits_group : (cs : List Column) (n most : ℕ) (group : List Block) (b : ColumnBuffer) → AreBlocks cs n group → IsBufferOf cs most b → FitsGroup group b
fits_group cs n most group b are is =
    let at = block_at cs n group b.column is.column are is.there in
    record { within = at.1; type = room_fits is.column.col_type (block_of group b.column).col_type b.room (sym at.0.col_type) is.type }

all_fit : (cs : List Column) (n most : ℕ) (group : List Block) (bs : List ColumnBuffer) → AreBlocks cs n group → AllByRecursion (IsBufferOf cs most) bs → AllByRecursion (FitsGroup group) bs
all_fit cs n most group [] are all = tt
all_fit cs n most group (b ∷ bs) are all = (fits_group cs n most group b are all.0, all_fit cs n most group bs are all.1)

pub all_fit_group : (cs : List Column) (n most : ℕ) (group : List Block) (bs : List ColumnBuffer) → AreBlocks cs n group → All (IsBufferOf cs most) bs → All (FitsGroup group) bs
all_fit_group cs n most group bs are all = All-from_recursion (FitsGroup group) bs (all_fit cs n most group bs are (recursion_from_All (IsBufferOf cs most) bs all))

-- ---- filling

holds_window : (group : List Block) (first p : ℕ) (r : Room) → HoldsWindow group first p (filled_room group first p r)
holds_window group first p (room.Ints v) = refl
holds_window group first p room.Texts = tt

same_type : (t : ColType) (group : List Block) (first p : ℕ) (r : Room) → IsRoomFor t r → IsRoomFor t (filled_room group first p r)
same_type t group first p (room.Ints v) is = is
same_type t group first p room.Texts is = is

same_many : (most : ℕ) (group : List Block) (first p : ℕ) (r : Room) → HasRoom most r → HasRoom most (filled_room group first p r)
same_many most group first p (room.Ints v) is = is
same_many most group first p room.Texts is = is

-- ---- a buffer that is filled, or isn't

filled_of : (cs : List Column) (most : ℕ) (group : List Block) (first : ℕ) (b : ColumnBuffer) → IsBufferOf cs most b → IsBufferOf cs most (filled group first b)
filled_of cs most group first b is =
    record { column = is.column; there = is.there; nullable = is.nullable; type = same_type is.column.col_type group first b.column b.room is.type; many = same_many most group first b.column b.room is.many }

either : (P : ColumnBuffer → Type 0) (packed : List Bool) (group : List Block) (first : ℕ) (b : ColumnBuffer) → P b → P (filled group first b) → P (filled_unless packed group first b)
either P packed group first b not_so so = elim (slice_index_or packed b.column false) as (λ k. P (if k then b else filled group first b)) [
  | true ↦ not_so
  | false ↦ so
]

-- every buffer is as it was, or filled
each_either : (P : ColumnBuffer → Type 0) (packed : List Bool) (group : List Block) (first : ℕ) (bs : List ColumnBuffer) → ((b : ColumnBuffer) → P b → P (filled group first b)) → AllByRecursion P bs → AllByRecursion P (map (filled_unless packed group first) bs)
each_either P packed group first [] keeps all = tt
each_either P packed group first (b ∷ bs) keeps all = (either P packed group first b all.0 (keeps b all.0), each_either P packed group first bs keeps all.1)

pub all_either : (P : ColumnBuffer → Type 0) (packed : List Bool) (group : List Block) (first : ℕ) (bs : List ColumnBuffer) → ((b : ColumnBuffer) → P b → P (filled group first b)) → All P bs → All P (map (filled_unless packed group first) bs)
all_either P packed group first bs keeps all = All-from_recursion P (map (filled_unless packed group first) bs) (each_either P packed group first bs keeps (recursion_from_All P bs all))

same_column : (packed : List Bool) (group : List Block) (first : ℕ) (b : ColumnBuffer) → (filled_unless packed group first b).column ≡ b.column
same_column packed group first b = either (λ x. x.column ≡ b.column) packed group first b refl refl

same_columns : (packed : List Bool) (group : List Block) (first : ℕ) (bs : List ColumnBuffer) → columns_of (map (filled_unless packed group first) bs) ≡ columns_of bs
same_columns packed group first [] = refl
same_columns packed group first (b ∷ bs) = λ i. same_column packed group first b i ∷ same_columns packed group first bs i

pub now_columns : (packed : List Bool) (current : Option (List Block)) (first : ℕ) (bs : List ColumnBuffer) → columns_of (filled_now packed current first bs) ≡ columns_of bs
now_columns packed None first bs = refl
now_columns packed (Some group) first bs = same_columns packed group first bs

-- where a scan stands when buffers were filled anew
pub stands_filled : (cs : List Column) (most : ℕ) (packed : List Bool) (current : Option (List Block)) (group_rows first rows : ℕ) (bs new : List ColumnBuffer) → IsPosition cs most current group_rows first rows bs
    → new ≡ filled_now packed current first bs → IsPosition cs most current group_rows first rows new
stands_filled cs most packed None group_rows first rows bs new at filling = subst (λ (xs : List ColumnBuffer). IsPosition cs most None group_rows first rows xs) (sym filling) at
stands_filled cs most packed (Some group) group_rows first rows bs new at filling =
    record {
      columns_within = subst (λ (ps : List ℕ). All (λ p. p < length cs) ps) (sym (ap columns_of filling ∙ same_columns packed group first bs)) at.columns_within;
      vectors = at.vectors;
      group_rows_are = at.group_rows_are;
      within = at.within;
      full = at.full;
      of_columns = subst (λ (xs : List ColumnBuffer). All (IsBufferOf cs most) xs) (sym filling) (all_either (IsBufferOf cs most) packed group first bs (filled_of cs most group first) at.of_columns);
      filled = subst (λ (xs : List ColumnBuffer). All (IsFilled group first) xs) (sym filling) (all_either (IsFilled group first) packed group first bs (λ b was is. holds_window group first b.column b.room) at.filled);
    }

-- ---- buffers that hold nothing

pub emptied_columns : (bs : List ColumnBuffer) → columns_of (map emptied bs) ≡ columns_of bs
emptied_columns [] = refl
emptied_columns (b ∷ bs) = ap (λ (ps : List ℕ). b.column ∷ ps) (emptied_columns bs)

emptied_of : (cs : List Column) (most : ℕ) (bs : List ColumnBuffer) → AllByRecursion (IsBufferOf cs most) bs → AllByRecursion (IsBufferOf cs most) (map emptied bs)
emptied_of cs most [] all = tt
emptied_of cs most (b ∷ bs) all = (record { column = all.0.column; there = all.0.there; nullable = all.0.nullable; type = all.0.type; many = all.0.many }, emptied_of cs most bs all.1)

none_filled : (group : List Block) (first : ℕ) (bs : List ColumnBuffer) → AllByRecursion (IsFilled group first) (map emptied bs)
none_filled group first [] = tt
none_filled group first (b ∷ bs) = ((λ is. absurd cc), none_filled group first bs)

-- where a scan stands when no buffer is filled yet
pub stands_empty : (cs : List Column) (most : ℕ) (current : Option (List Block)) (group_rows first rows : ℕ) (bs new : List ColumnBuffer) → All (λ p. p < length cs) (columns_of bs) → is_vector_length most ≡ true → group_rows ≡ current_rows current
    → first ≤ group_rows → rows ≡ min most (group_rows - first) → All (IsBufferOf cs most) bs → new ≡ map emptied bs → IsPosition cs most current group_rows first rows new
stands_empty cs most current group_rows first rows bs new below vectors are within full of_columns empty =
    record {
      columns_within = subst (λ (ps : List ℕ). All (λ p. p < length cs) ps) (sym (ap columns_of empty ∙ emptied_columns bs)) below;
      vectors = vectors;
      group_rows_are = are;
      within = omega (arith, within, full);
      full = full;
      of_columns = subst (λ (xs : List ColumnBuffer). All (IsBufferOf cs most) xs) (sym empty) (All-from_recursion (IsBufferOf cs most) (map emptied bs) (emptied_of cs most bs (recursion_from_All (IsBufferOf cs most) bs of_columns)));
      filled = filled_in current;
    }
  where
    filled_in : (now : Option (List Block)) → IfSome now (λ group. All (IsFilled group first) new)
    filled_in None = tt
    filled_in (Some group) = subst (λ (xs : List ColumnBuffer). All (IsFilled group first) xs) (sym empty) (All-from_recursion (IsFilled group first) (map emptied bs) (none_filled group first bs))

-- one buffer more is filled
fills_next : {X : Type 0} (f : X → X) (old : List X) (i : ℕ) (d : X) → i < length old
    → slice_set (map f (take i old) ++ drop i old) i (f (slice_index_or (map f (take i old) ++ drop i old) i d)) ≡ map f (take (suc i) old) ++ drop (suc i) old
fills_next f [] i d below = absurd (omega arith)
fills_next f (x ∷ xs) zero d below = refl
fills_next f (x ∷ xs) (suc i) d below = ap (λ ys. f x ∷ ys) (fills_next f xs i d (omega (arith, below)))

pub fills_one_more : {X : Type 0} (f : X → X) (old : List X) (i : ℕ) (d : X) → i < length old
    → slice_set (map f (take i old) ++ drop i old) i (f (slice_index_or (map f (take i old) ++ drop i old) i d)) ≡ map f (take (i + 1) old) ++ drop (i + 1) old
fills_one_more f old i d below =
    let next : suc i ≡ i + 1 = omega arith in
    fills_next f old i d below ∙ ap (λ (k : ℕ). map f (take k old) ++ drop k old) next

-- a list that was lent and filled comes back
back : {X : Type 0} (f : X → X) (xs : List X) → take (length xs) (map f xs ++ drop (length (map f xs)) xs) ≡ map f xs
back f [] = refl
back f (x ∷ xs) = ap (λ ys. f x ∷ ys) (back f xs)

pub put_back : {X : Type 0} (f : X → X) (xs lent new : List X) (len : ℕ) → lent ≡ xs → length lent ≡ len → new ≡ map f lent → take len (new ++ drop (length new) xs) ≡ map f xs
put_back f xs lent new len are long filling =
    let there : new ≡ map f xs = filling ∙ ap (map f) are in
    let count : len ≡ length xs = sym long ∙ ap length are in
    ap (λ (k : ℕ). take k (new ++ drop (length new) xs)) count ∙ ap (λ ys. take (length xs) (ys ++ drop (length ys) xs)) there ∙ back f xs

-- ---- lending

-- as many values as are asked for, or as are there
shorter : (most rows : ℕ) (vs : List Value) → rows ≡ min most (length vs) → take most vs ≡ take rows vs
shorter zero rows vs is =
    let none : rows ≡ 0 = omega (arith, is) in
    rw none refl
shorter (suc most) rows [] is =
    let none : rows ≡ 0 = omega (arith, is) in
    rw none refl
shorter (suc most) zero (v ∷ vs) is = absurd (omega (arith, is))
shorter (suc most) (suc rows) (v ∷ vs) is = ap (λ (ws : List Value). v ∷ ws) (shorter most rows vs (omega (arith, is)))

module _ (cs : List Column) (n most : ℕ) (group : List Block) (first rows : ℕ) (are : AreBlocks cs n group) (full : rows ≡ min most (n - first)) (within : first + rows ≤ n) where
  -- as many values as the room is for are just those of the rows
  holds_rows : (b : ColumnBuffer) (r : Room) → (c : Column) → slice_get cs b.column ≡ Some c → HasRoom most r → HoldsWindow group first b.column r → HoldsRows group first rows b.column r
  holds_rows b (room.Ints v) c there many holds =
      let at = block_at cs n group b.column c are there in
      let vs : List Value = drop first (values_of (block_of group b.column)) in
      let count = length-values (block_of group b.column) at.0.sound in
      let behind = length-drop first (values_of (block_of group b.column)) in
      let same = at.0.rows in
      holds ∙ ap (λ (k : ℕ). take k vs) many ∙ shorter most rows vs (omega (arith, full, count, behind, same))
  holds_rows b room.Texts c there many holds = tt

  lendable : (b : ColumnBuffer) → IsBufferOf cs most b → IsFilled group first b → IsLendable group first rows b
  lendable b is filled =
      let at = block_at cs n group b.column is.column are is.there in
      let fits = fits_group cs n most group b are is in
      let same = at.0.rows in
      record {
        column_within = at.1;
        sound = at.0.sound;
        nullable = is.nullable ∙ sym at.0.nullable;
        within = omega (arith, same, within);
        type = fits.type;
        holds = λ so. holds_rows b b.room is.column is.there is.many (filled so);
      }

  all_lendable : (bs : List ColumnBuffer) → AllByRecursion (IsBufferOf cs most) bs → AllByRecursion (IsFilled group first) bs → AllByRecursion (IsLendable group first rows) bs
  all_lendable [] all filled = tt
  all_lendable (b ∷ bs) all filled = (lendable b all.0 filled.0, all_lendable bs all.1 filled.1)

  pub are_lendable : (bs : List ColumnBuffer) → All (IsBufferOf cs most) bs → All (IsFilled group first) bs → All (IsLendable group first rows) bs
  are_lendable bs all filled = All-from_recursion (IsLendable group first rows) bs (all_lendable bs (recursion_from_All (IsBufferOf cs most) bs all) (recursion_from_All (IsFilled group first) bs filled))

-- ---- one buffer

-- the lanes of a buffer of integers, or of texts that are read
module _ (block : Block) (first rows : ℕ) (sound : is_block block ≡ true) where
  abbrev pub window : List Value
  window = take rows (drop first (values_of block))

  -- each value is of the block's type, and none is NULL where the block isn't nullable
  pub taken : (t : ColType) (nullable : Bool) → block.col_type ≡ t → block.nullable ≡ nullable → list_all (is_taken t nullable) window ≡ true
  taken t nullable type same =
      subst (λ (k : Bool). list_all (is_taken t k) window ≡ true) same
      (subst (λ (u : ColType). list_all (is_taken u block.nullable) window ≡ true) type (window_taken block first rows sound))

-- ---- one column behind the others

columns_append : (bs : List ColumnBuffer) (b : ColumnBuffer) → columns_of (bs ++ b ∷ []) ≡ columns_of bs ++ b.column ∷ []
columns_append [] b = refl
columns_append (d ∷ bs) b = ap (λ (ps : List ℕ). d.column ∷ ps) (columns_append bs b)

zip_append : {X Y : Type 0} (R : X → Y → Type 0) (xs ws : List X) (ys zs : List Y) → AllZip R xs ys → AllZip R ws zs → AllZip R (xs ++ ws) (ys ++ zs)
zip_append R [] ws [] zs all more = more
zip_append R [] ws (y ∷ ys) zs all more = absurd all
zip_append R (x ∷ xs) ws [] zs all more = absurd all
zip_append R (x ∷ xs) ws (y ∷ ys) zs all more = (all.0, zip_append R xs ws ys zs all.1 more)

-- the buffer that is next is left out, or isn't
next_columns : (packed : List Bool) (bs : List ColumnBuffer) (i : ℕ) (b : ColumnBuffer) → i < length bs → b ≡ get_or bs i b
    → unpacked packed (columns_of (take (i + 1) bs)) ≡ unpacked packed (columns_of (take i bs)) ++ unpacked packed (b.column ∷ [])
next_columns packed bs i b below is =
    ap (unpacked packed) (ap columns_of (take_more bs i b below ∙ ap (λ (x : ColumnBuffer). take i bs ++ x ∷ []) (sym is)) ∙ columns_append (take i bs) b)
    ∙ filter-append (λ p. not (slice_index_or packed p false)) (columns_of (take i bs)) (b.column ∷ [])

pub lends_no_more : (group : List Block) (first : ℕ) (packed : List Bool) (bs : List ColumnBuffer) (i : ℕ) (b : ColumnBuffer) (old now : BatchSpec) → i < length bs → b ≡ get_or bs i b → slice_index_or packed b.column false ≡ true
    → AddsColumns group first (unpacked packed (columns_of (take i bs))) old now → AddsColumns group first (unpacked packed (columns_of (take (i + 1) bs))) old now
lends_no_more group first packed bs i b old now below is marked adds =
    let none : unpacked packed (b.column ∷ []) ≡ [] = rw marked refl in
    subst (λ (ps : List ℕ). AddsColumns group first ps old now)
    (sym (next_columns packed bs i b below is ∙ ap (λ (ps : List ℕ). unpacked packed (columns_of (take i bs)) ++ ps) none ∙ append-nil (unpacked packed (columns_of (take i bs))))) adds

pub lends_one_more : (group : List Block) (first : ℕ) (packed : List Bool) (bs : List ColumnBuffer) (i : ℕ) (b : ColumnBuffer) (old now new : BatchSpec) → i < length bs → b ≡ get_or bs i b → slice_index_or packed b.column false ≡ false
    → AddsColumns group first (unpacked packed (columns_of (take i bs))) old now → AddsColumns group first (b.column ∷ []) now new → AddsColumns group first (unpacked packed (columns_of (take (i + 1) bs))) old new
lends_one_more group first packed bs i b old now new below is marked adds lent =
    let one : unpacked packed (b.column ∷ []) ≡ b.column ∷ [] = rw marked refl in
    let front : List ℕ = unpacked packed (columns_of (take i bs)) in
    subst (λ (ps : List ℕ). AddsColumns group first ps old new) (sym (next_columns packed bs i b below is ∙ ap (λ (ps : List ℕ). front ++ ps) one))
    (record {
      rows = lent.rows ∙ adds.rows;
      more = adds.more ++ lent.more;
      columns = lent.columns ∙ ap (λ (cs : List BatchColumn). cs ++ lent.more) adds.columns ∙ append_assoc old.columns adds.more lent.more;
      are = zip_append (IsColumnAt group first old.rows) front (b.column ∷ []) adds.more lent.more adds.are (subst (λ (k : ℕ). AreColumnsAt group first k (b.column ∷ []) lent.more) adds.rows lent.are);
    })

-- none is left out
pub none_packed : (ps : List ℕ) → unpacked [] ps ≡ ps
none_packed [] = refl
none_packed (p ∷ ps) = ap (λ (qs : List ℕ). p ∷ qs) (none_packed ps)

-- those that are left are among the others
left_within : (P : ℕ → Type 0) (packed : List Bool) (ps : List ℕ) → AllByRecursion P ps → AllByRecursion P (unpacked packed ps)
left_within P packed [] all = tt
left_within P packed (p ∷ ps) all = elim (slice_index_or packed p false) as (λ b. AllByRecursion P (if not b then p ∷ unpacked packed ps else unpacked packed ps)) [
  | true ↦ left_within P packed ps all.1
  | false ↦ (all.0, left_within P packed ps all.1)
]

pub unpacked_within : (n : ℕ) (packed : List Bool) (ps : List ℕ) → All (λ p. p < n) ps → All (λ p. p < n) (unpacked packed ps)
unpacked_within n packed ps all = All-from_recursion (λ p. p < n) (unpacked packed ps) (left_within (λ p. p < n) packed ps (recursion_from_All (λ p. p < n) ps all))

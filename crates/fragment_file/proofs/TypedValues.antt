-- Each value of a file is of its column's type.
use Rattle.std.proofs.Common.{◌≡◌, ℕ, zero, suc, ◌+◌, ◌*◌, ◌≤◌, ◌<◌, ℤ, Bool, true, false, List, [], ◌∷◌, ◌++◌, length, get_or, take, drop, map, zip, replicate, Some, refl, ap, subst, ◌∙◌, arith, Fits, w64}
use Rattle.std.specs.Prelude.{◌-◌, ◌^◌, ◌==◌, ◌||◌, nat_lt, nat_le, slice_get, flat_map}
use Rattle.std.specs.Int.{from_le_bytes}
use Rattle.std.specs.List.{list_all, list_any, AllByRecursion}
use Rattle.std.proofs.Math.Facts.{sfits_to_z}
use Rattle.std.proofs.lemmas.Bool.{and_parts}
use Rattle.std.proofs.lemmas.List.Elements.{All-from_recursion}
use Rattle.meaning.specs.declared.catalog.Column.{Column}
use Rattle.meaning.specs.declared.value.ColType.{ColType}
use Rattle.meaning.specs.declared.value.ColType.TheVariants as of_type
use Rattle.meaning.specs.declared.value.Value.{Value}
use Rattle.meaning.specs.declared.value.Value.TheVariants.{Null, Int, Text}
use Rattle.meaning.specs.Operators.{fits_i64}
use Rattle.meaning.specs.Typing.{is_of_type}
use Rattle.meaning.proofs.Typed.{null_typed}
use Rattle.meaning.proofs.Tests.{both}
use Rattle.columns.specs.Column.{is_text}
use Rattle.columns.proofs.CellLaws.{word_fits}
use Rattle.blocks.specs.declared.kind.Kind.{Kind}
use Rattle.blocks.specs.declared.kind.Kind.TheVariants as kind
use Rattle.blocks.specs.Numbers.{number_of, integer_of, integers}
use Rattle.columns.specs.Texts.{texts_from}
use Rattle.blocks.specs.Block.{Block, body_of, mask_length, nulls_of, cells_of, values_of, masked, is_block, is_body, body_cells, values_form, is_values_form, ends_of, joined_of, are_ends, count_of, entry_bytes, entries_of, codes_of, is_dictionary, run_lengths, run_values, run_value_bytes, run_cells, are_runs, frame_integers, offsets_of, width_of, packed_of, bytes_of_bits, is_frame}
use Rattle.blocks.proofs.Blocks.{block_body}
use Rattle.blocks.proofs.UnpackNumbers.{from_le_bytes-64}
use Rattle.wire.specs.Bytes.{number_bytes, sealed}
use Rattle.wire.proofs.Numbers.{IsBytes}
use Rattle.fragment_file.specs.declared.view.BlockLocation.{BlockLocation}
use Rattle.fragment_file.specs.Lent.{AreTypedBlocks}
use Rattle.fragment_file.specs.View.{block_in}
use Rattle.fragment_file.specs.Fragment.{FragmentSpec, IsFileOf, AreBlocks, AreGroups, AreTypedColumns, block_bytes, group_bytes, groups_bytes, group_sizes, header_bytes, fragment_bytes, fragment_magic, column_values, no_block}

-- ---- bytes

abbrev Bytes : List ℕ → Type 0
Bytes = AllByRecursion (λ b. b < 256)

bytes_are : (bytes : List ℕ) → IsBytes bytes → Bytes bytes
bytes_are [] fit = tt
bytes_are (b ∷ bytes) fit = (fit 0, bytes_are bytes (λ i. fit (suc i)))

front : (xs ys : List ℕ) → Bytes (xs ++ ys) → Bytes xs
front [] ys all = tt
front (x ∷ xs) ys all = (all.0, front xs ys all.1)

behind : (xs ys : List ℕ) → Bytes (xs ++ ys) → Bytes ys
behind [] ys all = all
behind (x ∷ xs) ys all = behind xs ys all.1

taken : (n : ℕ) (xs : List ℕ) → Bytes xs → Bytes (take n xs)
taken zero xs all = tt
taken (suc n) [] all = tt
taken (suc n) (x ∷ xs) all = (all.0, taken n xs all.1)

dropped : (n : ℕ) (xs : List ℕ) → Bytes xs → Bytes (drop n xs)
dropped zero xs all = all
dropped (suc n) [] all = tt
dropped (suc n) (x ∷ xs) all = dropped n xs all.1

few_taken : (n : ℕ) (xs : List ℕ) → length (take n xs) ≤ n
few_taken zero xs = omega arith
few_taken (suc n) [] = omega arith
few_taken (suc n) (x ∷ xs) = let rest = few_taken n xs in omega (arith, rest)

-- the first number that has more than k bytes
abbrev beyond : ℕ → ℕ
beyond zero = 1
beyond (suc k) = 256 * beyond k

number_below : (k : ℕ) (bytes : List ℕ) → length bytes ≤ k → Bytes bytes → number_of bytes < beyond k
number_below zero [] few all = omega arith
number_below zero (b ∷ bytes) few all = absurd (omega (arith, few))
number_below (suc k) [] few all = let some = number_below k [] (omega arith) tt in omega (arith, some)
number_below (suc k) (b ∷ bytes) few all = let rest = number_below k bytes (omega (arith, few)) all.1 in let byte = all.0 in omega (arith, rest, byte)

integer_fits : (bytes : List ℕ) → Bytes bytes → fits_i64 (integer_of bytes) ≡ true
integer_fits bytes all =
    let small : number_of (take 8 bytes) < beyond 8 = number_below 8 (take 8 bytes) (few_taken 8 bytes) (taken 8 bytes all) in
    let same = from_le_bytes-64 bytes in
    let fits : Fits w64 (from_le_bytes w64 bytes) = record { fits = omega (arith, small, same) } in
    word_fits (integer_of bytes) (sfits_to_z fits)

integers_fit : (m : ℕ) (bytes : List ℕ) → Bytes bytes → list_all (is_of_type of_type.Int) (map Int (integers m bytes)) ≡ true
integers_fit zero bytes all = refl
integers_fit (suc m) bytes all = both _ _ (integer_fits (take 8 bytes) (taken 8 bytes all)) (integers_fit m (drop 8 bytes) (dropped 8 bytes all))

-- ---- lists of values

module _ (p : Value → Bool) (null : p Null ≡ true) where
  all_or : (vs : List Value) (i : ℕ) → list_all p vs ≡ true → p (get_or vs i Null) ≡ true
  all_or [] i e = null
  all_or (v ∷ vs) zero e = (and_parts (p v) (list_all p vs) e).0
  all_or (v ∷ vs) (suc i) e = all_or vs i (and_parts (p v) (list_all p vs) e).1

  all_codes : (vs : List Value) (codes : List ℕ) → list_all p vs ≡ true → list_all p (map (λ code. get_or vs code Null) codes) ≡ true
  all_codes vs [] e = refl
  all_codes vs (c ∷ codes) e = both _ _ (all_or vs c e) (all_codes vs codes e)

  all_replicate : (n : ℕ) (v : Value) → p v ≡ true → list_all p (replicate n v) ≡ true
  all_replicate zero v e = refl
  all_replicate (suc n) v e = both _ _ e (all_replicate n v e)

  all_both : (xs ys : List Value) → list_all p xs ≡ true → list_all p ys ≡ true → list_all p (xs ++ ys) ≡ true
  all_both [] ys e f = f
  all_both (x ∷ xs) ys e f = let h = and_parts (p x) (list_all p xs) e in both _ _ h.0 (all_both xs ys h.1 f)

  all_runs : (vs : List Value) (ns : List ℕ) → list_all p vs ≡ true → list_all p (flat_map (λ run. replicate run.1 run.0) (zip vs ns)) ≡ true
  all_runs [] ns e = refl
  all_runs (v ∷ vs) [] e = refl
  all_runs (v ∷ vs) (n ∷ ns) e =
      let h = and_parts (p v) (list_all p vs) e in
      all_both (replicate n v) (flat_map (λ run. replicate run.1 run.0) (zip vs ns)) (all_replicate n v h.0) (all_runs vs ns h.1)

  all_masked : (nulls : List Bool) (cells : List Value) → list_all p cells ≡ true → list_all p (map masked (zip nulls cells)) ≡ true
  all_masked [] cells e = refl
  all_masked (n ∷ ns) [] e = refl
  all_masked (true ∷ ns) (c ∷ cs) e = both _ _ null (all_masked ns cs (and_parts (p c) (list_all p cs) e).1)
  all_masked (false ∷ ns) (c ∷ cs) e = let h = and_parts (p c) (list_all p cs) e in both _ _ h.0 (all_masked ns cs h.1)

-- ---- bodies

texts_fit : (ts : List (List ℕ)) → list_all is_text ts ≡ true → list_all (is_of_type of_type.Text) (map Text ts) ≡ true
texts_fit [] e = refl
texts_fit (t ∷ ts) e = let h = and_parts (is_text t) (list_all is_text ts) e in both _ _ h.0 (texts_fit ts h.1)

form_typed : (t : ColType) (m : ℕ) (bytes : List ℕ) → Bytes bytes → is_values_form t m bytes ≡ true → list_all (is_of_type t) (values_form t m bytes) ≡ true
form_typed of_type.Int m bytes all e = integers_fit m bytes all
form_typed of_type.Text m bytes all e =
    let one = and_parts (nat_le (4 * m) (length bytes)) _ e in
    let two = and_parts (are_ends 0 (ends_of m bytes) (length (joined_of m bytes))) _ one.1 in
    texts_fit (texts_from 0 (ends_of m bytes) (joined_of m bytes)) two.1

dictionary_typed : (t : ColType) (rows : ℕ) (body : List ℕ) → Bytes body → is_dictionary t rows body ≡ true → list_all (is_of_type t) (body_cells kind.Dict t rows body) ≡ true
dictionary_typed t rows body all e =
    let one = and_parts (nat_le (4 + 2 * rows) (length body)) _ e in
    let two = and_parts (nat_le 1 (count_of body)) _ one.1 in
    let three = and_parts (nat_le (count_of body) rows) _ two.1 in
    let four = and_parts (is_values_form t (count_of body) (entry_bytes rows body)) _ three.1 in
    all_codes (is_of_type t) (null_typed t) (entries_of t rows body) (codes_of rows body)
    (form_typed t (count_of body) (entry_bytes rows body) (dropped 4 (take (length body - 2 * rows) body) (taken (length body - 2 * rows) body all)) four.0)

runs_typed : (t : ColType) (rows : ℕ) (body : List ℕ) → Bytes body → are_runs t rows body ≡ true → list_all (is_of_type t) (run_cells t body) ≡ true
runs_typed t rows body all e =
    let one = and_parts (nat_le 4 (length body)) _ e in
    let two = and_parts (nat_le 1 (count_of body)) _ one.1 in
    let three = and_parts (nat_le (count_of body) rows) _ two.1 in
    let four = and_parts (nat_le (4 + 2 * count_of body) (length body)) _ three.1 in
    let five = and_parts (list_all (λ n. nat_le 1 n) (run_lengths body)) _ four.1 in
    let six = and_parts _ (is_values_form t (count_of body) (run_value_bytes body)) five.1 in
    all_runs (is_of_type t) (null_typed t) (run_values t body) (run_lengths body) (form_typed t (count_of body) (run_value_bytes body) (dropped (4 + 2 * count_of body) body all) six.1)

offsets_fit : (zs : List ℤ) → list_all fits_i64 zs ≡ true → list_all (is_of_type of_type.Int) (map Int zs) ≡ true
offsets_fit [] e = refl
offsets_fit (z ∷ zs) e = let h = and_parts (fits_i64 z) (list_all fits_i64 zs) e in both _ _ h.0 (offsets_fit zs h.1)

frame_fits : (rows : ℕ) (body : List ℕ) → is_frame rows body ≡ true → list_all fits_i64 (frame_integers rows body) ≡ true
frame_fits rows body e =
    let one = and_parts (nat_le 9 (length body)) _ e in
    let two = and_parts (nat_le (width_of body) 64) _ one.1 in
    let three = and_parts (length (packed_of body) == bytes_of_bits (rows * width_of body)) _ two.1 in
    let four = and_parts (nat_lt (number_of (packed_of body)) (2 ^ (rows * width_of body))) _ three.1 in
    let five = and_parts (list_any (λ offset. offset == 0) (offsets_of rows body)) _ four.1 in
    (and_parts (width_of body == 0 || list_any (λ offset. nat_le (2 ^ (width_of body - 1)) offset) (offsets_of rows body)) (list_all fits_i64 (frame_integers rows body)) five.1).1

body_typed : (k : Kind) (t : ColType) (rows : ℕ) (body : List ℕ) → Bytes body → is_body k t rows body ≡ true → list_all (is_of_type t) (body_cells k t rows body) ≡ true
body_typed kind.Plain t rows body all e = form_typed t rows body all e
body_typed kind.Dict t rows body all e = dictionary_typed t rows body all e
body_typed kind.Runs t rows body all e = runs_typed t rows body all e
body_typed kind.Frame of_type.Int rows body all e = offsets_fit (frame_integers rows body) (frame_fits rows body e)
body_typed kind.Frame of_type.Text rows body all e = absurd cc

values_typed : (b : Block) → is_block b ≡ true → Bytes b.payload → list_all (is_of_type b.col_type) (values_of b) ≡ true
values_typed b sound all =
    all_masked (is_of_type b.col_type) (null_typed b.col_type) (nulls_of b) (cells_of b)
    (body_typed b.kind b.col_type b.rows (body_of b) (dropped (mask_length b.nullable b.rows) b.payload all) (block_body b sound))

-- ---- files

payload_bytes : (b : Block) → Bytes (block_bytes b) → Bytes b.payload
unfolding block_bytes
payload_bytes b all = behind (number_bytes 1 _ ++ number_bytes 4 (length b.payload)) b.payload all

column_typed : (cs : List Column) (n : ℕ) (bs : List Block) (j : ℕ) (c : Column) → AreBlocks cs n bs → Bytes (flat_map block_bytes bs) → slice_get cs j ≡ Some c
    → list_all (is_of_type c.col_type) (values_of (get_or bs j no_block)) ≡ true
column_typed [] n bs j c are all at = absurd cc
column_typed (d ∷ cs) n [] j c are all at = absurd are
column_typed (d ∷ cs) n (b ∷ bs) zero c are all at =
    let same : d ≡ c = cc in
    subst (λ (t : ColType). list_all (is_of_type t) (values_of b) ≡ true) (are.0.col_type ∙ ap (λ (x : Column). x.col_type) same)
    (values_typed b are.0.sound (payload_bytes b (front (block_bytes b) (flat_map block_bytes bs) all)))
column_typed (d ∷ cs) n (b ∷ bs) (suc j) c are all at = column_typed cs n bs j c are.1 (behind (block_bytes b) (flat_map block_bytes bs) all) at

blocks_bytes : (n : ℕ) (bs : List Block) → Bytes (group_bytes (n, bs)) → Bytes (flat_map block_bytes bs)
unfolding group_bytes
blocks_bytes n bs all = behind (number_bytes 4 n) (flat_map block_bytes bs) all

columns_typed : (cs : List Column) (ns : List ℕ) (gs : List (List Block)) (j : ℕ) (c : Column) → AreGroups cs ns gs → Bytes (flat_map group_bytes (zip ns gs)) → slice_get cs j ≡ Some c
    → list_all (is_of_type c.col_type) (column_values j gs) ≡ true
columns_typed cs [] [] j c are all at = refl
columns_typed cs [] (g ∷ gs) j c are all at = absurd are
columns_typed cs (n ∷ ns) [] j c are all at = absurd are
columns_typed cs (n ∷ ns) (g ∷ gs) j c are all at =
    all_both (is_of_type c.col_type) (null_typed c.col_type) (values_of (get_or g j no_block)) (column_values j gs)
    (column_typed cs n g j c are.0 (blocks_bytes n g (front (group_bytes (n, g)) (flat_map group_bytes (zip ns gs)) all)) at)
    (columns_typed cs ns gs j c are.1 (behind (group_bytes (n, g)) (flat_map group_bytes (zip ns gs)) all) at)

all_true : (p : Value → Bool) (vs : List Value) → list_all p vs ≡ true → AllByRecursion (λ v. p v ≡ true) vs
all_true p [] e = tt
all_true p (v ∷ vs) e = let h = and_parts (p v) (list_all p vs) e in (h.0, all_true p vs h.1)

groups_of : (f : FragmentSpec) → Bytes (fragment_bytes f) → Bytes (flat_map group_bytes (zip (group_sizes f.header.rows) f.groups))
unfolding fragment_bytes groups_bytes
groups_of f all = behind (fragment_magic ++ header_bytes f.header) (flat_map group_bytes (zip (group_sizes f.header.rows) f.groups)) all

-- each value of a file of bytes is of its column's type
pub file_typed : (bytes : List ℕ) (f : FragmentSpec) → IsBytes bytes → IsFileOf bytes f → AreTypedColumns f
file_typed bytes f fit is = λ j c at.
    let whole : Bytes (sealed (fragment_bytes f)) = subst Bytes is.spelled (bytes_are bytes fit) in
    All-from_recursion (λ v. is_of_type c.col_type v ≡ true) (column_values j f.groups) (all_true (is_of_type c.col_type) (column_values j f.groups)
    (columns_typed f.header.columns (group_sizes f.header.rows) f.groups j c is.sound.groups (groups_of f (front (fragment_bytes f) _ whole)) at))

-- ---- row groups

located_bytes : (bytes : List ℕ) (p : BlockLocation) → Bytes bytes → Bytes (block_in bytes p).payload
unfolding block_in
located_bytes bytes p all = taken (p.end - p.start) (drop p.start bytes) (dropped p.start bytes all)

located_typed : (cs : List Column) (n : ℕ) (bytes : List ℕ) (ps : List BlockLocation) (j : ℕ) (c : Column) → AreBlocks cs n (map (block_in bytes) ps) → Bytes bytes → slice_get cs j ≡ Some c
    → list_all (is_of_type c.col_type) (values_of (get_or (map (block_in bytes) ps) j no_block)) ≡ true
located_typed [] n bytes ps j c are all at = absurd cc
located_typed (d ∷ cs) n bytes [] j c are all at = absurd are
located_typed (d ∷ cs) n bytes (p ∷ ps) zero c are all at =
    let same : d ≡ c = cc in
    subst (λ (t : ColType). list_all (is_of_type t) (values_of (block_in bytes p)) ≡ true) (are.0.col_type ∙ ap (λ (x : Column). x.col_type) same)
    (values_typed (block_in bytes p) are.0.sound (located_bytes bytes p all))
located_typed (d ∷ cs) n bytes (p ∷ ps) (suc j) c are all at = located_typed cs n bytes ps j c are.1 all at

-- each value of a row group in bytes is of its column's type
pub group_typed : (cs : List Column) (n : ℕ) (bytes : List ℕ) (ps : List BlockLocation) → IsBytes bytes → AreBlocks cs n (map (block_in bytes) ps) → AreTypedBlocks cs (map (block_in bytes) ps)
group_typed cs n bytes ps fit are = λ j c at.
    All-from_recursion (λ v. is_of_type c.col_type v ≡ true) (values_of (get_or (map (block_in bytes) ps) j no_block)) (all_true (is_of_type c.col_type) (values_of (get_or (map (block_in bytes) ps) j no_block))
    (located_typed cs n bytes ps j c are (bytes_are bytes fit) at))

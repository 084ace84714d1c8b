-- Cells and marks of NULL, as the values that they were made of.
use Rattle.std.proofs.Common.{◌≡◌, ℕ, zero, suc, ◌+◌, ◌≤◌, ℤ, Bool, false, true, List, [], ◌∷◌, length, map, zip, take, drop, replicate, refl, ap, sym, subst, ◌∙◌, arith}
use Rattle.std.proofs.lemmas.List.{length-drop, length-map, length-take}
use Rattle.std.specs.List.{list_all}
use Rattle.std.proofs.lemmas.Bool.{and_parts}
use Rattle.meaning.specs.declared.value.ColType.{ColType}
use Rattle.meaning.specs.declared.value.ColType.TheVariants as of_type
use Rattle.meaning.specs.declared.value.Value.{Value}
use Rattle.meaning.specs.declared.value.Value.TheVariants.{Null, Int, Text}
use Rattle.meaning.specs.Order.{is_null, number, bytes}
use Rattle.meaning.proofs.Tests.{both}
use Rattle.blocks.specs.Block.{Block, is_block, values_of}
use Rattle.fragment_file.proofs.TakenValues.{values_taken}
use Rattle.fragment_file.specs.Copying.{is_taken}
use Rattle.vectors.specs.Lanes.{lane_value, nulls_of}
use Rattle.vectors.specs.declared.nulls.Nulls.{Nulls}
use Rattle.scan_select.specs.Scanned.{IsMask}
use Rattle.fragment_file.proofs.RowLaws.{length-values}

-- values of integers, from their numbers and marks of NULL
ints_again : (nullable : Bool) (vs : List Value) → list_all (is_taken of_type.Int nullable) vs ≡ true → map (lane_value Int) (zip (map is_null vs) (map number vs)) ≡ vs
ints_again nullable [] e = refl
ints_again nullable (Null ∷ vs) e = ap (λ (ws : List Value). Null ∷ ws) (ints_again nullable vs (and_parts nullable (list_all (is_taken of_type.Int nullable) vs) e).1)
ints_again nullable (Int n ∷ vs) e = ap (λ (ws : List Value). Int n ∷ ws) (ints_again nullable vs e)
ints_again nullable (Text t ∷ vs) e = absurd cc

-- values of texts, from their bytes and marks of NULL
texts_again : (nullable : Bool) (vs : List Value) → list_all (is_taken of_type.Text nullable) vs ≡ true → map (lane_value Text) (zip (map is_null vs) (map bytes vs)) ≡ vs
texts_again nullable [] e = refl
texts_again nullable (Null ∷ vs) e = ap (λ (ws : List Value). Null ∷ ws) (texts_again nullable vs (and_parts nullable (list_all (is_taken of_type.Text nullable) vs) e).1)
texts_again nullable (Text t ∷ vs) e = ap (λ (ws : List Value). Text t ∷ ws) (texts_again nullable vs (and_parts (is_taken of_type.Text nullable (Text t)) (list_all (is_taken of_type.Text nullable) vs) e).1)
texts_again nullable (Int n ∷ vs) e = absurd cc

-- a column that isn't nullable has no NULL
none_null : (t : ColType) (vs : List Value) → list_all (is_taken t false) vs ≡ true → map is_null vs ≡ replicate (length vs) false
none_null t [] e = refl
none_null t (Null ∷ vs) e = absurd cc
none_null t (Int n ∷ vs) e = ap (λ (bs : List Bool). false ∷ bs) (none_null t vs (and_parts (is_taken t false (Int n)) (list_all (is_taken t false) vs) e).1)
none_null t (Text b ∷ vs) e = ap (λ (bs : List Bool). false ∷ bs) (none_null t vs (and_parts (is_taken t false (Text b)) (list_all (is_taken t false) vs) e).1)

-- ---- some rows of a block

all_drop : (p : Value → Bool) (n : ℕ) (vs : List Value) → list_all p vs ≡ true → list_all p (drop n vs) ≡ true
all_drop p zero vs e = e
all_drop p (suc n) [] e = e
all_drop p (suc n) (v ∷ vs) e = all_drop p n vs (and_parts (p v) (list_all p vs) e).1

all_take : (p : Value → Bool) (n : ℕ) (vs : List Value) → list_all p vs ≡ true → list_all p (take n vs) ≡ true
all_take p zero vs e = refl
all_take p (suc n) [] e = refl
all_take p (suc n) (v ∷ vs) e =
    let h = and_parts (p v) (list_all p vs) e in
    both (p v) (list_all p (take n vs)) h.0 (all_take p n vs h.1)

abbrev window : Block → ℕ → ℕ → List Value
window b first rows = take rows (drop first (values_of b))

pub window_taken : (b : Block) (first rows : ℕ) → is_block b ≡ true → list_all (is_taken b.col_type b.nullable) (window b first rows) ≡ true
window_taken b first rows sound =
    let p = is_taken b.col_type b.nullable in
    all_take p rows (drop first (values_of b)) (all_drop p first (values_of b) (values_taken b sound))

-- as many as were asked for, where the block has them
pub length-window : (b : Block) (first rows : ℕ) → is_block b ≡ true → first + rows ≤ b.rows → length (window b first rows) ≡ rows
length-window b first rows sound within =
    let all = length-values b sound in
    let behind = length-drop first (values_of b) in
    let taken = length-take rows (drop first (values_of b)) in
    omega (arith, all, behind, taken, within)

-- ---- lanes of a buffer's cells

-- what a mask marks, for as many lanes
nulls_are : (n : ℕ) (mask : List Bool) (nulls : Nulls) → n ≡ length mask → nulls_of (length mask) nulls ≡ mask → nulls_of n nulls ≡ mask
nulls_are n mask nulls long is = ap (λ (k : ℕ). nulls_of k nulls) long ∙ is

pub mask_fits : (col_type : ColType) (nullable : Bool) (vs : List Value) (mask : List Bool) → list_all (is_taken col_type nullable) vs ≡ true → mask ≡ map is_null vs → IsMask nullable mask
mask_fits col_type nullable vs mask taken is isnt =
    let none = none_null col_type vs (subst (λ (k : Bool). list_all (is_taken col_type k) vs ≡ true) isnt taken) in
    let long = ap length is ∙ length-map vs is_null in
    is ∙ none ∙ ap (λ (k : ℕ). replicate k false) (sym long)

module _ (nullable : Bool) (vs : List Value) (mask : List Bool) (nulls : Nulls) (is : mask ≡ map is_null vs) (returned : nulls_of (length mask) nulls ≡ mask) where
  pub ints_long : (ints : List ℤ) → ints ≡ map number vs → length (nulls_of (length ints) nulls) ≡ length ints
  ints_long ints cells =
      let here = ap length cells ∙ length-map vs number in
      let there = ap length is ∙ length-map vs is_null in
      let long : length ints ≡ length mask = omega (arith, here, there) in
      ap length (nulls_are (length ints) mask nulls long returned) ∙ sym long

  pub ints_lent : (ints : List ℤ) → list_all (is_taken of_type.Int nullable) vs ≡ true → ints ≡ map number vs → map (lane_value Int) (zip (nulls_of (length ints) nulls) ints) ≡ vs
  ints_lent ints taken cells =
      let here = ap length cells ∙ length-map vs number in
      let there = ap length is ∙ length-map vs is_null in
      let long : length ints ≡ length mask = omega (arith, here, there) in
      ap (λ (m : List Bool). map (lane_value Int) (zip m ints)) (nulls_are (length ints) mask nulls long returned ∙ is)
      ∙ ap (λ (ns : List ℤ). map (lane_value Int) (zip (map is_null vs) ns)) cells
      ∙ ints_again nullable vs taken

  pub texts_long : (texts : List (List ℕ)) → texts ≡ map bytes vs → length (nulls_of (length texts) nulls) ≡ length texts
  texts_long texts cells =
      let here = ap length cells ∙ length-map vs bytes in
      let there = ap length is ∙ length-map vs is_null in
      let long : length texts ≡ length mask = omega (arith, here, there) in
      ap length (nulls_are (length texts) mask nulls long returned) ∙ sym long

  pub texts_lent : (texts : List (List ℕ)) → list_all (is_taken of_type.Text nullable) vs ≡ true → texts ≡ map bytes vs → map (lane_value Text) (zip (nulls_of (length texts) nulls) texts) ≡ vs
  texts_lent texts taken cells =
      let here = ap length cells ∙ length-map vs bytes in
      let there = ap length is ∙ length-map vs is_null in
      let long : length texts ≡ length mask = omega (arith, here, there) in
      ap (λ (m : List Bool). map (lane_value Text) (zip m texts)) (nulls_are (length texts) mask nulls long returned ∙ is)
      ∙ ap (λ (ts : List (List ℕ)). map (lane_value Text) (zip (map is_null vs) ts)) cells
      ∙ texts_again nullable vs taken

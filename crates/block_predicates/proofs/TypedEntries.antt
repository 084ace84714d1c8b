-- Each entry of a block is of the block's type.
use Rattle.std.proofs.Common.{◌≡◌, ℕ, zero, suc, ◌+◌, ◌*◌, ◌≤◌, ◌<◌, Bool, true, List, [], ◌∷◌, length, get_or, take, drop, map, refl, ap, ◌∙◌, arith, Fits, w64}
use Rattle.std.specs.Prelude.{◌-◌, nat_le}
use Rattle.std.specs.Int.{from_le_bytes}
use Rattle.std.specs.List.{list_all, range_with_len, AllByRecursion}
use Rattle.std.proofs.Math.Facts.{sfits_to_z}
use Rattle.std.proofs.lemmas.Bool.{and_parts}
use Rattle.meaning.specs.declared.value.ColType.{ColType}
use Rattle.meaning.specs.declared.value.ColType.TheVariants as of_type
use Rattle.meaning.specs.declared.value.Value.{Value}
use Rattle.meaning.specs.declared.value.Value.TheVariants.{Null, Int, Text}
use Rattle.meaning.specs.Operators.{fits_i64}
use Rattle.meaning.specs.Typing.{is_of_type}
use Rattle.meaning.proofs.Typed.{null_typed}
use Rattle.meaning.proofs.Tests.{both}
use Rattle.columns.specs.Column.{is_text}
use Rattle.columns.specs.Texts.{texts_from}
use Rattle.columns.proofs.CellLaws.{word_fits}
use Rattle.blocks.specs.declared.kind.Kind.{Kind}
use Rattle.blocks.specs.declared.kind.Kind.TheVariants as kind
use Rattle.blocks.specs.Numbers.{number_of, integer_of, integers}
use Rattle.blocks.specs.Block.{Block, body_of, mask_length, is_block, is_body, values_form, is_values_form, ends_of, joined_of, are_ends, count_of, entry_bytes, entries_of, is_dictionary, run_lengths, run_values, run_value_bytes, are_runs}
use Rattle.blocks.proofs.Blocks.{block_body}
use Rattle.blocks.proofs.UnpackNumbers.{from_le_bytes-64}
use Rattle.wire.proofs.Numbers.{IsBytes}
use Rattle.block_predicates.specs.declared.entries.Entries.{Entries}
use Rattle.block_predicates.specs.Entries.{AreEntriesOf, entries_by, entries_in, lanes_of, values_in}
use Rattle.block_predicates.proofs.EntryKinds.{lent_are}

-- ---- bytes

abbrev Bytes : List ℕ → Type 0
Bytes = AllByRecursion (λ b. b < 256)

bytes_are : (bytes : List ℕ) → IsBytes bytes → Bytes bytes
bytes_are [] fit = tt
bytes_are (b ∷ bytes) fit = (fit 0, bytes_are bytes (λ i. fit (suc i)))

taken : (n : ℕ) (xs : List ℕ) → Bytes xs → Bytes (take n xs)
taken zero xs all = tt
taken (suc n) [] all = tt
taken (suc n) (x ∷ xs) all = (all.0, taken n xs all.1)

dropped : (n : ℕ) (xs : List ℕ) → Bytes xs → Bytes (drop n xs)
dropped zero xs all = all
dropped (suc n) [] all = tt
dropped (suc n) (x ∷ xs) all = dropped n xs all.1

few_taken : (n : ℕ) (xs : List ℕ) → length (take n xs) ≤ n
few_taken zero xs = omega arith
few_taken (suc n) [] = omega arith
few_taken (suc n) (x ∷ xs) = let rest = few_taken n xs in omega (arith, rest)

-- the first number that has more than k bytes
abbrev beyond : ℕ → ℕ
beyond zero = 1
beyond (suc k) = 256 * beyond k

number_below : (k : ℕ) (bytes : List ℕ) → length bytes ≤ k → Bytes bytes → number_of bytes < beyond k
number_below zero [] few all = omega arith
number_below zero (b ∷ bytes) few all = absurd (omega (arith, few))
number_below (suc k) [] few all = let some = number_below k [] (omega arith) tt in omega (arith, some)
number_below (suc k) (b ∷ bytes) few all = let rest = number_below k bytes (omega (arith, few)) all.1 in let byte = all.0 in omega (arith, rest, byte)

integer_fits : (bytes : List ℕ) → Bytes bytes → fits_i64 (integer_of bytes) ≡ true
integer_fits bytes all =
    let small : number_of (take 8 bytes) < beyond 8 = number_below 8 (take 8 bytes) (few_taken 8 bytes) (taken 8 bytes all) in
    let same = from_le_bytes-64 bytes in
    let fits : Fits w64 (from_le_bytes w64 bytes) = record { fits = omega (arith, small, same) } in
    word_fits (integer_of bytes) (sfits_to_z fits)

-- ---- values one by one

integers_fit : (m : ℕ) (bytes : List ℕ) → Bytes bytes → list_all (is_of_type of_type.Int) (map Int (integers m bytes)) ≡ true
integers_fit zero bytes all = refl
integers_fit (suc m) bytes all = both _ _ (integer_fits (take 8 bytes) (taken 8 bytes all)) (integers_fit m (drop 8 bytes) (dropped 8 bytes all))

texts_fit : (ts : List (List ℕ)) → list_all is_text ts ≡ true → list_all (is_of_type of_type.Text) (map Text ts) ≡ true
texts_fit [] e = refl
texts_fit (t ∷ ts) e = let h = and_parts (is_text t) (list_all is_text ts) e in both _ _ h.0 (texts_fit ts h.1)

form_typed : (t : ColType) (m : ℕ) (bytes : List ℕ) → Bytes bytes → is_values_form t m bytes ≡ true → list_all (is_of_type t) (values_form t m bytes) ≡ true
form_typed of_type.Int m bytes all e = integers_fit m bytes all
form_typed of_type.Text m bytes all e =
    let one = and_parts (nat_le (4 * m) (length bytes)) _ e in
    let two = and_parts (are_ends 0 (ends_of m bytes) (length (joined_of m bytes))) _ one.1 in
    texts_fit (texts_from 0 (ends_of m bytes) (joined_of m bytes)) two.1

-- ---- entries

module _ (t : ColType) (rows : ℕ) (body : List ℕ) (all : Bytes body) where
  dictionary_typed : is_dictionary t rows body ≡ true → list_all (is_of_type t) (entries_of t rows body) ≡ true
  dictionary_typed e =
      let one = and_parts (nat_le (4 + 2 * rows) (length body)) _ e in
      let two = and_parts (nat_le 1 (count_of body)) _ one.1 in
      let three = and_parts (nat_le (count_of body) rows) _ two.1 in
      let four = and_parts (is_values_form t (count_of body) (entry_bytes rows body)) _ three.1 in
      form_typed t (count_of body) (entry_bytes rows body) (dropped 4 (take (length body - 2 * rows) body) (taken (length body - 2 * rows) body all)) four.0

  runs_typed : are_runs t rows body ≡ true → list_all (is_of_type t) (run_values t body) ≡ true
  runs_typed e =
      let one = and_parts (nat_le 4 (length body)) _ e in
      let two = and_parts (nat_le 1 (count_of body)) _ one.1 in
      let three = and_parts (nat_le (count_of body) rows) _ two.1 in
      let four = and_parts (nat_le (4 + 2 * count_of body) (length body)) _ three.1 in
      let five = and_parts (list_all (λ n. nat_le 1 n) (run_lengths body)) _ four.1 in
      let six = and_parts _ (is_values_form t (count_of body) (run_value_bytes body)) five.1 in
      form_typed t (count_of body) (run_value_bytes body) (dropped (4 + 2 * count_of body) body all) six.1

kind_typed : (k : Kind) (b : Block) → is_body k b.col_type b.rows (body_of b) ≡ true → Bytes (body_of b) → list_all (is_of_type b.col_type) (entries_by k b) ≡ true
kind_typed kind.Plain b body all = refl
kind_typed kind.Dict b body all = dictionary_typed b.col_type b.rows (body_of b) all body
kind_typed kind.Runs b body all = runs_typed b.col_type b.rows (body_of b) all body
kind_typed kind.Frame b body all = refl

entries_typed : (b : Block) → is_block b ≡ true → IsBytes b.payload → list_all (is_of_type b.col_type) (entries_in b) ≡ true
entries_typed b sound bytes = kind_typed b.kind b (block_body b sound) (dropped (mask_length b.nullable b.rows) b.payload (bytes_are b.payload bytes))

-- ---- lanes

module _ (p : Value → Bool) (null : p Null ≡ true) where
  one_of : (vs : List Value) (i : ℕ) → list_all p vs ≡ true → p (get_or vs i Null) ≡ true
  one_of [] i e = null
  one_of (v ∷ vs) zero e = (and_parts (p v) (list_all p vs) e).0
  one_of (v ∷ vs) (suc i) e = one_of vs i (and_parts (p v) (list_all p vs) e).1

  all_of : (vs : List Value) (is : List ℕ) → list_all p vs ≡ true → list_all p (map (λ i. get_or vs i Null) is) ≡ true
  all_of vs [] e = refl
  all_of vs (i ∷ is) e = both _ _ (one_of vs i e) (all_of vs is e)

pub lanes_typed : (b : Block) (count : ℕ) → is_block b ≡ true → IsBytes b.payload → list_all (is_of_type b.col_type) (lanes_of (entries_in b) count) ≡ true
lanes_typed b count sound bytes = all_of (is_of_type b.col_type) (null_typed b.col_type) (entries_in b) (range_with_len 0 count) (entries_typed b sound bytes)

-- the same as they are lent
pub lent_typed : (b : Block) (lent : Entries) (count : ℕ) (t : ColType) → is_block b ≡ true → IsBytes b.payload → AreEntriesOf b lent → t ≡ b.col_type → list_all (is_of_type t) (lanes_of (values_in lent) count) ≡ true
lent_typed b lent count t sound bytes of same =
    ap (λ (vs : List Value). list_all (is_of_type t) (lanes_of vs count)) (lent_are b lent of)
    ∙ ap (λ (k : ColType). list_all (is_of_type k) (lanes_of (entries_in b) count)) same ∙ lanes_typed b count sound bytes

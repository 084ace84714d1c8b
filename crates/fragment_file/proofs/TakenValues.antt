-- A column takes each value of a block of its type.
use Rattle.std.proofs.Common.{◌≡◌, ◌≢◌, ℕ, zero, suc, ◌+◌, ◌*◌, ◌<◌, ℤ, Bool, true, false, cond, List, [], ◌∷◌, length, get_or, map, zip, replicate, Option, Some, None, Result, Ok, Err, refl, arith}
use Rattle.std.specs.Prelude.{nat_le, nat_lt, IfErr}
use Rattle.std.specs.List.{list_all, range_with_len}
use Rattle.std.specs.Str.{is_utf8}
use Rattle.std.proofs.lemmas.Bool.{and_parts, ltb-true}
use Rattle.meaning.specs.declared.value.ColType.{ColType}
use Rattle.meaning.specs.declared.value.ColType.TheVariants as of_type
use Rattle.meaning.specs.declared.value.Value.{Value}
use Rattle.meaning.specs.declared.value.Value.TheVariants.{Null, Int, Text}
use Rattle.meaning.specs.Limits.{max_text_bytes}
use Rattle.meaning.proofs.Tests.{all_flat_map, both}
use Rattle.columns.specs.declared.fault.ColumnFault.{ColumnFault}
use Rattle.columns.specs.declared.fault.ColumnFault.TheVariants as column_fault
use Rattle.columns.specs.Column.{is_text, refusal}
use Rattle.blocks.specs.declared.kind.Kind.{Kind}
use Rattle.blocks.specs.declared.kind.Kind.TheVariants as kind
use Rattle.blocks.specs.Numbers.{integers}
use Rattle.columns.specs.Texts.{texts_from}
use Rattle.blocks.specs.Block.{Block, mask_of, body_of, cells_of, values_of, masked, bit_at, is_block, is_body, body_cells, values_form, is_values_form, ends_of, joined_of, are_ends, count_of, entry_bytes, entries_of, codes_of, is_dictionary, run_lengths, run_values, run_value_bytes, run_cells, are_runs, frame_integers}
use Rattle.blocks.proofs.Blocks.{block_body}
use Rattle.blocks.proofs.Ends.{length-values_form}
use Rattle.fragment_file.specs.Copying.{is_taken}

-- ---- refusals

pub text_utf8 : (t : ColType) (nullable : Bool) (bytes : List ℕ) → is_taken t nullable (Text bytes) ≡ true → is_utf8 bytes ≡ true
text_utf8 of_type.Int nullable bytes e = absurd cc
text_utf8 of_type.Text nullable bytes e = (and_parts (is_utf8 bytes) (nat_le (length bytes) max_text_bytes) e).0

not_refused : (t : ColType) (nullable : Bool) (v : Value) → is_taken t nullable v ≡ true → refusal t nullable v ≡ None
not_refused t true Null e = refl
not_refused t false Null e = absurd cc
not_refused of_type.Int nullable (Int n) e = refl
not_refused of_type.Text nullable (Int n) e = absurd cc
not_refused of_type.Int nullable (Text bytes) e = absurd cc
not_refused of_type.Text nullable (Text bytes) e = rw ((and_parts (is_utf8 bytes) (nat_le (length bytes) max_text_bytes) e).1) refl

some_fault : ColumnFault → Option ColumnFault
some_fault f = Some f

memory_case : (f : ColumnFault) (r : Option ColumnFault) → r ≡ None → (f ≢ column_fault.Memory → r ≡ Some f) → f ≡ column_fault.Memory
memory_case column_fault.Memory r none returned = refl
memory_case column_fault.WrongType r none returned = absurd (let h = returned (λ e. cc) in cc)
memory_case column_fault.NullNotAllowed r none returned = absurd (let h = returned (λ e. cc) in cc)
memory_case column_fault.TextTooLong r none returned = absurd (let h = returned (λ e. cc) in cc)

-- a value that is taken fails for memory alone
pub only_memory : {X : Type 0} (t : ColType) (nullable : Bool) (v : Value) (r : Result X ColumnFault) → is_taken t nullable v ≡ true
    → IfErr r (λ f. f ≢ column_fault.Memory → refusal t nullable v ≡ Some f) → IfErr r (λ f. f ≡ column_fault.Memory)
only_memory t nullable v (Ok x) e returned = tt
only_memory t nullable v (Err f) e returned = memory_case f (refusal t nullable v) (not_refused t nullable v e) returned

-- ---- lists

pub all_get : {X : Type 0} (p : X → Bool) (xs : List X) (i : ℕ) (d : X) → list_all p xs ≡ true → i < length xs → p (get_or xs i d) ≡ true
all_get p [] i d e lt = absurd (omega arith)
all_get p (x ∷ xs) zero d e lt = (and_parts (p x) (list_all p xs) e).0
all_get p (x ∷ xs) (suc i) d e lt = all_get p xs i d (and_parts (p x) (list_all p xs) e).1 (omega arith)

all_replicate : {X : Type 0} (p : X → Bool) (n : ℕ) (x : X) → p x ≡ true → list_all p (replicate n x) ≡ true
all_replicate p zero x e = refl
all_replicate p (suc n) x e = both (p x) (list_all p (replicate n x)) e (all_replicate p n x e)

module _ (t : ColType) (nullable : Bool) where
  abbrev p : Value → Bool
  p = is_taken t nullable

  abbrev in_run : Value × ℕ → List Value
  in_run run = replicate run.1 run.0

  all_runs : (vs : List Value) (ns : List ℕ) → list_all p vs ≡ true → list_all (λ run. list_all p (in_run run)) (zip vs ns) ≡ true
  all_runs [] ns e = refl
  all_runs (v ∷ vs) [] e = refl
  all_runs (v ∷ vs) (n ∷ ns) e =
      let h = and_parts (p v) (list_all p vs) e in
      both (list_all p (replicate n v)) (list_all (λ run. list_all p (in_run run)) (zip vs ns)) (all_replicate p n v h.0) (all_runs vs ns h.1)

  all_codes : (es : List Value) (codes : List ℕ) (count : ℕ) → length es ≡ count → list_all p es ≡ true → list_all (λ code. nat_lt code count) codes ≡ true
      → list_all p (map (λ code. get_or es code Null) codes) ≡ true
  all_codes es [] count len e below = refl
  all_codes es (c ∷ cs) count len e below =
      let h = and_parts (nat_lt c count) (list_all (λ code. nat_lt code count) cs) below in
      let lt = ltb-true c count h.0 in
      both (p (get_or es c Null)) (list_all p (map (λ code. get_or es code Null) cs)) (all_get p es c Null e (omega (arith, lt, len))) (all_codes es cs count len e h.1)

all_ints : (nullable : Bool) (ns : List ℤ) → list_all (is_taken of_type.Int nullable) (map Int ns) ≡ true
all_ints nullable [] = refl
all_ints nullable (n ∷ ns) = all_ints nullable ns

all_texts : (nullable : Bool) (ts : List (List ℕ)) → list_all is_text ts ≡ true → list_all (is_taken of_type.Text nullable) (map Text ts) ≡ true
all_texts nullable [] e = refl
all_texts nullable (x ∷ xs) e =
    let h = and_parts (is_text x) (list_all is_text xs) e in
    both (is_text x) (list_all (is_taken of_type.Text nullable) (map Text xs)) h.0 (all_texts nullable xs h.1)

-- ---- bodies

form_taken : (t : ColType) (nullable : Bool) (m : ℕ) (bytes : List ℕ) → is_values_form t m bytes ≡ true → list_all (is_taken t nullable) (values_form t m bytes) ≡ true
form_taken of_type.Int nullable m bytes e = all_ints nullable (integers m bytes)
form_taken of_type.Text nullable m bytes e =
    let one = and_parts (nat_le (4 * m) (length bytes)) _ e in
    let two = and_parts (are_ends 0 (ends_of m bytes) (length (joined_of m bytes))) _ one.1 in
    all_texts nullable (texts_from 0 (ends_of m bytes) (joined_of m bytes)) two.1

dictionary_taken : (t : ColType) (nullable : Bool) (rows : ℕ) (body : List ℕ) → is_dictionary t rows body ≡ true → list_all (is_taken t nullable) (body_cells kind.Dict t rows body) ≡ true
dictionary_taken t nullable rows body e =
    let one = and_parts (nat_le (4 + 2 * rows) (length body)) _ e in
    let two = and_parts (nat_le 1 (count_of body)) _ one.1 in
    let three = and_parts (nat_le (count_of body) rows) _ two.1 in
    let four = and_parts (is_values_form t (count_of body) (entry_bytes rows body)) _ three.1 in
    let five = and_parts _ (list_all (λ code. nat_lt code (count_of body)) (codes_of rows body)) four.1 in
    all_codes t nullable (entries_of t rows body) (codes_of rows body) (count_of body) (length-values_form t (count_of body) (entry_bytes rows body))
    (form_taken t nullable (count_of body) (entry_bytes rows body) four.0) five.1

runs_taken : (t : ColType) (nullable : Bool) (rows : ℕ) (body : List ℕ) → are_runs t rows body ≡ true → list_all (is_taken t nullable) (run_cells t body) ≡ true
runs_taken t nullable rows body e =
    let one = and_parts (nat_le 4 (length body)) _ e in
    let two = and_parts (nat_le 1 (count_of body)) _ one.1 in
    let three = and_parts (nat_le (count_of body) rows) _ two.1 in
    let four = and_parts (nat_le (4 + 2 * count_of body) (length body)) _ three.1 in
    let five = and_parts (list_all (λ n. nat_le 1 n) (run_lengths body)) _ four.1 in
    let six = and_parts _ (is_values_form t (count_of body) (run_value_bytes body)) five.1 in
    all_flat_map (is_taken t nullable) (λ run. replicate run.1 run.0) (zip (run_values t body) (run_lengths body))
    (all_runs t nullable (run_values t body) (run_lengths body) (form_taken t nullable (count_of body) (run_value_bytes body) six.1))

body_taken : (k : Kind) (t : ColType) (nullable : Bool) (rows : ℕ) (body : List ℕ) → is_body k t rows body ≡ true → list_all (is_taken t nullable) (body_cells k t rows body) ≡ true
body_taken kind.Plain t nullable rows body e = form_taken t nullable rows body e
body_taken kind.Dict t nullable rows body e = dictionary_taken t nullable rows body e
body_taken kind.Runs t nullable rows body e = runs_taken t nullable rows body e
body_taken kind.Frame of_type.Int nullable rows body e = all_ints nullable (frame_integers rows body)
body_taken kind.Frame of_type.Text nullable rows body e = absurd cc

-- ---- values

masked_taken : (t : ColType) (nulls : List Bool) (cells : List Value) → list_all (is_taken t true) cells ≡ true → list_all (is_taken t true) (map masked (zip nulls cells)) ≡ true
masked_taken t [] cells e = refl
masked_taken t (n ∷ ns) [] e = refl
masked_taken t (true ∷ ns) (c ∷ cs) e = masked_taken t ns cs (and_parts (is_taken t true c) (list_all (is_taken t true) cs) e).1
masked_taken t (false ∷ ns) (c ∷ cs) e =
    let h = and_parts (is_taken t true c) (list_all (is_taken t true) cs) e in
    both (is_taken t true c) (list_all (is_taken t true) (map masked (zip ns cs))) h.0 (masked_taken t ns cs h.1)

plain_taken : (t : ColType) (nullable : Bool) (n : ℕ) (cells : List Value) → list_all (is_taken t nullable) cells ≡ true → list_all (is_taken t nullable) (map masked (zip (replicate n false) cells)) ≡ true
plain_taken t nullable zero cells e = refl
plain_taken t nullable (suc n) [] e = refl
plain_taken t nullable (suc n) (c ∷ cs) e =
    let h = and_parts (is_taken t nullable c) (list_all (is_taken t nullable) cs) e in
    both (is_taken t nullable c) (list_all (is_taken t nullable) (map masked (zip (replicate n false) cs))) h.0 (plain_taken t nullable n cs h.1)

nulls_taken : (t : ColType) (nullable : Bool) (rows : ℕ) (mask : List ℕ) (cells : List Value) → list_all (is_taken t nullable) cells ≡ true
    → list_all (is_taken t nullable) (map masked (zip (cond nullable (map (bit_at mask) (range_with_len 0 rows)) (replicate rows false)) cells)) ≡ true
nulls_taken t true rows mask cells e = masked_taken t (map (bit_at mask) (range_with_len 0 rows)) cells e
nulls_taken t false rows mask cells e = plain_taken t false rows cells e

pub values_taken : (b : Block) → is_block b ≡ true → list_all (is_taken b.col_type b.nullable) (values_of b) ≡ true
values_taken b sound = nulls_taken b.col_type b.nullable b.rows (mask_of b) (cells_of b) (body_taken b.kind b.col_type b.nullable b.rows (body_of b) (block_body b sound))

-- The cell of one row, in a dictionary and among runs.
use Rattle.std.proofs.Common.{◌≡◌, ℕ, zero, suc, ◌+◌, ◌-◌, ◌*◌, ◌<◌, ◌≤◌, Bool, true, ◌&&◌, nat_le, nat_lt, List, [], ◌∷◌, ◌++◌, length, get_or, take, drop, zip, replicate, sym, ap, ◌∙◌, arith}
use Rattle.std.specs.List.{list_all}
use Rattle.std.specs.Int.{w16, from_le_bytes}
use Rattle.std.proofs.lemmas.Bool.Decides.{nat_tests}
use Rattle.std.proofs.lemmas.List.{drop_more, get_or-map, get_or_append_left, get_or-append_right, get_or-replicate, length-replicate, length-drop}
use Rattle.std.proofs.lemmas.Slice.Zip.{get_or-zip, length-zip}
use Rattle.meaning.specs.declared.value.ColType.{ColType}
use Rattle.meaning.specs.declared.value.Value.{Value}
use Rattle.meaning.specs.declared.value.Value.TheVariants.{Null}
use Rattle.meaning.specs.Order.{value_cmp, is_ascending}
use Rattle.blocks.specs.Plain.{values_form, is_values_form}
use Rattle.blocks.specs.Numbers.{count_of}
use Rattle.blocks.specs.Dictionary.{entry_bytes, entries_of, codes_of, is_dictionary, dictionary_cells}
use Rattle.blocks.specs.Runs.{repeated, run_cells, run_value_bytes}
use Rattle.bit_packing.specs.Bytes.{shorts}
use Rattle.blocks.specs.DictionaryView.{IsDictionaryOf}
use Rattle.bit_packing.proofs.Chunks.{get_or-shorts, length-shorts}
use Rattle.blocks.proofs.Ends.{length-values_form}
use Rattle.bit_packing.proofs.Steps.{both_true}

pub all_at : {X : Type 0} (p : X → Bool) (xs : List X) (i : ℕ) (d : X) → i < length xs → list_all p xs ≡ true → p (get_or xs i d) ≡ true
all_at p [] i d h e = absurd (omega arith)
all_at p (x ∷ xs) zero d h e = (both_true (p x) (list_all p xs) e).0
all_at p (x ∷ xs) (suc i) d h e = all_at p xs i d (omega arith) (both_true (p x) (list_all p xs) e).1

-- ---- a dictionary

six_true : (a b c d e f : Bool) → (a && (b && (c && (d && (e && f))))) ≡ true → (a ≡ true) × (d ≡ true) × (f ≡ true)
six_true a b c d e f h =
    let h1 = both_true a (b && (c && (d && (e && f)))) h in
    let h2 = both_true b (c && (d && (e && f))) h1.1 in
    let h3 = both_true c (d && (e && f)) h2.1 in
    let h4 = both_true d (e && f) h3.1 in
    (h1.0, h4.0, (both_true e f h4.1).1)

dictionary_parts : (col_type : ColType) (rows : ℕ) (body : List ℕ) → is_dictionary col_type rows body ≡ true → (nat_le (4 + 2 * rows) (length body) ≡ true) × (is_values_form col_type (count_of body) (entry_bytes rows body) ≡ true) × (list_all (λ code. nat_lt code (count_of body)) (codes_of rows body) ≡ true)
dictionary_parts col_type rows body e =
    six_true (nat_le (4 + 2 * rows) (length body)) (nat_le 1 (count_of body)) (nat_le (count_of body) rows) (is_values_form col_type (count_of body) (entry_bytes rows body)) (is_ascending value_cmp (entries_of col_type rows body)) (list_all (λ code. nat_lt code (count_of body)) (codes_of rows body)) e

pub codes_known : (col_type : ColType) (rows : ℕ) (body : List ℕ) → is_dictionary col_type rows body ≡ true → list_all (λ code. nat_lt code (count_of body)) (codes_of rows body) ≡ true
codes_known col_type rows body e = (dictionary_parts col_type rows body e).2

pub is_dictionary_of : (col_type : ColType) (rows count : ℕ) (body entries codes : List ℕ) → is_dictionary col_type rows body ≡ true → count ≡ count_of body → entries ≡ entry_bytes rows body → codes ≡ drop (length body - 2 * rows) body → IsDictionaryOf col_type count entries rows codes
is_dictionary_of col_type rows count body entries codes e counted front back =
    let p = dictionary_parts col_type rows body e in
    let t = p.0 in
    let long : 4 + 2 * rows ≤ length body = grind (arith, nat_tests) in
    let behind = ap length back ∙ length-drop (length body - 2 * rows) body in
    record {
      entries_form = ap (λ k. is_values_form col_type k entries) counted ∙ ap (λ xs. is_values_form col_type (count_of body) xs) front ∙ p.1;
      codes_fit = omega arith;
      codes_known = ap (λ k. list_all (λ code. nat_lt code k) (shorts rows codes)) counted ∙ ap (λ xs. list_all (λ code. nat_lt code (count_of body)) (shorts rows xs)) back ∙ p.2;
    }

pub code_is : (rows row code : ℕ) (body codes : List ℕ) → row < rows → codes ≡ drop (length body - 2 * rows) body → code ≡ from_le_bytes w16 (take 2 (drop (2 * row) codes)) → code ≡ get_or (codes_of rows body) row 0
code_is rows row code body codes h same w =
    w ∙ ap (λ xs. from_le_bytes w16 (take 2 (drop (2 * row) xs))) same ∙ sym (get_or-shorts rows row (drop (length body - 2 * rows) body) h)

pub code_within : (col_type : ColType) (rows row code : ℕ) (body : List ℕ) → is_dictionary col_type rows body ≡ true → row < rows → code ≡ get_or (codes_of rows body) row 0 → code < count_of body
code_within col_type rows row code body e h w =
    let long = length-shorts rows (drop (length body - 2 * rows) body) in
    let known = all_at (λ k. nat_lt k (count_of body)) (codes_of rows body) row 0 (omega arith) (codes_known col_type rows body e) in
    let here : nat_lt code (count_of body) ≡ true = ap (λ k. nat_lt k (count_of body)) w ∙ known in
    grind (arith, nat_tests)

pub dictionary_cell_is : (col_type : ColType) (rows row code count : ℕ) (body entries : List ℕ) (v : Value) → row < rows → count ≡ count_of body → entries ≡ entry_bytes rows body → code ≡ get_or (codes_of rows body) row 0 → v ≡ get_or (values_form col_type count entries) code Null → v ≡ get_or (dictionary_cells col_type rows body) row Null
dictionary_cell_is col_type rows row code count body entries v h counted same w e =
    let long = length-shorts rows (drop (length body - 2 * rows) body) in
    let there = get_or-map (λ k. get_or (entries_of col_type rows body) k Null) (codes_of rows body) row 0 Null (omega arith) in
    e ∙ ap (λ k. get_or (values_form col_type k entries) code Null) counted ∙ ap (λ xs. get_or (values_form col_type (count_of body) xs) code Null) same ∙ ap (λ k. get_or (entries_of col_type rows body) k Null) w ∙ sym there

-- ---- runs

module _ (values : List Value) (lengths : List ℕ) (i rest : ℕ) (known : i < length values) (room : i < length lengths) where
  run_at : get_or (repeated (drop i (zip values lengths))) rest Null ≡ get_or (replicate (get_or lengths i 0) (get_or values i Null) ++ repeated (drop (i + 1) (zip values lengths))) rest Null
  run_at =
      let long = length-zip values lengths in
      let here = drop_more (zip values lengths) i (Null, 0) (omega arith) ∙ ap (λ p. p ∷ drop (i + 1) (zip values lengths)) (get_or-zip values lengths i (Null, 0) known room) in
      ap (λ runs. get_or (repeated runs) rest Null) here

  pub in_run : rest < get_or lengths i 0 → get_or (repeated (drop i (zip values lengths))) rest Null ≡ get_or values i Null
  in_run h =
      let long = length-replicate (get_or lengths i 0) (get_or values i Null) in
      run_at ∙ get_or_append_left (replicate (get_or lengths i 0) (get_or values i Null)) (repeated (drop (i + 1) (zip values lengths))) Null rest (omega arith) ∙ get_or-replicate (get_or lengths i 0) rest (get_or values i Null) Null h

  pub past_run : get_or lengths i 0 ≤ rest → get_or (repeated (drop i (zip values lengths))) rest Null ≡ get_or (repeated (drop (i + 1) (zip values lengths))) (rest - get_or lengths i 0) Null
  past_run h =
      run_at ∙ get_or-append_right (replicate (get_or lengths i 0) (get_or values i Null)) (repeated (drop (i + 1) (zip values lengths))) (get_or lengths i 0) rest Null (length-replicate (get_or lengths i 0) (get_or values i Null)) h

pub run_cell_is : (col_type : ColType) (row run count : ℕ) (body lengths values : List ℕ) (v : Value) → count ≡ count_of body → lengths ≡ drop 4 body → values ≡ run_value_bytes body
    → ((vs : List Value) → length vs ≡ count → get_or (repeated (zip vs (shorts count lengths))) row Null ≡ get_or vs run Null)
    → v ≡ get_or (values_form col_type count values) run Null → v ≡ get_or (run_cells col_type body) row Null
run_cell_is col_type row run count body lengths values v counted same_lengths same_values cell e =
    e ∙ sym (cell (values_form col_type count values) (length-values_form col_type count values))
    ∙ ap (λ xs. get_or (repeated (zip (values_form col_type count xs) (shorts count lengths))) row Null) same_values
    ∙ ap (λ xs. get_or (repeated (zip (values_form col_type count (run_value_bytes body)) (shorts count xs))) row Null) same_lengths
    ∙ ap (λ k. get_or (repeated (zip (values_form col_type k (run_value_bytes body)) (shorts k (drop 4 body)))) row Null) counted

-- What is written of cells is a body of them.
use Rattle.std.proofs.Common.{◌≡◌, ℕ, ◌+◌, ◌-◌, ◌*◌, ◌^◌, ◌<◌, ◌≤◌, ℤ, pos, Bool, true, false, List, [], ◌∷◌, ◌++◌, length, map, take, drop, get_or, refl, sym, ap, ◌∙◌, suc, zero, arith, append_assoc, length-append, zero-add}
use Rattle.std.specs.Prelude.{nat_lt, nat_le, zip, replicate, sum, ◌==◌}
use Rattle.std.specs.List.{concat, list_all, flat_map, sum_by}
use Rattle.std.specs.Int.{w32, from_le_bytes}
use Rattle.std.proofs.lemmas.Bool.{lt-ltb, ltb-true, leb-true, le-leb, eq-eqb}
use Rattle.std.proofs.lemmas.List.{take_at, drop_at, append-nil, length-map, length-replicate, drop-drop}
use Rattle.std.proofs.lemmas.List.Sums.{sum_by-cons}
use Rattle.meaning.specs.declared.value.ColType.{ColType}
use Rattle.meaning.specs.declared.value.ColType.TheVariants as of_type
use Rattle.meaning.specs.declared.value.Value.{Value}
use Rattle.meaning.specs.declared.value.Value.TheVariants.{Null, Int, Text}
use Rattle.meaning.specs.Operators.{fits_i64}
use Rattle.meaning.specs.Order.{number, bytes, same_value}
use Rattle.meaning.proofs.Tests.{all_first, all_rest, both, first_of, second_of, all_imply, not_true}
use Rattle.meaning.proofs.Same.{same_itself}
use Rattle.meaning.specs.Limits.{max_text_bytes, row_group_rows}
use Rattle.columns.specs.Column.{is_of, is_text}
use Rattle.columns.specs.Texts.{ends_from}
use Rattle.columns.specs.Texts as laid
use Rattle.columns.proofs.Joined.{texts_read}
use Rattle.blocks.specs.declared.kind.Kind.TheVariants as kind
use Rattle.bit_packing.specs.Bytes.{words, shorts, integers}
use Rattle.columns.specs.Texts.{texts_from}
use Rattle.blocks.specs.Plain.{values_form, is_values_form, are_ends}
use Rattle.blocks.specs.Numbers.{count_of}
use Rattle.blocks.specs.Runs.{repeated}
use Rattle.encodings.specs.Choosing.{body_size}
use Rattle.blocks.specs.Plain.{form_size}
use Rattle.blocks.specs.Runs.{run_heads, are_unequal_neighbours}
use Rattle.blocks.specs.Plain.{form_of, cells_at, ints_at, texts_at}
use Rattle.blocks.specs.Numbers.{integer_bytes, word_bytes, short_bytes}
use Rattle.encodings.specs.Encoded.{IsBodyOf, PutsBody}
use Rattle.blocks.specs.Runs.{AreRuns, runs_body}
use Rattle.encodings.proofs.EncodedForms.{words_read, shorts_read, integers_read, length-short_bytes, chunks_behind, length-chunks, length-word_bytes, length-integer_bytes, text_short, word_read}

-- ---- integers and texts of cells

ints_of : (cells : List Value) → list_all (is_of of_type.Int false) cells ≡ true → (map Int (map number cells) ≡ cells) × (list_all fits_i64 (map number cells) ≡ true)
ints_of [] e = (refl, refl)
ints_of (Null ∷ cells) e = absurd cc
ints_of (Int n ∷ cells) e =
    let rest = ints_of cells (all_rest (is_of of_type.Int false) (Int n) cells e) in
    (ap (λ xs. Int n ∷ xs) rest.0, both _ _ (all_first (is_of of_type.Int false) (Int n) cells e) rest.1)
ints_of (Text t ∷ cells) e = absurd cc

texts_of : (cells : List Value) → list_all (is_of of_type.Text false) cells ≡ true → (map Text (map bytes cells) ≡ cells) × (list_all is_text (map bytes cells) ≡ true)
texts_of [] e = (refl, refl)
texts_of (Null ∷ cells) e = absurd cc
texts_of (Text t ∷ cells) e =
    let rest = texts_of cells (all_rest (is_of of_type.Text false) (Text t) cells e) in
    (ap (λ xs. Text t ∷ xs) rest.0, both _ _ (all_first (is_of of_type.Text false) (Text t) cells e) rest.1)
texts_of (Int n ∷ cells) e = absurd cc

-- ---- ends

same_texts : (start : ℕ) (ends joined : List ℕ) → texts_from start ends joined ≡ laid.texts_from start ends joined
same_texts start [] joined = refl
same_texts start (e ∷ ends) joined = ap (λ ts. take (e - start) (drop start joined) ∷ ts) (same_texts e ends joined)

texts_back : (ts : List (List ℕ)) → texts_from 0 (ends_from 0 ts) (concat ts) ≡ ts
texts_back ts = same_texts 0 (ends_from 0 ts) (concat ts) ∙ texts_read [] ts

length-ends_from : (start : ℕ) (ts : List (List ℕ)) → length (ends_from start ts) ≡ length ts
length-ends_from start [] = refl
length-ends_from start (t ∷ ts) = ap suc (length-ends_from (start + length t) ts)

ends_fit : (start : ℕ) (ts : List (List ℕ)) → start + length (concat ts) < 2 ^ 32 → list_all (λ n. nat_lt n (2 ^ 32)) (ends_from start ts) ≡ true
ends_fit start [] h = refl
ends_fit start (t ∷ ts) h =
    let long = length-append t (concat ts) in
    both _ _ (lt-ltb (start + length t) (2 ^ 32) (omega arith)) (ends_fit (start + length t) ts (omega arith))

ends_end : (start : ℕ) (ts : List (List ℕ)) (total : ℕ) → start + length (concat ts) ≡ total → are_ends start (ends_from start ts) total ≡ true
ends_end start [] total e = eq-eqb start total (omega arith)
ends_end start (t ∷ ts) total e =
    let long = length-append t (concat ts) in
    both _ _ (le-leb start (start + length t) (omega arith)) (ends_end (start + length t) ts total (omega arith))

total_bound : (ts : List (List ℕ)) → list_all is_text ts ≡ true → length (concat ts) ≤ max_text_bytes * length ts
total_bound [] e = omega arith
total_bound (t ∷ ts) e =
    let short = text_short t (all_first is_text t ts e) in
    let rest = total_bound ts (all_rest is_text t ts e) in
    let long = length-append t (concat ts) in
    omega arith

text_size : (ts : List (List ℕ)) → sum_by (λ v. 4 + length (bytes v)) (map Text ts) ≡ 4 * length ts + length (concat ts)
text_size [] = refl
text_size (t ∷ ts) =
    let long = length-append t (concat ts) in
    let rest = text_size ts in
    sum_by-cons (λ v. 4 + length (bytes v)) (Text t) (map Text ts) ∙ omega (arith, rest, long)

-- ---- the values form

-- cells that are written one by one are read again
pub record IsFormOf (col_type : ColType) (cells : List Value) (body : List ℕ) : Type 0 where
  pub is : is_values_form col_type (length cells) body ≡ true
  pub cells_are : values_form col_type (length cells) body ≡ cells
  pub size : length body ≡ form_size col_type cells

form_ints : (ns : List ℤ) → list_all fits_i64 ns ≡ true → (length (flat_map integer_bytes ns) ≡ 8 * length ns) × (integers (length ns) (flat_map integer_bytes ns) ≡ ns)
form_ints ns h = (
  length-chunks integer_bytes 8 length-integer_bytes ns,
  ap (integers (length ns)) (sym (append-nil (flat_map integer_bytes ns))) ∙ integers_read ns [] h,
)

pub form_is : (col_type : ColType) (cells : List Value) → list_all (is_of col_type false) cells ≡ true → length cells ≤ row_group_rows → IsFormOf col_type cells (form_of col_type cells)
form_is of_type.Int cells e few =
    let facts = ints_of cells e in
    let ns = map number cells in
    let count : length ns ≡ length cells = length-map cells number in
    let read = form_ints ns facts.1 in
    record {
      is = eq-eqb _ _ (read.0 ∙ ap (λ n. 8 * n) count);
      cells_are = ap (map Int) (ap (λ n. integers n (flat_map integer_bytes ns)) (sym count) ∙ read.1) ∙ facts.0;
      size = read.0 ∙ ap (λ n. 8 * n) count;
    }
form_is of_type.Text cells e few =
    let facts = texts_of cells e in
    let ts = map bytes cells in
    let ends = ends_from 0 ts in
    let count : length ts ≡ length cells = length-map cells bytes in
    let many : length ends ≡ length cells = length-ends_from 0 ts ∙ count in
    let bound = total_bound ts facts.1 in
    let fit : list_all (λ n. nat_lt n (2 ^ 32)) ends ≡ true = ends_fit 0 ts (omega arith) in
    let front : words (length cells) (flat_map word_bytes ends ++ concat ts) ≡ ends = ap (λ n. words n (flat_map word_bytes ends ++ concat ts)) (sym many) ∙ words_read ends (concat ts) fit in
    let behind : drop (4 * length cells) (flat_map word_bytes ends ++ concat ts) ≡ concat ts = ap (λ n. drop (4 * n) (flat_map word_bytes ends ++ concat ts)) (sym many) ∙ chunks_behind word_bytes 4 length-word_bytes ends (concat ts) in
    let texts : texts_from 0 (words (length cells) (flat_map word_bytes ends ++ concat ts)) (drop (4 * length cells) (flat_map word_bytes ends ++ concat ts)) ≡ ts = rw (front, behind) (texts_back ts) in
    let long : length (flat_map word_bytes ends ++ concat ts) ≡ 4 * length cells + length (concat ts) =
    length-append (flat_map word_bytes ends) (concat ts) ∙ ap (λ n. n + length (concat ts)) (length-chunks word_bytes 4 length-word_bytes ends ∙ ap (λ n. 4 * n) many) in
    let body = flat_map word_bytes ends ++ concat ts in
    let in_order : are_ends 0 (words (length cells) body) (length (drop (4 * length cells) body)) ≡ true = rw (front, behind) (ends_end 0 ts (length (concat ts)) (zero-add (length (concat ts)))) in
    let all : list_all is_text (texts_from 0 (words (length cells) body) (drop (4 * length cells) body)) ≡ true = rw texts facts.1 in
    record {
      is = both _ _ (le-leb (4 * length cells) (length (flat_map word_bytes ends ++ concat ts)) (omega (arith, long))) (both _ _ in_order all);
      cells_are = ap (map Text) texts ∙ facts.0;
      size = long ∙ (ap (λ n. 4 * n + length (concat ts)) (sym count) ∙ (sym (text_size ts) ∙ ap (λ xs. sum_by (λ v. 4 + length (bytes v)) xs) facts.0));
    }

-- ---- plain

pub plain_body : (col_type : ColType) (cells : List Value) → list_all (is_of col_type false) cells ≡ true → length cells ≤ row_group_rows → IsBodyOf kind.Plain col_type cells (form_of col_type cells)
plain_body col_type cells e few =
    let form = form_is col_type cells e few in
    record { is = form.is; cells_are = form.cells_are; tight = tt; size = form.size }

-- ---- runs

pub count_back : (n : ℕ) (rest : List ℕ) → n < 2 ^ 32 → count_of (word_bytes n ++ rest) ≡ n
count_back n rest h = ap (from_le_bytes w32) (take_at (word_bytes n) rest 4 (length-word_bytes n)) ∙ word_read n h

behind_count : (n : ℕ) (rest : List ℕ) → drop 4 (word_bytes n ++ rest) ≡ rest
behind_count n rest = drop_at (word_bytes n) rest 4 (length-word_bytes n)

repeated-length : (vs : List Value) (lengths : List ℕ) → length lengths ≡ length vs → length (repeated (zip vs lengths)) ≡ sum lengths
repeated-length [] [] e = refl
repeated-length [] (n ∷ ns) e = absurd (omega arith)
repeated-length (v ∷ vs) [] e = absurd (omega arith)
repeated-length (v ∷ vs) (n ∷ ns) e =
    rw (length-append (replicate n v) (repeated (zip vs ns)), length-replicate n v, repeated-length vs ns (omega arith)) (sym (sum_by-cons (λ x. x) n ns))

fewer : (ns : List ℕ) → list_all (nat_le 1) ns ≡ true → length ns ≤ sum ns
fewer [] e = omega arith
fewer (n ∷ ns) e =
    let one = leb-true 1 n (all_first (nat_le 1) n ns e) in
    let rest = fewer ns (all_rest (nat_le 1) n ns e) in
    let s = sum_by-cons (λ x. x) n ns in
    omega (arith, s)

none_longer : (ns : List ℕ) (total : ℕ) → sum ns ≤ total → list_all (λ n. nat_le n total) ns ≡ true
none_longer [] total h = refl
none_longer (n ∷ ns) total h =
    let s = sum_by-cons (λ x. x) n ns in
    both _ _ (le-leb n total (omega (arith, s))) (none_longer ns total (omega (arith, s)))

short_fit : (ns : List ℕ) → sum ns ≤ row_group_rows → list_all (λ n. nat_lt n (2 ^ 16)) ns ≡ true
short_fit ns h = all_imply (λ n. nat_le n row_group_rows) (λ n. nat_lt n (2 ^ 16)) (λ n e. lt-ltb n (2 ^ 16) (let l = leb-true n row_group_rows e in omega arith)) ns (none_longer ns row_group_rows h)

-- the heads of runs that are apart
heads_of_run : (v : Value) (n : ℕ) (rest : List Value) → run_heads (v ∷ replicate n v ++ rest) ≡ run_heads (v ∷ rest)
heads_of_run v zero rest = refl
heads_of_run v (suc n) rest = rw (same_itself v) (heads_of_run v n rest)

pub run_heads-repeated : (vs : List Value) (lengths : List ℕ) → length lengths ≡ length vs → list_all (nat_le 1) lengths ≡ true → are_unequal_neighbours vs ≡ true → run_heads (repeated (zip vs lengths)) ≡ vs
run_heads-repeated [] [] e h u = refl
run_heads-repeated [] (n ∷ ns) e h u = absurd (omega arith)
run_heads-repeated (v ∷ vs) [] e h u = absurd (omega arith)
run_heads-repeated (v ∷ vs) (zero ∷ ns) e h u = absurd cc
run_heads-repeated (v ∷ []) (suc n ∷ []) e h u = heads_of_run v n []
run_heads-repeated (v ∷ []) (suc n ∷ m ∷ ns) e h u = absurd (omega arith)
run_heads-repeated (v ∷ w ∷ vs) (suc n ∷ []) e h u = absurd (omega arith)
run_heads-repeated (v ∷ w ∷ vs) (suc n ∷ zero ∷ ns) e h u = absurd (let z : nat_le 1 0 ≡ true = all_first (nat_le 1) 0 ns (all_rest (nat_le 1) (suc n) (zero ∷ ns) h) in cc)
run_heads-repeated (v ∷ w ∷ vs) (suc n ∷ suc m ∷ ns) e h u =
    let rest = run_heads-repeated (w ∷ vs) (suc m ∷ ns) (omega arith) (all_rest (nat_le 1) (suc n) (suc m ∷ ns) h) (second_of _ _ u) in
    let apart : same_value v w ≡ false = not_true (same_value v w) (first_of _ _ u) in
    heads_of_run v n (w ∷ replicate m w ++ repeated (zip vs ns)) ∙ rw apart (ap (λ xs. v ∷ xs) rest)

at_is : (p : Value → Bool) (cells : List Value) (index : ℕ) → list_all p cells ≡ true → index < length cells → p (get_or cells index Null) ≡ true
at_is p [] index e h = absurd (omega arith)
at_is p (v ∷ cells) zero e h = all_first p v cells e
at_is p (v ∷ cells) (suc index) e h = at_is p cells index (all_rest p v cells e) (omega arith)

-- what all cells are, those at some indexes are
pub all_at : (p : Value → Bool) (cells : List Value) (indexes : List ℕ) → list_all p cells ≡ true → list_all (λ index. nat_lt index (length cells)) indexes ≡ true → list_all p (cells_at cells indexes) ≡ true
all_at p cells [] e h = refl
all_at p cells (index ∷ indexes) e h =
    let q : ℕ → Bool = λ at. nat_lt at (length cells) in
    both _ _ (at_is p cells index e (ltb-true index (length cells) (all_first q index indexes h))) (all_at p cells indexes e (all_rest q index indexes h))

some_run : (ns : List ℕ) → 1 ≤ sum ns → 1 ≤ length ns
some_run [] h = absurd (omega arith)
some_run (n ∷ ns) h = omega arith

pub runs_are : (col_type : ColType) (cells : List Value) (starts lengths : List ℕ) → list_all (is_of col_type false) cells ≡ true → length cells ≤ row_group_rows → 1 ≤ length cells → AreRuns cells starts lengths → IsBodyOf kind.Runs col_type cells (runs_body col_type cells starts lengths)
runs_are col_type cells starts lengths e few some r =
    let heads = cells_at cells starts in
    let m = length starts in
    let form = form_of col_type heads in
    let tail = flat_map short_bytes lengths ++ form in
    let body = word_bytes m ++ tail in
    let heads_long : length heads ≡ m = length-map starts (λ index. get_or cells index Null) in
    let pairs : length lengths ≡ length heads = r.a_length_each ∙ sym heads_long in
    let total : sum lengths ≡ length cells = sym (repeated-length heads lengths pairs) ∙ ap length r.cells_are in
    let not_more : length lengths ≤ sum lengths = fewer lengths r.not_empty in
    let one : 1 ≤ length lengths = some_run lengths (omega arith) in
    let same : length lengths ≡ m = r.a_length_each in
    let heads_few : length heads ≤ row_group_rows = omega arith in
    let values = form_is col_type heads (all_at (is_of col_type false) cells starts e r.within) heads_few in
    let m_fits : m < 2 ^ 32 = omega arith in
    let count : count_of body ≡ m = count_back m tail m_fits in
    let behind : drop 4 body ≡ tail = behind_count m tail in
    let ls : shorts m tail ≡ lengths = ap (λ n. shorts n tail) (sym same) ∙ shorts_read lengths form (short_fit lengths (omega arith)) in
    let seam : drop (4 + 2 * m) body ≡ form =
    sym (drop-drop (2 * m) 4 body) ∙ (ap (drop (2 * m)) behind ∙ (ap (λ n. drop (2 * n) tail) (sym same) ∙ chunks_behind short_bytes 2 length-short_bytes lengths form)) in
    let run_ls : shorts (count_of body) (drop 4 body) ≡ lengths = rw (count, behind) ls in
    let run_vs : drop (4 + 2 * count_of body) body ≡ form = rw count seam in
    let held : values_form col_type (count_of body) (drop (4 + 2 * count_of body) body) ≡ heads = rw (run_vs, count, ← heads_long) values.cells_are in
    let long : length body ≡ 4 + (2 * m + length form) =
    length-append (word_bytes m) tail ∙ rw (length-word_bytes m, length-append (flat_map short_bytes lengths) form, length-chunks short_bytes 2 length-short_bytes lengths, same) refl in
    let t1 : nat_le 4 (length body) ≡ true = le-leb 4 (length body) (omega (arith, long)) in
    let t2 : nat_le 1 (count_of body) ≡ true = rw count (le-leb 1 m (omega arith)) in
    let t3 : nat_le (count_of body) (length cells) ≡ true = rw count (le-leb m (length cells) (omega arith)) in
    let t4 : nat_le (4 + 2 * count_of body) (length body) ≡ true = rw count (le-leb (4 + 2 * m) (length body) (omega (arith, long))) in
    let t5 : list_all (nat_le 1) (shorts (count_of body) (drop 4 body)) ≡ true = rw run_ls r.not_empty in
    let t6 : (sum (shorts (count_of body) (drop 4 body)) == length cells) ≡ true = rw run_ls (eq-eqb (sum lengths) (length cells) total) in
    let t7 : is_values_form col_type (count_of body) (drop (4 + 2 * count_of body) body) ≡ true = rw (run_vs, count, ← heads_long) values.is in
    let own : run_heads cells ≡ heads = ap run_heads (sym r.cells_are) ∙ run_heads-repeated heads lengths pairs r.not_empty r.apart in
    record {
      is = both _ _ t1 (both _ _ t2 (both _ _ t3 (both _ _ t4 (both _ _ t5 (both _ _ t6 t7)))));
      cells_are = rw (held, run_ls) r.cells_are;
      tight = rw held r.apart;
      size = rw (own, long, heads_long, values.size) (omega arith);
    }

-- ---- cells of integers and of texts

ints_at_indexes : (ns : List ℤ) (indexes : List ℕ) → map number (cells_at (map Int ns) indexes) ≡ ints_at ns indexes
ints_at_indexes ns [] = refl
ints_at_indexes ns (index ∷ indexes) =
    let here = int_at ns index in
    let rest = ints_at_indexes ns indexes in
    cc
  where
    int_at : (ns : List ℤ) (index : ℕ) → number (get_or (map Int ns) index Null) ≡ get_or ns index (pos 0)
    int_at [] index = refl
    int_at (n ∷ ns) zero = refl
    int_at (n ∷ ns) (suc index) = int_at ns index

texts_at_indexes : (ts : List (List ℕ)) (indexes : List ℕ) → map bytes (cells_at (map Text ts) indexes) ≡ texts_at ts indexes
texts_at_indexes ts [] = refl
texts_at_indexes ts (index ∷ indexes) =
    let here = text_at ts index in
    let rest = texts_at_indexes ts indexes in
    cc
  where
    text_at : (ts : List (List ℕ)) (index : ℕ) → bytes (get_or (map Text ts) index Null) ≡ get_or ts index []
    text_at [] index = refl
    text_at (t ∷ ts) zero = refl
    text_at (t ∷ ts) (suc index) = text_at ts index

pub numbers_back : (ns : List ℤ) → map number (map Int ns) ≡ ns
numbers_back [] = refl
numbers_back (n ∷ ns) = ap (λ ms. n ∷ ms) (numbers_back ns)

bytes_back : (ts : List (List ℕ)) → map bytes (map Text ts) ≡ ts
bytes_back [] = refl
bytes_back (t ∷ ts) = ap (λ us. t ∷ us) (bytes_back ts)

pub form_at_ints : (ns : List ℤ) (indexes : List ℕ) → form_of of_type.Int (cells_at (map Int ns) indexes) ≡ flat_map integer_bytes (ints_at ns indexes)
form_at_ints ns indexes = ap (flat_map integer_bytes) (ints_at_indexes ns indexes)

abbrev pub laid_texts : List (List ℕ) → List ℕ
laid_texts ts = flat_map word_bytes (ends_from 0 ts) ++ concat ts

pub form_at_texts : (ts : List (List ℕ)) (indexes : List ℕ) → form_of of_type.Text (cells_at (map Text ts) indexes) ≡ laid_texts (texts_at ts indexes)
form_at_texts ts indexes = ap laid_texts (texts_at_indexes ts indexes)

pub puts_plain_ints : (before after : List ℕ) (ns : List ℤ) → list_all (is_of of_type.Int false) (map Int ns) ≡ true → length (map Int ns) ≤ row_group_rows → after ≡ before ++ flat_map integer_bytes ns → PutsBody before after kind.Plain of_type.Int (map Int ns)
puts_plain_ints before after ns e few p =
    (form_of of_type.Int (map Int ns), p ∙ ap (λ ms. before ++ flat_map integer_bytes ms) (sym (numbers_back ns)), plain_body of_type.Int (map Int ns) e few)

pub puts_plain_texts : (before after : List ℕ) (ts : List (List ℕ)) → list_all (is_of of_type.Text false) (map Text ts) ≡ true → length (map Text ts) ≤ row_group_rows → after ≡ before ++ laid_texts ts → PutsBody before after kind.Plain of_type.Text (map Text ts)
puts_plain_texts before after ts e few p =
    (form_of of_type.Text (map Text ts), p ∙ ap (λ us. before ++ laid_texts us) (sym (bytes_back ts)), plain_body of_type.Text (map Text ts) e few)

joined_runs : (before a b c count lengths form : List ℕ) → a ≡ before ++ count → b ≡ a ++ lengths → c ≡ b ++ form → c ≡ before ++ (count ++ (lengths ++ form))
joined_runs before a b c count lengths form p q r =
    r ∙ (ap (λ xs. xs ++ form) (q ∙ ap (λ xs. xs ++ lengths) p) ∙ (append_assoc (before ++ count) lengths form ∙ append_assoc before count (lengths ++ form)))

pub puts_runs : (col_type : ColType) (cells : List Value) (starts lengths before a b after : List ℕ) → list_all (is_of col_type false) cells ≡ true → length cells ≤ row_group_rows → 1 ≤ length cells → AreRuns cells starts lengths → a ≡ before ++ word_bytes (length starts) → b ≡ a ++ flat_map short_bytes lengths → after ≡ b ++ form_of col_type (cells_at cells starts) → PutsBody before after kind.Runs col_type cells
puts_runs col_type cells starts lengths before a b after e few some r p q s =
    (runs_body col_type cells starts lengths, joined_runs before a b after (word_bytes (length starts)) (flat_map short_bytes lengths) (form_of col_type (cells_at cells starts)) p q s, runs_are col_type cells starts lengths e few some r)

-- no more runs than cells
pub runs_few : (cells : List Value) (starts lengths : List ℕ) → AreRuns cells starts lengths → length starts ≤ length cells
runs_few cells starts lengths r =
    let heads = cells_at cells starts in
    let heads_long : length heads ≡ length starts = length-map starts (λ index. get_or cells index Null) in
    let pairs : length lengths ≡ length heads = r.a_length_each ∙ sym heads_long in
    let total : sum lengths ≡ length cells = sym (repeated-length heads lengths pairs) ∙ ap length r.cells_are in
    let not_more : length lengths ≤ sum lengths = fewer lengths r.not_empty in
    let same : length lengths ≡ length starts = r.a_length_each in
    omega arith

pub plain_text_size : (ts : List (List ℕ)) → body_size kind.Plain of_type.Text (map Text ts) ≡ 4 * length ts + length (concat ts)
plain_text_size ts = text_size ts

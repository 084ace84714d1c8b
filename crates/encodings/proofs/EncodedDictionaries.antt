-- Entries and codes are a dictionary of the cells.
use Rattle.std.proofs.Common.{◌≡◌, ℕ, ◌+◌, ◌-◌, ◌*◌, ◌^◌, ◌<◌, ◌≤◌, Bool, true, false, List, [], ◌∷◌, ◌++◌, length, map, take, drop, get_or, refl, sym, ap, ◌∙◌, suc, zero, arith, append_assoc, length-append}
use Rattle.std.specs.Prelude.{nat_lt, nat_le}
use Rattle.std.specs.List.{list_all, list_any, flat_map}
use Rattle.std.specs.Cmp.{both_ways}
use Rattle.std.specs.Ordering.{eq_by_cmp}
use Rattle.std.proofs.lemmas.Bool.{lt-ltb, ltb-true, le-leb}
use Rattle.std.proofs.lemmas.List.{take_at, drop_at, append-nil, length-map}
use Rattle.meaning.specs.Limits.{row_group_rows}
use Rattle.meaning.specs.declared.value.ColType.{ColType}
use Rattle.meaning.specs.declared.value.Value.{Value}
use Rattle.meaning.specs.declared.value.Value.TheVariants.{Null}
use Rattle.meaning.specs.Order.{same_value, value_cmp, ascending_set, is_ascending}
use Rattle.meaning.proofs.Orders.{value_total, value_exact}
use Rattle.meaning.proofs.Sets.{same_ascending_set, ascending_set_itself}
use Rattle.meaning.proofs.Tests.{all_first, all_rest, all_imply, both, or_second, or_first, or_other}
use Rattle.meaning.proofs.Same.{same_itself}
use Rattle.columns.specs.Column.{is_of}
use Rattle.blocks.specs.declared.kind.Kind.TheVariants as kind
use Rattle.bit_packing.specs.Bytes.{shorts}
use Rattle.blocks.specs.Plain.{values_form, is_values_form}
use Rattle.blocks.specs.Numbers.{count_of}
use Rattle.blocks.specs.Plain.{form_size}
use Rattle.encodings.specs.Encoded.{IsBodyOf, PutsBody}
use Rattle.blocks.specs.Dictionary.{AreEntries, dictionary_body}
use Rattle.blocks.specs.Plain.{cells_at, form_of}
use Rattle.blocks.specs.Numbers.{word_bytes, short_bytes}
use Rattle.encodings.proofs.EncodedForms.{shorts_read, length-word_bytes, length-short_bytes, length-chunks}
use Rattle.encodings.proofs.EncodedBodies.{form_is, all_at, count_back}

any_get : (t : Value → Bool) (cells : List Value) (row : ℕ) → row < length cells → t (get_or cells row Null) ≡ true → list_any t cells ≡ true
any_get t [] row h e = absurd (omega arith)
any_get t (v ∷ cells) zero h e = or_first (t v) (list_any t cells) e
any_get t (v ∷ cells) (suc row) h e = or_second (t v) (list_any t cells) (any_get t cells row (omega arith) e)

-- what one of the chosen cells has, one of all cells has
any_at : (t : Value → Bool) (cells : List Value) (entry_rows : List ℕ) → list_all (λ row. nat_lt row (length cells)) entry_rows ≡ true → list_any t (cells_at cells entry_rows) ≡ true → list_any t cells ≡ true
any_at t cells [] h e = absurd cc
any_at t cells (row ∷ entry_rows) h e =
    let q : ℕ → Bool = λ at. nat_lt at (length cells) in
    let v = get_or cells row Null in
    elim (t v) as (λ b. t v ≡ b → list_any t cells ≡ true) [
      | true ↦ λ f. any_get t cells row (ltb-true row (length cells) (all_first q row entry_rows h)) f
      | false ↦ λ f. any_at t cells entry_rows (all_rest q row entry_rows h) (or_other (t v) (list_any t (cells_at cells entry_rows)) e f)
    ] refl

-- each entry is some cell
each_used : (cells : List Value) (entry_rows : List ℕ) → list_all (λ row. nat_lt row (length cells)) entry_rows ≡ true → list_all (λ entry. list_any (same_value entry) cells) (cells_at cells entry_rows) ≡ true
each_used cells [] h = refl
each_used cells (row ∷ entry_rows) h =
    let q : ℕ → Bool = λ at. nat_lt at (length cells) in
    both _ _ (any_get (same_value (get_or cells row Null)) cells row (ltb-true row (length cells) (all_first q row entry_rows h)) (same_itself (get_or cells row Null))) (each_used cells entry_rows (all_rest q row entry_rows h))

some_code : (codes : List ℕ) (n : ℕ) → 1 ≤ length codes → list_all (λ code. nat_lt code n) codes ≡ true → 1 ≤ n
some_code [] n h e = absurd (omega arith)
some_code (code ∷ codes) n h e = let l = ltb-true code n (all_first (λ c. nat_lt c n) code codes e) in omega arith

-- the entries are the set of the cells
pub entries_set : (cells : List Value) (entry_rows codes : List ℕ) → AreEntries cells entry_rows codes → ascending_set value_cmp cells ≡ cells_at cells entry_rows
entries_set cells entry_rows codes d =
    let entries = cells_at cells entry_rows in
    let entries_long : length entries ≡ length entry_rows = length-map entry_rows (λ row. get_or cells row Null) in
    let turn : (t : Value → Bool) → list_any t cells ≡ true → list_any t entries ≡ true =
    λ t q. any_at t entries codes (ap (λ n. list_all (λ code. nat_lt code n) codes) entries_long ∙ d.codes_within) (ap (list_any t) d.cells_are ∙ q) in
    same_ascending_set value_total value_exact cells entries (λ q. both_ways _ _ (turn (eq_by_cmp value_cmp q)) (any_at (eq_by_cmp value_cmp q) cells entry_rows d.within)) ∙ ascending_set_itself value_total entries d.ascending

pub dictionary_is : (col_type : ColType) (cells : List Value) (entry_rows codes : List ℕ) → list_all (is_of col_type false) cells ≡ true → length cells ≤ row_group_rows → 1 ≤ length cells → AreEntries cells entry_rows codes → IsBodyOf kind.Dict col_type cells (dictionary_body col_type cells entry_rows codes)
dictionary_is col_type cells entry_rows codes e few some d =
    let entries = cells_at cells entry_rows in
    let m = length entry_rows in
    let rows = length cells in
    let form = form_of col_type entries in
    let last = flat_map short_bytes codes in
    let front = word_bytes m ++ form in
    let body = front ++ last in
    let entries_long : length entries ≡ m = length-map entry_rows (λ row. get_or cells row Null) in
    let codes_long : length codes ≡ rows = sym (length-map codes (λ code. get_or entries code Null)) ∙ ap length d.cells_are in
    let m_few : m ≤ row_group_rows = let f = d.few in omega arith in
    let values = form_is col_type entries (all_at (is_of col_type false) cells entry_rows e d.within) (let l = entries_long in omega arith) in
    let whole : body ≡ word_bytes m ++ (form ++ last) = append_assoc (word_bytes m) form last in
    let count : count_of body ≡ m = ap count_of whole ∙ count_back m (form ++ last) (omega arith) in
    let last_long : length last ≡ 2 * rows = length-chunks short_bytes 2 length-short_bytes codes ∙ ap (λ n. 2 * n) codes_long in
    let front_long : length front ≡ 4 + length form = length-append (word_bytes m) form ∙ ap (λ n. n + length form) (length-word_bytes m) in
    let long : length body ≡ (4 + length form) + 2 * rows = length-append front last ∙ (ap (λ n. n + length last) front_long ∙ ap (λ n. (4 + length form) + n) last_long) in
    let cut : length front ≡ length body - 2 * rows = omega arith in
    let middle : drop 4 (take (length body - 2 * rows) body) ≡ form = ap (drop 4) (take_at front last (length body - 2 * rows) cut) ∙ drop_at (word_bytes m) form 4 (length-word_bytes m) in
    let behind : drop (length body - 2 * rows) body ≡ last = drop_at front last (length body - 2 * rows) cut in
    let small : list_all (λ n. nat_lt n (2 ^ 16)) codes ≡ true = all_imply (λ c. nat_lt c m) (λ n. nat_lt n (2 ^ 16)) (λ n q. lt-ltb n (2 ^ 16) (let l = ltb-true n m q in omega arith)) codes d.codes_within in
    let returned : shorts rows (drop (length body - 2 * rows) body) ≡ codes =
    ap (shorts rows) behind ∙ (ap (λ n. shorts n last) (sym codes_long) ∙ (ap (shorts (length codes)) (sym (append-nil last)) ∙ shorts_read codes [] small)) in
    let held : values_form col_type (count_of body) (drop 4 (take (length body - 2 * rows) body)) ≡ entries =
    ap (values_form col_type (count_of body)) middle ∙ (ap (λ n. values_form col_type n form) (count ∙ sym entries_long) ∙ values.cells_are) in
    let is_form : is_values_form col_type (count_of body) (drop 4 (take (length body - 2 * rows) body)) ≡ true =
    ap (is_values_form col_type (count_of body)) middle ∙ (ap (λ n. is_values_form col_type n form) (count ∙ sym entries_long) ∙ values.is) in
    let one : 1 ≤ m = some_code codes m (let l = codes_long in omega arith) d.codes_within in
    let t1 : nat_le (4 + 2 * rows) (length body) ≡ true = le-leb (4 + 2 * rows) (length body) (omega arith) in
    let t2 : nat_le 1 (count_of body) ≡ true = rw count (le-leb 1 m one) in
    let t3 : nat_le (count_of body) rows ≡ true = rw count (le-leb m rows d.few) in
    let t5 : is_ascending value_cmp (values_form col_type (count_of body) (drop 4 (take (length body - 2 * rows) body))) ≡ true = ap (is_ascending value_cmp) held ∙ d.ascending in
    let t6 : list_all (λ code. nat_lt code (count_of body)) (shorts rows (drop (length body - 2 * rows) body)) ≡ true = rw (returned, count) d.codes_within in
    let turn : (t : Value → Bool) → list_any t cells ≡ true → list_any t entries ≡ true =
    λ t q. any_at t entries codes (ap (λ n. list_all (λ code. nat_lt code n) codes) entries_long ∙ d.codes_within) (ap (list_any t) d.cells_are ∙ q) in
    let set : ascending_set value_cmp cells ≡ entries =
    same_ascending_set value_total value_exact cells entries (λ q. both_ways _ _ (turn (eq_by_cmp value_cmp q)) (any_at (eq_by_cmp value_cmp q) cells entry_rows d.within)) ∙ ascending_set_itself value_total entries d.ascending in
    record {
      is = both _ _ t1 (both _ _ t2 (both _ _ t3 (both _ _ is_form (both _ _ t5 t6))));
      cells_are = ap (λ vs. map (λ code. get_or vs code Null) (shorts rows (drop (length body - 2 * rows) body))) held ∙ (ap (λ cs. map (λ code. get_or entries code Null) cs) returned ∙ d.cells_are);
      tight = ap (list_all (λ entry. list_any (same_value entry) cells)) held ∙ each_used cells entry_rows d.within;
      size = long ∙ ap (λ n. (4 + n) + 2 * rows) (values.size ∙ ap (form_size col_type) (sym set));
    }

pub puts_dictionary : (col_type : ColType) (cells : List Value) (entry_rows codes before a b after : List ℕ) → list_all (is_of col_type false) cells ≡ true → length cells ≤ row_group_rows → 1 ≤ length cells → AreEntries cells entry_rows codes → a ≡ before ++ word_bytes (length entry_rows) → b ≡ a ++ form_of col_type (cells_at cells entry_rows) → after ≡ b ++ flat_map short_bytes codes → PutsBody before after kind.Dict col_type cells
puts_dictionary col_type cells entry_rows codes before a b after e few some d p q r =
    let form = form_of col_type (cells_at cells entry_rows) in
    let last = flat_map short_bytes codes in (
      dictionary_body col_type cells entry_rows codes,
      r ∙ (ap (λ xs. xs ++ last) (q ∙ (ap (λ xs. xs ++ form) p ∙ append_assoc before (word_bytes (length entry_rows)) form)) ∙ append_assoc before (word_bytes (length entry_rows) ++ form) last),
      dictionary_is col_type cells entry_rows codes e few some d,
    )

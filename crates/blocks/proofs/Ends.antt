-- The ends of texts, and the texts between them.
use Rattle.std.proofs.Common.{◌≡◌, ℕ, zero, suc, ◌+◌, ◌-◌, ◌*◌, ◌<◌, ◌≤◌, Bool, true, ◌&&◌, nat_le, nat_eq, List, [], ◌∷◌, length, get_or, take, drop, ℤ, pos, refl, sym, ap, ◌∙◌, arith}
use Rattle.std.specs.List.{list_all}
use Rattle.std.specs.Int.{w32, from_le_bytes}
use Rattle.std.proofs.lemmas.Bool.Decides.{nat_tests}
use Rattle.std.proofs.lemmas.List.{at_drop_more, at_drop_all, get_or-map, length-map}
use Rattle.meaning.specs.declared.value.ColType.{ColType}
use Rattle.meaning.specs.declared.value.ColType.TheVariants as of_type
use Rattle.meaning.specs.declared.value.Value.TheVariants.{Null, Int, Text}
use Rattle.columns.specs.Column.{is_text}
use Rattle.blocks.specs.Plain.{are_ends, ends_of, joined_of, values_form}
use Rattle.bit_packing.specs.Bytes.{words, integer_of, integers}
use Rattle.columns.specs.Texts.{texts_from}
use Rattle.bit_packing.proofs.Chunks.{get_or-words, get_or-integers, length-words, length-integers}
use Rattle.bit_packing.proofs.Steps.{both_true}

abbrev word : ℕ → List ℕ → ℕ
word i bytes = from_le_bytes w32 (take 4 (drop (4 * i) bytes))

-- ---- a loop over the ends

pub ends_step : (m : ℕ) (bytes : List ℕ) (start i total e : ℕ) (r : Bool) → i < m → e ≡ word i bytes → are_ends start (drop i (words m bytes)) total ≡ r → (nat_le start e && are_ends e (drop (i + 1) (words m bytes)) total) ≡ r
ends_step m bytes start i total e r h w known =
    let ws = words m bytes in
    let long = length-words m bytes in
    let same : e ≡ get_or ws i 0 = w ∙ sym (get_or-words m i bytes h) in
    ap (λ k. nat_le start k && are_ends k (drop (i + 1) ws) total) same ∙ sym (at_drop_more (λ es. are_ends start es total) ws i 0 (omega arith)) ∙ known

pub ends_end : (m : ℕ) (bytes : List ℕ) (start i total : ℕ) (r : Bool) → m ≤ i → are_ends start (drop i (words m bytes)) total ≡ r → nat_eq start total ≡ r
ends_end m bytes start i total r h known =
    let long = length-words m bytes in
    sym (at_drop_all (λ es. are_ends start es total) (words m bytes) i (omega arith)) ∙ known

pub ends_bound : (start : ℕ) (es : List ℕ) (total : ℕ) → are_ends start es total ≡ true → start ≤ total
ends_bound start [] total e = grind (arith, nat_tests)
ends_bound start (x ∷ es) total e =
    let p = both_true (nat_le start x) (are_ends x es total) e in
    let t = p.0 in
    let low : start ≤ x = grind (arith, nat_tests) in
    let high = ends_bound x es total p.1 in
    omega arith

pub ends_within : (m : ℕ) (bytes : List ℕ) (start i total e : ℕ) → i < m → e ≡ word i bytes → are_ends start (drop i (words m bytes)) total ≡ true → (start ≤ e) × (e ≤ total) × (are_ends e (drop (i + 1) (words m bytes)) total ≡ true)
ends_within m bytes start i total e h w known =
    let p = both_true (nat_le start e) (are_ends e (drop (i + 1) (words m bytes)) total) (ends_step m bytes start i total e true h w known) in
    let t = p.0 in
    (grind (arith, nat_tests), ends_bound e (drop (i + 1) (words m bytes)) total p.1, p.1)

pub texts_step : (m : ℕ) (bytes joined : List ℕ) (start i e : ℕ) (r : Bool) → i < m → e ≡ word i bytes → list_all is_text (texts_from start (drop i (words m bytes)) joined) ≡ r → (is_text (take (e - start) (drop start joined)) && list_all is_text (texts_from e (drop (i + 1) (words m bytes)) joined)) ≡ r
texts_step m bytes joined start i e r h w known =
    let ws = words m bytes in
    let long = length-words m bytes in
    let same : e ≡ get_or ws i 0 = w ∙ sym (get_or-words m i bytes h) in
    ap (λ k. is_text (take (k - start) (drop start joined)) && list_all is_text (texts_from k (drop (i + 1) ws) joined)) same ∙ sym (at_drop_more (λ es. list_all is_text (texts_from start es joined)) ws i 0 (omega arith)) ∙ known

pub texts_end : (m : ℕ) (bytes joined : List ℕ) (start i : ℕ) (r : Bool) → m ≤ i → list_all is_text (texts_from start (drop i (words m bytes)) joined) ≡ r → true ≡ r
texts_end m bytes joined start i r h known =
    let long = length-words m bytes in
    sym (at_drop_all (λ es. list_all is_text (texts_from start es joined)) (words m bytes) i (omega arith)) ∙ known

pub length-texts_from : (start : ℕ) (es joined : List ℕ) → length (texts_from start es joined) ≡ length es
length-texts_from start [] joined = refl
length-texts_from start (x ∷ es) joined = ap suc (length-texts_from x es joined)

-- ---- the values form

pub length-values_form : (col_type : ColType) (m : ℕ) (bytes : List ℕ) → length (values_form col_type m bytes) ≡ m
length-values_form of_type.Int m bytes = length-map (integers m bytes) Int ∙ length-integers m bytes
length-values_form of_type.Text m bytes = length-map (texts_from 0 (ends_of m bytes) (joined_of m bytes)) Text ∙ length-texts_from 0 (words m bytes) (drop (4 * m) bytes) ∙ length-words m bytes

pub int_value : (col_type : ColType) (m i : ℕ) (bytes : List ℕ) (n : ℤ) → col_type ≡ of_type.Int → i < m → n ≡ integer_of (take 8 (drop (8 * i) bytes)) → Int n ≡ get_or (values_form col_type m bytes) i Null
int_value of_type.Text m i bytes n e h w = absurd (cc)
int_value of_type.Int m i bytes n e h w =
    let long = length-integers m bytes in
    ap Int (w ∙ sym (get_or-integers m i bytes h)) ∙ sym (get_or-map Int (integers m bytes) i (pos 0) Null (omega arith))

pub text_value : (col_type : ColType) (m i : ℕ) (bytes text : List ℕ) → col_type ≡ of_type.Text → i < m → text ≡ get_or (texts_from 0 (ends_of m bytes) (joined_of m bytes)) i [] → Text text ≡ get_or (values_form col_type m bytes) i Null
text_value of_type.Int m i bytes text e h w = absurd (cc)
text_value of_type.Text m i bytes text e h w =
    let long = length-words m bytes in
    let many = length-texts_from 0 (words m bytes) (drop (4 * m) bytes) in
    ap Text w ∙ sym (get_or-map Text (texts_from 0 (ends_of m bytes) (joined_of m bytes)) i [] Null (omega arith))

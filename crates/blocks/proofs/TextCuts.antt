-- Texts that are joined: all are texts where the whole is and is cut between characters.
use Rattle.std.proofs.Common.{◌≡◌, ℕ, ◌-◌, ◌≤◌, Bool, true, false, ◌&&◌, nat_le, List, [], ◌∷◌, ◌++◌, Result, Ok, Err, is_err, MatchResult, length, get_or, take, drop, refl, sym, ap, ◌∙◌, subst, arith}
use Rattle.std.specs.List.{list_all}
use Rattle.std.specs.Str.{IsUtf8, is_utf8, IsCharBoundary}
use Rattle.std.proofs.lemmas.Bool.{false≢true}
use Rattle.std.proofs.lemmas.Bool.Decides.{nat_tests}
use Rattle.std.proofs.lemmas.List.{take-append-drop, get_or-drop, length-drop, length-take-le, drop-drop, drop_all}
use Rattle.std.proofs.lemmas.Str.{IsUtf8-from_is_utf8, is_utf8-from_IsUtf8, IsUtf8-append, IsUtf8-nil, IsUtf8-between, IsCharBoundary-start}
use Rattle.meaning.specs.Limits.{max_text_bytes}
use Rattle.columns.specs.Column.{is_text}
use Rattle.blocks.specs.Plain.{are_ends}
use Rattle.columns.specs.Texts.{texts_from}
use Rattle.bit_packing.proofs.Steps.{both_true}

text_parts : (text : List ℕ) → is_text text ≡ true → IsUtf8 text × (length text ≤ max_text_bytes)
text_parts text e =
    let p = both_true (is_utf8 text) (nat_le (length text) max_text_bytes) e in
    let t = p.1 in
    (IsUtf8-from_is_utf8 text p.0, grind (arith, nat_tests))

ends_first : (start e : ℕ) (es : List ℕ) (total : ℕ) → are_ends start (e ∷ es) total ≡ true → (start ≤ e) × (are_ends e es total ≡ true)
ends_first start e es total h =
    let p = both_true (nat_le start e) (are_ends e es total) h in
    let t = p.0 in
    (grind (arith, nat_tests), p.1)

parts : (start e : ℕ) (joined : List ℕ) → start ≤ e → take (e - start) (drop start joined) ++ drop e joined ≡ drop start joined
parts start e joined h =
    let same : drop (e - start) (drop start joined) ≡ drop e joined = drop-drop (e - start) start joined ∙ ap (λ k. drop k joined) (omega arith) in
    ap (λ xs. take (e - start) (drop start joined) ++ xs) (sym same) ∙ take-append-drop (e - start) (drop start joined)

pub utf8_behind : (start : ℕ) (es joined : List ℕ) → are_ends start es (length joined) ≡ true → list_all is_text (texts_from start es joined) ≡ true → IsUtf8 (drop start joined)
utf8_behind start [] joined ends texts =
    let last : length joined ≤ start = grind (arith, nat_tests) in
    subst IsUtf8 (sym (drop_all start joined last)) IsUtf8-nil
utf8_behind start (e ∷ es) joined ends texts =
    let p = ends_first start e es (length joined) ends in
    let q = both_true (is_text (take (e - start) (drop start joined))) (list_all is_text (texts_from e es joined)) texts in
    let front : IsUtf8 (take (e - start) (drop start joined)) = (text_parts (take (e - start) (drop start joined)) q.0).0 in
    subst IsUtf8 (parts start e joined p.0) (IsUtf8-append (take (e - start) (drop start joined)) (drop e joined) front (utf8_behind e es joined p.1 q.1))

cut_before : (joined : List ℕ) (e : ℕ) → e ≤ length joined → IsUtf8 (drop e joined) → IsCharBoundary joined e
cut_before joined e h behind =
    let start : IsCharBoundary (drop e joined) 0 = IsCharBoundary-start (drop e joined) behind in
    let long = length-drop e joined in
    let same : get_or (drop e joined) 0 0 ≡ get_or joined e 0 = get_or-drop e joined 0 0 ∙ ap (λ k. get_or joined k 0) (omega arith) in
    (h, λ inside high. (let low : 192 ≤ get_or (drop e joined) 0 0 = start.1 (omega arith) (omega arith) in omega arith))

-- where all are texts, each is short, and the whole is cut between characters
pub cut_if_texts : (start e : ℕ) (es joined : List ℕ) → start ≤ e → e ≤ length joined → are_ends e es (length joined) ≡ true → (is_text (take (e - start) (drop start joined)) && list_all is_text (texts_from e es joined)) ≡ true → (e - start ≤ max_text_bytes) × IsCharBoundary joined e
cut_if_texts start e es joined low high ends texts =
    let q = both_true (is_text (take (e - start) (drop start joined))) (list_all is_text (texts_from e es joined)) texts in
    let front = (text_parts (take (e - start) (drop start joined)) q.0).1 in
    let rest = length-drop start joined in
    let long = length-take-le (e - start) (drop start joined) (omega arith) in
    (omega arith, cut_before joined e high (utf8_behind e es joined ends q.1))

pub text_if_cut : (start e : ℕ) (joined : List ℕ) → IsUtf8 joined → start ≤ e → e ≤ length joined → IsCharBoundary joined start → (e - start ≤ max_text_bytes) × IsCharBoundary joined e → is_text (take (e - start) (drop start joined)) ≡ true
text_if_cut start e joined whole low high before cut =
    let rest = length-drop start joined in
    let long = length-take-le (e - start) (drop start joined) (omega arith) in
    let utf8 : is_utf8 (take (e - start) (drop start joined)) ≡ true = is_utf8-from_IsUtf8 (take (e - start) (drop start joined)) (IsUtf8-between joined start e whole low before cut.1) in
    let few : length (take (e - start) (drop start joined)) ≤ max_text_bytes = rw long cut.0 in
    let short : nat_le (length (take (e - start) (drop start joined))) max_text_bytes ≡ true = grind (arith, nat_tests) in
    ap (λ b. b && nat_le (length (take (e - start) (drop start joined))) max_text_bytes) utf8 ∙ short

pub false_unless : (b : Bool) → ¬ (b ≡ true) → false ≡ b
false_unless true wrong = absurd (wrong refl)
false_unless false wrong = refl

pub utf8_if_ok : {S E : Type 0} (r : Result S E) (text : List ℕ) (P : S → Type 0) (Q : E → Type 0) → MatchResult r (λ s. P s × IsUtf8 text) (λ e. ¬ (IsUtf8 text) × Q e) → is_err r ≡ false → IsUtf8 text
utf8_if_ok (Ok s) text P Q h e = h.1
utf8_if_ok (Err f) text P Q h e = absurd (false≢true (sym e))

pub not_utf8_if_err : {S E : Type 0} (r : Result S E) (text : List ℕ) (P : S → Type 0) (Q : E → Type 0) → MatchResult r (λ s. P s × IsUtf8 text) (λ e. ¬ (IsUtf8 text) × Q e) → is_err r ≡ true → ¬ (IsUtf8 text)
not_utf8_if_err (Ok s) text P Q h e = absurd (false≢true e)
not_utf8_if_err (Err f) text P Q h e = h.0

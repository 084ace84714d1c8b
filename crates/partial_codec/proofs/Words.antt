-- Numbers of four bytes, compared with lengths.
use Rattle.std.proofs.Common.{◌≡◌, ℕ, zero, suc, ◌+◌, ◌-◌, ◌*◌, ◌<◌, ◌&&◌, List, length, get_or, drop, true, false, refl, sym, ap, ◌∙◌, arith}
use Rattle.std.specs.Prelude.{◌==◌, nat_eq}
use Rattle.answer_layouts.proofs.Steps.{pointwise_lengths}
use Rattle.std.specs.Cmp.Lexicographic.{bytes_decides}
use Rattle.std.proofs.Math.Seq.{drop-cons}
use Rattle.byteorder.specs.Endian.{little_number}
use Rattle.wire.specs.Reading.{same_bytes}
use Rattle.answer_fields.specs.Fields.{words}

words_length : (n : ℕ) (bytes : List ℕ) → length (words n bytes) ≡ n
words_length zero bytes = refl
words_length (suc n) bytes = ap suc (words_length n (drop 4 bytes))

pub other_count : (n : ℕ) (bytes lengths : List ℕ) → (n ≡ length lengths → ⊥) → same_bytes (words n bytes) lengths ≡ false
other_count n bytes lengths other = pointwise_lengths nat_eq (words n bytes) lengths (λ e. other (sym (words_length n bytes) ∙ e))

-- what is left to compare from word i on, of as many words as lengths
abbrev pub AreLeft : List ℕ → List ℕ → ℕ → List ℕ → Type 0
AreLeft bytes lengths i rest =
    (length rest ≡ (length lengths - i) * 4) × (same_bytes (words (length lengths) bytes) lengths ≡ same_bytes (words (length lengths - i) rest) (drop i lengths))

left_step : (lengths : List ℕ) (i d : ℕ) (rest : List ℕ) → i < length lengths
    → same_bytes (words (length lengths - i) rest) (drop i lengths) ≡ ((little_number 4 rest == get_or lengths i d) && same_bytes (words (length lengths - (i + 1)) (drop 4 rest)) (drop (i + 1) lengths))
left_step lengths i d rest lt =
    let left : length lengths - i ≡ suc (length lengths - (i + 1)) = omega arith in
    let next : suc i ≡ i + 1 = omega arith in
    rw (left, drop-cons lengths i d lt, next) refl

-- equal words are as many
pub same_count : (n : ℕ) (bytes lengths : List ℕ) → same_bytes (words n bytes) lengths ≡ true → n ≡ length lengths
same_count n bytes lengths e = sym (words_length n bytes) ∙ ap (λ (xs : List ℕ). length xs) ((bytes_decides (words n bytes) lengths).0 e)

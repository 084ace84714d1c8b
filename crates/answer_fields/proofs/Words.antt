-- Numbers of four bytes, read one after the other or as a whole.
use Rattle.std.proofs.Common.{◌≡◌, ℕ, zero, suc, ◌*◌, ◌≤◌, ◌<◌, List, [], ◌∷◌, length, take, drop, Ok, Err, refl, arith}
use Rattle.std.proofs.lemmas.Bool.{le-ltb}
use Rattle.byteorder.specs.Endian.{little_number}
use Rattle.wire.specs.Reading.{number_at, repeat_at}
use Rattle.answer_fields.specs.declared.fault.DecodeFault.TheVariants.{Truncated}
use Rattle.answer_fields.specs.LayoutReading.{length_at}
use Rattle.answer_fields.specs.Fields.{words}

one_read : (bytes : List ℕ) (a b c d : ℕ) → length_at (a ∷ b ∷ c ∷ d ∷ bytes) ≡ Ok (little_number 4 (a ∷ b ∷ c ∷ d ∷ bytes), bytes)
unfolding number_at
one_read bytes a b c d = rw (le-ltb (length (a ∷ b ∷ c ∷ d ∷ bytes)) 4 (omega arith)) refl

four : (n : ℕ) (bytes : List ℕ) (a b c d : ℕ) → repeat_at length_at n bytes ≡ Ok (words n (take (n * 4) bytes), drop (n * 4) bytes)
    → repeat_at length_at (suc n) (a ∷ b ∷ c ∷ d ∷ bytes) ≡ Ok (words (suc n) (take (suc n * 4) (a ∷ b ∷ c ∷ d ∷ bytes)), drop (suc n * 4) (a ∷ b ∷ c ∷ d ∷ bytes))
unfolding repeat_at
four n bytes a b c d others =
    let size : suc n * 4 ≡ suc (suc (suc (suc (n * 4)))) = omega arith in
    rw (one_read bytes a b c d, others, size) refl

-- where there are enough bytes
pub words_read : (n : ℕ) (bytes : List ℕ) → n * 4 ≤ length bytes → repeat_at length_at n bytes ≡ Ok (words n (take (n * 4) bytes), drop (n * 4) bytes)
unfolding repeat_at
words_read zero bytes le = refl
words_read (suc n) [] le = absurd (omega (arith, le))
words_read (suc n) (a ∷ []) le = absurd (omega (arith, le))
words_read (suc n) (a ∷ b ∷ []) le = absurd (omega (arith, le))
words_read (suc n) (a ∷ b ∷ c ∷ []) le = absurd (omega (arith, le))
words_read (suc n) (a ∷ b ∷ c ∷ d ∷ bytes) le = four n bytes a b c d (words_read n bytes (omega (arith, le)))

four_short : (n : ℕ) (bytes : List ℕ) (a b c d : ℕ) → repeat_at length_at n bytes ≡ Err Truncated → repeat_at length_at (suc n) (a ∷ b ∷ c ∷ d ∷ bytes) ≡ Err Truncated
unfolding repeat_at
four_short n bytes a b c d others = rw (one_read bytes a b c d, others) refl

too_short : (n : ℕ) (bytes : List ℕ) → length bytes < 4 → repeat_at length_at (suc n) bytes ≡ Err Truncated
unfolding repeat_at number_at
too_short n [] lt = refl
too_short n (a ∷ []) lt = refl
too_short n (a ∷ b ∷ []) lt = refl
too_short n (a ∷ b ∷ c ∷ []) lt = refl
too_short n (a ∷ b ∷ c ∷ d ∷ bytes) lt = absurd (omega (arith, lt))

-- where there are too few
pub words_short : (n : ℕ) (bytes : List ℕ) → length bytes < n * 4 → repeat_at length_at n bytes ≡ Err Truncated
words_short zero bytes lt = absurd (omega (arith, lt))
words_short (suc n) [] lt = too_short n [] (omega arith)
words_short (suc n) (a ∷ []) lt = too_short n (a ∷ []) (omega arith)
words_short (suc n) (a ∷ b ∷ []) lt = too_short n (a ∷ b ∷ []) (omega arith)
words_short (suc n) (a ∷ b ∷ c ∷ []) lt = too_short n (a ∷ b ∷ c ∷ []) (omega arith)
words_short (suc n) (a ∷ b ∷ c ∷ d ∷ bytes) lt = four_short n bytes a b c d (words_short n bytes (omega (arith, lt)))

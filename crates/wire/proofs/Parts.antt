-- Lists of parts, texts and signed numbers: what is read is spelled so, and what is spelled is read again.
use Rattle.std.proofs.Common.{◌≡◌, ℕ, zero, suc, ◌^◌, ◌<◌, ℤ, pos, negsuc, Bool, ◌&&◌, true, false, List, [], ◌∷◌, ◌++◌, length, Ok, refl, sym, ap, subst, ◌∙◌, append_assoc, arith}
use Rattle.std.specs.List.{flat_map, list_all, AllByRecursion}
use Rattle.std.specs.Prelude.{FitsSigned}
use Rattle.std.specs.Int.{w64, w128, cast_signed, cast_unsigned}
use Rattle.std.specs.Str.{is_utf8}
use Rattle.std.proofs.lemmas.Int.{of_z-to_z, to_z-of_z}
use Rattle.std.proofs.lemmas.List.Concat.{flat_map-cons}
use Rattle.wire.specs.declared.fault.WireFault.TheVariants.{NotUtf8}
use Rattle.wire.specs.Reading.{◌>>=◌, Read, bytes_at, number_at, i64_at, i128_at, utf8_of, text_at, repeat_at}
use Rattle.wire.specs.Bytes.{IsText, number_bytes, i64_bytes, i128_bytes, text_bytes}
use Rattle.wire.proofs.Numbers.{bind_ok, test_passed, ok_is, IsBytes, Takes, Takes-then, bytes_take, bytes_again, number_takes, number_again}

-- a part that is read is spelled as it was read
abbrev pub IsSpelled : {E X : Type 0} → (List ℕ → Read E X) → (X → List ℕ) → Type 0
IsSpelled {E} {X} part spell = (bytes : List ℕ) (p : X × List ℕ) → IsBytes bytes → part bytes ≡ Ok p → Takes bytes (spell p.0) p.1

-- a part that is spelled is read again
abbrev pub IsReadAgain : {E X : Type 0} → (List ℕ → Read E X) → (X → List ℕ) → (X → Type 0) → Type 0
IsReadAgain {E} {X} part spell Fits = (x : X) (rest : List ℕ) → Fits x → part (spell x ++ rest) ≡ Ok (x, rest)

-- ---- lists of parts

pub repeat_takes : {E X : Type 0} (part : List ℕ → Read E X) (spell : X → List ℕ) → IsSpelled part spell → (n : ℕ) (bytes : List ℕ) (p : List X × List ℕ)
    → IsBytes bytes → repeat_at part n bytes ≡ Ok p → Takes bytes (flat_map spell p.0) p.1 × (length p.0 ≡ n)
unfolding repeat_at
repeat_takes {E} {X} part spell takes zero bytes p fits e =
    subst (λ (q : List X × List ℕ). Takes bytes (flat_map spell q.0) q.1 × (length q.0 ≡ 0)) (ok_is ([], bytes) p e) (record { parts = refl; rest_fits = fits }, refl)
repeat_takes {E} {X} part spell takes (suc n) bytes p fits e =
    let a = bind_ok (part bytes) (λ first. repeat_at part n first.1 >>= λ others. Ok (first.0 ∷ others.0, others.1)) p e in
    let b = bind_ok (repeat_at part n a.0.1) (λ others. Ok (a.0.0 ∷ others.0, others.1)) p a.2 in
    let first = takes bytes a.0 fits a.1 in
    let others = repeat_takes part spell takes n a.0.1 b.0 first.rest_fits b.1 in
    let both = Takes-then bytes (spell a.0.0) a.0.1 (flat_map spell b.0.0) b.0.1 first others.0 in
    let made : List X × List ℕ = (a.0.0 ∷ b.0.0, b.0.1) in
    subst (λ (q : List X × List ℕ). Takes bytes (flat_map spell q.0) q.1 × (length q.0 ≡ suc n)) (ok_is made p b.2) (rw flat_map-cons both, ap suc others.1)

pub repeat_again : {E X : Type 0} (part : List ℕ → Read E X) (spell : X → List ℕ) (Fits : X → Type 0) → IsReadAgain part spell Fits → (n : ℕ) (xs : List X) (rest : List ℕ)
    → length xs ≡ n → AllByRecursion Fits xs → repeat_at part n (flat_map spell xs ++ rest) ≡ Ok (xs, rest)
unfolding repeat_at
repeat_again part spell Fits again zero [] rest len fits = refl
repeat_again part spell Fits again (suc n) [] rest len fits = absurd (omega arith)
repeat_again part spell Fits again zero (x ∷ xs) rest len fits = absurd (omega arith)
repeat_again part spell Fits again (suc n) (x ∷ xs) rest len fits =
    let regrouped : flat_map spell (x ∷ xs) ++ rest ≡ spell x ++ (flat_map spell xs ++ rest) = ap (λ (t : List ℕ). t ++ rest) (flat_map-cons spell x xs) ∙ append_assoc (spell x) (flat_map spell xs) rest in
    ap (repeat_at part (suc n)) regrouped ∙ rw (again x (flat_map spell xs ++ rest) fits.0, repeat_again part spell Fits again n xs rest (omega arith) fits.1) refl

all_of : (a b : Bool) → a ≡ true → b ≡ true → (a && b) ≡ true
all_of true b p q = q
all_of false b p q = absurd cc

-- a test that each part passes as it is read
pub repeat_all : {E X : Type 0} (part : List ℕ → Read E X) (test : X → Bool) → ((bytes : List ℕ) (p : X × List ℕ) → part bytes ≡ Ok p → test p.0 ≡ true) → (n : ℕ) (bytes : List ℕ) (p : List X × List ℕ)
    → repeat_at part n bytes ≡ Ok p → (length p.0 ≡ n) × (list_all test p.0 ≡ true)
unfolding repeat_at
repeat_all {E} {X} part test each zero bytes p e = subst (λ (q : List X × List ℕ). (length q.0 ≡ 0) × (list_all test q.0 ≡ true)) (ok_is ([], bytes) p e) (refl, refl)
repeat_all {E} {X} part test each (suc n) bytes p e =
    let a = bind_ok (part bytes) (λ first. repeat_at part n first.1 >>= λ others. Ok (first.0 ∷ others.0, others.1)) p e in
    let b = bind_ok (repeat_at part n a.0.1) (λ others. Ok (a.0.0 ∷ others.0, others.1)) p a.2 in
    let others = repeat_all part test each n a.0.1 b.0 b.1 in
    let made : List X × List ℕ = (a.0.0 ∷ b.0.0, b.0.1) in
    subst (λ (q : List X × List ℕ). (length q.0 ≡ suc n) × (list_all test q.0 ≡ true)) (ok_is made p b.2) (ap suc others.0, all_of (test a.0.0) (list_all test b.0.0) (each bytes a.0 a.1) others.1)

-- ---- texts

pub utf8_ok : (bytes text : List ℕ) → utf8_of bytes ≡ Ok text → (is_utf8 bytes ≡ true) × (bytes ≡ text)
utf8_ok bytes text e =
    let t = test_passed (is_utf8 bytes) NotUtf8 (Ok bytes) text e in
    (t.0, ok_is bytes text t.1)

pub text_takes : (w : ℕ) → IsSpelled (text_at w) (text_bytes w)
unfolding text_at text_bytes
text_takes w bytes p fits e =
    let a = bind_ok (number_at w bytes) (λ n. bytes_at n.0 n.1 >>= λ taken. utf8_of taken.0 >>= λ text. Ok (text, taken.1)) p e in
    let b = bind_ok (bytes_at a.0.0 a.0.1) (λ taken. utf8_of taken.0 >>= λ text. Ok (text, taken.1)) p a.2 in
    let c = bind_ok (utf8_of b.0.0) (λ text. Ok (text, b.0.1)) p b.2 in
    let number = number_takes w bytes a.0.0 a.0.1 fits a.1 in
    let text = bytes_take a.0.0 a.0.1 b.0.0 b.0.1 number.0.rest_fits b.1 in
    let both = Takes-then bytes (number_bytes w a.0.0) a.0.1 b.0.0 b.0.1 number.0 text.0 in
    let whole : Takes bytes (number_bytes w (length b.0.0) ++ b.0.0) b.0.1 = subst (λ (k : ℕ). Takes bytes (number_bytes w k ++ b.0.0) b.0.1) (sym text.1) both in
    let same : b.0.0 ≡ c.0 = (utf8_ok b.0.0 c.0 c.1).1 in
    let made : List ℕ × List ℕ = (c.0, b.0.1) in
    subst (λ (q : List ℕ × List ℕ). Takes bytes (number_bytes w (length q.0) ++ q.0) q.1) (ok_is made p c.2) (subst (λ (t : List ℕ). Takes bytes (number_bytes w (length t) ++ t) b.0.1) same whole)

pub text_again : (w : ℕ) → IsReadAgain (text_at w) (text_bytes w) (IsText w)
unfolding text_at text_bytes
text_again w text rest fits =
    let regrouped = append_assoc (number_bytes w (length text)) text rest in
    ap (text_at w) regrouped ∙ rw (number_again w (length text) (text ++ rest) fits.short, bytes_again (length text) text rest refl, fits.is_text) refl

-- ---- signed numbers

pub i64_takes : IsSpelled i64_at i64_bytes
unfolding i64_at
i64_takes bytes p fits e =
    let a = bind_ok (number_at 8 bytes) (λ n. Ok (cast_signed w64 n.0, n.1)) p e in
    let number = number_takes 8 bytes a.0.0 a.0.1 fits a.1 in
    let same : cast_unsigned w64 (cast_signed w64 a.0.0) ≡ a.0.0 = of_z-to_z w64 a.0.0 number.1 in
    let made : ℤ × List ℕ = (cast_signed w64 a.0.0, a.0.1) in
    subst (λ (q : ℤ × List ℕ). Takes bytes (i64_bytes q.0) q.1) (ok_is made p a.2) (subst (λ (n : ℕ). Takes bytes (number_bytes 8 n) a.0.1) (sym same) number.0)

word64 : (z : ℤ) → FitsSigned w64 z → cast_unsigned w64 z < 256 ^ 8
word64 (pos n) fits = let h = fits.sfits in omega (arith, h)
word64 (negsuc n) fits = let h = fits.sfits in omega (arith, h)

word128 : (z : ℤ) → FitsSigned w128 z → cast_unsigned w128 z < 256 ^ 16
word128 (pos n) fits = let h = fits.sfits in omega (arith, h)
word128 (negsuc n) fits = let h = fits.sfits in omega (arith, h)

pub i64_again : IsReadAgain i64_at i64_bytes (FitsSigned w64)
unfolding i64_at
i64_again z rest fits =
    rw (number_again 8 (cast_unsigned w64 z) rest (word64 z fits), to_z-of_z w64 z fits) refl

pub i128_takes : IsSpelled i128_at i128_bytes
unfolding i128_at
i128_takes bytes p fits e =
    let a = bind_ok (number_at 16 bytes) (λ n. Ok (cast_signed w128 n.0, n.1)) p e in
    let number = number_takes 16 bytes a.0.0 a.0.1 fits a.1 in
    let same : cast_unsigned w128 (cast_signed w128 a.0.0) ≡ a.0.0 = of_z-to_z w128 a.0.0 number.1 in
    let made : ℤ × List ℕ = (cast_signed w128 a.0.0, a.0.1) in
    subst (λ (q : ℤ × List ℕ). Takes bytes (i128_bytes q.0) q.1) (ok_is made p a.2) (subst (λ (n : ℕ). Takes bytes (number_bytes 16 n) a.0.1) (sym same) number.0)

pub i128_again : IsReadAgain i128_at i128_bytes (FitsSigned w128)
unfolding i128_at
i128_again z rest fits =
    rw (number_again 16 (cast_unsigned w128 z) rest (word128 z fits), to_z-of_z w128 z fits) refl

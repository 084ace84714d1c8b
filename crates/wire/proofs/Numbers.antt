-- Numbers as bytes, lowest first: what is read is spelled so, and what is spelled is read again.
use Rattle.std.proofs.Common.{◌≡◌, ℕ, zero, suc, ◌+◌, ◌*◌, ◌/◌, ◌%◌, ◌^◌, ◌<◌, ◌≤◌, Bool, true, false, cond, ltb, List, [], ◌∷◌, ◌++◌, length, get_or, take, drop, Result, Ok, Err, refl, sym, ap, subst, ◌∙◌, append_assoc, arith}
use Rattle.std.specs.Prelude.{not}
use Rattle.std.specs.Int.{byte_at, bytes_low_first}
use Rattle.std.proofs.Math.Nat.{div-div-eq-div-mul, div-one, pow-succ'}
use Rattle.std.proofs.lemmas.Bool.{ltb-false, le-ltb}
use Rattle.std.proofs.lemmas.List.{take_at, drop_at, take-append-drop, length-append, length-take, get_or-drop}
use Rattle.byteorder.specs.Endian.{little_from, little_number, little_bytes}
use Rattle.byteorder.specs.Numbers.{little_from-cons, little_from-lt, little_number-reads_back, length-bytes_low_first}
use Rattle.wire.specs.declared.fault.WireFault.TheVariants.{Truncated}
use Rattle.wire.specs.Reading.{◌>>=◌, bytes_at, number_at}
use Rattle.wire.specs.Bytes.{number_bytes}

-- ---- steps

-- what a step that did not fail gave
pub bind_ok : {E A B : Type 0} (r : Result A E) (f : A → Result B E) (y : B) → (r >>= f) ≡ Ok y → (x : A) × (r ≡ Ok x) × (f x ≡ Ok y)
bind_ok (Ok x) f y e = (x, refl, e)
bind_ok (Err d) f y e = absurd cc

-- tests that did not fail
pub test_passed : {E A : Type 0} (b : Bool) (d : E) (r : Result A E) (y : A) → cond b r (Err d) ≡ Ok y → (b ≡ true) × (r ≡ Ok y)
test_passed true d r y e = (refl, e)
test_passed false d r y e = absurd cc

pub test_kept : {E A : Type 0} (b : Bool) (d : E) (r : Result A E) (y : A) → cond b (Err d) r ≡ Ok y → (b ≡ false) × (r ≡ Ok y)
test_kept true d r y e = absurd cc
test_kept false d r y e = (refl, e)

pub test_not : {E A : Type 0} (b : Bool) (d : E) (r : Result A E) (y : A) → cond (not b) (Err d) r ≡ Ok y → (b ≡ true) × (r ≡ Ok y)
test_not true d r y e = (refl, e)
test_not false d r y e = absurd cc

abbrev pub done : {E A : Type 0} → A → Result A E
done x = Ok x

pub ok_is : {E A : Type 0} (x y : A) → done {E = E} x ≡ done {E = E} y → x ≡ y
ok_is x y e = cc

-- ---- bytes

abbrev pub IsBytes : List ℕ → Type 0
IsBytes bytes = (i : ℕ) → get_or bytes i 0 < 256

IsBytes-drop : (n : ℕ) (bytes : List ℕ) → IsBytes bytes → IsBytes (drop n bytes)
IsBytes-drop n bytes h i = rw get_or-drop (h (n + i))

-- what a reader took from the front
pub record Takes (bytes text rest : List ℕ) : Type 0 where
  pub parts : bytes ≡ text ++ rest
  pub rest_fits : IsBytes rest

pub Takes-then : (a x b y c : List ℕ) → Takes a x b → Takes b y c → Takes a (x ++ y) c
Takes-then a x b y c p q = record { parts = p.parts ∙ ap (λ (t : List ℕ). x ++ t) q.parts ∙ sym (append_assoc x y c); rest_fits = q.rest_fits }

pub bytes_take : (n : ℕ) (bytes text rest : List ℕ) → IsBytes bytes → bytes_at n bytes ≡ Ok (text, rest) → Takes bytes text rest × (length text ≡ n)
unfolding bytes_at
bytes_take n bytes text rest fits e =
    let g = test_kept (ltb (length bytes) n) Truncated (Ok (take n bytes, drop n bytes)) (text, rest) e in
    let long : n ≤ length bytes = ltb-false _ _ g.0 in
    let pair = ok_is (take n bytes, drop n bytes) (text, rest) g.1 in
    let taken : Takes bytes (take n bytes) (drop n bytes) = record { parts = sym (take-append-drop n bytes); rest_fits = IsBytes-drop n bytes fits } in
    subst (λ (p : List ℕ × List ℕ). Takes bytes p.0 p.1 × (length p.0 ≡ n)) pair (taken, omega (arith, length-take n bytes))

-- the same of any bytes
pub bytes_parts : (n : ℕ) (bytes text rest : List ℕ) → bytes_at n bytes ≡ Ok (text, rest) → bytes ≡ text ++ rest
unfolding bytes_at
bytes_parts n bytes text rest e =
    let g = test_kept (ltb (length bytes) n) Truncated (Ok (take n bytes, drop n bytes)) (text, rest) e in
    let pair = ok_is (take n bytes, drop n bytes) (text, rest) g.1 in
    subst (λ (p : List ℕ × List ℕ). bytes ≡ p.0 ++ p.1) pair (sym (take-append-drop n bytes))

pub bytes_again : (n : ℕ) (text rest : List ℕ) → length text ≡ n → bytes_at n (text ++ rest) ≡ Ok (text, rest)
unfolding bytes_at
bytes_again n text rest len =
    let long : ltb (length (text ++ rest)) n ≡ false = le-ltb _ _ (omega (arith, length-append text rest)) in
    rw (long, take_at text rest n len, drop_at text rest n len) refl

-- ---- numbers

byte_at-pow : (i x : ℕ) → byte_at i x ≡ x / 256 ^ i % 256
byte_at-pow zero x = ap (λ (y : ℕ). y % 256) (sym (div-one x))
byte_at-pow (suc i) x = refl

shifted : (i k x : ℕ) → bytes_low_first (suc i) k x ≡ bytes_low_first i k (x / 256)
shifted i zero x = refl
shifted i (suc k) x =
    let byte : byte_at (suc i) x ≡ byte_at i (x / 256) = ap (λ (p : ℕ). x / p % 256) (pow-succ' 256 i) ∙ ap (λ (q : ℕ). q % 256) (sym (div-div-eq-div-mul x 256 (256 ^ i))) ∙ sym (byte_at-pow i (x / 256)) in
    rw (byte, shifted (suc i) k x) refl

low_first : (k b y : ℕ) → b < 256 → bytes_low_first 0 (suc k) (b + 256 * y) ≡ b ∷ bytes_low_first 0 k y
low_first k b y lt =
    let first : (b + 256 * y) % 256 ≡ b = omega arith in
    let others : (b + 256 * y) / 256 ≡ y = omega arith in
    rw (first, shifted 0 k (b + 256 * y), others) refl

IsBytes-rest : (b : ℕ) (bytes : List ℕ) → IsBytes (b ∷ bytes) → IsBytes bytes
IsBytes-rest b bytes h i = h (suc i)

-- the bytes of the number that bytes spell
back : (n : ℕ) (bytes : List ℕ) → n ≤ length bytes → IsBytes bytes → little_bytes n (little_number n bytes) ≡ take n bytes
back zero bytes le fits = refl
back (suc n) [] le fits = absurd (omega arith)
back (suc n) (b ∷ bytes) le fits =
    rw (little_from-cons 0 n b bytes) (low_first n b (little_from 0 n bytes) (fits 0) ∙ ap (λ (t : List ℕ). b ∷ t) (back n bytes (omega arith) (IsBytes-rest b bytes fits)))

pub number_takes : (n : ℕ) (bytes : List ℕ) (x : ℕ) (rest : List ℕ) → IsBytes bytes → number_at n bytes ≡ Ok (x, rest) → Takes bytes (number_bytes n x) rest × (x < 256 ^ n)
unfolding number_at number_bytes
number_takes n bytes x rest fits e =
    let g = test_kept (ltb (length bytes) n) Truncated (Ok (little_number n bytes, drop n bytes)) (x, rest) e in
    let long : n ≤ length bytes = ltb-false _ _ g.0 in
    let pair = ok_is (little_number n bytes, drop n bytes) (x, rest) g.1 in
    let taken : Takes bytes (little_bytes n (little_number n bytes)) (drop n bytes) = record { parts = rw (back n bytes long fits) (sym (take-append-drop n bytes)); rest_fits = IsBytes-drop n bytes fits } in
    subst (λ (p : ℕ × List ℕ). Takes bytes (little_bytes n p.0) p.1 × (p.0 < 256 ^ n)) pair (taken, little_from-lt 0 n bytes fits)

-- what stands behind a number, of any bytes
pub number_parts : (n : ℕ) (bytes : List ℕ) (x : ℕ) (rest : List ℕ) → number_at n bytes ≡ Ok (x, rest) → bytes ≡ take n bytes ++ rest
unfolding number_at
number_parts n bytes x rest e =
    let g = test_kept (ltb (length bytes) n) Truncated (Ok (little_number n bytes, drop n bytes)) (x, rest) e in
    let pair = ok_is (little_number n bytes, drop n bytes) (x, rest) g.1 in
    subst (λ (p : ℕ × List ℕ). bytes ≡ take n bytes ++ p.1) pair (sym (take-append-drop n bytes))

pub number_again : (n x : ℕ) (rest : List ℕ) → x < 256 ^ n → number_at n (number_bytes n x ++ rest) ≡ Ok (x, rest)
unfolding number_at number_bytes
number_again n x rest lt =
    let len : length (little_bytes n x) ≡ n = length-bytes_low_first 0 n x in
    let long : ltb (length (little_bytes n x ++ rest)) n ≡ false = le-ltb _ _ (omega (arith, length-append (little_bytes n x) rest)) in
    rw (long, little_number-reads_back n x rest lt, drop_at (little_bytes n x) rest n len) refl

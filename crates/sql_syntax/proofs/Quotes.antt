-- Where the quote stands that closes a text.
use Rattle.std.proofs.Common.{◌≡◌, ℕ, ◌+◌, ◌<◌, Bool, true, false, cond, List, [], ◌∷◌, length, get_or, Option, Some, None, option_map, refl, sym, subst, arith, eqb, inl, inr, add-one}
use Rattle.std.proofs.lemmas.Bool.{eqb-true, cases_lt}
use Rattle.std.proofs.lemmas.List.{get_or_past}
use Rattle.sql_syntax.specs.Tokens.{quoted_len, behind_quote}

-- so far behind the front
abbrev pub ahead : ℕ → Option ℕ → Option ℕ
ahead at = option_map (λ n. n + at)

-- an offset that has a byte other than 0 is within
pub has_byte : (bs : List ℕ) (i : ℕ) → 0 < get_or bs i 0 → i < length bs
has_byte bs i positive = elim (cases_lt i (length bs)) [ inl lt ↦ lt | inr le ↦ absurd (omega (arith, get_or_past bs i 0 le)) ]

-- a quote stands at this offset
abbrev pub StandsAt : List ℕ → ℕ → Type 0
StandsAt bs n = (n < length bs) × (get_or bs n 0 ≡ 39)

some_of : (o : Option ℕ) (k n : ℕ) → option_map (λ m. m + k) o ≡ Some n → (m : ℕ) × (o ≡ Some m) × (n ≡ m + k)
some_of None k n e = absurd cc
some_of (Some m) k n e = (m, refl, cc)

one_more : (b : ℕ) (bs : List ℕ) (m : ℕ) → StandsAt bs m → StandsAt (b ∷ bs) (m + 1)
one_more b bs m stands = rw add-one (omega arith, stands.1)

at_byte : (b : ℕ) (bs : List ℕ) (n : ℕ) (test : Bool) → eqb b 39 ≡ test → ((m : ℕ) → quoted_len bs ≡ Some m → StandsAt bs m) → ((m : ℕ) → behind_quote bs ≡ Some m → StandsAt (39 ∷ bs) m)
    → cond test (behind_quote bs) (option_map (λ m. m + 1) (quoted_len bs)) ≡ Some n → StandsAt (b ∷ bs) n
at_byte b bs n true is here behind e = subst (λ (x : ℕ). StandsAt (x ∷ bs) n) (sym (eqb-true b 39 is)) (behind n e)
at_byte b bs n false is here behind e =
    let o = some_of (quoted_len bs) 1 n e in
    subst (StandsAt (b ∷ bs)) (sym o.2) (one_more b bs o.0 (here o.0 o.1))

at_quote : (b : ℕ) (bs : List ℕ) (n : ℕ) (test : Bool) → ((m : ℕ) → quoted_len bs ≡ Some m → StandsAt bs m) → cond test (option_map (λ m. m + 2) (quoted_len bs)) (Some 0) ≡ Some n → StandsAt (39 ∷ b ∷ bs) n
at_quote b bs n true here e =
    let o = some_of (quoted_len bs) 2 n e in
    let two : o.0 + 1 + 1 ≡ n = omega (arith, o.2) in
    subst (StandsAt (39 ∷ b ∷ bs)) two (one_more 39 (b ∷ bs) (o.0 + 1) (one_more b bs o.0 (here o.0 o.1)))
at_quote b bs n false here e =
    let none : 0 ≡ n = cc in
    subst (StandsAt (39 ∷ b ∷ bs)) none (omega arith, refl)

-- the quote stands where it is said to
mutual
  pub quote_stands : (bs : List ℕ) (n : ℕ) → quoted_len bs ≡ Some n → StandsAt bs n
  quote_stands [] n e = absurd cc
  quote_stands (b ∷ bs) n e = at_byte b bs n (eqb b 39) refl (quote_stands bs) (behind_stands bs) e

  behind_stands : (bs : List ℕ) (n : ℕ) → behind_quote bs ≡ Some n → StandsAt (39 ∷ bs) n
  behind_stands [] n e = let none : 0 ≡ n = cc in subst (StandsAt (39 ∷ [])) none (omega arith, refl)
  behind_stands (b ∷ bs) n e = at_quote b bs n (eqb b 39) (quote_stands bs) e

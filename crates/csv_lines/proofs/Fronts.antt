-- The bytes in front of a text, with and without a byte order mark.
use Rattle.std.proofs.Common.{◌≡◌, ◌∙◌, ◌≤◌, ◌<◌, ◌+◌, ◌==◌, ℕ, zero, suc, Bool, true, false, List, [], ◌∷◌, ◌++◌, length, refl, sym, ap, arith}
use Rattle.std.specs.Prelude.{◌&&◌, if◌then◌else◌}
use Rattle.std.specs.Str.{bytes_eq}
use Rattle.csv.specs.Reading.{is_bom, strip_bom}
use Rattle.csv_lines.specs.Front.{mark}

-- the test of a byte order mark, as it is written in two ways
same_test : (a b c : Bool) → (a && (b && (c && true))) ≡ ((a && b) && c)
same_test true true true = refl
same_test true true false = refl
same_test true false c = refl
same_test false b c = refl

by_test : (a b c : ℕ) (rest : List ℕ) (is : Bool) → is_bom a b c ≡ is → strip_bom (a ∷ b ∷ c ∷ rest) ≡ (if is then rest else a ∷ b ∷ c ∷ rest)
unfolding strip_bom
by_test a b c rest is e = rw e refl

three : (a b c : ℕ) → bytes_eq (a ∷ b ∷ c ∷ []) mark ≡ is_bom a b c
three a b c = same_test (a == 0xEF) (b == 0xBB) (c == 0xBF)

pub marked_front : (front rest : List ℕ) → bytes_eq front mark ≡ true → strip_bom (front ++ rest) ≡ rest
marked_front [] rest is = absurd cc is
marked_front (a ∷ []) rest is = absurd (short (a == 0xEF) is) where
  short : (x : Bool) → (x && false) ≡ true → ⊥
  short true e = cc e
  short false e = cc e
marked_front (a ∷ b ∷ []) rest is = absurd (short (a == 0xEF) (b == 0xBB) is) where
  short : (x y : Bool) → (x && (y && false)) ≡ true → ⊥
  short true true e = cc e
  short true false e = cc e
  short false y e = cc e
marked_front (a ∷ b ∷ c ∷ []) rest is = by_test a b c rest true (sym (three a b c) ∙ is)
marked_front (a ∷ b ∷ c ∷ d ∷ front) rest is = absurd (long (a == 0xEF) (b == 0xBB) (c == 0xBF) is) where
  long : (x y z : Bool) → (x && (y && (z && false))) ≡ true → ⊥
  long true true true e = cc e
  long true true false e = cc e
  long true false z e = cc e
  long false y z e = cc e

none_strip : (front : List ℕ) → length front < 3 → strip_bom front ≡ front
unfolding strip_bom
none_strip [] few = refl
none_strip (a ∷ []) few = refl
none_strip (a ∷ b ∷ []) few = refl
none_strip (a ∷ b ∷ c ∷ front) few = absurd (omega (arith, few))

-- a text of fewer bytes has none
pub plain_short : (front rest : List ℕ) → length front < 3 → (length front < 3 → rest ≡ []) → strip_bom (front ++ rest) ≡ front ++ rest
plain_short [] rest few none = rw (none few) (none_strip [] few)
plain_short (a ∷ []) rest few none = rw (none few) (none_strip (a ∷ []) few)
plain_short (a ∷ b ∷ []) rest few none = rw (none few) (none_strip (a ∷ b ∷ []) few)
plain_short (a ∷ b ∷ c ∷ front) rest few none = absurd (omega (arith, few))

pub plain_front : (front rest : List ℕ) → length front ≤ 3 → (length front < 3 → rest ≡ []) → bytes_eq front mark ≡ false → strip_bom (front ++ rest) ≡ front ++ rest
plain_front [] rest few none is = plain_short [] rest (omega arith) none
plain_front (a ∷ []) rest few none is = plain_short (a ∷ []) rest (omega arith) none
plain_front (a ∷ b ∷ []) rest few none is = plain_short (a ∷ b ∷ []) rest (omega arith) none
plain_front (a ∷ b ∷ c ∷ []) rest few none is = by_test a b c rest false (sym (three a b c) ∙ is)
plain_front (a ∷ b ∷ c ∷ d ∷ front) rest few none is = absurd (omega (arith, few))

-- Where the text may be cut.
use Rattle.std.proofs.Common.{◌≡◌, ℕ, ◌+◌, ◌-◌, ◌<◌, ◌≤◌, Bool, true, List, length, get_or, IsUtf8, arith, subst, inl, inr}
use Rattle.std.specs.List.{prefix_len}
use Rattle.std.specs.Str.{IsCharBoundary}
use Rattle.std.proofs.lemmas.Bool.{cases_lt}
use Rattle.std.proofs.lemmas.Bool.Decides.{nat_tests}
use Rattle.std.proofs.lemmas.List.Sums.{prefix_len-le-length, prefix_len_passes}
use Rattle.std.proofs.lemmas.Str.{IsCharBoundary-start, IsCharBoundary-after_ascii}
use Rattle.sql_syntax.specs.Tokens.{is_word_byte, is_digit}

-- at the front, and right behind a byte of ASCII
pub boundary_behind : (bs : List ℕ) (at : ℕ) → IsUtf8 bs → at ≤ length bs → (0 < at → get_or bs (at - 1) 0 < 128) → IsCharBoundary bs at
boundary_behind bs at utf8 within ascii =
    elim (cases_lt 0 at) [
      | inl positive ↦
          let before : at - 1 + 1 ≡ at = omega arith in
          subst (IsCharBoundary bs) before (IsCharBoundary-after_ascii bs (at - 1) utf8 (omega arith) (ascii positive))
      | inr none ↦
          let zero_is : 0 ≡ at = omega arith in
          subst (IsCharBoundary bs) zero_is (IsCharBoundary-start bs utf8)
    ]

-- where a run of bytes of ASCII ends
pub run_boundary : (passes : ℕ → Bool) → ((b : ℕ) → passes b ≡ true → b < 128) → (bs : List ℕ) → IsUtf8 bs → IsCharBoundary bs (prefix_len passes bs)
run_boundary passes ascii bs utf8 =
    boundary_behind bs (prefix_len passes bs) utf8 (prefix_len-le-length passes bs)
    (λ positive. let below : prefix_len passes bs - 1 < prefix_len passes bs = omega arith in ascii _ (prefix_len_passes passes bs (prefix_len passes bs - 1) 0 below))

pub digits_ascii : (b : ℕ) → is_digit b ≡ true → b < 128
digits_ascii b h = grind (arith, nat_tests)

pub words_ascii : (b : ℕ) → is_word_byte b ≡ true → b < 128
words_ascii b h = grind (arith, nat_tests)

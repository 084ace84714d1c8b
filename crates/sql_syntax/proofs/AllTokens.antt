-- The tokens of what is left.
use Rattle.std.proofs.Common.{◌≡◌, ℕ, zero, suc, ◌-◌, ◌<◌, ◌≤◌, List, [], ◌∷◌, ◌++◌, length, sym, ap, ◌∙◌, append_assoc, arith}
use Rattle.std.proofs.lemmas.List.{map_push}
use Rattle.sql_syntax.specs.declared.token.Lexeme.{Lexeme}
use Rattle.sql_syntax.specs.Tokens.{Terminal, Located, terminal_of, located, all_located, behind_blanks, terminal_at, with_first, located_from, tokens_of}

-- Reading goes on behind the blanks, and there are still enough tokens to come.
goes_on : (text_len n : ℕ) (bs left : List ℕ) → length bs ≤ n → left ≡ behind_blanks bs → length left ≤ length bs
    → (m : ℕ) × (length left ≤ suc m) × (located_from n text_len bs ≡ with_first text_len (located_from m text_len) left)
goes_on text_len (suc n) bs left fits is shorter = (n, omega arith, ap (with_first text_len (located_from n text_len)) (sym is))
goes_on text_len zero [] left fits is shorter = (zero, omega arith, ap (with_first text_len (located_from zero text_len)) (sym is))
goes_on text_len zero (b ∷ bs) left fits is shorter = absurd (omega arith)

-- the tokens so far, and those of what is left, are those of the text
abbrev pub SoFar : List ℕ → List Lexeme → List ℕ → Type 0
SoFar text lexemes rest = (n : ℕ) × (length rest ≤ suc n) × (all_located lexemes ++ with_first (length text) (located_from n (length text)) rest ≡ tokens_of text)

pub begins : (text : List ℕ) (lexemes : List Lexeme) (rest : List ℕ) → lexemes ≡ [] → rest ≡ behind_blanks text → length rest ≤ length text → SoFar text lexemes rest
unfolding tokens_of
begins text lexemes rest none is shorter =
    let next = goes_on (length text) (length text) text rest (omega arith) is shorter in
    (next.0, next.1, rw none (sym next.2))

pub continues : (text : List ℕ) (lexemes : List Lexeme) (rest : List ℕ) (all : List Lexeme) (l : Lexeme) (behind left : List ℕ)
    → SoFar text lexemes rest → 0 < length rest → all ≡ lexemes ++ l ∷ [] → l.offset ≡ length text - length rest → (terminal_of l.token, behind) ≡ terminal_at rest
    → length behind < length rest → left ≡ behind_blanks behind → length left ≤ length behind → SoFar text all left
continues text lexemes [] all l behind left so_far some pushed offset token shorter is fits = absurd (omega arith)
continues text lexemes (b ∷ bs) all l behind left so_far some pushed offset token shorter is fits =
    let next = goes_on (length text) so_far.0 behind left (omega (arith, so_far.1)) is fits in
    let terminal_is : terminal_of l.token ≡ (terminal_at (b ∷ bs)).0 = ap (λ (p : Terminal × List ℕ). p.0) token in
    let behind_is : behind ≡ (terminal_at (b ∷ bs)).1 = ap (λ (p : Terminal × List ℕ). p.1) token in
    let later : with_first (length text) (located_from next.0 (length text)) left ≡ located_from so_far.0 (length text) (terminal_at (b ∷ bs)).1 =
    sym next.2 ∙ ap (located_from so_far.0 (length text)) behind_is in
    let front : all_located all ≡ all_located lexemes ++ located l ∷ [] = ap all_located pushed ∙ map_push located lexemes l in (
      next.0,
      next.1,
      ap (λ (x : List Located). x ++ with_first (length text) (located_from next.0 (length text)) left) front
          ∙ append_assoc (all_located lexemes) (located l ∷ []) (with_first (length text) (located_from next.0 (length text)) left)
          ∙ ap (λ (x : List Located). all_located lexemes ++ x) (λ i. record { terminal = terminal_is i; offset = offset i } ∷ later i)
          ∙ so_far.2,
    )

-- What a tool of a certain name has.
use Rattle.std.proofs.Common.{◌≡◌, inl, inr, ℕ, true, false, List, [], ◌∷◌, get_or, refl, sym, ap, ◌∙◌, codes, arith, Some, None}
use Rattle.command_line.specs.Words.{Named, Word, are_among}
use Rattle.std.proofs.lemmas.Bool.{false≢true}
use Rattle.tools.specs.Said.{AreNamed, AreWordsOf, IsOf}
use Rattle.tools.specs.Words.{asks_version}
use Rattle.tools.specs.declared.words.Tool.{Tool}
use Rattle.tools.specs.declared.words.Tool.TheVariants.{Check, Explain, Init, Refusal, Show, Version}

differ : (a b : Word) (x y : ℕ) → a ≡ b → get_or a 0 0 ≡ x → get_or b 0 0 ≡ y → (x ≡ y → ⊥) → ⊥
differ a b x y same is_x is_y other = other (sym is_x ∙ ap (λ w. get_or w 0 0) same ∙ is_y)

pub no_such : {X : Type 0} (x : X) → None ≡ Some x → ⊥
no_such x same = cc

-- words that don't ask for the version ask for the tool by its name
pub by_name : (words : List Word) (tool : Tool) → asks_version words ≡ false → AreWordsOf words tool → AreNamed words tool
by_name words tool other (inl named) = named
by_name words tool other (inr (is, asks)) = absurd (false≢true (sym other ∙ asks))

pub init_among : (named : List Named) (flags plain : List Word) (tool : Tool) → IsOf (codes "init") named flags plain tool → are_among (codes "fact" ∷ []) named ≡ true
init_among named flags plain (Init words) of = of.among
init_among named flags plain (Refusal words) of = absurd (differ _ _ 114 105 of.is refl refl (λ no. omega (arith, no)))
init_among named flags plain (Explain words) of = absurd (differ _ _ 101 105 of.is refl refl (λ no. omega (arith, no)))
init_among named flags plain (Show words) of = absurd (differ _ _ 115 105 of.is refl refl (λ no. omega (arith, no)))
init_among named flags plain (Check words) of = absurd (differ _ _ 99 105 of.is refl refl (λ no. omega (arith, no)))
init_among named flags plain Version of = absurd of.is

pub explain_among : (named : List Named) (flags plain : List Word) (tool : Tool) → IsOf (codes "explain") named flags plain tool → are_among (codes "query" ∷ []) named ≡ true
explain_among named flags plain (Explain words) of = of.among
explain_among named flags plain (Init words) of = absurd (differ _ _ 105 101 of.is refl refl (λ no. omega (arith, no)))
explain_among named flags plain (Refusal words) of = absurd (differ _ _ 114 101 of.is refl refl (λ no. omega (arith, no)))
explain_among named flags plain (Show words) of = absurd (differ _ _ 115 101 of.is refl refl (λ no. omega (arith, no)))
explain_among named flags plain (Check words) of = absurd (differ _ _ 99 101 of.is refl refl (λ no. omega (arith, no)))
explain_among named flags plain Version of = absurd of.is

pub show_among : (named : List Named) (flags plain : List Word) (tool : Tool) → IsOf (codes "show") named flags plain tool → are_among (codes "rows" ∷ []) named ≡ true
show_among named flags plain (Show words) of = of.among
show_among named flags plain (Init words) of = absurd (differ _ _ 105 115 of.is refl refl (λ no. omega (arith, no)))
show_among named flags plain (Refusal words) of = absurd (differ _ _ 114 115 of.is refl refl (λ no. omega (arith, no)))
show_among named flags plain (Explain words) of = absurd (differ _ _ 101 115 of.is refl refl (λ no. omega (arith, no)))
show_among named flags plain (Check words) of = absurd (differ _ _ 99 115 of.is refl refl (λ no. omega (arith, no)))
show_among named flags plain Version of = absurd of.is

pub refusal_among : (named : List Named) (flags plain : List Word) (tool : Tool) → IsOf (codes "refusal") named flags plain tool → are_among [] named ≡ true
refusal_among named flags plain (Refusal words) of = of.among
refusal_among named flags plain (Init words) of = absurd (differ _ _ 105 114 of.is refl refl (λ no. omega (arith, no)))
refusal_among named flags plain (Explain words) of = absurd (differ _ _ 101 114 of.is refl refl (λ no. omega (arith, no)))
refusal_among named flags plain (Show words) of = absurd (differ _ _ 115 114 of.is refl refl (λ no. omega (arith, no)))
refusal_among named flags plain (Check words) of = absurd (differ _ _ 99 114 of.is refl refl (λ no. omega (arith, no)))
refusal_among named flags plain Version of = absurd of.is

pub check_among : (named : List Named) (flags plain : List Word) (tool : Tool) → IsOf (codes "check") named flags plain tool → are_among [] named ≡ true
check_among named flags plain (Check words) of = of.among
check_among named flags plain (Init words) of = absurd (differ _ _ 105 99 of.is refl refl (λ no. omega (arith, no)))
check_among named flags plain (Refusal words) of = absurd (differ _ _ 114 99 of.is refl refl (λ no. omega (arith, no)))
check_among named flags plain (Explain words) of = absurd (differ _ _ 101 99 of.is refl refl (λ no. omega (arith, no)))
check_among named flags plain (Show words) of = absurd (differ _ _ 115 99 of.is refl refl (λ no. omega (arith, no)))
check_among named flags plain Version of = absurd of.is

-- The values of an option among one more.
use Rattle.std.proofs.Common.{◌≡◌, ℕ, ◌+◌, ◌<◌, ◌≤◌, arith, codes, inl, inr, Option, None, Some, List, [], ◌∷◌, ◌++◌, length, take, map, get_or, subst, sym, ap, ◌∙◌, nat_eq}
use Rattle.std.proofs.lemmas.List.{take_more, map-append}
use Rattle.std.proofs.lemmas.List.Elements.{filter-append}
use Rattle.std.specs.Prelude.{filter}
use Rattle.std.specs.Cmp.Lexicographic.{pointwise}
use Rattle.command_line.specs.Words.{Named, Word, named_of, values}
use Rattle.command_line.specs.Found.{IsFound}
use Rattle.command_line.specs.Said.{HasNumber, HasNumberOrNone, HasVector}
use Rattle.command_line.specs.declared.found.Found.{Found}
use Rattle.command_line.specs.declared.parts.Given.{Given}

values-append : (name : Word) (xs ys : List Named) → values name (xs ++ ys) ≡ values name xs ++ values name ys
values-append name xs ys =
    ap (map (λ n. n.1)) (filter-append (λ n. pointwise nat_eq n.0 name) xs ys)
    ∙ map-append (λ n. n.1) (filter (λ n. pointwise nat_eq n.0 name) xs) (filter (λ n. pointwise nat_eq n.0 name) ys)

pub found_more : (name : Word) (given : List Given) (i : ℕ) (blank : Given) (old new : Found) → i < length given → IsFound (values name (map named_of (take i given))) old
    → ((vs : List (List ℕ)) → IsFound vs old → IsFound (vs ++ values name (named_of (get_or given i blank) ∷ [])) new)
    → IsFound (values name (map named_of (take (i + 1) given))) new
found_more name given i blank old new below so next =
    let more = ap (map named_of) (take_more given i blank below) ∙ map-append named_of (take i given) (get_or given i blank ∷ []) in
    let all = ap (values name) more ∙ values-append name (map named_of (take i given)) (named_of (get_or given i blank) ∷ []) in
    subst (λ vs. IsFound vs new) (sym all) (next _ so)

pub found_twice : (vs more : List Word) (a b : Word) → vs ≡ a ∷ [] → more ≡ b ∷ [] → (first second : Word) × (rest : List Word) × (vs ++ more ≡ first ∷ second ∷ rest)
found_twice vs more a b one other = (a, b, [], ap (λ xs. xs ++ more) one ∙ ap (λ xs. a ∷ xs) other)

pub found_again : (vs more : List Word) → ((first second : Word) × (rest : List Word) × (vs ≡ first ∷ second ∷ rest)) → (first second : Word) × (rest : List Word) × (vs ++ more ≡ first ∷ second ∷ rest)
found_again vs more (first, second, rest, are) = (first, second, rest ++ more, ap (λ xs. xs ++ more) are)

-- the option stands there, so its digits are the number
pub vector_once : (named : List Named) (text : Word) (n : ℕ) → values (codes "vector") named ≡ text ∷ [] → HasVector named n → HasNumber (codes "vector") named n
vector_once named text n once (inl said) = said
vector_once named text n once (inr (none, is)) = let no : [] ≡ text ∷ [] = sym none ∙ once in absurd cc

-- the option stands there, and its digits are no number of 32 bits
pub no_number : (name : Word) (named : List Named) (text : Word) (n : Option ℕ) → values name named ≡ text ∷ [] → ((n : ℕ) → 0 ≤ n → n ≤ 4294967295 → HasNumber name named n → None ≡ Some n) → HasNumberOrNone name named n → ⊥
no_number name named text None once only none = let no : [] ≡ text ∷ [] = sym none ∙ once in cc
no_number name named text (Some n) once only (said, fits) = let no : None ≡ Some n = only n (omega arith) (omega (arith, fits)) said in cc

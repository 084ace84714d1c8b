-- Integers that are keys alone, at some positions of a vector.
use Rattle.std.specs.Prelude.{◌≡◌, ℕ, ℤ, ◌<◌, pos, List, [], ◌∷◌, length, map, get_or, All}
use Rattle.std.proofs.Common.{refl, sym, ap, ◌∙◌}
use Rattle.std.proofs.lemmas.List.{get_or-map}
use Rattle.std.proofs.lemmas.List.Elements.{All-head, All-tail}
use Rattle.meaning.specs.declared.value.Value.{Value}
use Rattle.meaning.specs.declared.value.Value.TheVariants.{Null, Int}

-- what was gathered is what the lanes have there
gathered_each : (cells : List ℤ) (positions : List ℕ) → All (λ p. p < length cells) positions
    → map Int (map (λ p. get_or cells p (pos 0)) positions) ≡ map (λ p. get_or (map Int cells) p Null) positions
gathered_each cells [] within = refl
gathered_each cells (p ∷ positions) within = λ i.
    sym (get_or-map Int cells p (pos 0) Null (All-head (λ (q : ℕ). q < length cells) p positions within)) i
    ∷ gathered_each cells positions (All-tail (λ (q : ℕ). q < length cells) p positions within) i

pub gathered_are : (cells : List ℤ) (lanes : List Value) (positions list : List ℕ) (ints : List ℤ) → map Int cells ≡ lanes → positions ≡ list
    → All (λ p. p < length cells) positions → ints ≡ map (λ p. get_or cells p (pos 0)) positions → map Int ints ≡ map (λ at. get_or lanes at Null) list
gathered_are cells lanes positions list ints are same within is =
    ap (map Int) is ∙ gathered_each cells positions within ∙ (λ i. map (λ (p : ℕ). get_or (are i) p Null) (same i))

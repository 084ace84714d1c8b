-- Proofs of the goals of `blank_texts` (`choice`).
use Rattle.std.proofs.Common.{◌∙◌, ap, Bor, List, ℕ, map}
use Rattle.vector_operators.proofs.Parts.{map-replicate}
use Rattle.vector_operators.proofs.choice.blank_texts.Goals as goal

pub returns : goal.returns
returns c =
    ap (λ (xs : List (Bor (List ℕ))). map (λ t. t.now) xs) (c.in_ok-vec.ensures.items_if_clones_equal (λ y h. h)) ∙ map-replicate (λ (t : Bor (List ℕ)). t.now) _ c.args.lanes

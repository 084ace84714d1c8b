-- Proofs of the goals of `broadcast_texts` (`broadcast`).
use Rattle.std.proofs.Common.{◌≡◌, ◌∙◌, ap, Bor, List, ℕ, map, replicate}
use Rattle.vector_operators.proofs.Parts.{map-replicate}
use Rattle.vector_operators.proofs.broadcast.broadcast_texts.Goals as goal

pub returns-in_ok-vec-in-Repeated : goal.returns-in_ok-vec-in-Repeated
returns-in_ok-vec-in-Repeated c =
    let all : c.in_ok-vec-in-Repeated.field-0.items ≡ replicate c.in-Repeated.lanes c.in-Repeated.cell = c.in_ok-vec-in-Repeated.ensures.items_if_clones_equal (λ y h. h) in
    rw (c.in-Repeated.is) (ap (λ (xs : List (Bor (List ℕ))). map (λ t. t.now) xs) all ∙ map-replicate _ c.in-Repeated.cell c.in-Repeated.lanes)

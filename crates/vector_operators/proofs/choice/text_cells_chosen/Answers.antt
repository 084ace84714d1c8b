-- Proofs of the goals of `text_cells_chosen` (`choice`).
use Rattle.std.proofs.Common.{◌∙◌, ap, sym, subst, [], Bor, List, ℕ, map, length}
use Rattle.meaning.specs.declared.value.Value.TheVariants.{Text}
use Rattle.vector_operators.specs.Given.{AreGivenCells}
use Rattle.vector_operators.proofs.Choosing.{chosen_map, chosen_cells}
use Rattle.vector_operators.proofs.Tested.{if_ok}
use Rattle.vector_operators.proofs.choice.text_cells_chosen.Goals as goal

pub returns-clause-value : goal.returns-clause-value
returns-clause-value c = λ of_these of_those.
    let mask = c.args.mask.now in
    let cells_of : List (Bor (List ℕ)) → List (List ℕ) = λ xs. map (λ t. t.now) xs in
    let these = subst (λ (xs : List (Bor (List ℕ))). AreGivenCells Text [] (length mask) c.args.these.now (cells_of xs)) (sym c.as_slice.ensures) (c.in_ok-these.ensures.value of_these) in
    let those = subst (λ (xs : List (Bor (List ℕ))). AreGivenCells Text [] (length mask) c.args.those.now (cells_of xs)) (sym c.as_slice-2.ensures) (c.in_ok-those.ensures.value of_those) in
    if_ok c.chosen.result _ _
    (λ out are. chosen_cells Text [] mask c.args.these.now c.args.those.now (cells_of c.as_slice.result.now) (cells_of c.as_slice-2.result.now) (cells_of out.items) these those
    (chosen_map (λ (t : Bor (List ℕ)). t.now) [] (length mask) mask c.as_slice.result.now c.as_slice-2.result.now out.items are
    (ap (λ (xs : List (Bor (List ℕ))). length xs) c.as_slice.ensures ∙ c.in_ok-these.ensures.long)
    (ap (λ (xs : List (Bor (List ℕ))). length xs) c.as_slice-2.ensures ∙ c.in_ok-those.ensures.long)))
    c.chosen.ensures

-- Proofs of the goals of `selected_texts` (`lanes`).
use Rattle.std.proofs.Common.{refl, Result, Ok, Err, List, ℕ, ◌≡◌, ◌<◌, true, subst, ap, ◌∙◌, length, arith}
use Rattle.std.specs.Prelude.{IfOk}
use Rattle.std.proofs.lemmas.List.Elements.{recursion_from_All}
use Rattle.meaning.specs.declared.value.Value.{Value}
use Rattle.vectors.specs.Selection.{Positions, is_among}
use Rattle.worker.specs.Evaluated.{AreOnly, IsOnly}
use Rattle.worker.proofs.Chosen.{all_selected, only_these}
use Rattle.vectors.proofs.Ascending.{among_range, among_within}
use Rattle.worker.proofs.lanes.selected_texts.Goals as goal

pub returns-in-None : goal.returns-in-None
returns-in-None c =
    let s : Positions = c.args.selection.now in
    let long = c.requires in
    all_selected s.list c.args.texts (λ i lt. ap (λ (p : Positions). is_among p.list i) (c.in-None.ensures.all refl) ∙ among_range 0 s.below i (omega arith) (omega (arith, long, lt)))

only : {E : Type 0} (r : Result (List Value) E) (selected : List ℕ) (old : List Value) → IfOk r (λ new. AreOnly selected old new) → ((i : ℕ) → is_among selected i ≡ true → i < length old) → IfOk r (λ new. IsOnly selected old new)
only (Ok new) selected old are below = only_these selected old new are below
only (Err e) selected old are below = tt

pub returns : goal.returns
returns c =
    let s : Positions = c.args.selection.now in
    let long = c.requires in
    only c.texts_at.result s.list c.args.texts (subst (λ (ps : List ℕ). IfOk c.texts_at.result (λ new. AreOnly ps c.args.texts new)) c.in-Some.ensures.list c.texts_at.ensures)
    (λ i among. let lt = among_within s.below s.list i (recursion_from_All (λ p. p < s.below) s.list c.in-Some.ensures.sound.within) among in omega (arith, long, lt))

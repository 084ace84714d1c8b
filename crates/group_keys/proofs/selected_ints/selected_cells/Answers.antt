-- Proofs of the goals of `selected_cells` (`selected_ints`).
use Rattle.std.proofs.Common.{◌≡◌, ◌<◌, ◌∙◌, ℕ, List, length, All, ap, subst, sym}
use Rattle.std.proofs.lemmas.List.{length-map}
use Rattle.meaning.specs.declared.value.Value.{Value}
use Rattle.meaning.specs.declared.value.Value.TheVariants.{Int}
use Rattle.group_keys.proofs.SelectedInts.{gathered_are}
use Rattle.group_keys.proofs.selected_ints.selected_cells.Goals as goal

pub returns : goal.returns
returns c =
    let cells = c.in-Some-plain.cells.now in
    let positions = c.in-Some.positions.now in
    let list = c.args.selection.now.list in
    let are = c.in-Some-plain.ensures in
    let long : c.args.selection.now.below ≡ length cells = sym c.requires ∙ ap (λ (vs : List Value). length vs) (sym are) ∙ length-map cells Int in
    let within = subst (λ (ps : List ℕ). All (λ p. p < length cells) ps) (sym c.in-Some.ensures.list) (subst (λ (n : ℕ). All (λ p. p < n) list) long c.in-Some.ensures.sound.within) in
    gathered_are cells c.args.ints.now positions list c.in_ok-gathered.field-0.items are c.in-Some.ensures.list within c.in_ok-gathered.ensures

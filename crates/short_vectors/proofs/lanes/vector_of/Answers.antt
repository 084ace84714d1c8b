-- Proofs of the goals of `vector_of` (`lanes`).
use Rattle.std.proofs.Common.{◌≡◌, ℤ, All, List, ap, length, subst, sym, true, ◌∙◌}
use Rattle.meaning.specs.declared.value.Value.{Value}
use Rattle.meaning.specs.declared.value.Value.TheVariants.{Int}
use Rattle.vectors.proofs.Lanes.{lanes_long}
use Rattle.aggregate_states.specs.Values.{is_spelled}
use Rattle.aggregate_states.proofs.Spelled.{ints_spelled}
use Rattle.short_vectors.proofs.lanes.vector_of.Goals as goal

pub returns-clause-long : goal.returns-clause-long
returns-clause-long c =
    let cells = c.in_ok-cells.cells.items in
    let nulls = c.in_ok-nulls.nulls.items in
    ap (λ (vs : List Value). length vs) c.new.ensures ∙ lanes_long Int nulls cells (c.in_ok-nulls.ensures ∙ ap (λ (xs : List ℤ). length xs) c.as_slice.ensures.value) ∙ c.in_ok-cells.ensures

pub returns-clause-spelled : goal.returns-clause-spelled
returns-clause-spelled c =
    subst (λ (vs : List Value). All (λ v. is_spelled v ≡ true) vs) (sym c.new.ensures) (ints_spelled c.in_ok-nulls.nulls.items c.in_ok-cells.cells.items)

-- Proofs of the goals of `Cells::new` (`cells`).
use Rattle.std.proofs.Common.{◌≡◌, length, replicate, ap, ◌∙◌}
use Rattle.meaning.specs.declared.answer.Cell.TheVariants.{Nothing}
use Rattle.gathering.proofs.Held.{fresh_cells, held_nothing}
use Rattle.gathering.proofs.cells.Cells.new.Goals as goal

pub invariant_of-result : goal.invariant_of-result
invariant_of-result c =
    let job = c.args.job in
    let are : c.in-Ok.cells.items ≡ replicate (length job.cut) Nothing =
    c.in-Ok.ensures ∙ ap (λ lengths. replicate (length lengths) Nothing) (c.lengths.ensures.value ∙ c.cut.ensures) in
    held_nothing job c.in-Ok.cells.items c.requires are

pub returns-in-Ok-clause-cells : goal.returns-in-Ok-clause-cells
returns-in-Ok-clause-cells c =
    let job = c.args.job in
    let are : c.in-Ok.cells.items ≡ replicate (length job.cut) Nothing =
    c.in-Ok.ensures ∙ ap (λ lengths. replicate (length lengths) Nothing) (c.lengths.ensures.value ∙ c.cut.ensures) in
    are ∙ fresh_cells job.cut

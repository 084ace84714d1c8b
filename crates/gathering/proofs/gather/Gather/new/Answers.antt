-- Proofs of the goals of `Gather::new` (`gather`).
use Rattle.std.proofs.Common.{◌≡◌, List, [], length, replicate, sym, ap, ◌∙◌, subst}
use Rattle.std.proofs.lemmas.Result.{IfOk-weaker}
use Rattle.meaning.specs.Said.{Cell}
use Rattle.meaning.specs.declared.answer.Cell.TheVariants.{Nothing}
use Rattle.meaning.specs.Gather.{joined}
use Rattle.gathering.specs.Fitted.{AreFitting}
use Rattle.gathering.specs.Gathering.{GatherSpec}
use Rattle.gathering.specs.Merging.{all_groups}
use Rattle.gathering.proofs.Deltas.{none_groups}
use Rattle.gathering.proofs.Fitting.{AreFitting-none}
use Rattle.gathering.proofs.Held.{fresh_cells}
use Rattle.gathering.proofs.gather.Gather.new.Goals as goal

pub holding-requires-clause-fitting : goal.holding-requires-clause-fitting
holding-requires-clause-fitting c =
    let job = c.args.job in
    let are : c.in-Ok.cells.items ≡ replicate (length job.cut) Nothing =
    c.in-Ok.ensures ∙ ap (λ lengths. replicate (length lengths) Nothing) (c.lengths.ensures.value ∙ c.cut.ensures) in
    subst (AreFitting job.plan job.cut) (sym are) (AreFitting-none job.plan job.cut (length job.cut))

pub returns-in-Ok-clause-cells : goal.returns-in-Ok-clause-cells
returns-in-Ok-clause-cells c =
    let job = c.args.job in
    let cells = c.in-Ok.cells.items in
    let are : cells ≡ replicate (length job.cut) Nothing =
    c.in-Ok.ensures ∙ ap (λ lengths. replicate (length lengths) Nothing) (c.lengths.ensures.value ∙ c.cut.ensures) in
    IfOk-weaker c.holding.result (λ (g : GatherSpec). g ≡ record { job = job; cells = cells; merges = length (all_groups cells) }) (λ (g : GatherSpec). g.cells ≡ joined job.cut [])
    (λ g is. ap (λ (h : GatherSpec). h.cells) is ∙ are ∙ fresh_cells job.cut) c.holding.ensures

pub returns-in-Ok-clause-merges : goal.returns-in-Ok-clause-merges
returns-in-Ok-clause-merges c =
    let job = c.args.job in
    let cells = c.in-Ok.cells.items in
    let are : cells ≡ replicate (length job.cut) Nothing =
    c.in-Ok.ensures ∙ ap (λ lengths. replicate (length lengths) Nothing) (c.lengths.ensures.value ∙ c.cut.ensures) in
    IfOk-weaker c.holding.result (λ (g : GatherSpec). g ≡ record { job = job; cells = cells; merges = length (all_groups cells) }) (λ (g : GatherSpec). g.merges ≡ 0)
    (λ g is. ap (λ (h : GatherSpec). h.merges) is ∙ ap (λ (cs : List Cell). length (all_groups cs)) are ∙ ap length (none_groups (length job.cut))) c.holding.ensures

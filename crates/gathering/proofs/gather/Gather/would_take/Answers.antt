-- Proofs of the goals of `Gather::would_take` (`gather`).
use Rattle.std.proofs.Common.{◌≡◌, ℕ, List, sym, ap, ◌∙◌, subst}
use Rattle.meaning.specs.Said.{Cell}
use Rattle.meaning.specs.declared.answer.Cell.TheVariants.{Nothing}
use Rattle.partial_codec.specs.Answer.{Fits, Spells}
use Rattle.partial_codec.specs.Job.{IsJob}
use Rattle.gathering.specs.Gathering.{GatherSpec, Would, absorbed_as, cell_at, changes}
use Rattle.gathering.specs.Totals.{merges_of}
use Rattle.gathering.proofs.Held.{below, same_at, said_before, spelled_once}
use Rattle.gathering.proofs.gather.Gather.would_take.Goals as goal

pub returns : goal.returns
returns c =
    let job = c.self.inside.job in
    let cells = c.self.inside.cells.items in
    let seen = c.args.answer.now in
    let now : GatherSpec = record { job = job; cells = cells; merges = merges_of c.self.inside.totals } in
    let is_job : IsJob job = c.plan-plan.ensures.within_limits in
    let fits : Fits job seen = subst (λ (g : GatherSpec). Fits g.job seen) (sym c.self.view_is) c.requires in
    let held : c.index-held.result.now ≡ cell_at cells seen.k = c.index-held.ensures ∙ same_at cells seen.k c.index-held.result.now Nothing (below job cells seen c.self.invariant.gather.each fits) in
    subst (λ (g : GatherSpec). (bytes : List ℕ) → Spells g.job bytes seen → Would g bytes c.judged.result) c.self.view_is
    (λ bytes spelled. said_before now bytes c.judged.result seen c.self.invariant.gather spelled
    (λ a spells. spelled_once job bytes seen a is_job spelled spells)
    (c.judged.ensures.said ∙ ap (λ (h : Cell). absorbed_as h seen.k seen.body) held)
    (c.judged.ensures.changes ∙ ap (λ (h : Cell). changes h seen.body) held))

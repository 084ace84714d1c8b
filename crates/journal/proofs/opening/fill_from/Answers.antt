-- Proofs of the goals of `fill_from` (`opening`).
use Rattle.std.proofs.Common.{ap}
use Rattle.gathering.specs.Gathering.{GatherSpec}
use Rattle.journal.proofs.Files.{same_journal, same_opened}
use Rattle.journal.proofs.opening.fill_from.Goals as goal

pub returns-in-Ok-into_gather-clause-journal : goal.returns-in-Ok-into_gather-clause-journal
returns-in-Ok-into_gather-clause-journal g c honest =
    same_journal c.read_synced.new.cells c.in-Ok-into_gather.gather (ap (λ (h : GatherSpec). h.job) c.in-Ok-into_gather.ensures) (ap (λ (h : GatherSpec). h.cells) c.in-Ok-into_gather.ensures) _ _ (c.in-Ok.ensures.journal honest)

pub returns-in-Ok-into_gather-clause-opened : goal.returns-in-Ok-into_gather-clause-opened
returns-in-Ok-into_gather-clause-opened g c honest =
    same_opened c.read_synced.new.cells c.in-Ok-into_gather.gather (ap (λ (h : GatherSpec). h.job) c.in-Ok-into_gather.ensures) (ap (λ (h : GatherSpec). h.cells) c.in-Ok-into_gather.ensures) _ (c.in-Ok.ensures.opened honest)

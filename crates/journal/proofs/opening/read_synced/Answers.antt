-- Proofs of the goals of `read_synced` (`opening`).
use Rattle.std.proofs.Common.{ap, subst, ◌∙◌}
use Rattle.std.proofs.lemmas.Result.{IfOk-weaker}
use Rattle.disk.specs.Disk.{State}
use Rattle.journal.specs.Journal.{IsOpened}
use Rattle.journal.proofs.Files.{opened_file, synced_only}
use Rattle.journal.proofs.opening.read_synced.Goals as goal

pub returns-clause-any_moment : goal.returns-clause-any_moment
returns-clause-any_moment g c honest =
    synced_only (g.D.Disk.shown c.args.disk.now) (g.D.Disk.shown c.sync.new.self) (g.D.Disk.shown c.read_journal.new.disk) c.sync.result honest c.sync.ensures.call (c.in_ok-sync.ensures.synced honest)
    (g.met.D.Disk.reads_may_stay c.args.disk.now honest) c.read_journal.ensures.only

pub returns-clause-opened : goal.returns-clause-opened
returns-clause-opened g c =
    IfOk-weaker c.read_journal.result _ _
    (λ gate file honest.
    let is = c.in_ok-sync.ensures.synced honest in
    subst (IsOpened c.read_journal.new.cells) (ap (λ (s : State). s.reads) is)
    (opened_file gate c.read_journal.new.cells (g.D.Disk.shown c.sync.new.self).now.reads (file (c.sync.ensures.call.honest ∙ honest))))
    c.read_journal.ensures.read

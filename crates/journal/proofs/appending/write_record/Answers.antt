-- Proofs of the goals of `write_record` (`appending`).
use Rattle.std.specs.Prelude.{ℕ, ◌+◌, List, length, take, drop}
use Rattle.std.proofs.Common.{ap, ◌∙◌}
use Rattle.std.proofs.lemmas.Result.{on_ok_weaker}
use Rattle.disk.specs.Disk.{AgreesOutside, Synced}
use Rattle.disk.proofs.Moments.{leaves_weaker}
use Rattle.journal.specs.Journal.{IsClosedBehind}
use Rattle.journal.proofs.Gates.{stays_closed, written_is}
use Rattle.journal.proofs.appending.write_record.Goals as goal

pub returns-clause-written : goal.returns-clause-written
returns-clause-written g c =
    let file = (g.D.Disk.shown c.args.disk.now).now.reads in
    let entry = c.args.entry.now in
    on_ok_weaker c.write_and_sync.result (λ written honest. written honest
    ∙ ap (λ (reads : List ℕ). record { reads = reads; unsynced = Synced }) (written_is c.args.gate file entry (drop (c.args.gate + 1 + length entry) file) (c.requires.closed honest).closed)) c.write_and_sync.ensures.written

pub returns-clause-any_moment : goal.returns-clause-any_moment
returns-clause-any_moment g c honest =
    let old = g.D.Disk.shown c.args.disk.now in
    leaves_weaker old (g.D.Disk.shown c.write_and_sync.new.disk) (AgreesOutside (record { from = c.args.gate + 1; count = length c.args.entry.now }) old.now.reads) (IsClosedBehind (take c.args.gate old.now.reads))
    (λ image agrees. stays_closed c.args.gate old.now.reads (length c.args.entry.now) image (c.requires.closed honest).closed agrees)
    (c.write_and_sync.ensures.any_moment honest)

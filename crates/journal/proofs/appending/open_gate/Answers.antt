-- Proofs of the goals of `open_gate` (`appending`).
use Rattle.std.specs.Prelude.{◌<◌, length}
use Rattle.std.proofs.Common.{arith}
use Rattle.disk.specs.Disk.{AgreesOutside}
use Rattle.disk.proofs.Moments.{leaves_weaker}
use Rattle.journal.specs.Journal.{IsButGate}
use Rattle.journal.proofs.Gates.{but_gate}
use Rattle.journal.proofs.appending.open_gate.Goals as goal

pub returns-clause-any_moment : goal.returns-clause-any_moment
returns-clause-any_moment g c honest =
    let old = g.D.Disk.shown c.args.disk.now in
    let within : c.args.gate < length old.now.reads = omega (arith, (c.requires.synced honest).within) in
    leaves_weaker old (g.D.Disk.shown c.write_and_sync.new.disk) (AgreesOutside (record { from = c.args.gate; count = 1 }) old.now.reads) (IsButGate c.args.gate old.now.reads)
    (λ image agrees. but_gate c.args.gate old.now.reads image within agrees)
    (c.write_and_sync.ensures.any_moment honest)

-- What contracts see of a file in memory: which calls were not done, and nothing of its bytes.
use Rattle.std.specs.Prelude.{false, []}
use Rattle.std.proofs.lemmas.Bool.{false≢true}
use Rattle.disk.specs.Disk.{DiskSpec, IsHonest, IsImage, Synced}
use Rattle.cases.specs.declared.stored_disk.StoredDisk.{StoredDisk}

abbrev pub shown : StoredDisk → DiskSpec
shown d = record { is_honest = false; now = record { reads = []; unsynced = Synced }; past = []; failures = d.failures; fulls = d.fulls }

pub never_honest : (d : StoredDisk) → IsHonest (shown d) → IsImage (shown d).now (shown d).now.reads
never_honest d honest = absurd (false≢true honest)

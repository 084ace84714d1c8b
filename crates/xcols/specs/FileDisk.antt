-- What contracts see of a file of the host: which calls failed, and nothing of its bytes.
use Rattle.std.specs.Prelude.{false, []}
use Rattle.std.proofs.lemmas.Bool.{false≢true}
use Rattle.disk.specs.Disk.{DiskSpec, IsHonest, IsImage, Synced}
use Rattle.xcols.specs.declared.file_disk.FileDisk.{FileDisk}

abbrev pub shown : FileDisk → DiskSpec
shown d = record { is_honest = false; now = record { reads = []; unsynced = Synced }; past = []; failures = d.failures; fulls = 0 }

pub never_honest : (d : FileDisk) → IsHonest (shown d) → IsImage (shown d).now (shown d).now.reads
never_honest d honest = absurd (false≢true honest)

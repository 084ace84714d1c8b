-- Proofs of the goals of `MemDisk::crash`.
use Rattle.std.proofs.Common.{◌≡◌, ap, sym, subst, ◌∙◌}
use Rattle.disk.specs.Disk.{IsImage, State}
use Rattle.memory_disk.specs.Memory.{left_by_crash, state_of}
use Rattle.memory_disk.proofs.Crashes.{left_is_image}
use Rattle.memory_disk.proofs.memory.MemDisk.crash.Goals as goal

pub returns-clause-image : goal.returns-clause-image
returns-clause-image c =
    let left : c.new.result.now.bytes.items ≡ left_by_crash c.args.self.now.now c.args.chosen.now =
    ap (λ (s : State). s.reads) c.new.ensures.now ∙ c.in_ok-bytes.ensures in
    subst (IsImage (state_of c.args.self.now.now)) (sym left) (left_is_image c.args.self.now.now c.args.chosen.now)

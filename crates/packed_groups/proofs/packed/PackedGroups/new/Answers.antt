-- Proofs of the goals of `new` (`packed`).
use Rattle.std.proofs.Common.{[]}
use Rattle.packed_groups.proofs.PackedBytes.{groups_of}
use Rattle.packed_groups.proofs.packed.PackedGroups.new.Goals as goal

pub returns : goal.returns
returns c = groups_of [] c.new.result.items c.new.ensures.items tt

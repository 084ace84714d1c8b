-- Proofs of the goals of `len` (`packed`).
use Rattle.std.proofs.Common.{ap, length, ◌∙◌}
use Rattle.packed_groups.proofs.PackedBytes.{many_packed}
use Rattle.packed_groups.proofs.packed.PackedGroups.len.Goals as goal

pub returns : goal.returns
returns c = many_packed c.self.inside.many c.self.inside.bytes.items c.self.invariant ∙ ap length c.self.view_is

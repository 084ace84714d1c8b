-- Proofs of the goals of `len` (`packed`).
use Rattle.std.proofs.Common.{ap, length, ◌∙◌}
use Rattle.packed_groups.proofs.PackedBytes.{many_packed}
use Rattle.packed_groups.proofs.packed.Unpacking.len.Goals as goal

pub returns : goal.returns
returns c = many_packed c.self.inside.left c.self.inside.rest.now c.self.invariant ∙ ap length c.self.view_is

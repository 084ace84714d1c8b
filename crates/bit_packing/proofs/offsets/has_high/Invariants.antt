-- Loop invariants of `has_high` (`offsets`).
use Rattle.std.proofs.Common.{◌≡◌, take}
use Rattle.std.specs.List.{list_any}
use Rattle.std.specs.Int.Signed.{le_z}
use Rattle.bit_packing.proofs.offsets.has_high.Given as goal

abbrev pub invariant-loop-n : goal.invariant-loop-n
invariant-loop-n l = l.found ≡ list_any (le_z l.least) (take l.n-index l.lanes)

-- Loop invariants of `are_ends` (`plain::check`).
use Rattle.std.proofs.Common.{◌≡◌, drop}
use Rattle.blocks.specs.Plain.{are_ends}
use Rattle.bit_packing.specs.Bytes.{words}
use Rattle.blocks.proofs.plain.check.are_ends.Given as goal

abbrev pub invariant-loop-i : goal.invariant-loop-i
invariant-loop-i l =
    let ends = words l.count l.bytes in are_ends l.start (drop l.i ends) l.total ≡ are_ends 0 ends l.total

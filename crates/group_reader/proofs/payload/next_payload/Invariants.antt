-- Loop invariants of `next_payload` (`payload`).
use Rattle.std.proofs.Common.{◌≡◌, ◌≤◌, ◌+◌, ◌-◌, length, drop}
use Rattle.group_reader.specs.Source.{Yields}
use Rattle.group_reader.proofs.Pieces.{BeginsWith}
use Rattle.group_reader.proofs.payload.next_payload.Given as goal

abbrev pub invariant-loop-left : goal.invariant-loop-left
invariant-loop-left g l =
    BeginsWith l.fn.bytes.items l.bytes.items
    × (length l.bytes.items ≡ length l.fn.bytes.items + (l.count - l.left))
    × (l.left ≤ l.count)
    × Yields g.R.Read.remaining l.fn.source l.source (drop (length l.fn.bytes.items) l.bytes.items)

abbrev pub decreases-loop-left : goal.decreases-loop-left
decreases-loop-left g l = l.left

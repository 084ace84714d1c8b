-- Loop invariants of `make_buffers` (`buffers`).
use Rattle.std.proofs.Common.{◌≡◌, take}
use Rattle.std.specs.List.{AllByRecursion}
use Rattle.scan_select.specs.Buffers.{IsBufferOf, columns_of}
use Rattle.scan_select.proofs.buffers.make_buffers.Given as goal

abbrev pub invariant-loop-column : goal.invariant-loop-column
invariant-loop-column l = (columns_of l.buffers.items ≡ take l.column-index l.wanted) × AllByRecursion (IsBufferOf l.columns l.most) l.buffers.items

-- Loop invariants of `lend_all` (`buffers`).
use Rattle.std.proofs.Common.{take}
use Rattle.fragment_file.specs.Lent.{blocks_in}
use Rattle.scan_select.specs.Buffers.{columns_of}
use Rattle.scan_select.specs.Scanned.{AddsColumns, unpacked}
use Rattle.scan_select.proofs.buffers.lend_all.Given as goal

abbrev pub invariant-loop-buffer : goal.invariant-loop-buffer
invariant-loop-buffer l = AddsColumns (blocks_in l.group) l.first (unpacked l.packed (columns_of (take l.buffer-index l.buffers))) l.fn.batch l.batch

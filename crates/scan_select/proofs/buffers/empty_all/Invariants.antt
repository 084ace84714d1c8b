-- Loop invariants of `empty_all` (`buffers`).
use Rattle.std.proofs.Common.{◌≡◌, ◌++◌, take, drop, map}
use Rattle.scan_select.specs.Buffers.{emptied}
use Rattle.scan_select.proofs.buffers.empty_all.Given as goal

abbrev pub invariant-loop-buffer : goal.invariant-loop-buffer
invariant-loop-buffer l = l.buffers ≡ map emptied (take l.buffer-index l.fn.buffers) ++ drop l.buffer-index l.fn.buffers

-- Loop invariants of `fill_all` (`buffers`).
use Rattle.std.proofs.Common.{◌≡◌, ◌++◌, take, drop, map}
use Rattle.fragment_file.specs.Lent.{blocks_in}
use Rattle.scan_select.specs.Buffers.{filled_unless}
use Rattle.scan_select.proofs.buffers.fill_all.Given as goal

abbrev pub invariant-loop-buffer : goal.invariant-loop-buffer
invariant-loop-buffer l = l.buffers ≡ map (filled_unless l.packed (blocks_in l.group) l.first) (take l.buffer-index l.fn.buffers) ++ drop l.buffer-index l.fn.buffers

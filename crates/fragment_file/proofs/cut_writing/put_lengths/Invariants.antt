-- Loop invariants of `put_lengths` (`cut_writing`).
use Rattle.std.proofs.Common.{take}
use Rattle.std.specs.Prelude.{flat_map}
use Rattle.wire.specs.Bytes.{number_bytes}
use Rattle.wire.specs.Writing.{Puts}
use Rattle.fragment_file.proofs.cut_writing.put_lengths.Given as goal

abbrev pub invariant-loop-length : goal.invariant-loop-length
invariant-loop-length g l =
    Puts (g.W.Write.contents l.fn.out) (g.W.Write.contents l.out) l.fn.hasher l.hasher (flat_map (number_bytes 4) (take l.length-index l.lengths))

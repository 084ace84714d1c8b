-- Proofs of the goals of `put_lengths` (`cut_writing`).
use Rattle.wire.proofs.Written.{puts_nothing, puts_more}
use Rattle.fragment_file.proofs.Written.{flat_map_next}
use Rattle.wire.specs.Bytes.{number_bytes}
use Rattle.fragment_file.proofs.cut_writing.put_lengths.Goals as goal

pub loop-length-init : goal.loop-length-init
loop-length-init g c = puts_nothing (g.W.Write.contents c.args.out.now) c.args.hasher.now

pub loop-length-preserved : goal.loop-length-preserved
loop-length-preserved g c =
    puts_more _ _ _ _ _ _ _ _ _ c.loop-length.invariant c.in_ok-put_u32.ensures
    (flat_map_next (number_bytes 4) c.args.lengths.now c.loop-length.length-index 0 c.loop-length-test.true)

-- Proofs of the goals of `put_cut` (`cut_writing`).
use Rattle.fragment_file.specs.CutFile.{cut_magic}
use Rattle.fragment_file.proofs.Written.{on_ok, cut_written}
use Rattle.fragment_file.proofs.cut_writing.put_cut.Goals as goal

pub returns : goal.returns
unfolding cut_magic
returns g c =
    let contents = g.W.Write.contents in
    on_ok c.put_seal.result c.put_seal.ensures (λ seal. cut_written (contents c.args.out.now) (contents c.put.new.out) (contents c.put_u64.new.out) (contents c.put_u32.new.out)
    (contents c.put_lengths.new.out) (contents c.put_seal.new.out) c.new-hasher.result c.put.new.hasher c.put_u64.new.hasher c.put_u32.new.hasher c.put_lengths.new.hasher
    c.args.load c.args.cut.now c.lengths-lengths.result.now c.lengths-lengths.ensures.value c.new-hasher.ensures
    c.in_ok-put.ensures c.in_ok-put_u64.ensures c.in_ok-put_u32.ensures c.in_ok-put_lengths.ensures seal)

-- Proofs of the goals of `empty_buffers` (`scan`).
use Rattle.scan_select.specs.Buffers.{emptied}
use Rattle.scan_select.proofs.Filling.{put_back}
use Rattle.scan_select.proofs.scan.empty_buffers.Goals as goal

pub returns : goal.returns
returns c =
    let buffers = c.args.buffers.now in
    put_back emptied buffers.items c.as_mut_slice.result.now c.empty_all.new.buffers buffers.len c.as_mut_slice.ensures.value c.as_mut_slice.ensures.len c.empty_all.ensures

-- Proofs of the goals of `fill_all` (`buffers`).
use Rattle.std.proofs.Common.{◌++◌, ap, ◌∙◌, map, take, drop, List, slice_set, slice_index_or}
use Rattle.fragment_file.specs.Lent.{blocks_in}
use Rattle.scan_select.specs.declared.buffers.ColumnBuffer.{ColumnBuffer}
use Rattle.scan_select.specs.Buffers.{filled_unless}
use Rattle.scan_select.proofs.Filling.{fills_one_more}
use Rattle.scan_select.proofs.buffers.fill_all.Goals as goal

pub loop-buffer-preserved : goal.loop-buffer-preserved
loop-buffer-preserved c =
    let f = filled_unless c.args.packed.now (blocks_in c.args.group.now) c.args.first in
    let old : List ColumnBuffer = c.args.buffers.now in
    let i = c.loop-buffer.buffer-index in
    let before : List ColumnBuffer = map f (take i old) ++ drop i old in
    let item = ap (λ (bs : List ColumnBuffer). slice_index_or bs i c.buffer-item.result) c.loop-buffer.invariant in
    ap (λ (bs : List ColumnBuffer). slice_set bs i c.fill_unless.new.self) c.loop-buffer.invariant
    ∙ ap (slice_set before i) (c.fill_unless.ensures ∙ ap f item)
    ∙ fills_one_more f old i c.buffer-item.result c.loop-buffer-test.true

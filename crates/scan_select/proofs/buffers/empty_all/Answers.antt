-- Proofs of the goals of `empty_all` (`buffers`).
use Rattle.std.proofs.Common.{◌++◌, ap, ◌∙◌, map, take, drop, List, slice_set, slice_index_or}
use Rattle.scan_select.specs.declared.buffers.ColumnBuffer.{ColumnBuffer}
use Rattle.scan_select.specs.Buffers.{emptied}
use Rattle.scan_select.proofs.Filling.{fills_one_more}
use Rattle.scan_select.proofs.buffers.empty_all.Goals as goal

pub loop-buffer-preserved : goal.loop-buffer-preserved
loop-buffer-preserved c =
    let old : List ColumnBuffer = c.args.buffers.now in
    let i = c.loop-buffer.buffer-index in
    let before : List ColumnBuffer = map emptied (take i old) ++ drop i old in
    let item = ap (λ (bs : List ColumnBuffer). slice_index_or bs i c.buffer-item.result) c.loop-buffer.invariant in
    ap (λ (bs : List ColumnBuffer). slice_set bs i c.empty.new.self) c.loop-buffer.invariant
    ∙ ap (slice_set before i) (c.empty.ensures ∙ ap emptied item)
    ∙ fills_one_more emptied old i c.buffer-item.result c.loop-buffer-test.true

-- Proofs of the goals of `lend_all` (`buffers`).
use Rattle.std.proofs.Common.{◌≡◌, ◌<◌, ◌∙◌, ℕ, List, get_or, length, sym, subst}
use Rattle.std.specs.Prelude.{All}
use Rattle.std.proofs.lemmas.List.Elements.{recursion_from_All}
use Rattle.blocks.specs.Block.{Block}
use Rattle.fragment_file.specs.Lent.{blocks_in}
use Rattle.scan_select.specs.declared.buffers.ColumnBuffer.{ColumnBuffer}
use Rattle.scan_select.specs.Buffers.{IsLendable}
use Rattle.scan_select.proofs.Filling.{lends_no_more, lends_one_more}
use Rattle.scan_select.proofs.Rows.{all_at}
use Rattle.scan_select.proofs.buffers.lend_all.Goals as goal

-- the buffer that is next
lendable : (group : List Block) (first rows : ℕ) (bs : List ColumnBuffer) (i : ℕ) (b : ColumnBuffer) → All (IsLendable group first rows) bs → i < length bs → b ≡ get_or bs i b → IsLendable group first rows b
lendable group first rows bs i b all below is =
    subst (λ (x : ColumnBuffer). IsLendable group first rows x) (sym is) (all_at (IsLendable group first rows) bs i b (recursion_from_All (IsLendable group first rows) bs all) below)

pub loop-buffer-preserved-then-is_marked : goal.loop-buffer-preserved-then-is_marked
loop-buffer-preserved-then-is_marked c =
    lends_no_more (blocks_in c.args.group.now) c.args.first c.args.packed.now c.args.buffers.now c.loop-buffer.buffer-index c.buffer-item.result c.args.batch.now c.loop-buffer.batch c.loop-buffer-test.true c.buffer-item.is
    (sym c.is_marked.ensures ∙ c.if-is_marked.true) c.loop-buffer.invariant

pub lend_one-requires : goal.lend_one-requires
lend_one-requires c =
    subst (λ (n : ℕ). IsLendable (blocks_in c.args.group.now) c.args.first n c.buffer-item.result) (sym c.loop-buffer.invariant.rows)
    (lendable (blocks_in c.args.group.now) c.args.first c.args.batch.now.rows c.args.buffers.now c.loop-buffer.buffer-index c.buffer-item.result c.requires c.loop-buffer-test.true c.buffer-item.is)

pub loop-buffer-preserved : goal.loop-buffer-preserved
loop-buffer-preserved c =
    lends_one_more (blocks_in c.args.group.now) c.args.first c.args.packed.now c.args.buffers.now c.loop-buffer.buffer-index c.buffer-item.result c.args.batch.now c.loop-buffer.batch c.lend_one.new.batch c.loop-buffer-test.true c.buffer-item.is
    (sym c.is_marked.ensures ∙ c.if-is_marked.false) c.loop-buffer.invariant c.in_ok-lend_one.ensures

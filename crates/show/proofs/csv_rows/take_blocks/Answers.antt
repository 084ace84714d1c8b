-- Proofs of the goals of `take_blocks` (`csv_rows`).
use Rattle.std.proofs.Common.{◌∙◌, ap, refl}
use Rattle.answer_text.proofs.Took.{still}
use Rattle.table_text.specs.TableText.{blocks_at}
use Rattle.table_text.proofs.GroupsShown.{begins, behind, blocks_finish, blocks_go_on}
use Rattle.show.proofs.csv_rows.take_blocks.Goals as goal

pub loop-column-init : goal.loop-column-init
loop-column-init c =
    let read = blocks_at c.args.columns.now c.args.rows c.args.cursor.now.rest.now in
    record { read = ap (λ bs. behind bs read) c.new-blocks.ensures.items ∙ begins read; part = (refl, refl) }

pub loop-column-preserved : goal.loop-column-preserved
loop-column-preserved c =
    let b = c.in_ok-block.block in
    record {
      read = rw c.in_ok-push.ensures.items (blocks_go_on c.loop-column.blocks.items c.args.columns.now c.loop-column.column-index c.column-item.result c.column-item.is c.args.rows c.loop-column.cursor.rest.now
          (blocks_at c.args.columns.now c.args.rows c.args.cursor.now.rest.now) c.loop-column.invariant.read b c.take_block.new.cursor.rest.now c.loop-column-test.true c.in_ok-block.ensures.read);
      part = still c.args.cursor.now c.loop-column.cursor c.take_block.new.cursor c.loop-column.invariant.part c.in_ok-block.ensures.part;
    }

pub returns-clause-read : goal.returns-clause-read
returns-clause-read c = blocks_finish c.loop-column.blocks.items c.args.columns.now c.loop-column.column-index c.args.rows c.loop-column.cursor.rest.now (blocks_at c.args.columns.now c.args.rows c.args.cursor.now.rest.now) c.loop-column.invariant.read c.loop-column-test.false

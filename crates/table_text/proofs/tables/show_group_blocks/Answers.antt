-- Proofs of the goals of `show_group_blocks` (`tables`).
use Rattle.std.proofs.Common.{◌∙◌, ap, append-nil, length, refl, string_bytes, sym}
use Rattle.std.proofs.lemmas.Result.{err_from_is_err_and}
use Rattle.answer_text.specs.Reading.{fault_in}
use Rattle.answer_text.proofs.Took.{still}
use Rattle.table_text.specs.TableText.{blocks_at}
use Rattle.table_text.proofs.GroupsShown.{all_blocks_shown, begins, behind, block_shown, blocks_fail, blocks_finish, blocks_go_on}
use Rattle.table_text.proofs.tables.show_group_blocks.Goals as goal

pub loop-column-init : goal.loop-column-init
loop-column-init c =
    let read = blocks_at c.args.columns.now c.args.rows c.args.cursor.now.rest.now in
    (ap (λ bs. behind bs read) c.requires ∙ begins read, sym (append-nil (string_bytes c.args.out.now)), ap length c.requires, (refl, refl))

pub loop-column-preserved : goal.loop-column-preserved
loop-column-preserved c =
    let (read, text, long, part) = c.loop-column.invariant in
    let (b, one, line, more) = c.in_ok-show_block.ensures.shown in
    let shown = block_shown c.loop-column.blocks.items c.args.columns.now c.loop-column.column-index c.column-item.result b (string_bytes c.args.out.now) (string_bytes c.loop-column.out) (string_bytes c.show_block.new.out) c.loop-column-test.true c.column-item.is long text line in (
      rw more (blocks_go_on c.loop-column.blocks.items c.args.columns.now c.loop-column.column-index c.column-item.result c.column-item.is c.args.rows c.loop-column.cursor.rest.now (blocks_at c.args.columns.now c.args.rows c.args.cursor.now.rest.now) read b c.show_block.new.cursor.rest.now c.loop-column-test.true one),
      rw more shown.0,
      rw more shown.1,
      still c.args.cursor.now c.loop-column.cursor c.show_block.new.cursor part c.in_ok-show_block.ensures.part,
    )

pub returns-clause-shown : goal.returns-clause-shown
returns-clause-shown c =
    let (read, text, long, part) = c.loop-column.invariant in (
      c.loop-column.blocks.items,
      blocks_finish c.loop-column.blocks.items c.args.columns.now c.loop-column.column-index c.args.rows c.loop-column.cursor.rest.now (blocks_at c.args.columns.now c.args.rows c.args.cursor.now.rest.now) read c.loop-column-test.false,
      all_blocks_shown c.loop-column.blocks.items c.args.columns.now c.loop-column.column-index (string_bytes c.args.out.now) (string_bytes c.loop-column.out) c.loop-column-test.false text,
      refl,
    )

pub returns-in_err-show_block-clause-shown : goal.returns-in_err-show_block-clause-shown
returns-in_err-show_block-clause-shown c =
    let (read, text, long, part) = c.loop-column.invariant in
    let p = err_from_is_err_and c.from_residual.result c.from_residual.ensures.1 in
    rw (p.1, p.2) (λ other. blocks_fail c.loop-column.blocks.items c.args.columns.now c.loop-column.column-index c.column-item.result c.column-item.is c.args.rows c.loop-column.cursor.rest.now (blocks_at c.args.columns.now c.args.rows c.args.cursor.now.rest.now) read (fault_in c.in_err-show_block.field-0.0) c.loop-column-test.true (c.in_err-show_block.ensures.shown other))

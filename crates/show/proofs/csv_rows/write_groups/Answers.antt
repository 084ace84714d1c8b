-- Proofs of the goals of `write_groups` (`csv_rows`).
use Rattle.std.proofs.Common.{◌≤◌, ◌-◌, ◌∙◌, ◌++◌, ◌∷◌, [], ap, arith, length, refl, subst, sym, take}
use Rattle.std.specs.Prelude.{All, min}
use Rattle.std.specs.Io.KnownBytes.{Appends}
use Rattle.csv.specs.Writing.{text_written}
use Rattle.meaning.specs.Limits.{row_group_rows}
use Rattle.fragment_file.specs.Fragment.{group_sizes}
use Rattle.answer_text.proofs.Took.{still}
use Rattle.table_text.specs.TableText.{group_of, groups_at}
use Rattle.table_text.proofs.GroupsShown.{begins, groups_finish, groups_go_on}
use Rattle.show.specs.Rows.{records_text, rows_in}
use Rattle.show.proofs.RowsShown.{all_read, blocks_rows, enough, fewer_left, group_is, group_more, has_first, no_records, take_none}
use Rattle.show.proofs.csv_rows.write_groups.Goals as goal

pub loop-left-init : goal.loop-left-init
loop-left-init g c = (
  [],
  begins (groups_at c.args.cursor.now.bytes.now c.args.columns.now (group_sizes c.args.rows) c.args.cursor.now.rest.now),
  (refl, refl),
  subst (λ records. Appends (text_written g.W.Write.contents c.args.writer.now) (text_written g.W.Write.contents c.args.writer.now) (records_text records)) (sym (take_none c.args.most)) (no_records (text_written g.W.Write.contents c.args.writer.now)),
  omega arith,
  c.requires,
)

pub loop-left-preserved : goal.loop-left-preserved
loop-left-preserved g c =
    let whole = c.args.cursor.now.bytes.now in
    let columns = c.args.columns.now in
    let left = c.loop-left.left in
    let start = c.loop-left.cursor.rest.now in
    let end = c.take_blocks.new.cursor.rest.now in
    let count = c.in_ok-count.count in
    let blocks = c.in_ok-blocks.blocks.items in
    let (read, so_far, part, written, left_so, between) = c.loop-left.invariant in
    let group = group_of (length whole - length start) count blocks in
    let taken = group_is whole columns (min left row_group_rows) start count c.take_group_rows.new.cursor.rest.now blocks end c.in_ok-count.ensures.read c.in_ok-blocks.ensures.read in (
      read ++ group ∷ [],
      groups_go_on read whole columns left start (groups_at whole columns (group_sizes c.args.rows) c.args.cursor.now.rest.now) so_far group end c.saturating_sub-left.result c.loop-left-test.true
          (c.saturating_sub-left.ensures ∙ ap (λ n. left - n) c.in_ok-count.ensures.rows) taken,
      still c.args.cursor.now c.take_group_rows.new.cursor c.take_blocks.new.cursor (still c.args.cursor.now c.loop-left.cursor c.take_group_rows.new.cursor part c.in_ok-count.ensures.part) c.in_ok-blocks.ensures.part,
      group_more c.args.most c.loop-left.wanted read left_so group c.as_slice.result.now c.min.result _ _ _ c.as_slice.ensures.value c.if-wanted-eq0.false c.min.ensures written c.in_ok-write_rows.ensures.text,
      fewer_left c.args.most c.loop-left.wanted read left_so group c.saturating_sub-wanted.result c.saturating_sub-wanted.ensures,
      c.in_ok-write_rows.ensures.behind,
    )

pub write_rows-requires-clause-within : goal.write_rows-requires-clause-within
write_rows-requires-clause-within g c =
    let least = c.min.ensures in
    subst (λ blocks. All (λ b. c.min.result ≤ b.rows) blocks) (sym c.as_slice.ensures.value)
    (has_first c.in_ok-blocks.blocks.items c.in_ok-count.count c.min.result (omega (arith, least))
    (blocks_rows c.args.columns.now c.in_ok-count.count c.take_group_rows.new.cursor.rest.now (c.in_ok-blocks.blocks.items, c.take_blocks.new.cursor.rest.now) c.in_ok-blocks.ensures.read))

pub returns-then-wanted-eq0 : goal.returns-then-wanted-eq0
returns-then-wanted-eq0 g c =
    let whole = c.args.cursor.now.bytes.now in
    let (read, so_far, part, written, left_so, between) = c.loop-left.invariant in
    λ groups rest is. enough c.args.most c.loop-left.wanted read left_so (groups_at whole c.args.columns.now (group_sizes c.loop-left.left) c.loop-left.cursor.rest.now) groups rest _ _ c.if-wanted-eq0.true (so_far ∙ is) written

pub returns : goal.returns
returns g c =
    let whole = c.args.cursor.now.bytes.now in
    let columns = c.args.columns.now in
    let contents = g.W.Write.contents in
    let all = groups_at whole columns (group_sizes c.args.rows) c.args.cursor.now.rest.now in
    let (read, so_far, part, written, left_so, between) = c.loop-left.invariant in
    let done = groups_finish read whole columns c.loop-left.left c.loop-left.cursor.rest.now all so_far c.loop-left-test.false in
    λ groups rest is. subst (λ gs. Appends (text_written contents c.args.writer.now) (text_written contents c.loop-left.writer) (records_text (take c.args.most (rows_in gs)))) (all_read read groups c.loop-left.cursor.rest.now rest all done is) written
